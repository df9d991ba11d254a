-- Whether an address is at a known domain.
use Rattle.std.proofs.Common.{◌≡◌, Bool, false, ◌||◌, List, map, Some, None, sym, ap, ◌∙◌, Bor}
use Rattle.std.specs.Option.{option_map}
use Rattle.std.specs.Str.{bytes_eq}
use Rattle.address.specs.Text.{Text, small}
use Rattle.address.specs.Address.{bare, same_bare, domain}
use Rattle.address.proofs.Letters.{domain_small}
use Rattle.keep_first.specs.Keep.{some}
use Rattle.keep_first.proofs.Alike.{some-map}
use Rattle.audience.specs.Rules.{at_known}
use Rattle.audience.specs.Known.{known_domain, known_mailing_list_domains}
use Rattle.recipients.specs.Choices.{at_one_of, listed_by}
use Rattle.recipients.proofs.Alikes.{listed_flip}

module _ (part : Text) where
  pub no_domain : (known : Text → Bool) → None ≡ domain part → false ≡ at_known known (domain (small part))
  no_domain known e = sym (ap (at_known known) (domain_small part ∙ ap (option_map small) (sym e)))

  pub at_domain : (domains : List (Bor Text)) (d : Text) (r : Bool) → Some d ≡ domain part → r ≡ some (λ k. bytes_eq (small d) (small k.now)) domains → r ≡ at_known (at_one_of (map (λ x. x.now) domains)) (domain (small part))
  at_domain domains d r e h =
      h ∙ some-map (λ x. x.now) (λ k. bytes_eq (small d) (small k)) domains
      ∙ sym (ap (at_known (at_one_of (map (λ x. x.now) domains))) (domain_small part ∙ ap (option_map small) (sym e)))

-- domains that are the register's in small letters
pub in_register : (domains : List Text) → map small domains ≡ known_mailing_list_domains → at_one_of domains ≡ known_domain
in_register domains e = (λ i d. (some-map small (bytes_eq d) domains ∙ ap (some (bytes_eq d)) e) i)

module _ (keys : List Text) (t : Text) where
  pub listed_by_domain : (domains : List Text) (r : Bool) → map small domains ≡ known_mailing_list_domains → false ≡ some (same_bare t) keys → r ≡ at_known (at_one_of domains) (domain (bare t)) → r ≡ listed_by keys t
  listed_by_domain domains r same e h = h ∙ (λ i. e i || at_known (in_register domains same i) (domain (bare t))) ∙ listed_flip keys t
