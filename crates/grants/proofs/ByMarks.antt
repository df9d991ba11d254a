-- Where the lists that the mail names are marked, the marks say what the mail's own policies say.
use Rattle.std.proofs.Common.{◌≡◌, Bool, true, false, List, [], ◌∷◌, map, filter, sym, refl, ap, ◌∙◌}
use mathlib.Core.List.{map-map}
use Rattle.address.specs.Address.{same_bare}
use Rattle.keep_first.specs.Keep.{some}
use Rattle.email_policy.specs.Policy.{Policy}
use Rattle.audience.specs.Mail.{Mail, incoming}
use Rattle.audience.specs.Rules.{Named, rule_of, names, named, unless_named, by_defaults, by_lists, grant, muted, merged_rank, highest}
use Rattle.audience.specs.Answers.{positive_named, positive_grant}
use Rattle.mail.specs.Marks.{marked}
use Rattle.mail.proofs.Marked.{marked_all}
use Rattle.grants.specs.declared.pass.Pass.TheVariants.{First, Positive}
use Rattle.grants.specs.Rules.{named_in, named_by, grant_by, terms_by, keys_of}

-- what is found for the keys of a source
pub key_marks : (p : Policy) (m : Mail) → map (λ k. some (same_bare k) (incoming m)) (keys_of p) ≡ map (names m) p.lists
key_marks p m = map-map (λ k. some (same_bare k) (incoming m)) (λ e. e.key) p.lists

unless_mapped : {X : Type 0} (f : Named → Named) (ns : List Named) (x y : X) → unless_named (map f ns) x y ≡ unless_named ns x y
unless_mapped f [] x y = refl
unless_mapped f (n ∷ ns) x y = refl

module _ (p : Policy) (m : Mail) (marks : List Bool) (are_named : marks ≡ map (names m) p.lists) where
  marked_lists : marked marks p.lists ≡ filter (names m) p.lists
  marked_lists = ap (λ bs. marked bs p.lists) are_named ∙ marked_all (names m) p.lists

  pub first-named : named_by First marks p ≡ named p m
  first-named = ap (map (named_in First p.defaults)) marked_lists

  pub positive-names : named_by Positive marks p ≡ map positive_named (named p m)
  positive-names = ap (map (named_in Positive p.defaults)) marked_lists ∙ sym (map-map positive_named (λ e. record { key = e.key; rule = rule_of p.defaults e.policy }) (filter (names m) p.lists))

  pub first-grant : grant_by First marks p ≡ grant p m
  first-grant = ap (λ ns. unless_named ns (by_defaults p.defaults) (by_lists p.defaults ns)) first-named

  pub positive-granted : grant_by Positive marks p ≡ unless_named (named p m) (by_defaults p.defaults) (positive_grant p m)
  positive-granted =
      ap (λ ns. unless_named ns (by_defaults p.defaults) (by_lists p.defaults ns)) positive-names
      ∙ unless_mapped positive_named (named p m) (by_defaults p.defaults) (positive_grant p m)

  pub first_governs : (terms_by First marks p).named ≡ unless_named (named p m) false true
  unfolding terms_by
  first_governs = ap (λ ns. unless_named ns false true) first-named

  pub first-muted : (terms_by First marks p).mute_all ≡ muted p m
  unfolding terms_by
  first-muted = ap (λ ns. unless_named ns p.defaults.mute_all (some (λ n. n.rule.mute_all) ns)) first-named

  pub first_rank : (terms_by First marks p).positive_review ≡ merged_rank p m
  unfolding terms_by
  first_rank = ap (λ ns. unless_named ns p.defaults.positive_review (highest (map (λ n. n.rule.positive_review) ns))) first-named
