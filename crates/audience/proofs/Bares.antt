-- Texts with the same bare: an equivalence, of which keep_first keeps one of each class.
use Rattle.std.proofs.Common.{◌≡◌, Bool, true, List, sym, refl, ◌∙◌}
use Rattle.std.proofs.lemmas.Slice.Eq.{bytes_eq-Decides}
use Rattle.address.specs.Text.{Text}
use Rattle.address.specs.Address.{bare, same_bare}
use Rattle.keep_first.specs.Keep.{keep_first}
use Rattle.keep_first.specs.Model.{Equivalence}
use Rattle.keep_first.specs.Laws.{Apart}
use Rattle.keep_first.proofs.Members.{In, has_in, in_has}
use Rattle.keep_first.proofs.StandsIn.{keeps}

pub bares_same : (t u : Text) → same_bare t u ≡ true → bare t ≡ bare u
bares_same t u = (bytes_eq-Decides (bare t) (bare u)).0

pub same_bares : (t u : Text) → bare t ≡ bare u → same_bare t u ≡ true
same_bares t u = (bytes_eq-Decides (bare t) (bare u)).1

pub by_bares : Equivalence same_bare
by_bares = record {
  reflexive = λ t. same_bares t t refl;
  symmetric = λ t u e. same_bares u t (sym (bares_same t u e));
  transitive = λ t u v e f. same_bares t v (bares_same t u e ∙ bares_same u v f);
}

module _ (preferred : Text → Bool) (ts : List Text) where
  abbrev kept : List Text
  kept = keep_first same_bare preferred ts

  pub bare-kept : (t : Text) → In t ts → (u : Text) × In u kept × (bare u ≡ bare t)
  bare-kept t i = let (u, h, e) = (keeps same_bare preferred by_bares ts).reached t (in_has ts t i) in (u, has_in kept u h, sym (bares_same t u e))

  pub kept_within : (t : Text) → In t kept → In t ts
  kept_within t i = has_in ts t ((keeps same_bare preferred by_bares ts).within t (in_has kept t i))

  pub kept-apart : Apart same_bare kept
  kept-apart = (keeps same_bare preferred by_bares ts).apart
