-- One turn of the walk over the texts of a roll, told from what is left: i of n texts are behind.
use Rattle.std.proofs.Common.{◌≡◌, ℕ, suc, ◌+◌, ◌-◌, ◌<◌, ◌≤◌, List, Ok, Err, sym, ap, ◌∙◌, arith}
use Rattle.roll.specs.declared.fault.RollFault.{RollFault}
use Rattle.roll.specs.declared.limits.Limits.{Limits}
use Rattle.roll.specs.Ends.{End, after, text_end, texts_end}

module _ (l : Limits) (n i : ℕ) (bs : List ℕ) (at : ℕ) where
  texts_more : i < n → texts_end l (n - i) bs at ≡ after (text_end l bs at) (texts_end l (n - (i + 1)) bs)
  unfolding texts_end
  texts_more h = let e : n - i ≡ suc (n - (i + 1)) = omega arith in ap (λ k. texts_end l k bs at) e

  pub texts_go : (e : ℕ) {all : End} → i < n → texts_end l (n - i) bs at ≡ all → Ok e ≡ text_end l bs at → texts_end l (n - (i + 1)) bs e ≡ all
  texts_go e h inv t = (rw (sym t) at (sym (texts_more h))) ∙ inv

  pub texts_stop : (f : RollFault) {all : End} → i < n → texts_end l (n - i) bs at ≡ all → Err f ≡ text_end l bs at → Err f ≡ all
  texts_stop f h inv t = (rw (sym t) at (sym (texts_more h))) ∙ inv

  pub texts_all : {all : End} → n ≤ i → texts_end l (n - i) bs at ≡ all → Ok at ≡ all
  unfolding texts_end
  texts_all h inv = let e : n - i ≡ 0 = omega arith in (ap (λ k. texts_end l k bs at) (sym e)) ∙ inv
