-- One turn of the walk over the lists of a book, told from what is left: i of n lists are behind.
use Rattle.std.proofs.Common.{◌≡◌, ℕ, suc, ◌+◌, ◌-◌, ◌<◌, ◌≤◌, List, Ok, Err, sym, ap, ◌∙◌, arith}
use Rattle.address.specs.Text.{Text}
use Rattle.roll.specs.Ends.{after}
use Rattle.packed_book.specs.declared.fault.OpenFault.{OpenFault}
use Rattle.packed_book.specs.Ends.{BookEnd, key_at, list_end, lists_end}

module _ (n i : ℕ) (last bs : List ℕ) (at : ℕ) where
  lists_more : i < n → lists_end (n - i) last bs at ≡ after (list_end last bs at) (lists_end (n - (i + 1)) (key_at bs at) bs)
  unfolding lists_end
  lists_more h = let e : n - i ≡ suc (n - (i + 1)) = omega arith in ap (λ k. lists_end k last bs at) e

  pub lists_go : (key : Text) (e : ℕ) {all : BookEnd} → i < n → lists_end (n - i) last bs at ≡ all → Ok e ≡ list_end last bs at → key ≡ key_at bs at → lists_end (n - (i + 1)) key bs e ≡ all
  lists_go key e h inv t k = ap (λ (x : Text). lists_end (n - (i + 1)) x bs e) k ∙ (rw (sym t) at (sym (lists_more h))) ∙ inv

  pub lists_stop : (f : OpenFault) {all : BookEnd} → i < n → lists_end (n - i) last bs at ≡ all → Err f ≡ list_end last bs at → Err f ≡ all
  lists_stop f h inv t = (rw (sym t) at (sym (lists_more h))) ∙ inv

  pub lists_all : {all : BookEnd} → n ≤ i → lists_end (n - i) last bs at ≡ all → Ok at ≡ all
  unfolding lists_end
  lists_all h inv = let e : n - i ≡ 0 = omega arith in (ap (λ k. lists_end k last bs at) (sym e)) ∙ inv
