-- Tables that are filled from the front, as far as there is room.
use Rattle.std.proofs.Common.{◌≡◌, ℕ, map, zero, suc, ◌+◌, ◌-◌, ◌<◌, ◌≤◌, List, [], ◌∷◌, ◌++◌, length, take, Some, None, sym, refl, ap, ◌∙◌, inl, inr, arith}
use Rattle.std.specs.List.{slice_get}
use Rattle.std.proofs.lemmas.Bool.{cases_lt}
use Rattle.std.proofs.lemmas.List.{nil_from_length, take_all, take_more, take-map, map-append, append_assoc, append-nil, length-append, length-take, length-map}
use Rattle.std.proofs.lemmas.Option.{slice_get_within, get_or_from_slice_get}
use Rattle.email_policy.proofs.Nth.{nth_none}
use Rattle.mail.specs.Tables.{filled}

take_in_two : {X : Type 0} (n : ℕ) (us vs : List X) → take n us ++ take (n - length (take n us)) vs ≡ take n (us ++ vs)
take_in_two zero us vs = refl
take_in_two (suc n) [] vs = let e : suc n - 0 ≡ suc n = omega arith in rw e refl
take_in_two (suc n) (u ∷ us) vs = let e : suc n - suc (length (take n us)) ≡ n - length (take n us) = omega arith in rw e (ap (λ l. u ∷ l) (take_in_two n us vs))

module _ {X : Type 0} (n : ℕ) (xs : List X) where
  pub filled_none : xs ≡ filled n xs []
  filled_none = sym (ap (λ l. xs ++ l) (take_all (n - length xs) [] (omega arith)) ∙ append-nil xs)

  -- one writer after another
  pub filled_more : (ys zs : List X) → filled n (filled n xs ys) zs ≡ filled n xs (ys ++ zs)
  filled_more ys zs =
      let e : n - length (xs ++ take (n - length xs) ys) ≡ n - length xs - length (take (n - length xs) ys) = omega (arith, length-append xs (take (n - length xs) ys)) in
      append_assoc xs (take (n - length xs) ys) (take (n - length (filled n xs ys)) zs)
      ∙ ap (λ k. xs ++ (take (n - length xs) ys ++ take k zs)) e
      ∙ ap (λ l. xs ++ l) (take_in_two (n - length xs) ys zs)

  -- where there is room for all
  pub filled_all : (ys : List X) → length xs + length ys ≤ n → filled n xs ys ≡ xs ++ ys
  filled_all ys h = ap (λ l. xs ++ l) (take_all (n - length xs) ys (omega arith))

  -- where there is no room
  pub filled_full : (ys : List X) → length xs ≡ n → xs ≡ filled n xs ys
  filled_full ys h = let none : n - length xs ≡ 0 = omega arith in sym (ap (λ k. xs ++ take k ys) none ∙ append-nil xs)

  -- where there is room for k more, and nothing to write unless k is 0
  pub filled_end : (ys : List X) (k : ℕ) → length xs + k ≡ n → (0 < k → length ys ≡ 0) → xs ≡ filled n xs ys
  filled_end ys k room stop = elim (cases_lt 0 k) [
    | inl h ↦ filled_none ∙ ap (filled n xs) (sym (nil_from_length ys (stop h)))
    | inr h ↦ filled_full ys (omega arith)
  ]

  -- how many there are after one more, where there is room for k more than that
  pub filled_one : (xs' : List X) (x : X) (k : ℕ) → xs' ≡ filled n xs (x ∷ []) → length xs + (k + 1) ≡ n → length xs' + k ≡ n
  filled_one xs' x k written room =
      omega (arith, ap length written, length-append xs (take (n - length xs) (x ∷ [])), length-take (n - length xs) (x ∷ []))

  -- a turn that writes the first of the items that are left
  pub filled_turn : (xs' left left' all added : List X) → xs' ≡ filled n xs added → left ≡ added ++ left' → filled n xs left ≡ all → filled n xs' left' ≡ all
  filled_turn xs' left left' all added written first was = ap (λ l. filled n l left') written ∙ filled_more added left' ∙ ap (filled n xs) (sym first) ∙ was

-- the texts of a table that mailboxes are written to
pub map-filled : {X Y : Type 0} (f : X → Y) (n : ℕ) (xs ys : List X) → map f (filled n xs ys) ≡ filled n (map f xs) (map f ys)
map-filled f n xs ys =
    map-append f xs (take (n - length xs) ys)
    ∙ ap (λ l. map f xs ++ l) (sym (take-map f (n - length xs) ys) ∙ ap (λ k. take (n - k) (map f ys)) (sym (length-map xs f)))

-- the texts of a list, one after another
module _ {X : Type 0} (xs : List X) (i : ℕ) where
  pub take_nth : (x : X) → Some x ≡ slice_get xs i → take i xs ++ x ∷ [] ≡ take (i + 1) xs
  take_nth x e =
      ap (λ y. take i xs ++ y ∷ []) (sym (get_or_from_slice_get xs i x x (sym e)))
      ∙ sym (take_more xs i x (slice_get_within xs i x (sym e)))

  pub take_nth_none : None ≡ slice_get xs i → take i xs ≡ take (i + 1) xs
  take_nth_none e = let h = nth_none xs i e in take_all i xs h ∙ sym (take_all (i + 1) xs (omega arith))
