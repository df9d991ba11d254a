-- Rows written one after another, where they fit.
use Rattle.std.proofs.Common.{◌≡◌, ℕ, ◌+◌, ◌≤◌, Bool, true, List, [], ◌∷◌, ◌++◌, length, sym, ap, ◌∙◌, arith}
use Rattle.std.proofs.lemmas.List.{length-append}
use Rattle.std.proofs.lemmas.Bool.{cond-true, and_from, le-leb}
use Rattle.std.specs.List.{flat_map}
use Rattle.roll.specs.Written.{written, put}
use Rattle.roll.proofs.Writes.{written_none, written-append, length-written}
use Rattle.packed_book.specs.Rows.{Puts}

pub puts_none : (d : List ℕ) (at : ℕ) → Puts d at [] d
puts_none d at h = written_none d at

-- a call that writes a row if it may and all of it fits
pub puts_put : (may : Bool) (d : List ℕ) (at : ℕ) (row d' : List ℕ) → may ≡ true → d' ≡ put may d at row → Puts d at row d'
puts_put may d at row d' m e h = e ∙ cond-true _ _ _ (and_from _ _ m (le-leb _ _ h))

pub puts_then : (d mid end p q : List ℕ) (at e : ℕ) → Puts d at p mid → e ≡ at + length p → Puts mid e q end → Puts d at (p ++ q) end
puts_then d mid end p q at e a n b h =
    let l = length-append p q in
    let i = a (omega arith) in
    let k = ap length i ∙ length-written p d at in
    b (omega arith) ∙ ap (λ (x : List ℕ). written x e q) i ∙ written-append p q d at e n

-- a walk that writes the row of each element: those in `rest` are left, to be written from `end` on
module _ {X : Type 0} (f : X → List ℕ) (all : List X) where
  pub record Left (rest : List X) (start tray : List ℕ) (at end : ℕ) : Type 0 where
    pub bytes : at + length (flat_map f all) ≤ length start → written tray end (flat_map f rest) ≡ written start at (flat_map f all)
    pub ends : end + length (flat_map f rest) ≡ at + length (flat_map f all)
    pub long : length tray ≡ length start

  module _ (rest : List X) (start tray : List ℕ) (at end : ℕ) (l : Left rest start tray at end) where
    module _ (x : X) (more : List X) (here : rest ≡ x ∷ more) where
      row_left : flat_map f rest ≡ f x ++ flat_map f more
      row_left = ap (flat_map f) here

      pub left_room : end + length (f x) ≤ at + length (flat_map f all)
      left_room =
          let e = l.ends in
          let n = ap length row_left in
          omega (arith, length-append (f x) (flat_map f more))

      pub left_more : (tray' : List ℕ) (end' : ℕ) → Puts tray end (f x) tray' → end' ≡ end + length (f x) → length tray' ≡ length tray → Left more start tray' at end'
      left_more tray' end' p e k =
          let room = left_room in
          let long = l.long in
          let ends = l.ends in
          let n = ap length row_left in
          let a = length-append (f x) (flat_map f more) in
          record {
            bytes = λ h. ap (λ (y : List ℕ). written y end' (flat_map f more)) (p (omega arith)) ∙ written-append (f x) (flat_map f more) tray end end' e ∙ ap (written tray end) (sym row_left) ∙ l.bytes h;
            ends = omega arith;
            long = omega arith;
          }

    pub left_all : rest ≡ [] → (end ≡ at + length (flat_map f all)) × Puts start at (flat_map f all) tray
    left_all h =
        let d = ap (flat_map f) h in
        let n = ap length d in
        let ends = l.ends in
        (omega arith, λ k. written_none tray end ∙ ap (written tray end) (sym d) ∙ l.bytes k)
