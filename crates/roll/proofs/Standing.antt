-- Bytes that stand at a place, cut and joined.
use Rattle.std.proofs.Common.{◌≡◌, ℕ, ◌+◌, ◌<◌, ◌≤◌, List, [], ◌∷◌, ◌++◌, length, get_or, take, drop, sym, refl, ap, ◌∙◌, arith}
use Rattle.std.proofs.lemmas.List.{append_assoc, drop-drop, drop_at, take_at, length-append, length-drop, get_or-drop, get_or_append_left, drop_all, append-nil, drop_more, take-append-drop, length-take-le}
use Rattle.roll.specs.Laws.{Stands}

module _ (bs : List ℕ) where
  pub join : (a b c : ℕ) (p q : List ℕ) → Stands bs a p b → Stands bs b q c → Stands bs a (p ++ q) c
  join a b c p q s t =
      record {
        here = s.here ∙ ap (λ (x : List ℕ). p ++ x) t.here ∙ sym (append_assoc p q (drop c bs));
        long = omega (arith, s.long, t.long, length-append p q);
        within = t.within;
      }

  module _ (a c : ℕ) (p q : List ℕ) (s : Stands bs a (p ++ q) c) where
    regrouped : drop a bs ≡ p ++ (q ++ drop c bs)
    regrouped = s.here ∙ append_assoc p q (drop c bs)

    past_front : drop (a + length p) bs ≡ q ++ drop c bs
    past_front = sym (drop-drop (length p) a bs) ∙ ap (drop (length p)) regrouped ∙ drop_at p (q ++ drop c bs) (length p) refl

    pub front : Stands bs a p (a + length p)
    front =
        record {
          here = regrouped ∙ ap (λ (x : List ℕ). p ++ x) (sym past_front);
          long = refl;
          within = omega (arith, s.long, s.within, length-append p q);
        }

    pub back : Stands bs (a + length p) q c
    back = record { here = past_front; long = omega (arith, s.long, length-append p q); within = s.within }

  pub get : (a e i : ℕ) (p : List ℕ) → Stands bs a p e → i < length p → get_or bs (a + i) 0 ≡ get_or p i 0
  get a e i p s h = sym (get_or-drop a bs i 0) ∙ ap (λ (x : List ℕ). get_or x i 0) s.here ∙ get_or_append_left p (drop e bs) 0 i h

  pub nothing : (a : ℕ) → a ≤ length bs → Stands bs a [] a
  nothing a h = record { here = refl; long = omega arith; within = h }

  pub one : (a : ℕ) → a < length bs → Stands bs a (get_or bs a 0 ∷ []) (a + 1)
  one a h = record { here = drop_more bs a 0 h; long = refl; within = omega arith }

  pub part : (a n : ℕ) → a + n ≤ length bs → Stands bs a (take n (drop a bs)) (a + n)
  part a n h =
      let l : length (take n (drop a bs)) ≡ n = length-take-le n (drop a bs) (omega (arith, length-drop a bs)) in
      record {
        here = sym (take-append-drop n (drop a bs)) ∙ ap (λ (x : List ℕ). take n (drop a bs) ++ x) (drop-drop n a bs);
        long = omega arith;
        within = h;
      }

  pub taken : (a e : ℕ) (p : List ℕ) → Stands bs a p e → take (length p) (drop a bs) ≡ p
  taken a e p s = ap (take (length p)) s.here ∙ take_at p (drop e bs) (length p) refl

  at_end : (p : List ℕ) → p ++ drop (length bs) bs ≡ p
  at_end p = ap (λ (x : List ℕ). p ++ x) (drop_all (length bs) bs (omega arith)) ∙ append-nil p

  pub stands_whole : (p : List ℕ) → Stands bs 0 p (length bs) → p ≡ bs
  stands_whole p s = sym (s.here ∙ at_end p)

  pub whole_stands : Stands bs 0 bs (length bs)
  whole_stands = record { here = sym (at_end bs); long = omega arith; within = omega arith }
