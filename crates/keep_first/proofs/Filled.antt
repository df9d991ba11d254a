-- A loop over i that puts into the next slot what some of its turns give.
use Rattle.std.proofs.Common.{◌≡◌, ℕ, ◌+◌, ◌<◌, ◌≤◌, List, [], ◌∷◌, ◌++◌, length, take, drop, set, Some, None, Option, sym, refl, ap, ◌∙◌, arith}
use Rattle.std.specs.Option.{option_to_list}
use Rattle.std.proofs.lemmas.List.{append-nil, take_more_set, drop-set-lt, drop-drop}

-- The slots began as start: the first k now hold what the turns below i gave, F i, and the others are as they were.
pub record Filled (F : ℕ → List ℕ) (start slots : List ℕ) (k i : ℕ) : Type 0 where
  pub front : take k slots ≡ F i
  pub rest : drop k slots ≡ drop k start
  pub behind : k ≤ i

pub filled_none : (F : ℕ → List ℕ) (start : List ℕ) → [] ≡ F 0 → Filled F start start 0 0
filled_none F start none = record { front = none; rest = refl; behind = omega arith }

module _ (F : ℕ → List ℕ) {start slots : List ℕ} {k i : ℕ} (f : Filled F start slots k i) where
  module _ (G : ℕ → Option ℕ) (more : (i : ℕ) → F (i + 1) ≡ F i ++ option_to_list (G i)) where
    pub filled-some : (x : ℕ) → k < length slots → Some x ≡ G i → Filled F start (set slots k x) (k + 1) (i + 1)
    filled-some x within e = record {
      front = take_more_set slots k x within ∙ ap (λ xs. xs ++ x ∷ []) f.front ∙ ap (λ o. F i ++ option_to_list o) e ∙ sym (more i);
      rest = drop-set-lt (k + 1) slots k x (omega arith) ∙ sym (drop-drop 1 k slots) ∙ ap (drop 1) f.rest ∙ drop-drop 1 k start;
      behind = let b = f.behind in omega arith;
    }

    pub filled_skip : None ≡ G i → Filled F start slots k (i + 1)
    filled_skip e = record {
      front = f.front ∙ sym (append-nil (F i)) ∙ ap (λ o. F i ++ option_to_list o) e ∙ sym (more i);
      rest = f.rest;
      behind = let b = f.behind in omega arith;
    }
