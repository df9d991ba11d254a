-- The lists of a book by their number, and the table of where they begin.
use Rattle.std.proofs.Common.{◌≡◌, ℕ, zero, suc, ◌+◌, ◌<◌, ◌≤◌, List, [], ◌∷◌, ◌++◌, length, get_or, Some, None, sym, refl, ap, ◌∙◌, arith, below_more}
use Rattle.std.proofs.lemmas.List.{length-append, get_or_append_left, get_or_push}
use Rattle.std.proofs.lemmas.Option.{slice_get_past}
use Rattle.std.specs.List.{slice_get}
use Rattle.packed_book.specs.Reading.{next_place, entry_at, place_of, entries_at, count_place, read_book}
use Rattle.packed_book.specs.Views.{list_count, Places, Indexes}

-- places and entries

pub place_more : (bs : List ℕ) (at n : ℕ) → place_of bs at (n + 1) ≡ next_place bs (place_of bs at n)
unfolding place_of
place_more bs at zero = refl
place_more bs at (suc n) = let e : suc n + 1 ≡ suc (n + 1) = omega arith in ap (place_of bs at) e ∙ place_more bs (next_place bs at) n

pub nth_entries : (n : ℕ) (bs : List ℕ) (at k : ℕ) → k < n → slice_get (entries_at n bs at) k ≡ Some (entry_at bs (place_of bs at k))
unfolding entries_at place_of
nth_entries zero bs at k h = absurd (omega arith)
nth_entries (suc n) bs at zero h = refl
nth_entries (suc n) bs at (suc k) h = nth_entries n bs (next_place bs at) k (omega arith)

pub length_entries : (n : ℕ) (bs : List ℕ) (at : ℕ) → length (entries_at n bs at) ≡ n
unfolding entries_at
length_entries zero bs at = refl
length_entries (suc n) bs at = ap suc (length_entries n bs (next_place bs at))

-- the places of i lists are in the table, and the next list begins at `here`
pub record Filled (bs : List ℕ) (at i here : ℕ) (starts : List ℕ) : Type 0 where
  pub size : length starts ≡ i
  pub within : here ≤ length bs
  pub next : here ≡ place_of bs at i
  pub table : (k : ℕ) → k < i → get_or starts k 0 ≡ place_of bs at k

pub filled_none : (bs : List ℕ) (at : ℕ) (starts : List ℕ) → starts ≡ [] → at ≤ length bs → Filled bs at 0 at starts
unfolding place_of
filled_none bs at starts l h = record { size = ap length l; within = h; next = refl; table = λ k z. absurd (omega arith) }

module _ {bs : List ℕ} {at i here : ℕ} {starts : List ℕ} (f : Filled bs at i here starts) where
  pub filled_more : (e : ℕ) (starts' : List ℕ) → starts' ≡ starts ++ here ∷ [] → e ≡ next_place bs here → e ≤ length bs → Filled bs at (i + 1) e starts'
  filled_more e starts' p next l =
      let z = f.size in
      record {
        size = ap length p ∙ omega (arith, length-append starts (here ∷ []));
        within = l;
        next = next ∙ ap (next_place bs) f.next ∙ sym (place_more bs at i);
        table =
            below_more (λ k. get_or starts' k 0 ≡ place_of bs at k) i
            (λ k b. let lt : k < length starts = omega arith in rw (p, get_or_append_left starts (here ∷ []) 0 k lt) (f.table k b))
            (rw (p, get_or_push starts here 0 i f.size) f.next);
      }

  pub filled_places : Places bs at starts
  filled_places k h = let z = f.size in f.table k (omega arith)

-- the table gives the lists of the book

module _ (bs starts : List ℕ) (m : length starts ≡ list_count bs) (x : Indexes bs starts) (k : ℕ) where
  pub found : k < length starts → slice_get (read_book bs).lists k ≡ Some (entry_at bs (get_or starts k 0))
  unfolding read_book
  found h = nth_entries (list_count bs) bs (count_place bs + 2) k (omega arith) ∙ ap (λ (p : ℕ). Some (entry_at bs p)) (sym (x k h))

  pub found-past : length starts ≤ k → slice_get (read_book bs).lists k ≡ None
  unfolding read_book
  found-past h = slice_get_past (entries_at (list_count bs) bs (count_place bs + 2)) k (omega (arith, length_entries (list_count bs) bs (count_place bs + 2)))

pub book_count : (bs : List ℕ) (n : ℕ) → n ≡ list_count bs → n ≡ length (read_book bs).lists
unfolding read_book
book_count bs n m = m ∙ sym (length_entries (list_count bs) bs (count_place bs + 2))
