-- A book with a table of where its lists begin.
use Rattle.std.specs.Prelude.{◌≡◌, ℕ, ◌+◌, ◌<◌, Bool, List, length, is_ok, slice_index}
use Rattle.roll.specs.Ends.{word_at}
use Rattle.packed_book.specs.Ends.{whole_book}
use Rattle.packed_book.specs.Reading.{count_place, place_of}

-- the bytes are a packed book; told by a flag, since a ghost field takes equations of those
abbrev pub accepts : List ℕ → Bool
accepts bs = is_ok (whole_book bs)

-- how many lists the book says that it has
abbrev pub list_count : List ℕ → ℕ
list_count bs = word_at bs (count_place bs)

-- the table has the places of the first of the lists that begin at a place
abbrev pub Places : List ℕ → ℕ → List ℕ → Type 0
Places bs at starts = (k : ℕ) → k < length starts → slice_index starts k ≡ place_of bs at k

-- the table has the places of the first lists of a book
abbrev pub Indexes : List ℕ → List ℕ → Type 0
Indexes bs starts = Places bs (count_place bs + 2) starts
