-- A roll with a table of where its texts begin.
use Rattle.std.specs.Prelude.{◌≡◌, ℕ, ◌<◌, ◌≤◌, List, length, take, drop, Ok, Option, slice_index}
use Rattle.std.specs.List.{slice_get}
use Rattle.std.specs.Option.{option_map}
use Rattle.address.specs.Text.{Text}
use Rattle.roll.specs.Ends.{whole, incoming}
use Rattle.roll.specs.Reading.{read_text, texts}

-- the texts that a table has room for
unfoldable pub viewed : List ℕ → List Text
viewed bs = take 512 (texts bs)

-- the text whose length stands at a place
abbrev pub text_at : List ℕ → ℕ → Option Text
text_at bs at = option_map (λ p. p.0) (read_text (drop at bs))

-- a table gives each text
pub record Indexes (bs starts : List ℕ) : Type 0 where
  pub counted : length starts ≡ length (viewed bs)
  pub few : length starts ≤ 512
  pub places : (k : ℕ) → k < length starts → text_at bs (slice_index starts k) ≡ slice_get (viewed bs) k

-- a roll that is accepted is viewed with all its texts
abbrev pub Views : List ℕ → Type 0
Views bs = whole incoming bs ≡ Ok tt → viewed bs ≡ texts bs
