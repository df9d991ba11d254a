-- An answer that is read back from its bytes.
use Rattle.std.specs.Prelude.{◌≡◌, ℕ, ◌+◌, ◌/◌, ◌≤◌, cond, List, ◌++◌, length, Option, slice_index}
use Rattle.address.specs.Text.{Text}
use Rattle.email_policy.specs.Numbers.{has_bit, rank_of}
use Rattle.email_policy.specs.Packing.{pack_part}
use Rattle.email_policy.specs.Reading.{part_at}
use Rattle.email_policy.specs.declared.policy.PositiveReviewPolicy.{PositiveReviewPolicy}
use Rattle.email_policy.specs.declared.policy.PositiveReviewPolicy.TheVariants.{None as to_none}
use Rattle.audience.specs.Answers.{Recipients, Answer, mute, send, send_or_mute}
use Rattle.email_router.specs.Envelope.{pack_answer, pack_positive}
use Rattle.email_router.specs.Given.{answered}

module _ (bs : List ℕ) where
  abbrev pub opened_map : ℕ
  opened_map = slice_index bs 0

  -- each roll where its bit stands, Cc behind To
  abbrev pub opened_to : List Text
  opened_to = part_at (has_bit opened_map 2) bs 1

  abbrev pub opened_cc : List Text
  opened_cc = part_at (has_bit opened_map 4) bs (1 + length (pack_part opened_to))

  abbrev pub opened_rank : PositiveReviewPolicy
  opened_rank = rank_of (opened_map / 8)

  unfoldable pub opened : Answer
  opened = cond (has_bit opened_map 1) (send (record { to = opened_to; cc = opened_cc }) opened_rank) mute

-- an answer is read back from its bytes, whatever stands behind them
abbrev pub Opens : Type 0
Opens = (a : Answer) (rest : List ℕ) → opened (pack_answer a ++ rest) ≡ a

-- a positive answer too; it has no rank
abbrev pub OpensPositive : Type 0
OpensPositive = (r : Option Recipients) (rest : List ℕ) → opened (pack_positive r ++ rest) ≡ send_or_mute r to_none

-- so a tray that was long enough tells the answer that was written to it
abbrev pub TrayTells : Type 0
TrayTells = (a : Answer) (scratch tray : List ℕ) → length (pack_answer a) ≤ length tray → opened (answered (pack_answer a) scratch tray).tray ≡ a

-- and no two answers have the same bytes, nor does one begin another
abbrev pub AnswersApart : Type 0
AnswersApart = (a b : Answer) (rest more : List ℕ) → pack_answer a ++ rest ≡ pack_answer b ++ more → a ≡ b
