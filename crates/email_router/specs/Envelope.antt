-- The bytes of an answer: a bit map, then the rolls that are not empty.
use Rattle.std.specs.Prelude.{ℕ, ◌+◌, Bool, List, [], ◌∷◌, ◌++◌, Some, None, Option}
use Rattle.email_policy.specs.Numbers.{weighed}
use Rattle.email_policy.specs.Packing.{some_text, pack_part}
use Rattle.email_policy.specs.declared.policy.PositiveReviewPolicy.{PositiveReviewPolicy}
use Rattle.email_policy.specs.declared.policy.PositiveReviewPolicy.TheVariants.{None as to_none, Author as to_author, All as to_all}
use Rattle.audience.specs.Answers.{Recipients, Answer, mute, send}

abbrev pub rank_bits : PositiveReviewPolicy → ℕ
rank_bits to_none = 0
rank_bits to_author = 8
rank_bits to_all = 16

-- 1 for a Send, 2 for To, 4 for Cc, and the rank
abbrev pub send_map : Bool → Bool → PositiveReviewPolicy → ℕ
send_map to cc rank = 1 + (weighed to 2 + (weighed cc 4 + rank_bits rank))

unfoldable pub pack_send : Recipients → PositiveReviewPolicy → List ℕ
pack_send r rank = (send_map (some_text r.to) (some_text r.cc) rank ∷ []) ++ (pack_part r.to ++ pack_part r.cc)

-- nobody is mailed
abbrev pub nothing : List ℕ
nothing = 0 ∷ []

abbrev pub pack_sent : Option Recipients → PositiveReviewPolicy → List ℕ
pack_sent None rank = nothing
pack_sent (Some r) rank = pack_send r rank

abbrev pub pack_answer : Answer → List ℕ
pack_answer mute = nothing
pack_answer (send r rank) = pack_send r rank

-- a positive answer has no rank
abbrev pub pack_positive : Option Recipients → List ℕ
pack_positive r = pack_sent r to_none
