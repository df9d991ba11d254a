-- How long what is printed is.
use Rattle.std.proofs.Common.{◌≡◌, ℕ, ◌+◌, ◌*◌, ◌≤◌, min, List, [], ◌∷◌, ◌++◌, length, codes, Option, Some, None, MatchOption, arith, refl, length-append}
use Rattle.std.specs.Char.{to_ascii_lowercase}
use Rattle.std.specs.Option.{option_map}
use Rattle.std.proofs.lemmas.List.{length-map}
use Rattle.address.specs.Text.{Text, small}
use Rattle.address.specs.Address.{domain}
use Rattle.roll.specs.Packing.{pack_texts}
use Rattle.email_policy.specs.Packing.{pack_part}
use Rattle.email_policy.specs.declared.policy.PositiveReviewPolicy.{PositiveReviewPolicy}
use Rattle.email_policy.specs.declared.policy.PositiveReviewPolicy.TheVariants.{None as to_none, Author as to_author, All as to_all}
use Rattle.audience.specs.Answers.{Recipients, Answer, mute, send}
use Rattle.grants.specs.declared.pass.Pass.{Pass}
use Rattle.grants.specs.declared.pass.Pass.TheVariants.{First, Positive}
use Rattle.email_router.specs.Envelope.{pack_send, pack_answer}
use Rattle.replay.specs.Hex.{hex}
use Rattle.replay.specs.Lines.{domain_word, line_of}
use Rattle.replay.specs.People.{text_line, roll_lines, recipient_lines, rank_line, answer_lines}
use Rattle.replay.proofs.HexDigits.{length-hex}
use Rattle.replay.proofs.TextLines.{packed_more}

pub length-line_of : (part : Text) → length (line_of part) ≡ 11 + (2 * length (hex part) + length (domain_word (domain (small part))))
length-line_of part =
    let d : List ℕ = domain_word (domain (small part)) in
    omega (arith, length-hex part, length-hex (small part), length-map part to_ascii_lowercase, length-append (hex part) (codes " " ++ (hex (small part) ++ (codes " " ++ (d ++ codes "\n")))), length-append (hex (small part)) (codes " " ++ (d ++ codes "\n")), length-append d (codes "\n"))

pub domain_length : {X : Type 0} (now : X → List ℕ) (most : ℕ) (d : Option X) (n : ℕ) → 4 ≤ most → MatchOption d (n ≡ 4) (λ x. n ≡ min (length (hex (now x))) most) → n ≡ min (length (domain_word (option_map now d))) most
domain_length now most None n l e = omega arith
domain_length now most (Some x) n l e = e

-- a word of five bytes stands before each text
roll_room : (word : List ℕ) (ts : List Text) → length word ≡ 5 → length (roll_lines word ts) ≤ 3 * length (pack_texts ts)
roll_room word [] e = omega arith
roll_room word (t ∷ ts) e =
    omega (arith, roll_room word ts e, packed_more t ts, length-append (text_line word t) (roll_lines word ts), length-append word (t ++ codes "\n"), length-append t (codes "\n"))

part_room : (ts : List Text) → length (pack_texts ts) ≤ length (pack_part ts)
unfolding pack_texts
part_room [] = omega arith
part_room (t ∷ ts) = omega arith

recipient_room : (r : Recipients) → length (recipient_lines r) ≤ 3 * (length (pack_part r.to) + length (pack_part r.cc))
recipient_room r =
    omega (arith, length-append (roll_lines (codes "  to ") r.to) (roll_lines (codes "  cc ") r.cc), roll_room (codes "  to ") r.to refl, roll_room (codes "  cc ") r.cc refl, part_room r.to, part_room r.cc)

rank_room : (rank : PositiveReviewPolicy) → length (rank_line rank) ≤ 14
rank_room to_none = omega arith
rank_room to_author = omega arith
rank_room to_all = omega arith

sent_size : (r : Recipients) (rank : PositiveReviewPolicy) → length (pack_send r rank) ≡ 1 + (length (pack_part r.to) + length (pack_part r.cc))
unfolding pack_send
sent_size r rank = omega (arith, length-append (pack_part r.to) (pack_part r.cc))

pub answer_room : (pass : Pass) (a : Answer) → length (answer_lines pass a) ≤ 3 * length (pack_answer a) + 14
answer_room First mute = omega arith
answer_room Positive mute = omega arith
answer_room First (send r rank) =
    omega (arith, length-append (recipient_lines r) (rank_line rank), recipient_room r, rank_room rank, sent_size r rank)
answer_room Positive (send r rank) = omega (arith, recipient_room r, sent_size r rank)
