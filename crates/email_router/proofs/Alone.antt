-- The author alone.
use Rattle.std.proofs.Common.{◌≡◌, ◌<◌, ◌≤◌, Bool, true, false, cond, ◌&&◌, List, [], ◌∷◌, ◌++◌, map, length, get_or, take, drop, Some, None, refl, ap, ◌∙◌, arith}
use Rattle.address.specs.Text.{Text, trimmed}
use Rattle.address.specs.Address.{same_bare}
use Rattle.keep_first.specs.Keep.{first_or, firsts, stand_in, keep_first}
use Rattle.audience.specs.Mail.{Mail, mailable}
use Rattle.audience.specs.Rules.{Grant}
use Rattle.audience.specs.Due.{has_angle}
use Rattle.audience.specs.Answers.{somebody}
use Rattle.mail.specs.declared.letter.Mail.{Mail as Letter}
use Rattle.mail.specs.declared.list.Mailboxes.{Mailboxes}
use Rattle.mail.specs.declared.candidate_roll.Candidates.{Candidates}
use Rattle.mail.specs.Letters.{letter, people, texts}
use Rattle.mail.specs.Marks.{marked}
use Rattle.mail.specs.Rolls.{roll_texts, mailed}
use Rattle.mail.proofs.Spelled.{mailed-spellings}
use Rattle.recipients.specs.Choices.{to_marks}
use Rattle.recipients.proofs.People.{counted}
use Rattle.email_router.specs.declared.chosen.Recipients.{Recipients}
use Rattle.email_router.specs.Actions.{sent_to}
use Rattle.email_router.specs.Chosen.{author_alone}

-- at most one text is kept as it is
kept_none : (same : Text → Text → Bool) (preferred : Text → Bool) → keep_first same preferred [] ≡ []
unfolding firsts
kept_none same preferred = refl

kept_one : (same : Text → Text → Bool) (preferred : Text → Bool) (t : Text) → keep_first same preferred (t ∷ []) ≡ t ∷ []
unfolding firsts stand_in first_or
kept_one same preferred t = elim (same t t && preferred t) as (λ b. cond b t t ∷ [] ≡ t ∷ []) [ true ↦ refl | false ↦ refl ]

-- under a grant to the author, the first mark of To says whether the author is mailed
pub first_mark : (keys : List Text) (m : Mail) (g : Grant) (individuals : Bool) (bs : List Bool) → g.author ≡ true → bs ≡ to_marks keys m g individuals → take 1 bs ≡ mailable m m.author ∷ []
unfolding to_marks
first_mark keys m g individuals bs granted is = ap (take 1) is ∙ ap (λ b. (b && mailable m m.author) ∷ []) granted

first_text : (ts us : List Text) → 0 < length ts → take 1 (ts ++ us) ≡ get_or ts 0 [] ∷ []
first_text [] us h = absurd (omega arith)
first_text (t ∷ ts) us h = refl

module _ (r : Candidates) (m : Letter) (l : Mailboxes) where
  roll_of_author : r.start ≡ 0 → length r.takes.now ≡ 1 → roll_texts r m l ≡ (letter m).author ∷ []
  unfolding roll_texts letter
  roll_of_author first one =
      (λ i. take (one i) (drop (first i) (people m ++ texts l)))
      ∙ first_text (people m) (texts l) (omega (arith, counted m))

  mailed_of : (bs : List Bool) (ts : List Text) → r.takes.now ≡ bs → roll_texts r m l ≡ ts → length bs ≤ length ts → mailed r m l ≡ map trimmed (keep_first same_bare has_angle (marked bs ts))
  mailed_of bs ts is all short =
      mailed-spellings r m l (omega (arith, ap length is, ap length all))
      ∙ (λ i. map trimmed (keep_first same_bare has_angle (marked (is i) (all i))))

  author_mailed : (b : Bool) → r.start ≡ 0 → r.takes.now ≡ b ∷ [] → mailed r m l ≡ cond b (trimmed (letter m).author ∷ []) []
  unfolding marked
  author_mailed b first is = mailed_of (b ∷ []) ((letter m).author ∷ []) is (roll_of_author first (ap length is)) (omega arith) ∙ kept b (letter m).author
    where
      kept : (b : Bool) (t : Text) → map trimmed (keep_first same_bare has_angle (marked (b ∷ []) (t ∷ []))) ≡ cond b (trimmed t ∷ []) []
      kept true t = ap (map trimmed) (kept_one same_bare has_angle t)
      kept false t = ap (map trimmed) (kept_none same_bare has_angle)

  none_mailed : r.takes.now ≡ [] → mailed r m l ≡ []
  unfolding marked
  none_mailed none = mailed_of [] (roll_texts r m l) none refl (omega arith) ∙ ap (map trimmed) (kept_none same_bare has_angle)

module _ (m : Letter) (r : Recipients) where
  pub alone_sent : r.to.start ≡ 0 → r.to.takes.now ≡ mailable (letter m) (letter m).author ∷ [] → r.cc.takes.now ≡ [] → sent_to r m ≡ author_alone (letter m)
  unfolding sent_to
  alone_sent first to cc =
      let tos = author_mailed r.to m r.added (mailable (letter m) (letter m).author) first to in
      let ccs = none_mailed r.cc m r.added cc in
      (λ i. somebody (tos i ++ ccs i) (record { to = tos i; cc = ccs i }))
      ∙ one (mailable (letter m) (letter m).author) (trimmed (letter m).author)
    where
      one : (b : Bool) (t : Text) → somebody (cond b (t ∷ []) [] ++ []) (record { to = cond b (t ∷ []) []; cc = [] }) ≡ cond b (Some (record { to = t ∷ []; cc = [] })) None
      one true t = refl
      one false t = refl
