-- What holds of every answer, over every policy and every register of list domains.
use Rattle.std.specs.Prelude.{◌≡◌, Bool, true, false, cond, not, ◌&&◌, ◌⊎◌, ◌↔◌, List, [], ◌∷◌, ◌++◌, filter, ◌≢◌}
use Rattle.std.specs.List.{ContainsAt as Has}
use Rattle.address.specs.Text.{Text, trimmed, empty}
use Rattle.address.specs.Address.{bare}
use Rattle.email_policy.specs.Policy.{Entry, Policy}
use Rattle.email_policy.specs.declared.policy.PositiveReviewPolicy.TheVariants.{All as to_all}
use Rattle.audience.specs.Mail.{Mail, mailable}
use Rattle.audience.specs.Rules.{Grant, names, grant, shut_out, muted, merged_rank, list_address, ignored_texts}
use Rattle.audience.specs.Due.{Due, few, Covered}
use Rattle.audience.specs.Answers.{mute, first_answer, positive_answer, bares, audience}

-- no text stands twice
abbrev pub Distinct : List Text → Type 0
Distinct [] = Unit {0}
Distinct (x ∷ xs) = (Has xs x → ⊥) × Distinct xs

-- a bare is due to a mail by a policy
abbrev pub DueBy : (Text → Bool) → Policy → Mail → Text → Type 0
DueBy known p m b = Due (list_address known p) m (grant p m) b

pub record ReachesTheDue (known : Text → Bool) (p : Policy) (m : Mail) : Type 0 where
  -- mute exactly when the author is shut out, a governing policy mutes, or no bare is due
  pub mutes : (first_answer known p m ≡ mute) ↔ ((shut_out p m ≡ true) ⊎ ((muted p m ≡ true) ⊎ ((b : Text) → DueBy known p m b → ⊥)))
  -- otherwise the audience holds exactly the bares due, each once
  pub exactly : (first_answer known p m ≢ mute) → (b : Text) → Has (audience (first_answer known p m)) b ↔ DueBy known p m b
  pub once : Distinct (audience (first_answer known p m))

abbrev pub EveryAnswerReachesTheDue : Type 0
EveryAnswerReachesTheDue = (known : Text → Bool) (p : Policy) (m : Mail) → ReachesTheDue known p m

-- a positive answer under merged rank all mails only bares due to the same mail by the same policies
abbrev pub PositiveWithinDue : (Text → Bool) → Policy → Mail → Type 0
PositiveWithinDue known p m = merged_rank p m ≡ to_all → (b : Text) → Has (bares (positive_answer known p m)) b → DueBy known p m b

abbrev pub EveryPositiveWithinDue : Type 0
EveryPositiveWithinDue = (known : Text → Bool) (p : Policy) (m : Mail) → PositiveWithinDue known p m

-- two books' lists that differ only where the mail does not name them, and there only in reply, rank, mute and cc
abbrev pub AlikeLists : Mail → List Entry → List Entry → Type 0
AlikeLists m [] [] = Unit {0}
AlikeLists m [] (f ∷ fs) = ⊥
AlikeLists m (e ∷ es) [] = ⊥
AlikeLists m (e ∷ es) (f ∷ fs) =
    (e.key ≡ f.key)
    × ((e.policy ≡ f.policy) ⊎ ((names m e ≡ false) × (e.policy.ignored_emails ≡ f.policy.ignored_emails)))
    × AlikeLists m es fs

abbrev pub Alike : Mail → Policy → Policy → Type 0
Alike m p q = (p.defaults ≡ q.defaults) × AlikeLists m p.lists q.lists

abbrev pub SameAnswers : (Text → Bool) → Mail → Policy → Policy → Type 0
SameAnswers known m p q = (first_answer known p m ≡ first_answer known q m) × (positive_answer known p m ≡ positive_answer known q m)

abbrev pub UnnamedListsUnheard : Type 0
UnnamedListsUnheard = (known : Text → Bool) (m : Mail) (p q : Policy) → Alike m p q → SameAnswers known m p q

-- all that a mail hears of a policy: the defaults, the lists that it names, and which texts are ignored.
-- An address of the mail is a list's by its key only where the mail names that list, so which keys there are is not heard otherwise
pub record SameHeard (m : Mail) (p q : Policy) : Type 0 where
  pub defaults : p.defaults ≡ q.defaults
  pub named : filter (names m) p.lists ≡ filter (names m) q.lists
  pub ignored : (t : Text) → Has (ignored_texts p) t ↔ Has (ignored_texts q) t

-- so a list that the mail does not name may even come and go, if it ignores nothing new
abbrev pub OnlyTheNamedAreHeard : Type 0
OnlyTheNamedAreHeard = (known : Text → Bool) (m : Mail) (p q : Policy) → SameHeard m p q → SameAnswers known m p q

-- the bot is never mailed, by either answer
abbrev pub BotUnmailed : Type 0
BotUnmailed =
    (known : Text → Bool) (p : Policy) (m : Mail)
    → (Has (audience (first_answer known p m)) (bare m.bot) → ⊥) × (Has (bares (positive_answer known p m)) (bare m.bot) → ⊥)

-- few exactly when so many texts as there may be cover every individual that is counted
abbrev pub FewIsCovered : Type 0
FewIsCovered = (listed : Text → Bool) (m : Mail) (g : Grant) → (few listed m g ≡ true) ↔ Covered listed m g

-- that the author's text is not blank need not be asked of the candidates: such a text is nobody's
abbrev pub BlankIsNobody : Type 0
BlankIsNobody =
    (m : Mail) (replied : Bool) (ts : List Text)
    → filter (mailable m) (cond (replied && not (empty (trimmed m.author))) (m.author ∷ []) [] ++ ts)
    ≡ filter (mailable m) (cond replied (m.author ∷ []) [] ++ ts)
