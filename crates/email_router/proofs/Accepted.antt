-- What a call is told once its questions are answered.
use Rattle.std.proofs.Common.{◌≡◌, ℕ, zero, suc, ◌+◌, ◌≤◌, cond, ltb, List, [], ◌∷◌, ◌++◌, map, length, get_or, take, drop, Ok, Err, Option, Result, refl, ap, ◌∙◌, one-add, arith}
use Rattle.std.specs.List.{AllByRecursion}
use Rattle.std.proofs.lemmas.Bool.{cond_both, ltb-false}
use Rattle.std.proofs.lemmas.List.{length-map, length-append, length-take, take_at, drop_at}
use Rattle.address.specs.Text.{Text, text_fault}
use Rattle.roll.specs.declared.fault.RollFault.{RollFault}
use Rattle.roll.specs.Ends.{whole, incoming}
use Rattle.roll.specs.Laws.{Bytes}
use Rattle.roll.specs.Reading.{texts, texts_fault}
use Rattle.roll.specs.Views.{viewed}
use Rattle.roll.proofs.Tables.{views}
use Rattle.roll.proofs.Wholes.{whole-packed}
use Rattle.email_policy.specs.Policy.{Policy}
use Rattle.audience.specs.Mail.{Mail}
use Rattle.audience.specs.Known.{known_domain}
use Rattle.audience.specs.Answers.{Answer, Recipients}
use Rattle.audience.specs.Promises.{Alike}
use Rattle.audience.proofs.Heard.{unnamed_lists_unheard}
use Rattle.mail.specs.declared.letter.Mail.{Mail as Letter}
use Rattle.mail.specs.declared.mailbox.Mailbox.{Mailbox}
use Rattle.mail.specs.Letters.{letter, people}
use Rattle.mail.specs.Parts.{text_in}
use Rattle.grants.specs.declared.pass.Pass.{Pass}
use Rattle.grants.specs.declared.pass.Pass.TheVariants.{First, Positive}
use Rattle.email_router.specs.declared.fault.RouterFault.{RouterFault}
use Rattle.email_router.specs.declared.fault.RouterFault.TheVariants.{Scratch}
use Rattle.email_router.specs.declared.fault.Incoming.{Incoming}
use Rattle.email_router.specs.declared.fault.Incoming.TheVariants.{To, Cc}
use Rattle.email_router.specs.declared.fault.Person.{Person}
use Rattle.email_router.specs.declared.fault.Person.TheVariants.{Author, Bot}
use Rattle.email_router.specs.Chosen.{packed}
use Rattle.email_router.specs.Door.{Asked, and_then, of_roll, of_person, not_too_long, slots_needed, asked}
use Rattle.email_router.specs.Envelope.{pack_answer, pack_positive}
use Rattle.email_router.specs.Given.{given, answered, unless_refused, mail_of, first_given, positive_given, given_by}
use Rattle.email_router.proofs.Shorts.{Short, short_append}

both : (a b : Asked) → Ok tt ≡ and_then a b → (Ok tt ≡ a) × (Ok tt ≡ b)
both (Ok u) b e = (refl, e)
both (Err f) b e = absurd cc

roll_passed : (r : Incoming) (a : Result (Unit {0}) RollFault) → Ok tt ≡ of_roll r a → a ≡ Ok tt
roll_passed r (Ok u) e = refl
roll_passed r (Err f) e = absurd cc

length_passed : (s : Person) (t : List ℕ) → Ok tt ≡ not_too_long s t → length t ≤ 998
length_passed s t = cond_both _ _ _ (λ (a : Asked). Ok tt ≡ a → length t ≤ 998) (λ long e. absurd cc) (λ short e. ltb-false 998 (length t) short)

abbrev enough_slots : List ℕ → Asked
enough_slots s = cond (ltb (length s) slots_needed) (Err (Scratch slots_needed)) (Ok tt)

slots_passed : (s : List ℕ) → Ok tt ≡ enough_slots s → slots_needed ≤ length s
slots_passed s = cond_both _ _ _ (λ (a : Asked). Ok tt ≡ a → slots_needed ≤ length s) (λ short e. absurd cc) (λ long e. ltb-false (length s) slots_needed long)

-- what is known of arguments that are accepted
pub record Accepted (to cc author scratch : List ℕ) : Type 0 where
  pub whole_to : whole incoming to ≡ Ok tt
  pub whole_cc : whole incoming cc ≡ Ok tt
  pub short : length author ≤ 998
  pub slots : slots_needed ≤ length scratch

pub accepted : (to cc author bot scratch : List ℕ) → Ok tt ≡ asked to cc author bot scratch → Accepted to cc author scratch
accepted to cc author bot scratch e =
    let (a, f) = both _ _ e in
    let (b, g) = both _ _ f in
    let (c, h) = both _ _ g in
    let (_, i) = both (not_too_long Bot bot) _ h in
    let (_, j) = both (of_roll To (texts_fault 2 (texts to))) _ i in
    let (_, k) = both (of_roll Cc (texts_fault 2 (texts cc))) _ j in
    let (_, l) = both (of_person Author (text_fault 0 author)) _ k in
    let (_, s) = both (of_person Bot (text_fault 0 bot)) _ l in
    record { whole_to = roll_passed To _ a; whole_cc = roll_passed Cc _ b; short = length_passed Author author c; slots = slots_passed scratch s }

short_all : (ts : List Text) → AllByRecursion (λ t. length t ≤ 998) ts → Short ts
short_all [] h k = omega arith
short_all (t ∷ ts) h zero = let n = h.0 in omega arith
short_all (t ∷ ts) h (suc k) = short_all ts h.1 k

-- the texts of a roll that is accepted are short
short_roll : (bs : List ℕ) → Bytes bs → whole incoming bs ≡ Ok tt → Short (viewed bs)
short_roll bs b e = rw (views bs e) (short_all (texts bs) (whole-packed incoming bs b e).within.longest)

few_viewed : (bs : List ℕ) → length (viewed bs) ≤ 512
unfolding viewed
few_viewed bs = omega (arith, length-take 512 (texts bs))

-- the author and the texts of both rolls, as the table's slice has them
pub people_read : (to cc author : List ℕ) (ms table : List Mailbox) (tos ccs : List Text) → ms ≡ table → map text_in table ≡ author ∷ (tos ++ ccs) → tos ≡ viewed to → ccs ≡ viewed cc → map text_in ms ≡ author ∷ (viewed to ++ viewed cc)
people_read to cc author ms table tos ccs e f g h = ap (map text_in) e ∙ f ∙ (λ i. author ∷ (g i ++ h i))

module _ (to cc author : List ℕ) (ms : List Mailbox) (all : map text_in ms ≡ author ∷ (viewed to ++ viewed cc)) where
  pub record Few : Type 0 where
    pub counted : length ms ≡ 1 + (length (viewed to) + length (viewed cc))
    pub few_to : length (viewed to) ≤ 512
    pub few_cc : length (viewed cc) ≤ 512

  pub few_people : Few
  few_people = record {
    counted = omega (arith, length-map ms text_in, ap length all, length-append (viewed to) (viewed cc));
    few_to = few_viewed to;
    few_cc = few_viewed cc;
  }

  pub short_people : (scratch : List ℕ) → Bytes to → Bytes cc → Accepted to cc author scratch → Short (map text_in ms)
  short_people scratch bytes_to bytes_cc a =
      let n = a.short in
      let one : Short (author ∷ []) = short_all (author ∷ []) (omega arith, tt) in
      rw all (short_append (author ∷ []) (viewed to ++ viewed cc) one (short_append (viewed to) (viewed cc) (short_roll to bytes_to a.whole_to) (short_roll cc bytes_cc a.whole_cc)))

letter_of : (m : Letter) (author bot : Text) (tos ccs : List Text) → people m ≡ author ∷ (tos ++ ccs) → m.to ≡ length tos → text_in m.bot ≡ bot → letter m ≡ record { to = tos; cc = ccs; author = author; bot = bot }
unfolding letter
letter_of m author bot tos ccs all n b =
    (λ i. record { to = take (n i) (drop 1 (all i)); cc = drop (1 + n i) (all i); author = get_or (all i) 0 []; bot = b i })
    ∙ (λ i. record { to = take_at tos ccs (length tos) refl i; cc = drop (one-add (length tos) i) (author ∷ (tos ++ ccs)); author = author; bot = bot })
    ∙ (λ i. record { to = tos; cc = drop_at tos ccs (length tos) refl i; author = author; bot = bot })

-- the mail that is read is the one that the arguments are
pub letter_read : (to cc author bot scratch : List ℕ) (m : Letter) → Accepted to cc author scratch → people m ≡ author ∷ (viewed to ++ viewed cc) → m.to ≡ length (viewed to) → text_in m.bot ≡ bot → letter m ≡ mail_of to cc author bot
letter_read to cc author bot scratch m a all n b =
    letter_of m author bot (viewed to) (viewed cc) all n b
    ∙ (λ i. record { to = views to a.whole_to i; cc = views cc a.whole_cc i; author = author; bot = bot })

module _ (to cc author bot scratch tray : List ℕ) (p : Policy) where
  pub refused_given : (q : Pass) (f : RouterFault) → Err f ≡ asked to cc author bot scratch → given (Err f) scratch tray ≡ given_by to cc author bot p scratch tray q
  unfolding first_given positive_given
  refused_given First f e = ap (λ a. unless_refused a scratch tray (answered (packed First p (mail_of to cc author bot)) scratch tray)) e
  refused_given Positive f e = ap (λ a. unless_refused a scratch tray (answered (packed Positive p (mail_of to cc author bot)) scratch tray)) e

  pub accepted_given : (q : Pass) (m : Mail) → Ok tt ≡ asked to cc author bot scratch → m ≡ mail_of to cc author bot → answered (packed q p m) scratch tray ≡ given_by to cc author bot p scratch tray q
  unfolding first_given positive_given
  accepted_given First m e is = ap (λ m. answered (packed First p m) scratch tray) is ∙ ap (λ a. unless_refused a scratch tray (answered (packed First p (mail_of to cc author bot)) scratch tray)) e
  accepted_given Positive m e is = ap (λ m. answered (packed Positive p m) scratch tray) is ∙ ap (λ a. unless_refused a scratch tray (answered (packed Positive p (mail_of to cc author bot)) scratch tray)) e

  pub first_unheard : (q : Policy) → Alike (mail_of to cc author bot) p q → first_given to cc author bot p scratch tray ≡ first_given to cc author bot q scratch tray
  unfolding first_given
  first_unheard q a = ap (λ (w : Answer). unless_refused (asked to cc author bot scratch) scratch tray (answered (pack_answer w) scratch tray)) (unnamed_lists_unheard known_domain (mail_of to cc author bot) p q a).0

  pub positive_unheard : (q : Policy) → Alike (mail_of to cc author bot) p q → positive_given to cc author bot p scratch tray ≡ positive_given to cc author bot q scratch tray
  unfolding positive_given
  positive_unheard q a = ap (λ (w : Option Recipients). unless_refused (asked to cc author bot scratch) scratch tray (answered (pack_positive w) scratch tray)) (unnamed_lists_unheard known_domain (mail_of to cc author bot) p q a).1
