-- What is asked before a call answers: the first question that is answered no is the fault.
use Rattle.std.specs.Prelude.{ℕ, cond, List, length, Ok, Err, Result, nat_lt}
use Rattle.address.specs.Text.{text_fault}
use Rattle.address.specs.declared.text.TextFault.{TextFault}
use Rattle.roll.specs.Ends.{whole, incoming}
use Rattle.roll.specs.Reading.{texts, texts_fault}
use Rattle.roll.specs.declared.fault.RollFault.{RollFault}
use Rattle.email_router.specs.declared.fault.Incoming.{Incoming}
use Rattle.email_router.specs.declared.fault.Incoming.TheVariants.{To, Cc}
use Rattle.email_router.specs.declared.fault.Person.{Person}
use Rattle.email_router.specs.declared.fault.Person.TheVariants.{Author, Bot}
use Rattle.email_router.specs.declared.fault.RouterFault.{RouterFault}
use Rattle.email_router.specs.declared.fault.RouterFault.TheVariants.{Roll, TooLong, Text, Scratch}

abbrev pub Asked : Type 0
Asked = Result (Unit {0}) RouterFault

-- one question, and if it is answered yes, the next
abbrev pub and_then : Asked → Asked → Asked
and_then (Ok u) next = next
and_then (Err f) next = Err f

-- a fault with the argument that it is of
abbrev pub paired : {A E : Type 0} → A → Result (Unit {0}) E → Result (Unit {0}) (A × E)
paired a (Ok u) = Ok u
paired a (Err f) = Err (a, f)

abbrev pub of_roll : Incoming → Result (Unit {0}) RollFault → Asked
of_roll r (Ok u) = Ok u
of_roll r (Err f) = Err (Roll r f)

abbrev pub of_person : Person → Result (Unit {0}) TextFault → Asked
of_person s (Ok u) = Ok u
of_person s (Err f) = Err (Text s f)

abbrev pub longest_text : ℕ
longest_text = 998

abbrev pub not_too_long : Person → List ℕ → Asked
not_too_long s t = cond (nat_lt longest_text (length t)) (Err (TooLong s longest_text)) (Ok tt)

-- one for each candidate there can be: the author, 512 in To, 512 in Cc, and 32 cc texts of each of 256 lists and of the defaults
abbrev pub slots_needed : ℕ
slots_needed = 9249

abbrev pub asked : (to cc author bot scratch : List ℕ) → Asked
asked to cc author bot scratch =
    and_then (of_roll To (whole incoming to))
    (and_then (of_roll Cc (whole incoming cc))
    (and_then (not_too_long Author author)
    (and_then (not_too_long Bot bot)
    (and_then (of_roll To (texts_fault 2 (texts to)))
    (and_then (of_roll Cc (texts_fault 2 (texts cc)))
    (and_then (of_person Author (text_fault 0 author))
    (and_then (of_person Bot (text_fault 0 bot))
    (cond (nat_lt (length scratch) slots_needed) (Err (Scratch slots_needed)) (Ok tt)))))))))
