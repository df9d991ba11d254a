-- What a call gives: its result, and what it leaves in scratch and tray.
use Rattle.std.specs.Prelude.{ℕ, cond, List, ◌++◌, length, drop, replicate, Ok, Err, Result, nat_lt}
use Rattle.roll.specs.Reading.{texts}
use Rattle.email_policy.specs.Policy.{Policy}
use Rattle.audience.specs.Mail.{Mail}
use Rattle.audience.specs.Known.{known_domain}
use Rattle.audience.specs.Answers.{first_answer, positive_answer}
use Rattle.grants.specs.declared.pass.Pass.{Pass}
use Rattle.grants.specs.declared.pass.Pass.TheVariants.{First, Positive}
use Rattle.email_router.specs.declared.fault.RouterFault.{RouterFault}
use Rattle.email_router.specs.declared.fault.RouterFault.TheVariants.{Tray}
use Rattle.email_router.specs.Door.{Asked, asked}
use Rattle.email_router.specs.Envelope.{pack_answer, pack_positive}

pub record Given : Type 0 where
  pub result : Result ℕ RouterFault
  pub scratch : List ℕ
  pub tray : List ℕ

abbrev pub given : Result ℕ RouterFault → List ℕ → List ℕ → Given
given r scratch tray = record { result = r; scratch = scratch; tray = tray }

-- an answer's bytes at the front of the tray, with the rest as it was and every slot 0;
-- where they do not fit, the fault with the length needed, and nothing changed
unfoldable pub answered : List ℕ → List ℕ → List ℕ → Given
answered bytes scratch tray =
    cond (nat_lt (length tray) (length bytes))
    (given (Err (Tray (length bytes))) scratch tray)
    (given (Ok (length bytes)) (replicate (length scratch) 0) (bytes ++ drop (length bytes) tray))

-- a fault changes nothing
abbrev pub unless_refused : Asked → List ℕ → List ℕ → Given → Given
unless_refused (Ok u) scratch tray next = next
unless_refused (Err f) scratch tray next = given (Err f) scratch tray

module _ (to cc author bot : List ℕ) where
  -- the mail that the arguments are
  abbrev pub mail_of : Mail
  mail_of = record { to = texts to; cc = texts cc; author = author; bot = bot }

  module _ (p : Policy) (scratch tray : List ℕ) where
    unfoldable pub first_given : Given
    first_given = unless_refused (asked to cc author bot scratch) scratch tray (answered (pack_answer (first_answer known_domain p mail_of)) scratch tray)

    unfoldable pub positive_given : Given
    positive_given = unless_refused (asked to cc author bot scratch) scratch tray (answered (pack_positive (positive_answer known_domain p mail_of)) scratch tray)

    abbrev pub given_by : Pass → Given
    given_by First = first_given
    given_by Positive = positive_given
