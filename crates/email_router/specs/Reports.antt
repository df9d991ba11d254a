-- What each fault says, case by case: its number, its layer, the part (which argument) and the place.
use Rattle.std.specs.Prelude.{ℕ}
use Rattle.roll.specs.declared.fault.RollFault.TheVariants.{Count, Length, LeftOver, InText}
use Rattle.email_policy.specs.declared.fault.Layer.TheVariants.{Text as text_layer, Roll as roll_layer, Router as router_layer}
use Rattle.email_policy.specs.declared.fault.Part.{Part}
use Rattle.email_policy.specs.declared.fault.Part.TheVariants.{To as the_to, Cc as the_cc, Author as the_author, Bot as the_bot, Scratch as the_scratch, Tray as the_tray}
use Rattle.email_policy.specs.declared.report.Report.{Report}
use Rattle.email_policy.specs.Reports.{reported}
use Rattle.email_router.specs.declared.fault.Incoming.{Incoming}
use Rattle.email_router.specs.declared.fault.Incoming.TheVariants.{To, Cc}
use Rattle.email_router.specs.declared.fault.Person.{Person}
use Rattle.email_router.specs.declared.fault.Person.TheVariants.{Author, Bot}
use Rattle.email_router.specs.declared.fault.RouterFault.{RouterFault}
use Rattle.email_router.specs.declared.fault.RouterFault.TheVariants.{Roll, TooLong, Text, Scratch, Tray}

abbrev pub roll_part : Incoming → Part
roll_part To = the_to
roll_part Cc = the_cc

-- whether the roll is whole is asked under a number of its own for each roll
abbrev pub roll_number : Incoming → ℕ
roll_number To = 1
roll_number Cc = 2

abbrev pub person_part : Person → Part
person_part Author = the_author
person_part Bot = the_bot

abbrev pub router_report : RouterFault → Report
router_report (Roll r (Count p)) = reported (roll_number r) roll_layer (roll_part r) p
router_report (Roll r (Length p)) = reported (roll_number r) roll_layer (roll_part r) p
router_report (Roll r (LeftOver p)) = reported (roll_number r) roll_layer (roll_part r) p
router_report (Roll r (InText f)) = reported 4 text_layer (roll_part r) f.place
router_report (TooLong s p) = reported 3 router_layer (person_part s) p
router_report (Text s f) = reported 4 text_layer (person_part s) f.place
router_report (Scratch n) = reported 5 router_layer the_scratch n
router_report (Tray n) = reported 6 router_layer the_tray n
