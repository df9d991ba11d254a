-- What each fault says, case by case: its number, its layer, the part (which argument) and the place.
use Rattle.std.specs.Prelude.{ℕ}
use Rattle.roll.specs.declared.fault.RollFault.TheVariants.{Count, Length, LeftOver as RollLeftOver, InText}
use Rattle.email_policy.specs.declared.fault.Layer.{Layer}
use Rattle.email_policy.specs.declared.fault.Layer.TheVariants.{Text, Roll, Record, Book}
use Rattle.email_policy.specs.declared.fault.Part.{Part}
use Rattle.email_policy.specs.declared.fault.Part.TheVariants.{Key as the_key, Record as the_record}
use Rattle.email_policy.specs.declared.report.Report.{Report}
use Rattle.email_policy.specs.declared.fault.RecordFault.{RecordFault}
use Rattle.email_policy.specs.declared.fault.RecordFault.TheVariants.{Field, InRoll, TooLong, LeftOver}
use Rattle.email_policy.specs.declared.fault.KeyFault.{KeyFault}
use Rattle.email_policy.specs.declared.fault.KeyFault.TheVariants.{TooLong as KeyTooLong, InText as KeyInText, NoAt, Sides, NoBare}
use Rattle.email_policy.specs.declared.fault.PolicyFault.{PolicyFault}
use Rattle.email_policy.specs.declared.fault.PolicyFault.TheVariants.{Key as InKey, Record as InRecord, OwnAddress}

abbrev pub reported : ℕ → Layer → Part → ℕ → Report
reported n l a p = record { number = n; layer = l; part = a; place = p }

abbrev pub record_report : RecordFault → Report
record_report (Field p) = reported 11 Record the_record p
record_report (InRoll (Count p)) = reported 11 Roll the_record p
record_report (InRoll (Length p)) = reported 11 Roll the_record p
record_report (InRoll (RollLeftOver p)) = reported 11 Roll the_record p
record_report (InRoll (InText f)) = reported 12 Text the_record f.place
record_report (TooLong p) = reported 11 Record the_record p
record_report (LeftOver p) = reported 11 Record the_record p

abbrev pub key_report : KeyFault → Report
key_report (KeyTooLong p) = reported 7 Book the_key p
key_report (KeyInText f) = reported 7 Text the_key f.place
key_report (NoAt p) = reported 8 Book the_key p
key_report (Sides p) = reported 9 Book the_key p
key_report (NoBare p) = reported 10 Book the_key p

abbrev pub policy_report : PolicyFault → Report
policy_report (InKey f) = key_report f
policy_report (InRecord f) = record_report f
policy_report (OwnAddress p) = reported 13 Book the_record p
