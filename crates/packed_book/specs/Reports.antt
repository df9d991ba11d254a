-- What each fault of a packed book says, case by case: its number, its layer, the part and the place. In
-- opening, the part is the book whatever is at fault in it.
use Rattle.email_policy.specs.Reports.{reported, policy_report}
use Rattle.email_policy.specs.declared.report.Report.{Report}
use Rattle.email_policy.specs.declared.fault.Layer.TheVariants.{Book, Router}
use Rattle.email_policy.specs.declared.fault.Part.TheVariants.{Tray as the_tray, Book as the_book}
use Rattle.packed_book.specs.declared.write.TrayTooShort.{TrayTooShort}
use Rattle.packed_book.specs.declared.fault.OpenFault.{OpenFault}
use Rattle.packed_book.specs.declared.fault.OpenFault.TheVariants.{Size, InPolicy, Order, LeftOver}

abbrev pub of_book : Report → Report
of_book r = reported r.number r.layer the_book r.place

abbrev pub open_report : OpenFault → Report
open_report (Size p) = reported 16 Book the_book p
open_report (InPolicy f) = of_book (policy_report f)
open_report (Order p) = reported 17 Book the_book p
open_report (LeftOver p) = reported 18 Book the_book p

-- a tray that is too short: the place is the length needed
abbrev pub tray_report : TrayTooShort → Report
tray_report t = reported 6 Router the_tray t.needed
