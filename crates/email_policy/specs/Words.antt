-- The words of a report.
use Rattle.std.specs.Prelude.{ℕ, List, ◌++◌, codes, decimal}
use Rattle.email_policy.specs.declared.fault.Layer.{Layer}
use Rattle.email_policy.specs.declared.fault.Layer.TheVariants.{Text as InText, Roll as InRoll, Record as InRecord, Book as InBook, Router as InRouter}
use Rattle.email_policy.specs.declared.fault.Part.{Part}
use Rattle.email_policy.specs.declared.fault.Part.TheVariants.{To as the_to, Cc as the_cc, Author as the_author, Bot as the_bot, Scratch as the_scratch, Tray as the_tray, Key as the_key, Record as the_record, Book as the_book}
use Rattle.email_policy.specs.declared.report.Report.{Report}

abbrev pub layer_word : Layer → List ℕ
layer_word InText = codes "text"
layer_word InRoll = codes "roll"
layer_word InRecord = codes "record"
layer_word InBook = codes "book"
layer_word InRouter = codes "router"

abbrev pub part_word : Part → List ℕ
part_word the_to = codes "to"
part_word the_cc = codes "cc"
part_word the_author = codes "author"
part_word the_bot = codes "bot"
part_word the_scratch = codes "scratch"
part_word the_tray = codes "tray"
part_word the_key = codes "key"
part_word the_record = codes "record"
part_word the_book = codes "book"

-- a refusal: its number, its layer, the part and the place
abbrev pub fault_words : ℕ → List ℕ → List ℕ → ℕ → List ℕ
fault_words number layer part place = codes "fault " ++ (decimal number ++ (codes " " ++ (layer ++ (codes " " ++ (part ++ (codes " " ++ decimal place))))))

abbrev pub reported_words : Report → List ℕ
reported_words r = fault_words r.number (layer_word r.layer) (part_word r.part) r.place
