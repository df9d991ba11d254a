-- Lines of the program: words that single spaces part, and what is printed.
use Rattle.std.specs.Prelude.{◌≡◌, ℕ, ◌+◌, ◌-◌, ◌*◌, Bool, true, cond, ◌&&◌, ◌⊎◌, List, [], ◌∷◌, ◌++◌, length, take, drop, position, replicate, is_some, Some, None, Ok, Err, vec_items, codes, alloc_error, decimal, Option, Result, MatchResult, ◌==◌, nat_le, nat_lt, slice_index}
use Rattle.std.specs.List.{list_all}
use Rattle.std.specs.Option.{option_map}
use Rattle.std.specs.Str.{bytes_eq}
use Rattle.address.specs.Text.{Text, small}
use Rattle.address.specs.Address.{sides_at, address_part, domain}
use Rattle.replay.specs.declared.turn.LineFault.{LineFault}
use Rattle.replay.specs.declared.turn.LineFault.TheVariants.{UnknownWord, MissingArgument, ExtraArgument, NotHex, NotScratch, NotTray, NotSource, NoPackedBook, NoMemory}
use Rattle.replay.specs.declared.turn.Arguments.{Arguments as GivenArguments}
use Rattle.replay.specs.declared.turn.Call.{Call as GivenCall}
use Rattle.replay.specs.declared.turn.Turn.{Turn}
use Rattle.replay.specs.declared.turn.Turn.TheVariants.{Address, Open, WritePacked, ResolvePacked}
use Rattle.grants.specs.declared.pass.Pass.{Pass}
use Rattle.grants.specs.declared.pass.Pass.TheVariants.{First, Positive}
use Rattle.replay.specs.Hex.{hex, unhex, byte_of, digit_value}
use Rattle.email_policy.specs.Lawful.{pack_book}
use Rattle.email_policy.specs.Words.{reported_words}
use Rattle.packed_book.specs.Ends.{whole_book}
use Rattle.packed_book.specs.Reading.{read_book}
use Rattle.packed_book.specs.Reports.{open_report, tray_report}
use Rattle.packed_book.specs.Writing.{write_answer, write_tray}
use Rattle.packed_book.specs.declared.fault.OpenFault.{OpenFault}
use Rattle.email_policy.specs.Policy.{Policy}
use Rattle.email_policy.specs.declared.report.Report.{Report}
use Rattle.email_router.specs.Given as router
use Rattle.email_router.specs.Reports.{router_report}
use Rattle.email_router.specs.declared.fault.RouterFault.{RouterFault}
use Rattle.replay.specs.People.{people}
use Rattle.replay.specs.declared.line.Outcome.{Outcome}
use Rattle.replay.specs.declared.line.Outcome.TheVariants.{Done, Unreadable}

-- what stands before the first c, and what follows it
abbrev pub parted_at : ℕ → List ℕ → Option (List ℕ × List ℕ)
parted_at c l = option_map (sides_at l) (position (λ b. b == c) l)

-- the same at the first space
abbrev pub parted : List ℕ → Option (List ℕ × List ℕ)
parted l = parted_at 32 l

-- a result with its value changed
abbrev pub map_ok : {T U E : Type 0} → (T → U) → Result T E → Result U E
map_ok f (Ok x) = Ok (f x)
map_ok f (Err e) = Err e

-- the one argument of a word
abbrev pub sole : Option (List ℕ) → Result (List ℕ) LineFault
sole None = Err MissingArgument
sole (Some rest) = cond (is_some (parted rest)) (Err ExtraArgument) (Ok rest)

abbrev pub domain_word : Option Text → List ℕ
domain_word None = codes "none"
domain_word (Some d) = hex d

-- a number below a billion, in decimal
abbrev pub more_digits : ℕ → Option ℕ → (ℕ → Option ℕ) → Option ℕ
more_digits n None next = None
more_digits n (Some d) next = cond (nat_lt n 100000000) (next (n * 10 + d)) None

abbrev pub decimal_digit : ℕ → Option ℕ
decimal_digit c = cond (nat_le 48 c && nat_le c 57) (Some (c - 48)) None

abbrev pub number_from : ℕ → List ℕ → Option ℕ
number_from n [] = Some n
number_from n (c ∷ t) = more_digits n (decimal_digit c) (λ m. number_from m t)

abbrev pub number_of : List ℕ → Option ℕ
number_of [] = None
number_of (c ∷ t) = number_from 0 (c ∷ t)

-- one byte in hex
abbrev pub byte_in : List ℕ → Option ℕ
byte_in [] = None
byte_in (c ∷ []) = None
byte_in (c ∷ d ∷ []) = byte_of (digit_value c) (digit_value d)
byte_in (c ∷ d ∷ e ∷ t) = None

-- a number in two bytes, the high one first
abbrev pub word_of : Option ℕ → Option ℕ → Option ℕ
word_of None l = None
word_of (Some h) None = None
word_of (Some h) (Some l) = Some (h * 256 + l)

abbrev pub word_in : List ℕ → Option ℕ
word_in text = cond (nat_le 2 (length text)) (word_of (byte_in (take 2 text)) (byte_in (drop 2 text))) None

-- so many of the same number, or why not
abbrev pub filled : LineFault → Option ℕ → Option ℕ → Result (List ℕ) LineFault
filled fault None b = Err fault
filled fault (Some n) None = Err fault
filled fault (Some n) (Some b) = Ok (replicate n b)

-- both arguments of a word that takes two
abbrev pub both_of : Option (List ℕ × List ℕ) → Result (List ℕ × List ℕ) LineFault
both_of None = Err MissingArgument
both_of (Some p) = cond (is_some (parted p.1)) (Err ExtraArgument) (Ok p)

abbrev pub both : Option (List ℕ) → Result (List ℕ × List ℕ) LineFault
both None = Err MissingArgument
both (Some rest) = both_of (parted rest)

abbrev pub bytes_or : Option (List ℕ) → Result (List ℕ) LineFault
bytes_or None = Err NotHex
bytes_or (Some bs) = Ok bs

abbrev pub with_ok : {T U E : Type 0} → Result T E → (T → Result U E) → Result U E
with_ok (Ok x) next = next x
with_ok (Err e) next = Err e

-- the bytes of a word's one argument
abbrev pub sole_bytes : Option (List ℕ) → Result (List ℕ) LineFault
sole_bytes rest = with_ok (sole rest) (λ a. bytes_or (unhex a))

-- a tray is given by how many bytes it has and what each of them is, `N:hh`
abbrev pub tray_of : Option (List ℕ × List ℕ) → Result (List ℕ) LineFault
tray_of None = Err NotTray
tray_of (Some s) = filled NotTray (number_of s.0) (byte_in s.1)

-- and the scratch by how many slots it has and what each of them holds, `N:hhhh`
abbrev pub scratch_of : Option (List ℕ × List ℕ) → Result (List ℕ) LineFault
scratch_of None = Err NotScratch
scratch_of (Some s) = filled NotScratch (number_of s.0) (word_in s.1)

-- the first argument and what follows it, where another one does
abbrev pub missing_or : {T : Type 0} → Option T → Result T LineFault
missing_or None = Err MissingArgument
missing_or (Some p) = Ok p

abbrev pub leading : List ℕ → Result (List ℕ × List ℕ) LineFault
leading rest = missing_or (parted rest)

-- the arguments of a resolve, as they are written
pub record Arguments : Type 0 where
  pub source : List ℕ
  pub to : List ℕ
  pub cc : List ℕ
  pub author : List ℕ
  pub bot : List ℕ
  pub scratch : List ℕ
  pub tray : List ℕ

abbrev pub arguments_from : List ℕ → Result Arguments LineFault
arguments_from rest =
    with_ok (leading rest) (λ source.
    with_ok (leading source.1) (λ to.
    with_ok (leading to.1) (λ second.
    with_ok (leading second.1) (λ author.
    with_ok (leading author.1) (λ bot.
    with_ok (leading bot.1) (λ scratch.
    with_ok (sole (Some scratch.1)) (λ tray.
    Ok (record { source = source.0; to = to.0; cc = second.0; author = author.0; bot = bot.0; scratch = scratch.0; tray = tray }))))))))

abbrev pub arguments : Option (List ℕ) → Result Arguments LineFault
arguments rest = with_ok (missing_or rest) arguments_from

-- a resolve: for which review, and what is passed
pub record Call : Type 0 where
  pub pass : Pass
  pub to : List ℕ
  pub cc : List ℕ
  pub author : List ℕ
  pub bot : List ℕ
  pub scratch : List ℕ
  pub tray : List ℕ

-- what a line asks for
pub data Asked : Type 0 where
  address : Text → Asked
  open_book : List ℕ → Asked
  write_packed : List ℕ → Asked
  resolve_packed : Call → Asked

abbrev pub write_asked : List ℕ × List ℕ → Result Asked LineFault
write_asked p = cond (bytes_eq p.0 (codes "packed")) (map_ok write_packed (tray_of (parted_at 58 p.1))) (Err NotSource)

abbrev pub call_of : Pass → Arguments → Result Call LineFault
call_of pass a =
    with_ok (bytes_or (unhex a.to)) (λ to.
    with_ok (bytes_or (unhex a.cc)) (λ second.
    with_ok (bytes_or (unhex a.author)) (λ author.
    with_ok (bytes_or (unhex a.bot)) (λ bot.
    with_ok (scratch_of (parted_at 58 a.scratch)) (λ scratch.
    with_ok (tray_of (parted_at 58 a.tray)) (λ tray.
    Ok (record { pass = pass; to = to; cc = second; author = author; bot = bot; scratch = scratch; tray = tray })))))))

abbrev pub resolve_asked : Pass → Arguments → Result Asked LineFault
resolve_asked pass a = cond (bytes_eq a.source (codes "packed")) (map_ok resolve_packed (call_of pass a)) (Err NotSource)

-- the review that a resolve is for, by its word
abbrev pub resolve_pass : List ℕ → Option Pass
resolve_pass word = cond (bytes_eq word (codes "resolve")) (Some First) (cond (bytes_eq word (codes "resolve_positive")) (Some Positive) None)

abbrev pub resolve_by : Option Pass → Option (List ℕ) → Result Asked LineFault
resolve_by None rest = Err UnknownWord
resolve_by (Some pass) rest = with_ok (arguments rest) (resolve_asked pass)

abbrev pub asked_by : List ℕ → Option (List ℕ) → Result Asked LineFault
asked_by word rest =
    cond (bytes_eq word (codes "address")) (map_ok address (sole_bytes rest))
    (cond (bytes_eq word (codes "open")) (map_ok open_book (sole_bytes rest))
    (cond (bytes_eq word (codes "write")) (with_ok (both rest) write_asked)
    (resolve_by (resolve_pass word) rest)))

-- a line is a word, or a word and what follows its space
abbrev pub parts : List ℕ → Option (List ℕ × List ℕ) → Result Asked LineFault
parts line None = asked_by line None
parts line (Some p) = asked_by p.0 (Some p.1)

abbrev pub read_line : List ℕ → Result Asked LineFault
read_line line = parts line (parted line)

-- so it is read, unless memory fails
abbrev pub UnlessMemory : {T U : Type 0} → (T → U) → Result T LineFault → Result U LineFault → Type 0
UnlessMemory value r s = MatchResult r (λ t. s ≡ Ok (value t)) (λ f. (f ≡ NoMemory alloc_error) ⊎ (s ≡ Err f))

abbrev pub argued : GivenArguments → Arguments
argued a = record { source = a.source.now; to = a.to.now; cc = a.cc.now; author = a.author.now; bot = a.bot.now; scratch = a.scratch.now; tray = a.tray.now }

abbrev pub called : GivenCall → Call
called c = record { pass = c.pass; to = vec_items c.to; cc = vec_items c.cc; author = vec_items c.author; bot = vec_items c.bot; scratch = vec_items c.scratch; tray = vec_items c.tray }

abbrev pub asked : Turn → Asked
asked (Address text) = address (vec_items text)
asked (Open book) = open_book (vec_items book)
asked (WritePacked tray) = write_packed (vec_items tray)
asked (ResolvePacked call) = resolve_packed (called call)

-- a line without the byte that ends it
abbrev pub unended : List ℕ → List ℕ
unended l = cond (nat_lt 0 (length l) && slice_index l (length l - 1) == 10) (take (length l - 1) l) l

-- an address, in small letters too, with its domain
abbrev pub line_of : Text → List ℕ
line_of part = codes "address " ++ (hex part ++ (codes " " ++ (hex (small part) ++ (codes " " ++ (domain_word (domain (small part)) ++ codes "\n")))))

-- what is printed for a text: its address, its bare, and the domain of that
abbrev pub address_line : Text → List ℕ
address_line t = line_of (address_part t)

-- empty lines and lines that begin with `#` ask for nothing
abbrev pub passed_over : List ℕ → Bool
passed_over [] = true
passed_over (b ∷ l) = b == 35

-- what is said of a line that can't be read
abbrev pub why_text : LineFault → List ℕ
why_text UnknownWord = codes "no such word"
why_text MissingArgument = codes "an argument is missing"
why_text ExtraArgument = codes "there is an argument too many"
why_text NotHex = codes "the bytes are not lower-case hex"
why_text NotScratch = codes "the scratch is not N:hhhh"
why_text NotTray = codes "the tray is not N:hh"
why_text NotSource = codes "the source is not packed"
why_text NoPackedBook = codes "no packed book is open"
why_text (NoMemory e) = codes "there is no memory for it"

abbrev pub unreadable_for : ℕ → List ℕ → List ℕ
unreadable_for number why = codes "unreadable " ++ (decimal number ++ (codes ": " ++ (why ++ codes "\n")))

abbrev pub unreadable_line : ℕ → LineFault → List ℕ
unreadable_line number f = unreadable_for number (why_text f)

-- the packed book that is open, if one is, by its bytes
abbrev pub State : Type 0
State = Option (List ℕ)

-- what a turn prints, and the book that is open after it
pub record Given : Type 0 where
  pub printed : List ℕ
  pub state : State

abbrev pub opened_by : State → List ℕ → Result (Unit {0}) OpenFault → Given
opened_by s book (Ok u) = record { printed = codes "accepted\n"; state = Some book }
opened_by s book (Err f) = record { printed = reported_words (open_report f) ++ codes "\n"; state = s }

-- the tray after a call stands behind what it answered
abbrev pub with_tray : List ℕ → List ℕ → List ℕ
with_tray said tray = said ++ (codes " tray " ++ (hex tray ++ codes "\n"))

-- what a call that writes into a tray answered, by the tray after it and the reports of its faults
abbrev pub said_of : {E : Type 0} → (E → Report) → List ℕ → Result ℕ E → List ℕ
said_of report tray (Ok n) = codes "answer " ++ hex (take n tray)
said_of report tray (Err e) = reported_words (report e)

abbrev pub written_line : List ℕ → List ℕ → List ℕ
written_line book tray = with_tray (said_of tray_report (write_tray book tray) (write_answer book tray)) (write_tray book tray)

-- a book that was accepted once is accepted again
abbrev pub written_out : List ℕ → List ℕ → Result (Unit {0}) OpenFault → Result Given LineFault
written_out bs tray (Ok u) = Ok (record { printed = written_line (pack_book (read_book bs)) tray; state = Some bs })
written_out bs tray (Err f) = Err NoPackedBook

abbrev pub write_given : State → List ℕ → Result Given LineFault
write_given None tray = Err NoPackedBook
write_given (Some bs) tray = written_out bs tray (whole_book bs)

-- what became of the slots
abbrev pub slots_word : List ℕ → List ℕ → List ℕ
slots_word before after = cond (list_all (λ n. n == 0) after) (codes "zero") (cond (bytes_eq before after) (codes "kept") (codes "other"))

-- what a resolve answered, with the tray and the scratch after it
abbrev pub resolve_line : List ℕ → router.Given → List ℕ
resolve_line before g = said_of router_report g.tray g.result ++ (codes " tray " ++ (hex g.tray ++ (codes " scratch " ++ (slots_word before g.scratch ++ codes "\n"))))

-- a refusal mails nobody, and says nothing more
abbrev pub if_answered : Result ℕ RouterFault → List ℕ → List ℕ
if_answered (Ok n) below = below
if_answered (Err f) below = []

module _ (p : Policy) (c : Call) where
  abbrev pub call_given : router.Given
  call_given = router.given_by c.to c.cc c.author c.bot p c.scratch c.tray c.pass

  -- the line of a resolve under a policy, and below it who is mailed
  abbrev pub resolved_lines : List ℕ
  resolved_lines = resolve_line c.scratch call_given ++ if_answered call_given.result (people c.pass p (router.mail_of c.to c.cc c.author c.bot))

abbrev pub resolved_by : List ℕ → Call → Result (Unit {0}) OpenFault → Result Given LineFault
resolved_by bs c (Ok u) = Ok (record { printed = resolved_lines (read_book bs) c; state = Some bs })
resolved_by bs c (Err f) = Err NoPackedBook

abbrev pub resolve_given : State → Call → Result Given LineFault
resolve_given None c = Err NoPackedBook
resolve_given (Some bs) c = resolved_by bs c (whole_book bs)

abbrev pub given : State → Asked → Result Given LineFault
given s (address t) = Ok (record { printed = address_line t; state = s })
given s (open_book bs) = Ok (opened_by s bs (whole_book bs))
given s (write_packed tray) = write_given s tray
given s (resolve_packed c) = resolve_given s c

-- what is printed for the line of this number, whether it could be read, and the book that is open after it
pub record Shown : Type 0 where
  pub outcome : Outcome
  pub added : List ℕ
  pub state : State

abbrev pub shown_given : State → ℕ → Result Given LineFault → Shown
shown_given s number (Ok g) = record { outcome = Done; added = g.printed; state = g.state }
shown_given s number (Err f) = record { outcome = Unreadable; added = unreadable_line number f; state = s }

abbrev pub shown : State → ℕ → List ℕ → Shown
shown s number line = cond (passed_over line) (record { outcome = Done; added = []; state = s }) (shown_given s number (with_ok (read_line line) (given s)))
