-- A text that is blank is nobody's.
use Rattle.std.proofs.Common.{◌≡◌, Bool, true, false, cond, not, List, [], ◌∷◌, ◌++◌, filter, unwrap_or, sym, refl}
use Rattle.std.specs.Option.{option_map}
use Rattle.std.proofs.lemmas.Bool.{true≢false, and_right, not_from_true, cond-false}
use Rattle.address.specs.Text.{Text, trimmed, small, empty}
use Rattle.address.specs.Address.{angled}
use Rattle.audience.specs.Mail.{Mail, free, mailable}
use Rattle.audience.specs.Promises.{BlankIsNobody}

no_address : (t : Text) → empty t ≡ true → empty (small (unwrap_or (option_map trimmed (angled t)) t)) ≡ true
no_address [] e = refl
no_address (b ∷ t) e = absurd (true≢false (sym e))

blank_unmailable : (m : Mail) (t : Text) → empty (trimmed t) ≡ true → mailable m t ≡ false
blank_unmailable m t e = and_right (free m t) _ (not_from_true _ (no_address (trimmed t) e))

unless_unmailable : (m : Mail) (t : Text) (ts : List Text) (b : Bool) → (b ≡ true → mailable m t ≡ false) → filter (mailable m) (cond (not b) (t ∷ []) [] ++ ts) ≡ filter (mailable m) (t ∷ ts)
unless_unmailable m t ts true n = sym (cond-false (mailable m t) (t ∷ filter (mailable m) ts) (filter (mailable m) ts) (n refl))
unless_unmailable m t ts false n = refl

pub blank_is_nobody : BlankIsNobody
blank_is_nobody m false ts = refl
blank_is_nobody m true ts = unless_unmailable m m.author ts (empty (trimmed m.author)) (blank_unmailable m m.author)
