-- Who may be mailed, as the code asks it: has the text an address, has the bot, and does the text hold the bot's.
use Rattle.std.proofs.Common.{◌≡◌, Bool, true, false, not, ◌&&◌, ◌||◌, sym, ap, ◌∙◌}
use Rattle.std.proofs.lemmas.Bool.{and_from, or_left, not_from_false}
use Rattle.std.proofs.Math.Bool.{and-true}
use Rattle.address.specs.Text.{Text, small, holds}
use Rattle.address.specs.Address.{bare}
use Rattle.audience.specs.Mail.{Mail, nobody, free, mailable}

module _ (m : Mail) (t : Text) where
  module _ (somebody : nobody t ≡ false) where
    pub mailed_without_bot : nobody m.bot ≡ true → true ≡ mailable m t
    mailed_without_bot e = sym (and_from (free m t) (not (nobody t)) (or_left (nobody m.bot) (not (holds (small t) (bare m.bot))) e) (not_from_false (nobody t) somebody))

    pub mailed_unless_held : (r : Bool) → nobody m.bot ≡ false → r ≡ holds (small t) (bare m.bot) → not r ≡ mailable m t
    mailed_unless_held r e h =
        ap not h ∙ sym (and-true (not (holds (small t) (bare m.bot)))) ∙ sym (λ i. (e i || not (holds (small t) (bare m.bot))) && not (somebody i))
