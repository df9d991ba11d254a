-- A mail, as far as the choice of recipients looks at it, and what is said of one address.
use Rattle.std.specs.Prelude.{Bool, not, ◌&&◌, ◌||◌, List, ◌++◌}
use Rattle.address.specs.Text.{Text, small, empty, holds}
use Rattle.address.specs.Address.{bare}

-- the addresses in To and Cc, the patch's author, and the robot that mails the review
pub record Mail : Type 0 where
  pub to : List Text
  pub cc : List Text
  pub author : Text
  pub bot : Text

abbrev pub incoming : Mail → List Text
incoming m = m.to ++ m.cc

-- the text has no address in it
abbrev pub nobody : Text → Bool
nobody t = empty (bare t)

-- free of the bot: the bot's bare stands nowhere in the text
abbrev pub free : Mail → Text → Bool
free m t = nobody m.bot || not (holds (small t) (bare m.bot))

abbrev pub mailable : Mail → Text → Bool
mailable m t = free m t && not (nobody t)
