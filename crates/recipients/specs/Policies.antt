-- What the policies say of a mail.
use Rattle.std.specs.Prelude.{List}
use Rattle.address.specs.Text.{Text}
use Rattle.audience.specs.Rules.{Grant}
use Rattle.mail.specs.Letters.{texts}
use Rattle.grants.specs.Rules.{meant}
use Rattle.recipients.specs.declared.policies.Policies.{Policies}

abbrev pub keys_in : Policies → List Text
keys_in c = texts c.keys

abbrev pub granted_in : Policies → Grant
granted_in c = meant (texts c.keys) c.grant
