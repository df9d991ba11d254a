-- The texts of a policy, by whose they are.
use Rattle.std.specs.Prelude.{List, [], Some, None, Option}
use Rattle.std.specs.List.{slice_get}
use Rattle.address.specs.Text.{Text}
use Rattle.email_policy.specs.Packing.{as_list}
use Rattle.email_policy.specs.Policy.{ListPolicy, Entry, Policy}
use Rattle.email_policy.specs.declared.texts.Whose.{Whose}
use Rattle.email_policy.specs.declared.texts.Whose.TheVariants.{Defaults, List as Listed}
use Rattle.email_policy.specs.declared.texts.TextField.{TextField}
use Rattle.email_policy.specs.declared.texts.TextField.TheVariants.{Cc, IgnoredEmails}

-- the policy of a list, and past the last one a policy that leaves all out
abbrev pub listed : Option Entry → ListPolicy
listed (Some e) = e.policy
listed None = record { reply_to = None; positive_review = None; mute_all = None; cc = []; ignored_emails = [] }

abbrev pub record_of : Policy → Whose → ListPolicy
record_of p Defaults = as_list p.defaults
record_of p (Listed n) = listed (slice_get p.lists n)

abbrev pub texts_of : TextField → ListPolicy → List Text
texts_of Cc p = p.cc
texts_of IgnoredEmails p = p.ignored_emails
