-- List n of a policy.
use Rattle.std.proofs.Common.{◌≡◌, ℕ, get_or, sym}
use Rattle.std.proofs.lemmas.Option.{unwrap_or-slice_get}
use Rattle.email_policy.specs.Policy.{Policy}
use Rattle.grants.specs.Rules.{no_entry, entry_at}

pub entry_read : (p : Policy) (n : ℕ) → get_or p.lists n no_entry ≡ entry_at p n
entry_read p n = sym (unwrap_or-slice_get p.lists n no_entry)
