-- What a policy source answers, of the policy that it means.
use Rattle.std.specs.Prelude.{ℕ, List, Some, None, Option}
use Rattle.std.specs.List.{slice_get}
use Rattle.std.specs.Option.{option_map}
use Rattle.address.specs.Text.{Text}
use Rattle.email_policy.specs.Policy.{ListPolicy, Policy}

abbrev pub and_then : {X Y : Type 0} → Option X → (X → Option Y) → Option Y
and_then None next = None
and_then (Some x) next = next x

-- list n, where there is one
abbrev pub key_of : Policy → ℕ → Option Text
key_of p n = option_map (λ e. e.key) (slice_get p.lists n)

-- a field of its policy: none past the end, and none where it is left out
abbrev pub field_of : {X : Type 0} → (ListPolicy → Option X) → Policy → ℕ → Option X
field_of field p n = and_then (slice_get p.lists n) (λ e. field e.policy)

-- text m of one of its rolls
abbrev pub text_of : (ListPolicy → List Text) → Policy → ℕ → ℕ → Option Text
text_of texts p n m = and_then (slice_get p.lists n) (λ e. slice_get (texts e.policy) m)
