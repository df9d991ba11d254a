-- What a key must be, and the order of keys.
use Rattle.std.specs.Prelude.{◌≡◌, ℕ, ◌+◌, Bool, true, false, cond, not, ◌&&◌, ◌||◌, ◌⊎◌, [], ◌∷◌, length, take, Some, None, Ok, Err, Option, Result, ◌==◌, nat_eq, nat_lt}
use Rattle.std.specs.List.{list_any}
use Rattle.address.specs.Text.{Text, blank, trimmed, empty, text_fault}
use Rattle.address.specs.Address.{bare, same_bare, sides}
use Rattle.address.specs.declared.text.TextFault.{TextFault}
use Rattle.email_policy.specs.declared.fault.KeyFault.{KeyFault}
use Rattle.email_policy.specs.declared.fault.KeyFault.TheVariants.{TooLong, InText, NoAt, Sides, NoBare}

abbrev pub longest_key : ℕ
longest_key = 254

-- at most 254 bytes, all of them text bytes: the leftmost fault, with the length before a bad byte at the same place
abbrev pub key_length : ℕ → Result (Unit {0}) TextFault → ℕ → Option KeyFault
key_length first (Err f) n = Some (InText f)
key_length first (Ok u) n = cond (nat_lt longest_key n) (Some (TooLong (first + longest_key))) None

abbrev pub key_text : ℕ → Text → Option KeyFault
key_text first key = key_length first (text_fault first (take longest_key key)) (length key)

-- of the sides of a key's `@`: neither is empty, and the right one has a dot (46)
abbrev pub good_sides : Text × Text → Bool
good_sides s = not (empty s.0) && (not (empty s.1) && list_any (λ b. nat_eq b 46) s.1)

-- of a trimmed key with its bare: an `@` outside the quoted parts, good sides and no blank inside, and some bare
abbrev pub key_form : ℕ → Text → Option (Text × Text) → Text → Option KeyFault
key_form at t None own = Some (NoAt at)
key_form at t (Some s) own =
    cond (good_sides s && not (list_any blank t)) (cond (empty own) (Some (NoBare at)) None) (Some (Sides at))

abbrev pub or_else : {X : Type 0} → Option X → Option X → Option X
or_else (Some x) next = Some x
or_else None next = next

-- the first fault of a key whose first byte stands at `first`; what is wrong with all of it is said at `at`
unfoldable pub key_fault : ℕ → ℕ → Text → Option KeyFault
key_fault at first key = or_else (key_text first key) (key_form at (trimmed key) (sides (trimmed key)) (bare key))

-- t stands before u, byte by byte
unfoldable pub before : Text → Text → Bool
before [] [] = false
before [] (c ∷ u) = true
before (b ∷ t) [] = false
before (b ∷ t) (c ∷ u) = nat_lt b c || (b == c && before t u)

-- keys rise by bare, and then by their bytes
unfoldable pub rises : Text → Text → Bool
rises j k = before (bare j) (bare k) || (same_bare j k && before j k)

-- keys are in one order, and each key that passes comes after the empty text
pub record RisesOrders : Type 0 where
  pub irreflexive : (k : Text) → rises k k ≡ false
  pub transitive : (i j k : Text) → rises i j ≡ true → rises j k ≡ true → rises i k ≡ true
  pub total : (j k : Text) → (rises j k ≡ true) ⊎ ((rises k j ≡ true) ⊎ (j ≡ k))
  pub first : (at first : ℕ) (k : Text) → key_fault at first k ≡ None → rises [] k ≡ true
