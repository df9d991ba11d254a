-- What holds of texts and addresses, in words that do without the scanner.
use Rattle.std.specs.Prelude.{◌≡◌, ℕ, suc, true, false, ◌↔◌, [], ◌∷◌, ◌++◌, length, replicate, ◌≢◌}
use Rattle.std.specs.Option.{option_map}
use Rattle.std.specs.List.{AllByRecursion}
use Rattle.address.specs.Text.{Text, blank, trimmed, small, holds}
use Rattle.address.specs.Quoted.{unquoted}
use Rattle.address.specs.Address.{bare, domain}

-- what may stand between the quotes of a quoted part: bytes that are neither quote nor backslash, and escaped pairs
pub data Content : Text → Type 0 where
  nothing : Content []
  byte : {b : ℕ} {t : Text} → (b ≢ 34) → (b ≢ 92) → Content t → Content (b ∷ t)
  pair : {b : ℕ} {t : Text} → Content t → Content (92 ∷ b ∷ t)

-- these four decide `unquoted` at every text
pub record QuotedParts : Type 0 where
  pub empty : unquoted [] ≡ []
  -- a byte outside that is no quote stands as it is
  pub plain : (b : ℕ) (t : Text) → (b ≢ 34) → unquoted (b ∷ t) ≡ b ∷ unquoted t
  -- a quoted part is hidden whole, and what follows is read as a text of its own
  pub hidden : (inner rest : Text) → Content inner → unquoted (34 ∷ (inner ++ (34 ∷ rest))) ≡ replicate (suc (suc (length inner))) 0 ++ unquoted rest
  -- a quote without such an end, and all after it, stands as it is
  pub unclosed : (t : Text) → ((inner rest : Text) → Content inner → t ≢ inner ++ (34 ∷ rest)) → unquoted (34 ∷ t) ≡ 34 ∷ t

-- a text that neither begins nor ends with a blank
pub record Firm (t : Text) : Type 0 where
  pub front : (b : ℕ) (rest : Text) → t ≡ b ∷ rest → blank b ≡ false
  pub back : (b : ℕ) (rest : Text) → t ≡ rest ++ (b ∷ []) → blank b ≡ false

pub record Trimming : Type 0 where
  -- only blanks go
  pub parts : (t : Text) → (before : Text) × (after : Text) × AllByRecursion (λ b. blank b ≡ true) before × AllByRecursion (λ b. blank b ≡ true) after × (t ≡ before ++ (trimmed t ++ after))
  -- and all at both ends do
  pub firm : (t : Text) → Firm (trimmed t)
  pub idempotent : (t : Text) → trimmed (trimmed t) ≡ trimmed t

pub record Addresses : Type 0 where
  -- to hold a text is to be that text with something before and after
  pub holding : (t u : Text) → (holds t u ≡ true) ↔ ((before : Text) × (after : Text) × (t ≡ before ++ (u ++ after)))
  pub of_trimmed : (t : Text) → bare (trimmed t) ≡ bare t
  -- the domain can be taken before or after the change of letters
  pub domain_small : (t : Text) → domain (small t) ≡ option_map small (domain t)
  -- a bare stands inside its own text in small letters
  pub inside : (t : Text) → holds (small t) (bare t) ≡ true
