-- The fault of a text, by the place of the first byte that no text may hold.
use Rattle.std.proofs.Common.{◌≡◌, ℕ, suc, ◌+◌, Bool, cond, not, nat_lt, [], ◌∷◌, length, position, Ok, Err, Some, None, Option, Result, refl, arith}
use Rattle.std.specs.List.{position_or_len}
use Rattle.std.proofs.lemmas.Bool.Decides.{nat_tests}
use Rattle.address.specs.declared.text.TextFault.{TextFault}
use Rattle.address.specs.Text.{Text, text_byte, text_fault}

abbrev foreign : ℕ → Bool
foreign b = not (text_byte b)

-- the fault of the byte at a place counted from `at` on
abbrev fault_of : ℕ → Option ℕ → Result (Unit {0}) TextFault
fault_of at None = Ok tt
fault_of at (Some i) = Err (record { place = at + i })

fault_later : (at i n : ℕ) → fault_of (at + 1) (cond (nat_lt i n) (Some i) None) ≡ fault_of at (cond (nat_lt (1 + i) (suc n)) (Some (1 + i)) None)
fault_later at i n = grind (arith, nat_tests)

fault_by_place : (at : ℕ) (t : Text) → text_fault at t ≡ fault_of at (position foreign t)
fault_by_place at [] = refl
fault_by_place at (b ∷ t) =
    let e = fault_by_place (at + 1) t in
    let f = fault_later at (position_or_len foreign t) (length t) in
    grind (arith, nat_tests)

pub fault_here : (at i : ℕ) (t : Text) → Some i ≡ position foreign t → Err (record { place = at + i }) ≡ text_fault at t
fault_here at i t e = cc (fault_by_place at t)

pub fault_none : (at : ℕ) (t : Text) → None ≡ position foreign t → Ok tt ≡ text_fault at t
fault_none at t e = cc (fault_by_place at t)
