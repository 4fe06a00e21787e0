-- The value of a run of digits, of any length.
-- Assumes nothing: these are definitions.
use Rattle.std.specs.Prelude.{ℕ, ◌+◌, ◌-◌, ◌*◌, ◌≡◌, refl, List, [], ◌∷◌, leb, Option, Some, None}
use Rattle.laws.specs.Pick.{pick}
use Rattle.laws.specs.Text.{bytes}
use Rattle.words.specs.Unit.{longest}

-- `0` is the byte 48
abbrev pub digit_of : ℕ → ℕ
digit_of byte = byte - 48

-- the value of the digits that follow those of the value so far
abbrev pub value_from : ℕ → List ℕ → ℕ
value_from value [] = value
value_from value (digit ∷ digits) = value_from (value * 10 + digit_of digit) digits

abbrev pub value_of : List ℕ → ℕ
value_of digits = value_from 0 digits

-- no unit is below a femtosecond, so a larger amount is no delay in any
abbrev pub amount_of : List ℕ → Option ℕ
amount_of digits = pick (leb (value_of digits) longest) (Some (value_of digits)) None

leading_zeros : amount_of (bytes "00120") ≡ Some 120
leading_zeros = refl

longest_in_fs : amount_of (bytes "1000000000000000000") ≡ Some longest
longest_in_fs = refl

one_above : amount_of (bytes "01000000000000000001") ≡ None
one_above = refl
