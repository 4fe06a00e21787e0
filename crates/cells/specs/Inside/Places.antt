-- The places of a word's bits, in rising order. Assumes nothing.
use Rattle.std.specs.Prelude.{ℕ, ◌*◌, ◌^◌, ◌<◌, ◌≡◌, Option, Some, None, bit_xor}
use Rattle.std.specs.Int.Count.{count_trailing_zeros}
use Rattle.cells.specs.declared.Bits.{Bits}

-- the lowest comes first, and is gone then
abbrev pub NextBit : Bits → Option ℕ → Bits → Type 0
NextBit before None after = before.0 ≡ 0
NextBit before (Some place) after = (0 < before.0) × (place ≡ count_trailing_zeros 64 before.0) × (after.0 ≡ bit_xor before.0 (1 * 2 ^ place))
