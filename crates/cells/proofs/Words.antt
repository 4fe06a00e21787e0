-- Words as sets of numbers, by their bits. Assumes nothing.
use Prim.Native.Nat.{ℕ, zero, suc, ◌+◌, ◌*◌, ◌/◌, ◌%◌, ◌^◌, ◌<◌, ◌≤◌, max}
use mathlib.Core.Path.{◌≡◌, refl, ap, ◌∙◌}
use mathlib.Core.Bool.{true, false, ◌||◌}
use native.Mathlib.Nat.{mod-eq_of_lt}
use native.Mathlib.Omega.{arith}
use lib.Bits.{bit_or, or_step, shifted_half, shifted_even, bit_xor, xor_step}
use lib.Pow.{pow-lt}
use lib.Bits as bits
use Rattle.rules.specs.Formulas.{differ}
use Rattle.table.specs.Table.{bit}
use Rattle.table.proofs.Tabulated.{bit-zero}
use Rattle.cells.specs.Cells.{truth}

max_bit : (z a b : ℕ) → a ≤ 1 → b ≤ 1 → ((z * 2 + max a b) / 2 ≡ z) × (truth ((z * 2 + max a b) % 2) ≡ (truth a || truth b))
max_bit z zero zero h g = (omega arith, let e : (z * 2 + 0) % 2 ≡ 0 = omega arith in rw e)
max_bit z zero (suc zero) h g = (omega arith, let e : (z * 2 + 1) % 2 ≡ 1 = omega arith in rw e)
max_bit z (suc zero) zero h g = (omega arith, let e : (z * 2 + 1) % 2 ≡ 1 = omega arith in rw e)
max_bit z (suc zero) (suc zero) h g = (omega arith, let e : (z * 2 + 1) % 2 ≡ 1 = omega arith in rw e)
max_bit z (suc (suc a)) b h g = absurd (omega arith)
max_bit z zero (suc (suc b)) h g = absurd (omega arith)
max_bit z (suc zero) (suc (suc b)) h g = absurd (omega arith)

pub bit-or : (a b k : ℕ) → bit (bit_or a b) k ≡ (bit a k || bit b k)
unfolding bit
bit-or a b zero =
    ap (λ (n : ℕ). truth (n % 2)) (or_step a b) ∙ (max_bit (bit_or (a / 2) (b / 2)) (a % 2) (b % 2) (omega arith) (omega arith)).1
bit-or a b (suc k) =
    ap (λ (n : ℕ). bit (n / 2) k) (or_step a b)
    ∙ ap (λ (n : ℕ). bit n k) (max_bit (bit_or (a / 2) (b / 2)) (a % 2) (b % 2) (omega arith) (omega arith)).0
    ∙ bit-or (a / 2) (b / 2) k

-- where two words differ
xor-bits : (z a b : ℕ) → a ≤ 1 → b ≤ 1 → ((z * 2 + bits.differ a b) / 2 ≡ z) × (truth ((z * 2 + bits.differ a b) % 2) ≡ differ (truth a) (truth b))
xor-bits z zero zero h g = (omega arith, let e : (z * 2 + 0) % 2 ≡ 0 = omega arith in rw e)
xor-bits z zero (suc zero) h g = (omega arith, let e : (z * 2 + 1) % 2 ≡ 1 = omega arith in rw e)
xor-bits z (suc zero) zero h g = (omega arith, let e : (z * 2 + 1) % 2 ≡ 1 = omega arith in rw e)
xor-bits z (suc zero) (suc zero) h g = (omega arith, let e : (z * 2 + 0) % 2 ≡ 0 = omega arith in rw e)
xor-bits z (suc (suc a)) b h g = absurd (omega arith)
xor-bits z zero (suc (suc b)) h g = absurd (omega arith)
xor-bits z (suc zero) (suc (suc b)) h g = absurd (omega arith)

pub bit-xor : (a b k : ℕ) → bit (bit_xor a b) k ≡ differ (bit a k) (bit b k)
unfolding bit
bit-xor a b zero =
    ap (λ (n : ℕ). truth (n % 2)) (xor_step a b) ∙ (xor-bits (bit_xor (a / 2) (b / 2)) (a % 2) (b % 2) (omega arith) (omega arith)).1
bit-xor a b (suc k) =
    ap (λ (n : ℕ). bit (n / 2) k) (xor_step a b)
    ∙ ap (λ (n : ℕ). bit n k) (xor-bits (bit_xor (a / 2) (b / 2)) (a % 2) (b % 2) (omega arith) (omega arith)).0
    ∙ bit-xor (a / 2) (b / 2) k

-- the word with bit k alone
pub bit_same : (k : ℕ) → bit (1 * 2 ^ k) k ≡ true
unfolding bit
bit_same zero = refl
bit_same (suc k) = ap (λ (n : ℕ). bit n k) (shifted_half 1 k) ∙ bit_same k

pub bit_other : (a k : ℕ) → (k ≡ a → ⊥) → bit (1 * 2 ^ a) k ≡ false
unfolding bit
bit_other zero zero ne = absurd (ne refl)
bit_other zero (suc k) ne = bit-zero k
bit_other (suc a) zero ne = ap truth (shifted_even 1 a)
bit_other (suc a) (suc k) ne = ap (λ (n : ℕ). bit n k) (shifted_half 1 a) ∙ bit_other a k (λ e. ne (ap suc e))

pub one_below : (k n : ℕ) → k < n → 1 * 2 ^ k < 2 ^ n
one_below k n l = let e : 1 * 2 ^ k ≡ 2 ^ k = omega arith in rw e (pow-lt {i = k} {j = n} l)

pub one_fits : (k : ℕ) → k < 64 → 1 * 2 ^ k % 2 ^ 64 ≡ 1 * 2 ^ k
one_fits k l = mod-eq_of_lt (one_below k 64 l)

-- a word has no bit above its size
pub bit-above : (n w k : ℕ) → w < 2 ^ n → n ≤ k → bit w k ≡ false
unfolding bit
bit-above zero w k l h = let e : w ≡ 0 = omega arith in rw e (bit-zero k)
bit-above (suc n) w zero l h = absurd (omega arith)
bit-above (suc n) w (suc k) l h = bit-above n (w / 2) k (let e : 2 * 2 ^ n ≡ 2 ^ suc n = omega arith in omega arith) (omega arith)
