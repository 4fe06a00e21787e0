-- A walk over the places of a word's bits, lowest first. Assumes nothing.
use Prim.Native.Nat.{ℕ, zero, suc, ◌+◌, ◌*◌, ◌/◌, ◌^◌, ◌<◌, ◌≤◌}
use mathlib.Core.Path.{◌≡◌, refl, ap, sym, ◌∙◌}
use mathlib.Core.Bool.{Bool, true, false, true≢false}
use mathlib.Core.Logic.{⊎_elim}
use native.Mathlib.Omega.{arith}
use mir.Syntax.{w64}
use lib.Bits.{bit_xor, bit_and, xor_add_and, xor_lt}
use lib.Count.{count_trailing_zeros}
use lib.Pow.{pow_pos, pow_mono}
use Rattle.std.specs.Int.{bit_at}
use Rattle.std.proofs.lemmas.Nat.Bits.{bit_at_lowest, bit_at-suc, and_pow, bit_at-trailing_zeros}
use Rattle.laws.proofs.Cases.{side, by}
use Rattle.rules.specs.Formulas.{differ}
use Rattle.table.specs.Table.{bit}
use Rattle.table.proofs.Tabulated.{bit-zero}
use Rattle.cells.specs.Cells.{truth}
use Rattle.cells.proofs.Words.{bit-xor, bit_same, bit_other, bit-above, one_below}

-- a bit is 1 where the word has it
pub bit-at : (n p : ℕ) → bit n p ≡ truth (bit_at n p)
unfolding bit
bit-at n zero = ap truth (sym (bit_at_lowest n))
bit-at n (suc p) = bit-at (n / 2) p ∙ ap truth (sym (bit_at-suc n p))

-- without a bit that it has, a word is less
pub less-without : (n z : ℕ) → bit_at n z ≡ 1 → bit_xor n (1 * 2 ^ z) < n
less-without n z set =
    let one : 1 * 2 ^ z ≡ 2 ^ z = omega arith in
    let both : bit_and n (2 ^ z) ≡ 2 ^ z = and_pow n z ∙ ap (λ b. b * 2 ^ z) set ∙ one in
    let positive : 0 < 2 ^ z = pow_pos z in
    rw one (omega (arith, xor_add_and n (2 ^ z), both))

gone : (a b : Bool) → a ≡ true → b ≡ true → differ a b ≡ false
gone a b p q = rw (p, q) refl

kept : (b : Bool) → differ b false ≡ b
kept true = refl
kept false = refl

pub less-lowest : (n : ℕ) → 0 < n → n < 2 ^ 64 → bit_xor n (1 * 2 ^ count_trailing_zeros 64 n) < n
less-lowest n some fits = let lowest = bit_at-trailing_zeros w64 n some fits in less-without n (count_trailing_zeros 64 n) lowest.1

-- m has the bits of the word from place k on, and no other
pub record Walk (word limit m k : ℕ) : Type 0 where
  pub low : k ≤ limit
  pub small : m < 2 ^ limit
  pub past : (j : ℕ) → j < k → bit m j ≡ false
  pub bits : (j : ℕ) → k ≤ j → bit m j ≡ bit word j

pub walk_first : (word limit : ℕ) → word < 2 ^ limit → Walk word limit word 0
walk_first word limit l = record { low = omega arith; small = l; past = λ j h. absurd (omega arith); bits = λ j h. refl }

-- the next place is z, with none between, and m is what is left then
pub record Next (word limit k z m : ℕ) : Type 0 where
  pub inside : z < limit
  pub from : k ≤ z
  pub set : bit word z ≡ true
  pub unset : (j : ℕ) → k ≤ j → j < z → bit word j ≡ false
  pub next : Walk word limit m (z + 1)

module _ {word limit m k : ℕ} (w : Walk word limit m k) where
  pub walk_last : m ≡ 0 → (j : ℕ) → k ≤ j → bit word j ≡ false
  walk_last e j l = sym (w.bits j l) ∙ ap (λ x. bit x j) e ∙ bit-zero j

  lowest_next : limit ≤ 64 → 0 < m → Next word limit k (count_trailing_zeros 64 m) (bit_xor m (1 * 2 ^ count_trailing_zeros 64 m))
  lowest_next few some =
      record {
        inside = inside;
        from = from;
        set = sym (w.bits z from) ∙ here;
        unset = λ j l h. sym (w.bits j l) ∙ below j h;
        next = record {
          low = omega (arith, inside);
          small = xor_lt limit m (1 * 2 ^ z) w.small (one_below z limit inside);
          past = λ j h. by j z (λ e. rw e (bit-xor m (1 * 2 ^ z) z ∙ gone (bit m z) (bit (1 * 2 ^ z) z) here (bit_same z)))
              (λ ne. others j ne ∙ below j (omega arith));
          bits = λ j h. others j (λ e. omega arith) ∙ w.bits j (omega (arith, from));
        };
      }
    where
      z : ℕ
      z = count_trailing_zeros 64 m

      fits : m < 2 ^ 64
      fits = omega (arith, w.small, pow_mono few)

      here : bit m z ≡ true
      here = let lowest = bit_at-trailing_zeros w64 m some fits in bit-at m z ∙ ap truth lowest.1

      below : (j : ℕ) → j < z → bit m j ≡ false
      below j l = let lowest = bit_at-trailing_zeros w64 m some fits in bit-at m j ∙ ap truth (lowest.2 j l)

      inside : z < limit
      inside = ⊎_elim (λ l. l) (λ h. absurd (true≢false (sym here ∙ bit-above limit m z w.small h))) (side z limit)

      from : k ≤ z
      from = ⊎_elim (λ h. absurd (true≢false (sym here ∙ w.past z h))) (λ l. l) (side z k)

      others : (j : ℕ) → (j ≡ z → ⊥) → bit (bit_xor m (1 * 2 ^ z)) j ≡ bit m j
      others j ne = bit-xor m (1 * 2 ^ z) j ∙ ap (differ (bit m j)) (bit_other z j ne) ∙ kept (bit m j)

  -- what a call of `next` gave
  pub walk_next : limit ≤ 64 → {z left : ℕ} → (0 < m) × (z ≡ count_trailing_zeros 64 m) × (left ≡ bit_xor m (1 * 2 ^ z)) → Next word limit k z left
  walk_next few goes = rw (goes.2, goes.1) (lowest_next few goes.0)
