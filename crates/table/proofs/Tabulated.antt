-- Tabulated lists, and words of yes-or-nos. Assumes nothing.
use Prim.Native.Nat.{ℕ, zero, suc, ◌+◌, ◌*◌, ◌^◌, ◌/◌, ◌%◌, ◌<◌}
use native.Mathlib.Nat.{pow-suc}
use native.Mathlib.Omega.{arith}
use mathlib.Core.Path.{◌≡◌, refl, ◌∙◌, ap, ap₂}
use mathlib.Core.Bool.{Bool, true, false}
use mathlib.Core.List.{List, [], ◌∷◌, map}
use lib.ListN.{length, get_or}
use Rattle.table.specs.Table.{bit, tabulate}
use Rattle.table.specs.Translation.{number, word}

module _ {A : Type 0} where
  pub length-tabulate : (f : ℕ → A) (i n : ℕ) → length (tabulate f i n) ≡ n
  unfolding tabulate
  length-tabulate f i zero = refl
  length-tabulate f i (suc n) = ap suc (length-tabulate f (suc i) n)

  pub at_tabulate : (f : ℕ → A) (d : A) (i n k : ℕ) → k < n → get_or (tabulate f i n) k d ≡ f (i + k)
  unfolding tabulate
  at_tabulate f d i zero k l = absurd (omega arith)
  at_tabulate f d i (suc n) zero l = ap f (omega arith)
  at_tabulate f d i (suc n) (suc k) l = at_tabulate f d (suc i) n k (omega arith) ∙ ap f (omega arith)

  pub at_tabulated : (f : ℕ → A) (d : A) (n k : ℕ) → k < n → get_or (tabulate f 0 n) k d ≡ f k
  at_tabulated f d n k l = at_tabulate f d 0 n k l ∙ ap f (omega arith)

  pub map-tabulate : {B : Type 0} (f : B → A) (g : ℕ → A) (d : B) (l : List B) (i : ℕ)
      → ((k : ℕ) → k < length l → f (get_or l k d) ≡ g (i + k)) → map f l ≡ tabulate g i (length l)
  unfolding tabulate
  map-tabulate f g d [] i h = refl
  map-tabulate f g d (b ∷ l) i h =
      ap₂ (λ x xs. x ∷ xs)
      (h 0 (omega arith) ∙ ap g (omega arith))
      (map-tabulate f g d l (suc i) (λ k m. h (suc k) (omega arith) ∙ ap g (omega arith)))

pub bit-zero : (p : ℕ) → bit 0 p ≡ false
unfolding bit
bit-zero zero = refl
bit-zero (suc p) = bit-zero p

lowest : (b : Bool) (w : ℕ) → ((number b + 2 * w) % 2 ≡ number b) × ((number b + 2 * w) / 2 ≡ w)
lowest true w = (omega arith, omega arith)
lowest false w = (omega arith, omega arith)

-- the bits of a word are what it is the word of
pub bit_word : (bs : List Bool) (p : ℕ) → bit (word bs) p ≡ get_or bs p false
unfolding bit word
bit_word [] p = bit-zero p
bit_word (true ∷ bs) zero = rw (lowest true (word bs)).0
bit_word (false ∷ bs) zero = rw (lowest false (word bs)).0
bit_word (b ∷ bs) (suc p) = rw (lowest b (word bs)).1 (bit_word bs p)

-- and it has no others
pub word_below : (bs : List Bool) → word bs < 2 ^ length bs
unfolding word
word_below [] = omega arith
word_below (true ∷ bs) = rw pow-suc (omega (arith, word_below bs))
word_below (false ∷ bs) = rw pow-suc (omega (arith, word_below bs))
