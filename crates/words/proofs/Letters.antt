-- What a byte is among the letters: its lower case and its digit in a word's number.
-- Assumes nothing.
use mathlib.Core.Path.{◌≡◌}
use Prim.Native.Nat.{ℕ, ◌+◌, ◌-◌, ◌<◌, ◌≤◌}
use native.Mathlib.Omega.{arith}
use Rattle.laws.proofs.Ranges.{Ranged, ranged, below, inside, above}
use Rattle.words.specs.Vocabulary.{lower_of}
use Rattle.words.specs.Inside.Codes.{letter_of}

pub data Letter (b : ℕ) : Type 0 where
  upper : 65 ≤ b → b ≤ 90 → lower_of b ≡ b + 32 → letter_of b ≡ b - 64 → Letter b
  small : 97 ≤ b → b ≤ 122 → lower_of b ≡ b → letter_of b ≡ b - 96 → Letter b
  under : b < 65 → lower_of b ≡ b → letter_of b ≡ 27 → Letter b
  between : 90 < b → b < 97 → lower_of b ≡ b → letter_of b ≡ 27 → Letter b
  over : 122 < b → lower_of b ≡ b → letter_of b ≡ 27 → Letter b

pub letter_of_lem : (b : ℕ) → Letter b
unfolding letter_of
letter_of_lem b = go (ranged 65 90 b) (ranged 97 122 b)
  where
    go : Ranged 65 90 b → Ranged 97 122 b → Letter b
    go (inside e h l) r = upper h l (rw e) (rw e)
    go (below e h) (below f g) = under h (rw e) (rw (e, f))
    go (below e h) (inside f g k) = absurd (omega arith)
    go (below e h) (above f g) = absurd (omega arith)
    go (above e h) (below f g) = between h g (rw e) (rw (e, f))
    go (above e h) (inside f g k) = small g k (rw e) (rw (e, f))
    go (above e h) (above f g) = over g (rw e) (rw (e, f))

-- a digit of base 28, above 0
pub digit_some : (b : ℕ) → 0 < letter_of b
digit_some b = go (letter_of_lem b)
  where
    go : Letter b → 0 < letter_of b
    go (upper h l d e) = omega arith
    go (small h l d e) = omega arith
    go (under h d e) = omega arith
    go (between h l d e) = omega arith
    go (over h d e) = omega arith

pub digit-below : (b : ℕ) → letter_of b < 28
digit-below b = go (letter_of_lem b)
  where
    go : Letter b → letter_of b < 28
    go (upper h l d e) = omega arith
    go (small h l d e) = omega arith
    go (under h d e) = omega arith
    go (between h l d e) = omega arith
    go (over h d e) = omega arith

-- a byte and a small letter have one digit just where the letter is the byte's lower case
module _ (b c : ℕ) (h : 97 ≤ c) (l : c ≤ 122) where
  small-digit : letter_of c ≡ c - 96
  small-digit = go (letter_of_lem c)
    where
      go : Letter c → letter_of c ≡ c - 96
      go (upper p q d e) = absurd (omega arith)
      go (small p q d e) = e
      go (under p d e) = absurd (omega arith)
      go (between p q d e) = absurd (omega arith)
      go (over p d e) = absurd (omega arith)

  pub lower-digit : lower_of b ≡ c → letter_of b ≡ letter_of c
  lower-digit s = go (letter_of_lem b)
    where
      go : Letter b → letter_of b ≡ letter_of c
      go (upper p q d e) = omega (arith, small-digit)
      go (small p q d e) = omega (arith, small-digit)
      go (under p d e) = absurd (omega arith)
      go (between p q d e) = absurd (omega arith)
      go (over p d e) = absurd (omega arith)

  pub digit-lower : letter_of b ≡ letter_of c → lower_of b ≡ c
  digit-lower s = go (letter_of_lem b)
    where
      go : Letter b → lower_of b ≡ c
      go (upper p q d e) = omega (arith, small-digit)
      go (small p q d e) = omega (arith, small-digit)
      go (under p d e) = absurd (omega (arith, small-digit))
      go (between p q d e) = absurd (omega (arith, small-digit))
      go (over p d e) = absurd (omega (arith, small-digit))
