-- A word as a number, and the numbers of the rows: what the code searches in place of the vocabulary's rows.
-- Assumes nothing.
use Rattle.std.specs.Prelude.{ℕ, ◌+◌, ◌-◌, ◌*◌, List, [], ◌∷◌, map}
use Rattle.laws.specs.Pick.{pick, within}
use Rattle.laws.specs.Text.{bytes}
use Rattle.words.specs.Vocabulary.{Row, vocabulary}

-- 1 to 26 for a letter in either case, and 27 for any other byte
unfoldable pub letter_of : ℕ → ℕ
letter_of byte = pick (within 65 90 byte) (byte - 64) (pick (within 97 122 byte) (byte - 96) 27)

-- the letters as digits in base 28, the first the lowest
unfoldable pub code_of : List ℕ → ℕ
code_of [] = 0
code_of (byte ∷ word) = code_of word * 28 + letter_of byte

abbrev pub row_code : Row → ℕ
row_code r = code_of (bytes r.spelling)

unfoldable pub codes : List ℕ
codes = map row_code vocabulary
