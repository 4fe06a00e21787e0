-- Quoted texts as bytes, so that a specification shows words and designs as they are written.
-- Assumes nothing: these are definitions. Every character of a text that is quoted here is of ASCII, one byte.
use Rattle.std.specs.Prelude.{ℕ, zero, suc, ◌+◌, ◌≡◌, refl, List, [], ◌∷◌, ◌++◌}
use Prim.Native.Char.{code}
use Prim.Native.String.{String, len, char_at}

-- so many bytes of the text, from place i on
abbrev pub bytes_from : ℕ → ℕ → String → List ℕ
bytes_from zero i text = []
bytes_from (suc count) i text = code (char_at text i) ∷ bytes_from count (i + 1) text

abbrev pub bytes : String → List ℕ
bytes text = bytes_from (len text) 0 text

-- lines, each ended by LF
abbrev pub lines : List String → List ℕ
lines [] = []
lines (line ∷ others) = bytes line ++ 10 ∷ lines others

example : bytes "end;\n" ≡ 101 ∷ 110 ∷ 100 ∷ 59 ∷ 10 ∷ []
example = refl

two_lines : lines ("is" ∷ "" ∷ []) ≡ 105 ∷ 115 ∷ 10 ∷ 10 ∷ []
two_lines = refl
