-- Words and integers. An unbroken run of letters, digits and underscores is one token, refused at its start if it is neither.
-- Assumes nothing: these are definitions.
use Rattle.std.specs.Prelude.{ℕ, ◌+◌, ◌≡◌, refl, Bool, true, false, not, List, [], ◌∷◌, ltb, get_or, length, Option, Some, None}
use Rattle.laws.specs.Pick.{pick}
use Rattle.laws.specs.Text.{bytes}
use Rattle.lexis.specs.Byte.{class_of, in_run, is_letter, is_digit, is_underscore}
use Rattle.lexis.specs.declared.token.Kind.{Kind}
use Rattle.lexis.specs.declared.token.Kind.TheVariants.{Word, Integer}

-- the place where the run ends that has come as far as i
unfoldable pub run_length : ℕ → List ℕ → ℕ
run_length i [] = i
run_length i (byte ∷ text) = let longer = run_length (i + 1) text in pick (in_run (class_of byte)) longer i

unfoldable pub all_digits : List ℕ → Bool
all_digits [] = true
all_digits (byte ∷ run) = let others = all_digits run in pick (is_digit (class_of byte)) others false

-- no two underscores side by side, and none last; after says that one stands before
unfoldable pub singles : (after : Bool) → List ℕ → Bool
singles after [] = not after
singles after (byte ∷ run) =
    let others = singles (is_underscore (class_of byte)) run in
    pick (pick after (is_underscore (class_of byte)) false) false others

-- the longest word
abbrev pub longest_word : ℕ
longest_word = 32

-- an integer is digits only; a word is a letter, then letters, digits and single underscores, none last
abbrev pub shape_of : List ℕ → Option Kind
shape_of run =
    pick (all_digits run) (Some Integer)
    (pick (ltb longest_word (length run)) None
    (pick (singles false run) (pick (is_letter (class_of (get_or run 0 0))) (Some Word) None) None))

word_of_32 : shape_of (bytes "a2345678901234567890123456789012") ≡ Some Word
unfolding class_of all_digits singles
word_of_32 = refl

word_of_33 : shape_of (bytes "a23456789012345678901234567890123") ≡ None
unfolding class_of all_digits singles
word_of_33 = refl

integer_of_33 : shape_of (bytes "123456789012345678901234567890123") ≡ Some Integer
unfolding class_of all_digits singles
integer_of_33 = refl

single : shape_of (bytes "a_b_1") ≡ Some Word
unfolding class_of all_digits singles
single = refl

last : shape_of (bytes "a_") ≡ None
unfolding class_of all_digits singles
last = refl

double : shape_of (bytes "a__b") ≡ None
unfolding class_of all_digits singles
double = refl

first : shape_of (bytes "_a") ≡ None
unfolding class_of all_digits singles
first = refl

digit_first : shape_of (bytes "3ns") ≡ None
unfolding class_of all_digits singles
digit_first = refl
