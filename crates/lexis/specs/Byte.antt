-- The classes of bytes. Letters, digits, blanks and marks are told apart by byte value.
-- Assumes nothing: these are definitions.
use Rattle.std.specs.Prelude.{ℕ, Bool, true, false, leb}
use Rattle.laws.specs.Pick.{pick, within}
use Rattle.lexis.specs.declared.byte.Class.{Class}
use Rattle.lexis.specs.declared.byte.Class.TheVariants.{Letter, Digit, Underscore, Space, LineEnd, Mark, Other, High}

unfoldable pub class_of : ℕ → Class
class_of byte =
    pick (within 65 90 byte) Letter  -- A to Z
    (pick (within 97 122 byte) Letter  -- a to z
    (pick (within 48 57 byte) Digit  -- 0 to 9
    (pick (within 95 95 byte) Underscore
    (pick (within 10 13 byte) LineEnd  -- LF, VT, FF, CR
    (pick (within 9 9 byte) Space  -- tab
    (pick (within 32 32 byte) Space  -- space
    (pick (within 40 41 byte) Mark  -- ( )
    (pick (within 44 45 byte) Mark  -- , -
    (pick (within 58 61 byte) Mark  -- : ; < =
    (pick (leb 128 byte) High Other))))))))))

-- one answer for each class
abbrev pub by_class : {A : Type 0} → Class → (letter digit underscore space line_end mark other high : A) → A
by_class Letter l d u s e m o h = l
by_class Digit l d u s e m o h = d
by_class Underscore l d u s e m o h = u
by_class Space l d u s e m o h = s
by_class LineEnd l d u s e m o h = e
by_class Mark l d u s e m o h = m
by_class Other l d u s e m o h = o
by_class High l d u s e m o h = h

abbrev pub in_run : Class → Bool
in_run class = by_class class true true true false false false false false

abbrev pub is_letter : Class → Bool
is_letter class = by_class class true false false false false false false false

abbrev pub is_digit : Class → Bool
is_digit class = by_class class false true false false false false false false

abbrev pub is_underscore : Class → Bool
is_underscore class = by_class class false false true false false false false false
