-- The value of a formula: report 249, rules b_i to b_viii, and literals; and how many steps it is to find it.
-- Assumes nothing: these are definitions.
use Rattle.std.specs.Prelude.{ℕ, ◌+◌, ◌≡◌, refl, Bool, true, false, not, ◌&&◌, ◌||◌, List, [], get_or}
use Rattle.syntax.specs.Circuit.{Operator, AND, OR, NAND, NOR, XOR, XNOR, Formula, signal, constant, negated, combined}

-- the values of the signals, in declared order
abbrev pub Values : Type 0
Values = List Bool

-- one of the two, and not the other
abbrev pub differ : Bool → Bool → Bool
differ true b = not b
differ false b = b

-- b_ii to b_vii
abbrev pub combine : Operator → Bool → Bool → Bool
combine AND a b = a && b
combine OR a b = a || b
combine NAND a b = not (a && b)
combine NOR a b = not (a || b)
combine XOR a b = differ a b
combine XNOR a b = not (differ a b)

-- b_viii, literals, b_i, and the rest
unfoldable pub value : Values → Formula → Bool
value vs (signal k) = get_or vs k false
value vs (constant b) = b
value vs (negated e) = not (value vs e)
value vs (combined o a b) = combine o (value vs a) (value vs b)

-- one for each name, literal and operator
unfoldable pub size : Formula → ℕ
size (signal k) = 1
size (constant b) = 1
size (negated e) = size e + 1
size (combined o a b) = size a + size b + 1

-- `true nand true` is false
P4 : value [] (combined NAND (constant true) (constant true)) ≡ false
unfolding value
P4 = refl

-- `not q` takes two steps
two_steps : size (negated (signal 0)) ≡ 2
unfolding size
two_steps = refl
