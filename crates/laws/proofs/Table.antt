-- A rule of a table, proved at all of its rows by one test that antt computes, one row after the other.
-- Assumes nothing.
use mathlib.Core.Path.{◌≡◌, refl}
use mathlib.Core.Bool.{Bool, true, false}
use mathlib.Core.List.{List, [], ◌∷◌}
use lib.Dec.{T}
use Rattle.laws.specs.Pick.{pick}

-- the test passes at each row
abbrev pub every : {A : Type 0} → (A → Bool) → List A → Bool
every f [] = true
every f (x ∷ xs) = let others = every f xs in pick (f x) others false

pub first_passes : (a b : Bool) → T (pick a b false) → a ≡ true
first_passes true b t = refl
first_passes false b t = absurd t

pub others_pass : (a b : Bool) → T (pick a b false) → T b
others_pass true b t = t
others_pass false b t = absurd t
