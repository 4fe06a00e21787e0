-- What holds of both arms of a choice holds of the choice.
-- Assumes nothing.
use mathlib.Core.Path.{◌≡◌, refl}
use mathlib.Core.Bool.{Bool, true, false}
use Rattle.laws.specs.Pick.{pick}

pub pick_both : {A : Type 0} (P : A → Type 0) (t : Bool) (a b : A) → (t ≡ true → P a) → (t ≡ false → P b) → P (pick t a b)
pick_both P true a b p q = p refl
pick_both P false a b p q = q refl
