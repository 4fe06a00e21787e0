-- Going on from an outcome. Assumes nothing.
use mathlib.Core.Path.{◌≡◌, refl}
use Rattle.rules.specs.Outcome.{Outcome, refuses, gives, ◌then◌}

-- two ways to go on from one outcome agree where they agree on what it gives
pub onward : {A B C : Type 0} (o : Outcome A) (f : A → Outcome C) (g : A → Outcome B) (h : B → Outcome C)
    → ((a : A) → f a ≡ (g a then h)) → (o then f) ≡ (o then g then h)
onward (refuses r) f g h e = refl
onward (gives a) f g h e = e a

pub onward₂ : {A B B' C : Type 0} (o : Outcome A) (f : A → Outcome B') (k : B' → Outcome C) (g : A → Outcome B) (h : B → Outcome C)
    → ((a : A) → (f a then k) ≡ (g a then h)) → (o then f then k) ≡ (o then g then h)
onward₂ (refuses r) f k g h e = refl
onward₂ (gives a) f k g h e = e a

-- what is given, if anything, has this property
abbrev pub Gives : {A : Type 0} → (A → Type 0) → Outcome A → Type 0
Gives P (refuses r) = Unit {0}
Gives P (gives a) = P a

pub gives_then : {A B : Type 0} (P : A → Type 0) (Q : B → Type 0) (o : Outcome A) (f : A → Outcome B)
    → Gives P o → ((a : A) → P a → Gives Q (f a)) → Gives Q (o then f)
gives_then P Q (refuses r) f g h = tt
gives_then P Q (gives a) f g h = h a g
