-- An outcome: what is given, or a refusal with its number. Assumes nothing: these are definitions.
use Rattle.std.specs.Prelude.{ℕ}

pub data Outcome (A : Type 0) : Type 0 where
  refuses : ℕ → Outcome A
  gives : A → Outcome A

-- go on with what is given; the first refusal is that of the whole
infixl 20 ◌then◌
abbrev pub ◌then◌ : {A B : Type 0} → Outcome A → (A → Outcome B) → Outcome B
◌then◌ (refuses r) f = refuses r
◌then◌ (gives a) f = f a
