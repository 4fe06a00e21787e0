-- The units, one after the other, by their spellings.
-- Assumes nothing.
use Rattle.std.proofs.Common.{◌≡◌, refl, ℕ, Bool, true, false, List, [], ◌∷◌, cond}
use Rattle.std.specs.Prelude.{Option, Some, None}
use Rattle.std.specs.List.{find}
use Rattle.laws.specs.Pick.{pick}
use Rattle.words.specs.Unit.{spelling_of}
use Rattle.words.specs.Vocabulary.{same_word}
use Rattle.words.specs.declared.unit.TimeUnit.{TimeUnit}
use Rattle.words.specs.declared.unit.TimeUnit.TheVariants.{Fs, Ps, Ns, Us, Ms, Sec, Min, Hr}
use Rattle.stop.specs.Stop.{unit_of}

-- the word says the unit
abbrev pub says : List ℕ → TimeUnit → Bool
says word unit = same_word word (spelling_of unit)

abbrev pub units : List TimeUnit
units = Fs ∷ Ps ∷ Ns ∷ Us ∷ Ms ∷ Sec ∷ Min ∷ Hr ∷ []

first : (t : Bool) (a b c : Option TimeUnit) → b ≡ c → cond t a b ≡ pick t a c
first true a b c e = refl
first false a b c e = e

pub found : (word : List ℕ) → find (says word) units ≡ unit_of word
unfolding unit_of
found word =
    first (says word Fs) _ _ _ (first (says word Ps) _ _ _ (first (says word Ns) _ _ _ (first (says word Us) _ _ _
    (first (says word Ms) _ _ _ (first (says word Sec) _ _ _ (first (says word Min) _ _ _ (first (says word Hr) _ _ _ refl)))))))
