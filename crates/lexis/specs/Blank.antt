-- Blanks and comments. `--` starts a comment that ends before the next LF, VT, FF or CR, or with the text;
-- bytes of 128 or more are refused at their own place even in comments. Assumes nothing: these are definitions.
use Rattle.std.specs.Prelude.{ℕ, ◌+◌, ◌≡◌, refl, Bool, true, false, List, [], ◌∷◌, ◌++◌, eqb, get_or, Result, Ok, Err}
use Rattle.laws.specs.Pick.{pick}
use Rattle.laws.specs.Text.{bytes}
use Rattle.lexis.specs.Byte.{class_of, by_class}
use Rattle.lexis.specs.declared.byte.Class.{Class}
use Rattle.lexis.specs.declared.blank.Step.{Step}
use Rattle.lexis.specs.declared.blank.Step.TheVariants.{Pass, Stop, Refuse}
use Rattle.lexis.specs.declared.NoToken.{NoToken}

-- no token stands at a place
abbrev pub none_at : ℕ → NoToken
none_at place = record { place = place }

-- two dashes stand at the start
abbrev pub dashes_of : List ℕ → Bool
dashes_of text = pick (eqb (get_or text 0 0) 45) (eqb (get_or text 1 0) 45) false

-- what a byte does, in a comment and outside of one: it is passed, and what follows is in a comment or not; or it stops the skip, or is refused
abbrev pub step_of : (inside : Bool) → Class → (dashes : Bool) → Step
step_of true class dashes =
    by_class class (Pass true) (Pass true) (Pass true) (Pass true) (Pass false) (Pass true) (Pass true) Refuse
step_of false class dashes =
    by_class class Stop Stop Stop (Pass false) (Pass false) (pick dashes (Pass true) Stop) Stop Stop

abbrev pub on_step : Step → (comment blank stop refuse : Result ℕ NoToken) → Result ℕ NoToken
on_step (Pass inside) comment blank stop refuse = pick inside comment blank
on_step Stop comment blank stop refuse = stop
on_step Refuse comment blank stop refuse = refuse

-- where blanks and comments end, from place i on; inside says that a comment has begun
unfoldable pub skip_from : (inside : Bool) → ℕ → List ℕ → Result ℕ NoToken
skip_from inside i [] = Ok i
skip_from inside i (byte ∷ text) =
    let comment = skip_from true (i + 1) text in
    let blank = skip_from false (i + 1) text in
    on_step (step_of inside (class_of byte) (dashes_of (byte ∷ text))) comment blank (Ok i) (Err (none_at i))

blanks : skip_from false 0 (bytes " \t-- to the end\n -a") ≡ Ok 17
unfolding class_of skip_from
blanks = refl

to_the_end : skip_from false 0 (bytes "--") ≡ Ok 2
unfolding class_of skip_from
to_the_end = refl

high_in_comment : skip_from false 0 (bytes "-- " ++ 195 ∷ 169 ∷ []) ≡ Err (none_at 3)
unfolding class_of skip_from
high_in_comment = refl
