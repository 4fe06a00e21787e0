-- A token lies within its text, and is not empty.
-- Assumes nothing.
use mathlib.Core.Path.{◌≡◌, refl, subst}
use mathlib.Core.Bool.{Bool, true, false}
use mathlib.Core.List.{List, [], ◌∷◌}
use Prim.Native.Nat.{ℕ, ◌+◌, ◌-◌, ◌<◌, ◌≤◌}
use native.Mathlib.Omega.{arith}
use native.Mathlib.Nat.{le_refl}
use borrow.Author.Tests.{eqb-true, eqb-false}
use lib.Dec.{eqb}
use lib.ListN.{length, drop, take, get_or, length-drop}
use Rattle.laws.proofs.Picks.{pick_both}
use Rattle.lexis.specs.Byte.{class_of, by_class, in_run}
use Rattle.std.specs.Prelude.{Option, Some, None, Result, Ok, Err}
use Rattle.lexis.specs.Blank.{none_at, dashes_of, step_of, on_step, skip_from}
use Rattle.lexis.specs.Run.{run_length, shape_of}
use Rattle.lexis.specs.Token.{lexeme, mark_of, run_token, or_refused, lexeme_of, Scan, Within, placed_at, on_skipped, scan_of}
use Rattle.lexis.specs.declared.byte.Class.{Class}
use Rattle.lexis.specs.declared.byte.Class.TheVariants.{Letter, Digit, Underscore, Space, LineEnd, Mark, Other, High}
use Rattle.lexis.specs.declared.blank.Step.{Step}
use Rattle.lexis.specs.declared.blank.Step.TheVariants.{Pass, Stop, Refuse}
use Rattle.lexis.specs.declared.NoToken.{NoToken}
use Rattle.lexis.specs.declared.token.Kind.{Kind}
use Rattle.lexis.specs.declared.token.Kind.TheVariants.{Open, Close, Comma, Colon, Semicolon, Arrow, Becomes}
use Rattle.lexis.specs.declared.token.Lexeme.{Lexeme}

-- RUNS

pub run-within : (i : ℕ) (s : List ℕ) → (i ≤ run_length i s) × (run_length i s ≤ i + length s)
unfolding run_length
run-within i [] = (le_refl i, omega arith)
run-within i (b ∷ s) =
    let h = run-within (i + 1) s in
    pick_both (λ (n : ℕ). (i ≤ n) × (n ≤ i + length (b ∷ s))) (in_run (class_of b)) (run_length (i + 1) s) i
    (λ e. (omega (arith, h.0), omega (arith, h.1))) (λ e. (le_refl i, omega arith))

run_some : (s : List ℕ) → (length s ≡ 0 → ⊥) → in_run (class_of (get_or s 0 0)) ≡ true → 0 < run_length 0 s
unfolding run_length
run_some [] z t = absurd (z refl)
run_some (b ∷ s) z t = rw t (omega (arith, (run-within (0 + 1) s).0))

-- BLANKS

abbrev pub place_of : Result ℕ NoToken → ℕ
place_of (Ok n) = n
place_of (Err none) = none.place

on_step_lem : (r : Step) (p q : Result ℕ NoToken) (i k : ℕ) → place_of p ≤ k → place_of q ≤ k → i ≤ k → place_of (on_step r p q (Ok i) (Err (none_at i))) ≤ k
on_step_lem (Pass true) p q i k a b h = a
on_step_lem (Pass false) p q i k a b h = b
on_step_lem Stop p q i k a b h = h
on_step_lem Refuse p q i k a b h = h

pub skip-within : (m : Bool) (i : ℕ) (s : List ℕ) → place_of (skip_from m i s) ≤ i + length s
unfolding skip_from
skip-within m i [] = omega arith
skip-within m i (b ∷ s) =
    on_step_lem (step_of m (class_of b) (dashes_of (b ∷ s))) (skip_from true (i + 1) s) (skip_from false (i + 1) s) i (i + length (b ∷ s))
    (omega (arith, skip-within true (i + 1) s)) (omega (arith, skip-within false (i + 1) s)) (omega arith)

-- TOKENS

-- a token of a text of n bytes
abbrev pub Fits : ℕ → Option Lexeme → Type 0
Fits n (Some found) = (0 < found.length) × (found.length ≤ n)
Fits n None = Unit {0}

run_fits : (n l : ℕ) (k : Option Kind) → 0 < l → l ≤ n → Fits n (run_token k l)
run_fits n l (Some k) a b = (a, b)
run_fits n l None a b = tt

-- a second byte is there where it is not 0
second : (s : List ℕ) → eqb (get_or s 1 0) 61 ≡ true → 2 ≤ length s
second [] e = absurd (omega (arith, eqb-true 0 61 e))
second (a ∷ []) e = absurd (omega (arith, eqb-true 0 61 e))
second (a ∷ b ∷ s) e = omega arith

mark_fits : (s : List ℕ) → (length s ≡ 0 → ⊥) → Fits (length s) (mark_of (get_or s 0 0) (get_or s 1 0))
unfolding mark_of
mark_fits s z =
    let one : 1 ≤ length s = omega (arith, z) in
    let single : (0 < 1) × (1 ≤ length s) = (omega arith, one) in
    let F = Fits (length s) in
    let a = get_or s 0 0 in
    let u = eqb (get_or s 1 0) 61 in
    pick_both F (eqb a 40) (lexeme Open 1) _ (λ _. single) (λ _.
    pick_both F (eqb a 41) (lexeme Close 1) _ (λ _. single) (λ _.
    pick_both F (eqb a 44) (lexeme Comma 1) _ (λ _. single) (λ _.
    pick_both F (eqb a 59) (lexeme Semicolon 1) _ (λ _. single) (λ _.
    pick_both F (eqb a 58) _ _ (λ _. pick_both F u (lexeme Becomes 2) (lexeme Colon 1) (λ e. (omega arith, second s e)) (λ _. single)) (λ _.
    pick_both F (eqb a 60) _ _ (λ _. pick_both F u (lexeme Arrow 2) None (λ e. (omega arith, second s e)) (λ _. tt)) (λ _. tt))))))

by_class_lem : (n : ℕ) (k : Class) (run mark : Option Lexeme) → (in_run k ≡ true → Fits n run) → Fits n mark
    → Fits n (by_class k run run run None None mark None None)
by_class_lem n Letter run mark p q = p refl
by_class_lem n Digit run mark p q = p refl
by_class_lem n Underscore run mark p q = p refl
by_class_lem n Space run mark p q = tt
by_class_lem n LineEnd run mark p q = tt
by_class_lem n Mark run mark p q = q
by_class_lem n Other run mark p q = tt
by_class_lem n High run mark p q = tt

-- nothing stands where the text has ended
abbrev pub Stands : ℕ → Result (Option Lexeme) NoToken → Type 0
Stands n (Ok found) = Fits n found
Stands n (Err none) = Unit {0}

or_refused_lem : (n : ℕ) (x : Option Lexeme) → Fits n x → Stands n (or_refused x)
or_refused_lem n (Some found) f = f
or_refused_lem n None f = tt

pub lexeme_fits : (s : List ℕ) → Stands (length s) (lexeme_of s)
unfolding lexeme_of
lexeme_fits s =
    pick_both (Stands (length s)) (eqb (length s) 0) (Ok None) _ (λ e. tt)
    (λ e. let z : length s ≡ 0 → ⊥ = eqb-false (length s) 0 e in
    or_refused_lem (length s) _
    (by_class_lem (length s) (class_of (get_or s 0 0)) _ _
    (λ t. run_fits (length s) (run_length 0 s) (shape_of (take (run_length 0 s) s)) (run_some s z t) (omega (arith, (run-within 0 s).1)))
    (mark_fits s z)))

placed-within : (n i : ℕ) (x : Result (Option Lexeme) NoToken) → i ≤ n → Stands (n - i) x → Within n (placed_at i x)
placed-within n i (Ok (Some found)) h f = (f.0, omega (arith, f.1))
placed-within n i (Ok None) h f = tt
placed-within n i (Err none) h f = h

on_skipped_lem : (r : Result ℕ NoToken) (s : List ℕ) → place_of r ≤ length s → Within (length s) (on_skipped r s)
on_skipped_lem (Ok n) s h =
    placed-within (length s) n (lexeme_of (drop n s)) h (subst (λ (m : ℕ). Stands m (lexeme_of (drop n s))) (length-drop n s) (lexeme_fits (drop n s)))
on_skipped_lem (Err none) s h = h

pub scan_within : (s : List ℕ) → Within (length s) (scan_of s)
unfolding scan_of
scan_within s = on_skipped_lem (skip_from false 0 s) s (omega (arith, skip-within false 0 s))

-- of the rest of a text, from place n on
pub rest-within : (s : List ℕ) (n : ℕ) (r : Scan) → scan_of (drop n s) ≡ r → Within (length s - n) r
rest-within s n r e = subst (λ (m : ℕ). Within m r) (length-drop n s) (subst (Within (length (drop n s))) e (scan_within (drop n s)))
