-- Where a text is refused, and with which numbers: 1 to 10, at a place within the text, and 1 at place 0.
-- So a number and a place fit one 64-bit word. Assumes nothing.
use Prim.Native.Nat.{ℕ, zero, suc, ◌+◌, ◌≤◌, ◌<◌}
use native.Mathlib.Omega.{arith}
use mathlib.Core.Path.{◌≡◌, refl, subst}
use mathlib.Core.Bool.{Bool}
use mathlib.Core.Logic.{inl, inr}
use mathlib.Core.List.{List, [], ◌∷◌, map}
use lib.ListN.{length, get_or, drop, length-drop}
use Rattle.std.specs.Prelude.{Option, Some, None, Ok, Err}
use Rattle.lexis.specs.Token.{Placed, Scan, Within, scan_of, on_scan, over_text, first_refused, tokens_of, placed_token}
use Rattle.lexis.proofs.Bounds.{scan_within}
use Rattle.names.specs.Roles.{Role, declares, labels, listens, reads, assigns, belongs, closes, opens, delays, counts, passes, design_roles}
use Rattle.names.specs.Judge.{State, nothing_yet, next, faults, Holds, AppliesFrom}
use Rattle.names.specs.Text.{most_bytes, refuses, place_of, Gets, too_long, not_lexical, no_sentence, too_deep, faulty}

-- PLACES

abbrev RefusedUpTo : ℕ → Option ℕ → Type 0
RefusedUpTo n (Some p) = p ≤ n
RefusedUpTo n None = Unit {0}

abbrev refused_over : (scans i : ℕ) → List ℕ → Option ℕ
refused_over = over_text (λ token rest. rest) None Some

-- a text from place i up to place n
refused_up_to : (scans i n : ℕ) (s : List ℕ) → i + length s ≤ n → RefusedUpTo n (refused_over scans i s)
unfolding over_text
refused_up_to zero i n s h = tt
refused_up_to (suc scans) i n s h = by_scan (refused_up_to scans) (scan_of s) (scan_within s)
  where
    by_scan : ((j m : ℕ) (t : List ℕ) → j + length t ≤ m → RefusedUpTo m (refused_over scans j t))
        → (r : Scan) → Within (length s) r
        → RefusedUpTo n (on_scan r (λ kind start size. refused_over scans (i + (start + size)) (drop (start + size) s)) None (λ place. Some (i + place)))
    by_scan again (Ok (Some found)) w = again (i + (found.start + found.length)) n (drop (found.start + found.length) s) (rw length-drop (omega (arith, w.1)))
    by_scan again (Ok None) w = tt
    by_scan again (Err none) w = omega (arith, w)

abbrev tokens_over : (scans i : ℕ) → List ℕ → List Placed
tokens_over = over_text (λ token rest. token ∷ rest) [] (λ place. [])

abbrev start_at : List Placed → (k n : ℕ) → ℕ
start_at ts k n = get_or (map (λ p. p.start) ts) k n

starts_up_to : (scans i n k : ℕ) (s : List ℕ) → i + length s ≤ n → start_at (tokens_over scans i s) k n ≤ n
unfolding over_text
starts_up_to zero i n k s h = omega arith
starts_up_to (suc scans) i n k s h = by_scan (starts_up_to scans) (scan_of s) (scan_within s) k
  where
    by_scan : ((j m q : ℕ) (t : List ℕ) → j + length t ≤ m → start_at (tokens_over scans j t) q m ≤ m)
        → (r : Scan) → Within (length s) r → (q : ℕ)
        → start_at (on_scan r (λ kind start size. placed_token i kind start size s ∷ tokens_over scans (i + (start + size)) (drop (start + size) s)) [] (λ place. [])) q n ≤ n
    by_scan again (Ok (Some found)) w zero = omega (arith, w.1)
    by_scan again (Ok (Some found)) w (suc q) = again (i + (found.start + found.length)) n q (drop (found.start + found.length) s) (rw length-drop (omega (arith, w.1)))
    by_scan again (Ok None) w q = omega arith
    by_scan again (Err none) w q = omega arith

first_within : (text : List ℕ) (p : ℕ) → first_refused text ≡ Some p → p ≤ length text
unfolding first_refused
first_within text p e = subst (RefusedUpTo (length text)) e (refused_up_to (length text + 1) 0 (length text) text (omega arith))

place-within : (text : List ℕ) (k : ℕ) → place_of text k ≤ length text
unfolding tokens_of
place-within text k = starts_up_to (length text + 1) 0 (length text) k text (omega arith)

-- NUMBERS

abbrev FiveToTen : List (ℕ × Bool) → Type 0
FiveToTen [] = Unit {0}
FiveToTen (row ∷ rows) = (5 ≤ row.0) × (row.0 ≤ 10) × FiveToTen rows

faults_five_to_ten : (y : State) (r : Role) → FiveToTen (faults y r)
faults_five_to_ten y (declares n) = (omega arith, omega arith, (omega arith, omega arith, tt))
faults_five_to_ten y (labels n) = (omega arith, omega arith, tt)
faults_five_to_ten y (listens n) = (omega arith, omega arith, tt)
faults_five_to_ten y (reads n) = (omega arith, omega arith, (omega arith, omega arith, tt))
faults_five_to_ten y (assigns n) = (omega arith, omega arith, (omega arith, omega arith, (omega arith, omega arith, tt)))
faults_five_to_ten y (belongs e n) = (omega arith, omega arith, tt)
faults_five_to_ten y (closes o n) = (omega arith, omega arith, tt)
faults_five_to_ten y opens = (omega arith, omega arith, tt)
faults_five_to_ten y (delays n u) = (omega arith, omega arith, tt)
faults_five_to_ten y (counts k) = (omega arith, omega arith, tt)
faults_five_to_ten y passes = tt

holds_five_to_ten : (n : ℕ) (rows : List (ℕ × Bool)) → FiveToTen rows → Holds n rows → (5 ≤ n) × (n ≤ 10)
holds_five_to_ten n [] f h = absurd h
holds_five_to_ten n (row ∷ rows) f (inl h) = (omega (arith, h.0, f.0), omega (arith, h.0, f.1))
holds_five_to_ten n (row ∷ rows) f (inr h) = holds_five_to_ten n rows f.2 h

applies_five_to_ten : (rs : List Role) (y : State) (k n : ℕ) → AppliesFrom y rs k n → (5 ≤ n) × (n ≤ 10)
applies_five_to_ten [] y k n a = absurd a
applies_five_to_ten (r ∷ rs) y zero n a = holds_five_to_ten n (faults y r) (faults_five_to_ten y r) a
applies_five_to_ten (r ∷ rs) y (suc k) n a = applies_five_to_ten rs (next y r) k n a

-- THE LAWS

pub refused-number : (text : List ℕ) {number place : ℕ} → Gets text (refuses number place) → (0 < number) × (number ≤ 10)
refused-number text (too_long h) = (omega arith, omega arith)
refused-number text (not_lexical h e) = (omega arith, omega arith)
refused-number text (no_sentence k s r) = (omega arith, omega arith)
refused-number text (too_deep k s r) = (omega arith, omega arith)
refused-number text (faulty {d} k {number} w f) =
    let h = applies_five_to_ten (design_roles d) nothing_yet k number f.applies in (omega (arith, h.0), h.1)

pub refused-within : (text : List ℕ) {number place : ℕ} → Gets text (refuses number place) → place ≤ length text
refused-within text (too_long h) = omega arith
refused-within text (not_lexical {place} h e) = first_within text place e
refused-within text (no_sentence k s r) = place-within text k
refused-within text (too_deep k s r) = place-within text k
refused-within text (faulty k w f) = place-within text k

-- no place is past the longest text: 1 is refused at place 0
pub refused-early : (text : List ℕ) {number place : ℕ} → Gets text (refuses number place) → place ≤ most_bytes
refused-early text (too_long h) = omega arith
refused-early text (not_lexical {place} h e) = omega (arith, h, first_within text place e)
refused-early text (no_sentence k s r) = omega (arith, s.short, place-within text k)
refused-early text (too_deep k s r) = omega (arith, s.short, place-within text k)
refused-early text (faulty k w f) = omega (arith, w.scanned.short, place-within text k)

pub refused-long : (text : List ℕ) {place : ℕ} → Gets text (refuses 1 place) → place ≡ 0
refused-long text g = only-long 1 refl g
  where
    only-long : (number : ℕ) {place : ℕ} → number ≡ 1 → Gets text (refuses number place) → place ≡ 0
    only-long number e (too_long h) = refl
    only-long number e (not_lexical h x) = absurd (omega (arith, e))
    only-long number e (no_sentence k s r) = absurd (omega (arith, e))
    only-long number e (too_deep k s r) = absurd (omega (arith, e))
    only-long number e (faulty {d} k w f) = absurd (omega (arith, e, (applies_five_to_ten (design_roles d) nothing_yet k number f.applies).0))
