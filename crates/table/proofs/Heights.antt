-- How many operands there are at each instruction of a translation: one number each, at most 34. Assumes nothing.
use Prim.Native.Nat.{ℕ, zero, suc, ◌+◌, ◌-◌, ◌≤◌, ◌<◌}
use native.Mathlib.Nat.{add-zero}
use native.Mathlib.Omega.{arith}
use mathlib.Core.Path.{◌≡◌, refl, sym, ◌∙◌, ap, subst}
use mathlib.Core.Logic.{⊎_elim}
use mathlib.Core.List.{List, [], ◌∷◌}
use lib.ListN.{length, get_or, drop}
use lib.Seq.{get_or-drop}
use Rattle.syntax.specs.Circuit.{Formula, signal, constant, negated, combined, Actions, done, assign, branch, null}
use Rattle.rules.specs.Sizes.{most_operands}
use Rattle.rules.specs.Formulas.{size}
use Rattle.rules.specs.Sized.{instructions, operands, Keeps}
use Rattle.table.specs.Instructions.{Instruction, name, literal, negation, binary, assignment, test, skip, takes, leaves}
use Rattle.table.specs.Fit.{at, Ahead, Leads, Way, begin, on, Sound}
use Rattle.table.specs.Translation.{formula_code, code}
use Rattle.table.proofs.Translating.{length-code}

-- the instruction at x with h operands, where hs are the numbers from the next address on
Stands : ℕ → Instruction → ℕ → List ℕ → Type 0
Stands x (name k) h hs = (h + 1 ≤ most_operands) × (get_or hs 0 0 ≡ h + 1)
Stands x (literal b) h hs = (h + 1 ≤ most_operands) × (get_or hs 0 0 ≡ h + 1)
Stands x negation h hs = (1 ≤ h) × (get_or hs 0 0 ≡ h)
Stands x (binary o) h hs = (2 ≤ h) × (get_or hs 0 0 + 1 ≡ h)
Stands x (assignment k d) h hs = (1 ≤ h) × (get_or hs 0 0 + 1 ≡ h)
Stands x (test t) h hs = (get_or hs 0 0 + 1 ≡ h) × (get_or hs (t - suc x) 0 + 1 ≡ h)
Stands x (skip t) h hs = Unit {0} × (get_or hs (t - suc x) 0 ≡ h)

Fits : ℕ → List Instruction → List ℕ → Type 0
Fits x [] hs = get_or hs 0 0 ≡ 0
Fits x (i ∷ is) hs = Stands x i (get_or hs 0 0) (drop 1 hs) × Fits (suc x) is (drop 1 hs)

-- the numbers of a formula's instructions, with h operands below it, and of statements, in front of those that follow
formula_heights : ℕ → Formula → List ℕ → List ℕ
formula_heights h (signal k) r = h ∷ r
formula_heights h (constant b) r = h ∷ r
formula_heights h (negated e) r = formula_heights h e ((h + 1) ∷ r)
formula_heights h (combined o a b) r = formula_heights h a (formula_heights (h + 1) b ((h + 2) ∷ r))

heights : Actions → List ℕ → List ℕ
heights done r = r
heights (assign k e d ss) r = formula_heights 0 e (1 ∷ heights ss r)
heights (branch e a b ss) r = formula_heights 0 e (1 ∷ heights a (0 ∷ heights b (heights ss r)))
heights (null ss) r = heights ss r

formula_head : (e : Formula) (h : ℕ) (r : List ℕ) → get_or (formula_heights h e r) 0 0 ≡ h
unfolding formula_heights
formula_head (signal k) h r = refl
formula_head (constant b) h r = refl
formula_head (negated e) h r = formula_head e h _
formula_head (combined o a b) h r = formula_head a h _

formula_beyond : (e : Formula) (h j : ℕ) (r : List ℕ) {k : ℕ} → size e + j ≡ k → get_or (formula_heights h e r) k 0 ≡ get_or r j 0
unfolding formula_heights size
formula_beyond (signal i) h j r {k} hk = let g : k ≡ suc j = omega arith in rw g
formula_beyond (constant b) h j r {k} hk = let g : k ≡ suc j = omega arith in rw g
formula_beyond (negated e) h j r hk = formula_beyond e h (suc j) _ (omega arith)
formula_beyond (combined o a b) h j r hk = formula_beyond a h (size b + suc j) _ (omega arith) ∙ formula_beyond b _ (suc j) _ refl

head : (ss : Actions) (r : List ℕ) → get_or r 0 0 ≡ 0 → get_or (heights ss r) 0 0 ≡ 0
unfolding heights
head done r g = g
head (assign k e d ss) r g = formula_head e 0 _
head (branch e a b ss) r g = formula_head e 0 _
head (null ss) r g = head ss r g

beyond : (ss : Actions) (j : ℕ) (r : List ℕ) {k : ℕ} → instructions ss + j ≡ k → get_or (heights ss r) k 0 ≡ get_or r j 0
unfolding heights instructions
beyond done j r hk = ap (λ i. get_or r i 0) (omega arith)
beyond (assign i e d ss) j r hk = formula_beyond e 0 (suc (instructions ss + j)) _ (omega arith) ∙ beyond ss j r refl
beyond (branch e a b ss) j r hk =
    formula_beyond e 0 (suc (instructions a + suc (instructions b + (instructions ss + j)))) _ (omega arith)
    ∙ beyond a (suc (instructions b + (instructions ss + j))) _ refl
    ∙ beyond b (instructions ss + j) _ refl
    ∙ beyond ss j r refl
beyond (null ss) j r hk = beyond ss j r hk

formula_fits : (e : Formula) (x h : ℕ) (is : List Instruction) (r : List ℕ) {y : ℕ} → x + size e ≡ y → h + operands e ≤ most_operands → get_or r 0 0 ≡ h + 1
    → Fits y is r → Fits x (formula_code e is) (formula_heights h e r)
unfolding formula_heights formula_code size operands Fits Stands
formula_fits (signal k) x h is r {y} hy g e f = ((omega arith, e), let q : suc x ≡ y = omega arith in rw q f)
formula_fits (constant b) x h is r {y} hy g e f = ((omega arith, e), let q : suc x ≡ y = omega arith in rw q f)
formula_fits (negated a) x h is r {y} hy g e f =
    formula_fits a x h _ _ refl g refl ((omega arith, e), let q : suc (x + size a) ≡ y = omega arith in rw q f)
formula_fits (combined o a b) x h is r {y} hy g e f =
    formula_fits a x h _ _ refl (omega arith) (formula_head b (h + 1) _)
    (formula_fits b _ (h + 1) _ _ refl (omega arith) (omega arith)
    ((omega arith, omega arith), let q : suc (x + size a + size b) ≡ y = omega arith in rw q f))

fits : (n : ℕ) (ss : Actions) (x : ℕ) (is : List Instruction) (r : List ℕ) {y z : ℕ} → x ≡ y → x + instructions ss ≡ z → Keeps n ss → get_or r 0 0 ≡ 0
    → Fits z is r → Fits x (code y ss is) (heights ss r)
unfolding heights code instructions Keeps Fits Stands
fits n done x is r {y} {z} hy hz g e f = let q : x ≡ z = omega arith in rw q f
fits n (assign k a d ss) x is r hy hz g e f =
    formula_fits a x 0 _ _ refl (omega (arith, g.2)) (omega arith)
    ((omega arith, omega (arith, head ss r e)), fits n ss _ is r (omega arith) (omega arith) g.4 e f)
fits n (branch c a b ss) x is r {y} {z} hy hz g e f =
    let hs = head ss r e in
    let hb = head b (heights ss r) hs in
    formula_fits c x 0 _ _ refl (omega (arith, g.0)) (omega arith) (
      (
        omega (arith, head a (0 ∷ heights b (heights ss r)) refl),
        omega (arith, beyond a 1 (0 ∷ heights b (heights ss r)) {k = y + (size c + 1) + (instructions a + 1) - suc (x + size c)} (omega arith), hb),
      ),
      fits n a _ _ _ (omega arith) refl g.2 refl (
        (tt, beyond b 0 (heights ss r) (omega arith) ∙ hs),
        fits n b _ _ _ (omega arith) refl g.3 hs
            (fits n ss _ is r (omega arith) (omega arith) g.4 e f),
      ),
    )
fits n (null ss) x is r hy hz g e f = fits n ss x is r hy hz g e f

-- what the numbers say at the k-th instruction
dropped : (hs : List ℕ) (k : ℕ) → drop (suc k) hs ≡ drop k (drop 1 hs)
dropped [] zero = refl
dropped [] (suc k) = refl
dropped (h ∷ hs) k = refl

later : (hs : List ℕ) (j : ℕ) → get_or (drop 1 hs) j 0 ≡ get_or hs (suc j) 0
later [] j = refl
later (h ∷ hs) j = refl

stands : (x : ℕ) (is : List Instruction) (hs : List ℕ) (k : ℕ) → Fits x is hs → k < length is
    → Stands (x + k) (at is k) (get_or hs k 0) (drop (suc k) hs)
unfolding Fits
stands x [] hs k f h = absurd (omega arith)
stands x (i ∷ is) hs zero f h = rw add-zero f.0
stands x (i ∷ is) hs (suc k) f h =
    let e : x + suc k ≡ suc x + k = omega arith in
    rw (e, ← later hs k, dropped hs (suc k)) (stands (suc x) is (drop 1 hs) k f.1 (omega arith))

ends : (x : ℕ) (is : List Instruction) (hs : List ℕ) → Fits x is hs → get_or hs (length is) 0 ≡ 0
unfolding Fits
ends x [] hs f = f
ends x (i ∷ is) hs f = sym (later hs (length is)) ∙ ends (suc x) is (drop 1 hs) f.1

beside : (hs : List ℕ) (k m : ℕ) {j : ℕ} → suc k + m ≡ j → get_or (drop (suc k) hs) m 0 ≡ get_or hs j 0
beside hs k m e = get_or-drop (suc k) hs m 0 ∙ ap (λ i. get_or hs i 0) e

-- one instruction of a way keeps to the numbers
moves : (i : Instruction) (x k j z : ℕ) (hs : List ℕ) → Stands (x + k) i (get_or hs k 0) (drop (suc k) hs) → Ahead z (x + k) i
    → Leads i (x + k) (x + j) → get_or hs k 0 ≤ most_operands
    → (get_or hs k 0 - takes i + leaves i ≡ get_or hs j 0) × (get_or hs j 0 ≤ most_operands)
unfolding Stands
moves (name i) x k j z hs s a l m = let e = beside hs k 0 {j = j} (omega arith) in (omega arith, omega arith)
moves (literal b) x k j z hs s a l m = let e = beside hs k 0 {j = j} (omega arith) in (omega arith, omega arith)
moves negation x k j z hs s a l m = let e = beside hs k 0 {j = j} (omega arith) in (omega arith, omega arith)
moves (binary o) x k j z hs s a l m = let e = beside hs k 0 {j = j} (omega arith) in (omega arith, omega arith)
moves (assignment i d) x k j z hs s a l m = let e = beside hs k 0 {j = j} (omega arith) in (omega arith, omega arith)
moves (test t) x k j z hs s a l m =
    ⊎_elim
    (λ g. let e = beside hs k 0 {j = j} (omega arith) in (omega arith, omega arith))
    (λ g. let e = beside hs k (t - suc (x + k)) {j = j} (omega arith) in (omega arith, omega arith))
    l
moves (skip t) x k j z hs s a l m = let e = beside hs k (t - suc (x + k)) {j = j} (omega arith) in (omega arith, omega arith)

suffices : (i : Instruction) (x h : ℕ) (hs : List ℕ) → Stands x i h hs → takes i ≤ h
unfolding Stands
suffices (name k) x h hs s = omega arith
suffices (literal b) x h hs s = omega arith
suffices negation x h hs s = omega arith
suffices (binary o) x h hs s = omega arith
suffices (assignment k d) x h hs s = omega arith
suffices (test t) x h hs s = omega arith
suffices (skip t) x h hs s = omega arith

-- every jump of the translation goes forward, and not past z
AllAhead : ℕ → ℕ → List Instruction → Type 0
AllAhead z x [] = Unit {0}
AllAhead z x (i ∷ is) = Ahead z x i × AllAhead z (suc x) is

ahead_at : (z x : ℕ) (is : List Instruction) (k : ℕ) → AllAhead z x is → k < length is → Ahead z (x + k) (at is k)
unfolding AllAhead
ahead_at z x [] k a l = absurd (omega arith)
ahead_at z x (i ∷ is) zero a l = rw add-zero a.0
ahead_at z x (i ∷ is) (suc k) a l =
    let e : x + suc k ≡ suc x + k = omega arith in
    rw e (ahead_at z (suc x) is k a.1 (omega arith))

formula_ahead : (e : Formula) (z x : ℕ) (is : List Instruction) {y : ℕ} → x + size e ≡ y → AllAhead z y is → AllAhead z x (formula_code e is)
unfolding AllAhead formula_code size
formula_ahead (signal k) z x is {y} h a = (tt, let e : suc x ≡ y = omega arith in rw e a)
formula_ahead (constant b) z x is {y} h a = (tt, let e : suc x ≡ y = omega arith in rw e a)
formula_ahead (negated c) z x is {y} h a = formula_ahead c z x _ refl (tt, let e : suc (x + size c) ≡ y = omega arith in rw e a)
formula_ahead (combined o c d) z x is {y} h a =
    formula_ahead c z x _ refl (formula_ahead d z _ _ refl (tt, let e : suc (x + size c + size d) ≡ y = omega arith in rw e a))

aheads : (ss : Actions) (z x : ℕ) (is : List Instruction) {y w : ℕ} → x ≡ y → x + instructions ss ≡ w → w ≤ z → AllAhead z w is → AllAhead z x (code y ss is)
unfolding AllAhead code instructions
aheads done z x is {y} {w} h g m a = let e : x ≡ w = omega arith in rw e a
aheads (assign k c d ss) z x is h g m a = formula_ahead c z x _ refl (tt, aheads ss z _ is (omega arith) (omega arith) m a)
aheads (branch c p q ss) z x is h g m a =
    formula_ahead c z x _ refl (
      (omega arith, omega arith),
      aheads p z _ _ (omega arith) refl (omega arith) (
        (omega arith, omega arith),
        aheads q z _ _ (omega arith) refl (omega arith) (aheads ss z _ is (omega arith) (omega arith) m a),
      ),
    )
aheads (null ss) z x is h g m a = aheads ss z x is h g m a

-- what an instruction may be followed by lies ahead, and not past the end
pub leads-ahead : (i : Instruction) (z x y : ℕ) → Ahead z x i → x < z → Leads i x y → (x < y) × (y ≤ z)
leads-ahead (name k) z x y a l e = (omega arith, omega arith)
leads-ahead (literal b) z x y a l e = (omega arith, omega arith)
leads-ahead negation z x y a l e = (omega arith, omega arith)
leads-ahead (binary o) z x y a l e = (omega arith, omega arith)
leads-ahead (assignment k d) z x y a l e = (omega arith, omega arith)
leads-ahead (test t) z x y a l e = ⊎_elim (λ g. (omega arith, omega arith)) (λ g. (omega arith, omega arith)) e
leads-ahead (skip t) z x y a l e = (omega arith, omega arith)

-- instructions that lie from address x on in a table's, with such numbers, are sound
module _ (whole : List Instruction) (x : ℕ) (is : List Instruction) (hs : List ℕ)
    (same : (k : ℕ) → k < length is → at whole (x + k) ≡ at is k) (f : Fits x is hs) (b : get_or hs 0 0 ≡ 0)
    (a : AllAhead (x + length is) x is) where
  record Arrives (y h : ℕ) : Type 0 where
    place : ℕ
    lies : y ≡ x + place
    near : place ≤ length is
    number : h ≡ get_or hs place 0
    few : h ≤ most_operands

  further : (v g y : ℕ) → Arrives v g → v < x + length is → Leads (at whole v) v y → Arrives y (g - takes (at whole v) + leaves (at whole v))
  further v g y r l e =
      let k = r.place in
      let v-lies : v ≡ x + k = r.lies in
      let inside : k < length is = omega arith in
      let c : at whole v ≡ at is k = ap (at whole) r.lies ∙ same k inside in
      let u : Leads (at is k) (x + k) y = subst (λ z. Leads (at is k) z y) v-lies (subst (λ i. Leads i v y) c e) in
      let up = leads-ahead (at is k) (x + length is) (x + k) y (ahead_at (x + length is) x is k a inside) (omega arith) u in
      let lies : y ≡ x + (y - x) = omega arith in
      let m =
      moves (at is k) x k (y - x) (x + length is) hs (stands x is hs k f inside) (ahead_at (x + length is) x is k a inside)
      (subst (λ z. Leads (at is k) (x + k) z) lies u) (omega (arith, r.number, r.few)) in
      rw (c, r.number) (record { place = y - x; lies = lies; near = omega arith; number = m.0; few = omega arith })

  arrives : (y h : ℕ) → Way whole x (x + length is) y h → Arrives y h
  arrives y h begin = record { place = 0; lies = omega arith; near = omega arith; number = sym b; few = omega arith }
  arrives y h (on {x = v} {h = g} w way l e) = further v g y (arrives v g way) l e

  one_number : (y h g : ℕ) → Arrives y h → Arrives y g → h ≡ g
  one_number y h g r q =
      let p = r.lies in
      let o = q.lies in
      let z : r.place ≡ q.place = omega arith in
      r.number ∙ ap (λ k. get_or hs k 0) z ∙ sym q.number

  within : (y h : ℕ) → Arrives y h → y < x + length is → takes (at whole y) ≤ h
  within y h r l =
      let p = r.lies in
      let inside : r.place < length is = omega arith in
      let c : at whole y ≡ at is r.place = ap (at whole) r.lies ∙ same r.place inside in
      rw (c, r.number) (suffices (at is r.place) (x + r.place) _ _ (stands x is hs r.place f inside))

  last : (h : ℕ) → Arrives (x + length is) h → h ≡ 0
  last h r =
      let p = r.lies in
      let z : r.place ≡ length is = omega arith in
      r.number ∙ ap (λ k. get_or hs k 0) z ∙ ends x is hs f

  forward : (y : ℕ) → x ≤ y → y < x + length is → Ahead (x + length is) y (at whole y)
  forward y lo hi =
      let z : x + (y - x) ≡ y = omega arith in
      subst (λ v. Ahead (x + length is) v (at whole v)) z
      (subst (λ i. Ahead (x + length is) (x + (y - x)) i) (sym (same (y - x) (omega arith))) (ahead_at (x + length is) x is (y - x) a (omega arith)))

  sound : Sound whole x (x + length is)
  sound =
      record {
        ahead = forward;
        enough = λ y h w l. within y h (arrives y h w) l;
        most = λ y h w. (arrives y h w).few;
        same = λ y h g w v. one_number y h g (arrives y h w) (arrives y g v);
        ended = λ h w. last h (arrives (x + length is) h w);
      }

-- the theorem: statements whose formulas keep the operands are translated to sound instructions, wherever these lie
pub sound-code : (n : ℕ) (ss : Actions) (whole : List Instruction) (x : ℕ) → Keeps n ss
    → ((k : ℕ) → k < length (code x ss []) → at whole (x + k) ≡ at (code x ss []) k) → Sound whole x (x + length (code x ss []))
unfolding Fits AllAhead
sound-code n ss whole x keeps same =
    sound whole x (code x ss []) (heights ss (0 ∷ [])) same (fits n ss x [] (0 ∷ []) refl refl keeps refl refl) (head ss (0 ∷ []) refl)
    (aheads ss _ x [] refl refl (omega (arith, length-code ss x [])) tt)
