-- The header's lines, one behind the other, and its names.
-- Assumes nothing.
use Prim.Native.Nat.{ℕ, zero, suc, ◌+◌, ◌*◌, ◌-◌, ◌<◌, ◌≤◌}
use native.Mathlib.Omega.{arith}
use native.Mathlib.Numerals.{add-one}
use mathlib.Core.Path.{◌≡◌, refl, sym, ap, ◌∙◌, subst}
use mathlib.Core.List.{List, [], ◌∷◌, ◌++◌, append_assoc}
use lib.ListN.{length, get_or, set, take, length-append, length-map, length-take}
use lib.Seq.{sets, take-suc}
use Rattle.laws.proofs.Lists.{sets-append}
use Rattle.laws.specs.Text.{bytes}
use Rattle.words.specs.Token.{Name}
use Rattle.words.specs.Vocabulary.{lower_of, lower}
use Rattle.rules.specs.Dump.{identifier, variables, header}
use Rattle.look.specs.Inside.Looks.{kind_seen, name_at, look_of}
use Rattle.ledger.specs.Inside.Standing.{names_from, Shelf, Standing, Keeps, keeps_fine}
use Rattle.writing.specs.Inside.Written.{Writes}
use Rattle.writing.proofs.Buffers.{writes_both, writes-none}
use Rattle.names.specs.Judge.{State, fine}
use Rattle.names.specs.CircuitOf.{entity_name, signal_names}
use Rattle.rules.specs.Sizes.{buffer_bytes}
use Rattle.demands.specs.Shown.{design_header}
use Rattle.demands.proofs.Header.{accepted-header-fits}
use Rattle.look.specs.declared.Look.{Look}
use Rattle.reading.specs.Inside.Spots.{word_of}
use Rattle.reader.specs.Inside.Designs.{beginning, Survey, Surveyed, accepted_as, refused_as}
use Rattle.std.specs.Prelude.{Bool, true, false, eqb, Result, Ok, Err}
use Rattle.refusal.specs.declared.Refusal.{Refusal}
use Rattle.refusal.specs.Numbers.{number_of}
use Rattle.names.specs.Text.{refuses, Gets}
use Rattle.heading.specs.Headed.{Shows}
use Rattle.heading.specs.Inside.Lines.{variable}

-- a byte of a name in lower case
pub lower_at : (run : List ℕ) (i : ℕ) → i < length run → get_or (lower run) i 0 ≡ lower_of (get_or run i 0)
lower_at [] i h = absurd (omega arith)
lower_at (x ∷ run) zero h = refl
lower_at (x ∷ run) (suc i) h = lower_at run i (omega arith)

pub lower-length : (run : List ℕ) → length (lower run) ≡ length run
lower-length run = length-map run lower_of

-- one byte more of a text is written
pub copied_more : (out : List ℕ) (at i : ℕ) (text mid : List ℕ) → i < length text → mid ≡ sets out at (take i text)
    → set mid (at + i) (get_or text i 0) ≡ sets out at (take (suc i) text)
copied_more out at i text mid l e =
    rw (take-suc text i 0 l, sets-append out at (take i text) (get_or text i 0 ∷ []), ← e)
    (ap (λ j. set mid (at + j) (get_or text i 0)) (sym (length-take i text ∙ omega arith)))

-- the line of a signal in front of those of the others
pub variables_more : (k : ℕ) (n : Name) (ns : List Name) → variables k (n ∷ ns) ≡ variable k n ++ variables (suc k) ns
unfolding variables variable
variables_more k n ns =
    ap (λ (l : List ℕ). bytes "$var wire 1 " ++ (identifier k ∷ bytes " " ++ l)) (sym (append_assoc n (bytes " $end\n") (variables (suc k) ns)))

pub line_written : {out o1 o2 o3 o4 : List ℕ} {at a b c r : ℕ} (k : ℕ) {n : Name} → Writes out at (bytes "$var wire 1 ") a o1
    → Writes o1 a (identifier k ∷ bytes " ") b o2 → Writes o2 b n c o3 → Writes o3 c (bytes " $end\n") r o4 → Writes out at (variable k n) r o4
unfolding variable
line_written {out} {o1} {o2} {o3} {o4} {at} {a} {b} {c} {r} k {n} w1 w2 w3 w4 =
    writes_both out at (bytes "$var wire 1 ") _ a r o1 o4 w1
    (writes_both o1 a (identifier k ∷ bytes " ") _ b r o2 o4 w2
    (writes_both o2 b n (bytes " $end\n") c r o3 o4 w3 w4))

pub variable-length : (k : ℕ) (n : Name) → length (variable k n) ≡ 20 + length n
unfolding variable
variable-length k n = let h = length-append n (bytes " $end\n") in omega arith

-- THE NAMES OF A LEDGER

-- those from number k on
unfoldable pub names_on : (t l : List ℕ) (count k : ℕ) → List Name
names_on t l count k = names_from t l (6 + 2 * k) (count - k)

pub names_first : (t l : List ℕ) (count : ℕ) → names_on t l count 0 ≡ names_from t l 6 count
unfolding names_on
names_first t l count = let z : count - 0 ≡ count = omega arith in rw z

pub names-none : (t l : List ℕ) (count k : ℕ) → count ≤ k → names_on t l count k ≡ []
unfolding names_on names_from
names-none t l count k h = let z : count - k ≡ 0 = omega arith in rw z

pub names_next : (t l : List ℕ) (count k : ℕ) → k < count
    → names_on t l count k ≡ name_at t (get_or l (6 + 2 * k) 0) (get_or l (6 + 2 * k + 1) 0) ∷ names_on t l count (k + 1)
unfolding names_on names_from
names_next t l count k h =
    let z : count - k ≡ suc (count - (k + 1)) = omega arith in
    let e : 6 + 2 * k + 2 ≡ 6 + 2 * (k + 1) = omega arith in
    rw z (ap (λ (b : ℕ). name_at t (get_or l (6 + 2 * k) 0) (get_or l (6 + 2 * k + 1) 0) ∷ names_from t l b (count - (k + 1))) e)

-- ALL LINES, one after the other

module _ (t l : List ℕ) (count : ℕ) where
  -- what is written from line k on stands behind what was written before
  abbrev pub Onward : (out : List ℕ) (at : ℕ) (out' : List ℕ) (at' k : ℕ) → Type 0
  Onward out at out' at' k = (r : ℕ) (o : List ℕ) → Writes out' at' (variables k (names_on t l count k)) r o → Writes out at (variables 0 (names_from t l 6 count)) r o

  pub onward_first : (out : List ℕ) (at : ℕ) → Onward out at out at 0
  onward_first out at r o w = subst (λ (ns : List Name). Writes out at (variables 0 ns) r o) (names_first t l count) w

  pub split_line : (k : ℕ) → k < count
      → variables k (names_on t l count k) ≡ variable k (name_at t (get_or l (6 + 2 * k) 0) (get_or l (6 + 2 * k + 1) 0)) ++ variables (k + 1) (names_on t l count (k + 1))
  split_line k h =
      ap (variables k) (names_next t l count k h) ∙ rw (add-one k) (variables_more k (name_at t (get_or l (6 + 2 * k) 0) (get_or l (6 + 2 * k + 1) 0)) (names_on t l count (suc k)))

  pub onward_more : (out : List ℕ) (at : ℕ) {o1 o2 : List ℕ} {a1 a2 : ℕ} (k : ℕ) → k < count
      → Writes o1 a1 (variable k (name_at t (get_or l (6 + 2 * k) 0) (get_or l (6 + 2 * k + 1) 0))) a2 o2 → Onward out at o1 a1 k → Onward out at o2 a2 (k + 1)
  onward_more out at {o1} {o2} {a1} {a2} k h w f r o v =
      f r o (subst (λ (bs : List ℕ). Writes o1 a1 bs r o) (sym (split_line k h)) (writes_both o1 a1 _ _ a2 r o2 o w v))

  pub onward_last : (out : List ℕ) (at : ℕ) {o1 : List ℕ} {a1 : ℕ} (k : ℕ) → count ≤ k → Onward out at o1 a1 k → Writes out at (variables 0 (names_from t l 6 count)) a1 o1
  unfolding variables
  onward_last out at {o1} {a1} k h f = f a1 o1 (subst (λ (ns : List Name). Writes o1 a1 (variables k ns) a1 o1) (sym (names-none t l count k h)) (writes-none o1 a1))

  -- there is room for the line and for those behind it
  pub line_fits : (a k m : ℕ) → k < count → a + length (variables k (names_on t l count k)) ≤ m
      → a + length (variable k (name_at t (get_or l (6 + 2 * k) 0) (get_or l (6 + 2 * k + 1) 0))) + length (variables (k + 1) (names_on t l count (k + 1))) ≤ m
  line_fits a k m h g =
      let e = ap length (split_line k h) ∙ length-append (variable k (name_at t (get_or l (6 + 2 * k) 0) (get_or l (6 + 2 * k + 1) 0))) (variables (k + 1) (names_on t l count (k + 1))) in
      omega arith

-- THE WHOLE HEADER

pub header-length : (e : Name) (ns : List Name) → length (header e ns) ≡ 35 + (length e + (6 + (length (variables 0 ns) + 35)))
unfolding header
header-length e ns =
    let a = length-append e (bytes " $end\n" ++ (variables 0 ns ++ bytes "$upscope $end\n$enddefinitions $end\n")) in
    let b = length-append (variables 0 ns) (bytes "$upscope $end\n$enddefinitions $end\n") in
    omega arith

pub header-written : {out o1 o2 o3 o4 o5 : List ℕ} {b c d e r : ℕ} {n : Name} (ns : List Name) → Writes out 0 (bytes "$timescale 1 fs $end\n$scope module ") b o1
    → Writes o1 b n c o2 → Writes o2 c (bytes " $end\n") d o3 → Writes o3 d (variables 0 ns) e o4 → Writes o4 e (bytes "$upscope $end\n$enddefinitions $end\n") r o5
    → Writes out 0 (header n ns) r o5
unfolding header
header-written {out} {o1} {o2} {o3} {o4} {o5} {b} {c} {d} {e} {r} {n} ns w1 w2 w3 w4 w5 =
    writes_both out 0 (bytes "$timescale 1 fs $end\n$scope module ") _ b r o1 o5 w1
    (writes_both o1 b n _ c r o2 o5 w2
    (writes_both o2 c (bytes " $end\n") _ d r o3 o5 w3
    (writes_both o3 d (variables 0 ns) (bytes "$upscope $end\n$enddefinitions $end\n") e r o4 o5 w4 w5)))

stands_of : {s l : List ℕ} {y : State} → Keeps 0 s l (fine y) → Standing 0 s l y
stands_of (keeps_fine x) = x

module _ {s l : List ℕ} (v : Survey s l) where
  pub survey_shelf : Shelf s l 6 (get_or l 2 0) × (get_or l 2 0 ≤ 64)
  survey_shelf = let y = stands_of v.keeps in (y.signals, y.few_signals)

  pub survey_names : names_from s l 6 (get_or l 2 0) ≡ signal_names v.tree
  survey_names = sym (stands_of v.keeps).signals_are ∙ v.names

  -- the entity's name stands behind the first token
  behind_first : (word_of s beginning 0).at ≡ (look_of s 0).end
  unfolding word_of
  behind_first = go (eqb (kind_seen (look_of s 0)) 0) refl
    where
      go : (b : Bool) → eqb (kind_seen (look_of s 0)) 0 ≡ b → (word_of s beginning 0).at ≡ (look_of s 0).end
      go true e = rw e
      go false e = let z : ◌≡◌ {A = ℕ} 3 0 = rw e at v.begun in absurd (omega arith)

  pub survey_own : {first own : Look} → first ≡ look_of s 0 → own ≡ look_of s first.end → own ≡ look_of s (word_of s beginning 0).at
  survey_own e g = rw (behind_first, ← e) g

  pub survey_fits : (own : Look) → own ≡ look_of s (word_of s beginning 0).at
      → 35 + (length (name_at s own.start own.end) + (6 + (length (variables 0 (names_from s l 6 (get_or l 2 0))) + 35))) ≤ 4096
  unfolding design_header
  survey_fits own e =
      let n : name_at s own.start own.end ≡ entity_name v.tree = ap (λ (t : Look). name_at s t.start t.end) e ∙ sym v.named in
      rw (n, survey_names) (subst (λ (m : ℕ). m ≤ 4096) (header-length (entity_name v.tree) (signal_names v.tree)) (accepted-header-fits s v.tree v.gets))

  pub survey_shows : {out after : List ℕ} {r : ℕ} (own : Look) → own ≡ look_of s (word_of s beginning 0).at → buffer_bytes ≤ length out
      → Writes out 0 (header (name_at s own.start own.end) (names_from s l 6 (get_or l 2 0))) r after → Shows s out r after
  survey_shows {out} {after} {r} own e h w =
      let n : name_at s own.start own.end ≡ entity_name v.tree = ap (λ (t : Look). name_at s t.start t.end) e ∙ sym v.named in
      let x : Writes out 0 (header (entity_name v.tree) (signal_names v.tree)) r after = rw (n, survey_names) at w in
      record { long = h; tree = v.tree; gets = v.gets; counted = x.end ∙ omega arith; bytes = x.bytes }

-- by the answer of the survey

pub survey_refused : {s l : List ℕ} {refusal : Refusal} → Surveyed s (Err refusal) l → Gets s (refuses (number_of refusal.reason) refusal.place)
survey_refused (refused_as g) = g

accepted_in : {s l : List ℕ} → Surveyed s (Ok tt) l → Survey s l
accepted_in (accepted_as x) = x

pub survey_accepted : {s l : List ℕ} {r : Result (Unit {0}) Refusal} → Surveyed s r l → r ≡ Ok tt → Survey s l
survey_accepted d e = accepted_in (rw e at d)
