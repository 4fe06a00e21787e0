-- The grammar's machine from a spot of a text on: one token taken, refused, or left for what must follow.
-- Assumes nothing.
use Prim.Native.Nat.{ℕ, ◌<◌, ◌≤◌}
use mathlib.Core.Path.{◌≡◌, refl, sym, ap, ◌∙◌}
use mathlib.Core.Bool.{false}
use mathlib.Core.Option.{none, some}
use mathlib.Core.List.{List, ◌∷◌, ◌++◌, map}
use lib.ListN.{length}
use borrow.Author.Tests.{eq-eqb, ne_eqb}
use Rattle.words.specs.Token.{Token}
use Rattle.lexis.specs.Token.{Placed}
use Rattle.syntax.specs.Tree.{Design}
use Rattle.syntax.specs.Sentence.{Verdict, accepted, refused3, refused4, most_open}
use Rattle.syntax.proofs.Machine.{Values, Step, made, weights, later, run_none, run_some, run-deep}
use Rattle.syntax.proofs.Rows.{Symbol, Value, rows, next}
use Rattle.syntax.proofs.Nesting.{weight}
use Rattle.syntax.proofs.Theorem.{run}
use Rattle.look.specs.declared.Look.{Look}
use Rattle.look.specs.Inside.Looks.{kind_seen, part, token_of_look}
use Rattle.look.proofs.Looks.{There, Gone, View, there, gone}
use Rattle.look.proofs.Numbers.{taken_by, stuck}
use Rattle.reading.specs.Inside.Spots.{Reached, tokens_from, starts_from, placed_verdict, machine, verdict, past, unfit, deep}

placed-later : (e p : ℕ) (ps : List ℕ) (o : Verdict Design) → placed_verdict e (p ∷ ps) (later o) ≡ placed_verdict e ps o
placed-later e p ps (accepted d) = refl
placed-later e p ps (refused3 k) = refl
placed-later e p ps (refused4 k) = refl

-- what the machine says of these tokens
abbrev over : List ℕ → List Placed → (ss : List Symbol) → (Values Value ss → Design) → Verdict Design
over s ls ss k = placed_verdict (length s) (map (λ p. p.start) ls) (run (map (λ p. p.token) ls) ss k)

module _ {s : List ℕ} {at : ℕ} {t : Look} (x : There s at t) (X : Symbol) (ss : List Symbol) (k : Values Value (X ∷ ss) → Design) where
  pub machine_some : (st : Step Value X) → next X (token_of_look s t) ≡ some st → weights weight (st.push ++ ss) ≤ most_open
      → machine s at (X ∷ ss) k ≡ machine s t.end (st.push ++ ss) (λ us. k (made Value st ss us))
  unfolding machine
  machine_some st n h =
      ap (λ (ls : List Placed). over s ls (X ∷ ss) k) x.tokens
      ∙ ap (placed_verdict (length s) (t.start ∷ starts_from s t.end))
      (run_some Value next weight most_open X (token_of_look s t) (map (λ p. p.token) (tokens_from s t.end)) ss k st n h)
      ∙ placed-later (length s) t.start (starts_from s t.end) (run (map (λ p. p.token) (tokens_from s t.end)) (st.push ++ ss) (λ us. k (made Value st ss us)))

  pub machine-deep : (st : Step Value X) → next X (token_of_look s t) ≡ some st → ¬ (weights weight (st.push ++ ss) ≤ most_open)
      → machine s at (X ∷ ss) k ≡ refused4 t.start
  unfolding machine
  machine-deep st n h =
      ap (λ (ls : List Placed). over s ls (X ∷ ss) k) x.tokens
      ∙ ap (placed_verdict (length s) (t.start ∷ starts_from s t.end))
      (run-deep Value next weight most_open X (token_of_look s t) (map (λ p. p.token) (tokens_from s t.end)) ss k st n h)

  pub machine-none : next X (token_of_look s t) ≡ none → machine s at (X ∷ ss) k ≡ refused3 t.start
  unfolding machine
  machine-none n =
      ap (λ (ls : List Placed). over s ls (X ∷ ss) k) x.tokens
      ∙ ap (placed_verdict (length s) (t.start ∷ starts_from s t.end))
      (run_none Value next weight most_open X (token_of_look s t) (map (λ p. p.token) (tokens_from s t.end)) ss k n)

pub machine_end : {s : List ℕ} {at : ℕ} {t : Look} → Gone s at t → (X : Symbol) (ss : List Symbol) (k : Values Value (X ∷ ss) → Design)
    → machine s at (X ∷ ss) k ≡ refused3 t.start
unfolding machine
machine_end {s} x X ss k = ap (λ (ls : List Placed). over s ls (X ∷ ss) k) x.tokens ∙ ap refused3 (sym x.start)

-- no row of X takes the token
pub machine_stuck : {s : List ℕ} {at : ℕ} {t : Look} → View s at t → (X : Symbol)
    → ((small : kind_seen t < 117) → taken_by (part s t.start t.end) (kind_seen t) small (rows X) ≡ false)
    → (ss : List Symbol) (k : Values Value (X ∷ ss) → Design) → machine s at (X ∷ ss) k ≡ refused3 t.start
machine_stuck {s} {at} {t} (there x) X e ss k = machine-none x X ss k (stuck (part s t.start t.end) (kind_seen t) x.kind X (e x.kind))
machine_stuck (gone x) X e ss k = machine_end x X ss k

-- two symbols that do the same with this token
pub machine_same : {s : List ℕ} {at : ℕ} {t : Look} → View s at t → (X Y : Symbol) (ss zs : List Symbol)
    (k : Values Value (X ∷ ss) → Design) (g : Values Value (Y ∷ zs) → Design)
    → ((small : kind_seen t < 117) (ts : List Token) → run (token_of_look s t ∷ ts) (X ∷ ss) k ≡ run (token_of_look s t ∷ ts) (Y ∷ zs) g)
    → machine s at (X ∷ ss) k ≡ machine s at (Y ∷ zs) g
unfolding machine
machine_same {s} {at} {t} (there x) X Y ss zs k g e =
    ap (λ (ls : List Placed). over s ls (X ∷ ss) k) x.tokens
    ∙ ap (placed_verdict (length s) (t.start ∷ starts_from s t.end)) (e x.kind (map (λ p. p.token) (tokens_from s t.end)))
    ∙ sym (ap (λ (ls : List Placed). over s ls (Y ∷ zs) g) x.tokens)
machine_same (gone x) X Y ss zs k g e = machine_end x X ss k ∙ sym (machine_end x Y zs g)

-- FROM A SPOT

module _ (s : List ℕ) (p : Reached) where
  pub on : p.number ≡ 0 → (ss : List Symbol) (k : Values Value ss → Design) → verdict s p ss k ≡ machine s p.at ss k
  unfolding verdict
  on f ss k = rw (eq-eqb p.number 0 f)

  -- what is refused stays so
  pub off : (p.number ≡ 0 → ⊥) → (ss zs : List Symbol) (k : Values Value ss → Design) (g : Values Value zs → Design) → verdict s p ss k ≡ verdict s p zs g
  unfolding verdict
  off f ss zs k g = rw (ne_eqb p.number 0 f)

  module _ (f : p.number ≡ 0) {t : Look} (n : ℕ) (X : Symbol) where
    pub some_moves : There s p.at t → (st : Step Value X) → next X (token_of_look s t) ≡ some st
        → (ss : List Symbol) (k : Values Value (X ∷ ss) → Design) → weights weight (st.push ++ ss) ≤ most_open
        → verdict s p (X ∷ ss) k ≡ verdict s (past t n) (st.push ++ ss) (λ us. k (made Value st ss us))
    unfolding verdict
    some_moves x st e ss k h = on f (X ∷ ss) k ∙ machine_some x X ss k st e h

    pub deep-moves : There s p.at t → (st : Step Value X) → next X (token_of_look s t) ≡ some st
        → (ss zs : List Symbol) (k : Values Value (X ∷ ss) → Design) (g : Values Value zs → Design) → ¬ (weights weight (st.push ++ ss) ≤ most_open)
        → verdict s p (X ∷ ss) k ≡ verdict s (deep t n) zs g
    unfolding verdict
    deep-moves x st e ss zs k g h = on f (X ∷ ss) k ∙ machine-deep x X ss k st e h

    pub stuck-moves : View s p.at t → ((small : kind_seen t < 117) → taken_by (part s t.start t.end) (kind_seen t) small (rows X) ≡ false)
        → (ss zs : List Symbol) (k : Values Value (X ∷ ss) → Design) (g : Values Value zs → Design) → verdict s p (X ∷ ss) k ≡ verdict s (unfit t n) zs g
    unfolding verdict
    stuck-moves x e ss zs k g = on f (X ∷ ss) k ∙ machine_stuck x X e ss k

    pub same_moves : View s p.at t → (Y : Symbol) (ss zs : List Symbol) (k : Values Value (X ∷ ss) → Design) (g : Values Value (Y ∷ zs) → Design)
        → ((small : kind_seen t < 117) (ts : List Token) → run (token_of_look s t ∷ ts) (X ∷ ss) k ≡ run (token_of_look s t ∷ ts) (Y ∷ zs) g)
        → verdict s p (X ∷ ss) k ≡ verdict s p (Y ∷ zs) g
    same_moves x Y ss zs k g e = on f (X ∷ ss) k ∙ machine_same x X Y ss zs k g e ∙ sym (on f (Y ∷ zs) g)
