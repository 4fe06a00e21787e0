-- A word or mark read at a spot: what it does to a symbol that takes it and no other token.
-- Assumes nothing.
use Prim.Native.Nat.{ℕ, ◌<◌, ◌≤◌}
use native.Mathlib.Omega.{arith}
use mathlib.Core.Path.{◌≡◌, refl, sym, ap, ◌∙◌, subst}
use mathlib.Core.Bool.{Bool, true, false}
use mathlib.Core.Option.{some}
use mathlib.Core.List.{List, ◌∷◌, ◌++◌}
use lib.Dec.{eqb}
use lib.ListN.{length}
use borrow.Author.Tests.{eq-eqb, ne_eqb, eqb-true}
use Rattle.laws.specs.Pick.{pick}
use Rattle.words.specs.Token.{Fixed, fixed, ENTITY, IS, END, ARCHITECTURE, OF, SIGNAL, BEGIN, BOOLEAN, PROCESS, TRANSPORT, AFTER, IF, THEN, ELSE, NULL, NOT, OPEN, CLOSE, COMMA, COLON, SEMICOLON, ARROW, BECOMES}
use Rattle.syntax.specs.Tree.{Design}
use Rattle.syntax.specs.Sentence.{most_open}
use Rattle.syntax.proofs.Machine.{Values, Step, made, weights}
use Rattle.syntax.proofs.Rows.{Symbol, the_word, Value, rows, next}
use Rattle.syntax.proofs.Nesting.{weight}
use Rattle.names.specs.Roles.{passes}
use Rattle.look.specs.declared.Look.{Look}
use Rattle.look.specs.Inside.Looks.{kind_seen, part, look_of}
use Rattle.look.proofs.Looks.{There, View, there, gone, seen}
use Rattle.look.proofs.Numbers.{fixed_kind, taken_by, fixed-seen}
use Rattle.reading.specs.Inside.Spots.{Reached, verdict, Judged, past, unfit, word_from, word_of}
use Rattle.reading.proofs.Moves.{off, some_moves, stuck-moves}
use Rattle.reading.proofs.Judging.{passes-judged}

-- what can have happened
data Way (s : List ℕ) (p : Reached) (kind : ℕ) : Reached → Type 0 where
  stays : (p.number ≡ 0 → ⊥) → Way s p kind p
  takes : {t : Look} → p.number ≡ 0 → There s p.at t → kind_seen t ≡ kind → Way s p kind (past t p.next)
  refuses : {t : Look} {n : ℕ} → p.number ≡ 0 → t ≡ look_of s p.at → (kind_seen t ≡ kind → ⊥) → Way s p kind (unfit t n)

by_kind : (s : List ℕ) (p : Reached) (kind : ℕ) (t : Look) → (kind ≡ 117 → ⊥) → p.number ≡ 0 → t ≡ look_of s p.at → View s p.at t
    → (b : Bool) → eqb (kind_seen t) kind ≡ b → Way s p kind (pick b (past t p.next) (unfit t 0))
by_kind s p kind t g f e (there x) true b = takes f x (eqb-true _ _ b)
by_kind s p kind t g f e (gone x) true b = absurd (g (sym (eqb-true _ _ b) ∙ x.kind))
by_kind s p kind t g f e v false b = refuses f e (λ h. let z : ◌≡◌ {A = Bool} true false = sym (eq-eqb _ _ h) ∙ b in let o : ◌≡◌ {A = ℕ} 0 1 = cc in omega arith)

way : (s : List ℕ) (p : Reached) (kind : ℕ) → p.at ≤ length s → (kind ≡ 117 → ⊥) → Way s p kind (word_of s p kind)
unfolding word_of
way s p kind h g = go (eqb p.number 0) refl
  where
    go : (b : Bool) → eqb p.number 0 ≡ b → Way s p kind (pick b (word_from (look_of s p.at) p kind) p)
    go true e = by_kind s p kind (look_of s p.at) g (eqb-true _ _ e) refl (seen h refl) (eqb (kind_seen (look_of s p.at)) kind) refl
    go false e = stays (λ f. let z : ◌≡◌ {A = Bool} true false = sym (eq-eqb _ _ f) ∙ e in let o : ◌≡◌ {A = ℕ} 0 1 = cc in omega arith)

-- X takes the word and no other token that may stand at p
abbrev pub OnlyAt : List ℕ → Symbol → Fixed → Look → Type 0
OnlyAt s X w t = (small : kind_seen t < 117) → (kind_seen t ≡ fixed_kind w → ⊥) → taken_by (part s t.start t.end) (kind_seen t) small (rows X) ≡ false

abbrev pub Only : List ℕ → Reached → Symbol → Fixed → Type 0
Only s p X w = p.number ≡ 0 → OnlyAt s X w (look_of s p.at)

pub record Worded (w : Fixed) (s : List ℕ) (p q : Reached) : Type 0 where
  pub fine : q.number ≡ 0 → p.number ≡ 0
  pub ahead : p.at ≤ q.at
  pub inside : q.at ≤ length s
  pub further : q.number ≡ 0 → p.at < q.at
  pub moves : (X : Symbol) (st : Step Value X) → next X (fixed w) ≡ some st → Only s p X w
      → (ss : List Symbol) (k : Values Value (X ∷ ss) → Design) → weights weight (st.push ++ ss) ≤ most_open
      → verdict s p (X ∷ ss) k ≡ verdict s q (st.push ++ ss) (λ us. k (made Value st ss us))
  pub judges : q.number ≡ 0 → {u : ℕ} {l v : List ℕ} → Judged u u s p q l l v v (λ r. passes ∷ r) (λ m. m)

fixed_end : (w : Fixed) → fixed_kind w ≡ 117 → ⊥
fixed_end ENTITY e = omega arith
fixed_end IS e = omega arith
fixed_end END e = omega arith
fixed_end ARCHITECTURE e = omega arith
fixed_end OF e = omega arith
fixed_end SIGNAL e = omega arith
fixed_end BEGIN e = omega arith
fixed_end BOOLEAN e = omega arith
fixed_end PROCESS e = omega arith
fixed_end TRANSPORT e = omega arith
fixed_end AFTER e = omega arith
fixed_end IF e = omega arith
fixed_end THEN e = omega arith
fixed_end ELSE e = omega arith
fixed_end NULL e = omega arith
fixed_end NOT e = omega arith
fixed_end OPEN e = omega arith
fixed_end CLOSE e = omega arith
fixed_end COMMA e = omega arith
fixed_end COLON e = omega arith
fixed_end SEMICOLON e = omega arith
fixed_end ARROW e = omega arith
fixed_end BECOMES e = omega arith

worded-way : {w : Fixed} {s : List ℕ} {p q : Reached} → p.at ≤ length s → Way s p (fixed_kind w) q → Worded w s p q
worded-way {w} {s} {p} h (stays f) =
    record {
      fine = λ e. e;
      ahead = omega arith;
      inside = h;
      further = λ e. absurd (f e);
      moves = λ X st n o ss k d. off s p f (X ∷ ss) (st.push ++ ss) k (λ us. k (made Value st ss us));
      judges = λ e. absurd (f e);
    }
worded-way {w} {s} {p} h (takes {t} f x e) =
    record {
      fine = λ _. f;
      ahead = omega (arith, x.after, x.some);
      inside = x.inside;
      further = λ _. omega (arith, x.after, x.some);
      moves = λ X st m o ss k d. some_moves s p f p.next X x st (ap (next X) (fixed-seen s t w e) ∙ m) ss k d;
      judges = λ _. passes-judged x;
    }
worded-way {w} {s} {p} h (refuses {t} {n} f e g) = refused-way (seen h e)
  where
    refused-way : View s p.at t → Worded w s p (unfit t n)
    refused-way v =
        record {
          fine = λ _. f;
          ahead = near v;
          inside = far v;
          further = λ z. absurd (omega (arith, z));
          moves = λ X st m o ss k d. stuck-moves s p f n X v (λ small. subst (OnlyAt s X w) (sym e) (o f) small g) ss (st.push ++ ss) k (λ us. k (made Value st ss us));
          judges = λ z. absurd (omega (arith, z));
        }
      where
        near : View s p.at t → p.at ≤ t.start
        near (there x) = x.after
        near (gone x) = omega (arith, x.start)

        far : View s p.at t → t.start ≤ length s
        far (there x) = omega (arith, x.some, x.inside)
        far (gone x) = omega (arith, x.start)

pub worded : (w : Fixed) {s : List ℕ} {p q : Reached} → p.at ≤ length s → q ≡ word_of s p (fixed_kind w) → Worded w s p q
worded w {s} {p} h e = subst (Worded w s p) (sym e) (worded-way h (way s p (fixed_kind w) h (fixed_end w)))

-- the word itself takes no other
pub only-word : (s : List ℕ) (p : Reached) (w : Fixed) → Only s p (the_word w) w
only-word s p w _ small g = rw (ne_eqb _ _ g)
