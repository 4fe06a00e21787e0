-- The judge between two spots: one token in its role, or one part after the other.
-- Assumes nothing.
use Prim.Native.Nat.{ℕ}
use native.Mathlib.Omega.{arith}
use mathlib.Core.Path.{◌≡◌, refl, sym, ap, ◌∙◌, subst}
use mathlib.Core.Bool.{Bool, true, false}
use mathlib.Core.List.{List, [], ◌∷◌, map}
use Rattle.lexis.specs.Token.{Placed}
use Rattle.names.specs.Roles.{Role, declares, labels, listens, reads, assigns, belongs, closes, opens, delays, counts, passes}
use Rattle.names.specs.Judge.{State, Judgement, fine, refused, onward, faults, lowest, next, judge, judged}
use Rattle.look.specs.declared.Look.{Look}
use Rattle.look.proofs.Looks.{There}
use Rattle.ledger.specs.Inside.Standing.{Keeps, Judges}
use Rattle.emission.specs.Inside.Draft.{Draft, placed, following, put, with_name, with_process}
use Rattle.table.specs.Instructions.{Instruction}
use Rattle.layout.specs.TableWords.{operation_word, delay_word}
use Rattle.laws.specs.Pick.{pick}
use Rattle.reading.specs.Inside.Spots.{Reached, starts_from, judgement, drafted, Judged, past, addressed}

pub onward-onward : (j : Judgement) (f g : State → Judgement) → onward j (λ y. onward (f y) g) ≡ onward (onward j f) g
onward-onward (fine y) f g = refl
onward-onward (refused n p) f g = refl

-- WHERE NOTHING IS REFUSED

pub record Fine (j : Judgement) : Type 0 where
  pub state : State
  pub is : j ≡ fine state

abbrev tag : Judgement → ℕ
tag (fine y) = 0
tag (refused n p) = 1

refused-fine : {n p : ℕ} {y : State} → refused n p ≡ fine y → ⊥
refused-fine e = let o : ◌≡◌ {A = ℕ} 1 0 = ap tag e in omega arith

pub fine-state : {y z : State} → fine y ≡ fine z → y ≡ z
fine-state {y} e = ap (λ j. state_of j) e
  where
    state_of : Judgement → State
    state_of (fine z) = z
    state_of (refused n p) = y

pub lowest-fine : (rows : List (ℕ × Bool)) (place : ℕ) {y z : State} → lowest rows place y ≡ fine z → y ≡ z
lowest-fine [] place e = fine-state e
lowest-fine (row ∷ rows) place {y} {z} e = go row.1 (λ h. lowest-fine rows place h) e
  where
    go : (b : Bool) → (lowest rows place y ≡ fine z → y ≡ z) → pick b (refused row.0 place) (lowest rows place y) ≡ fine z → y ≡ z
    go true more e = absurd (refused-fine e)
    go false more e = more e

-- what a token in its role adds to the draft
abbrev pub draft_of : Role → Draft → Draft
draft_of (declares n) m = with_name n m
draft_of (labels n) m = m
draft_of (listens n) m = m
draft_of (reads n) m = m
draft_of (assigns n) m = m
draft_of (belongs e n) m = m
draft_of (closes o n) m = m
draft_of opens m = with_process m
draft_of (delays n u) m = m
draft_of (counts k) m = m
draft_of passes m = m

pub drafted_next : (role : Role) (y : State) (v : List ℕ) (n : ℕ) → draft_of role (drafted y v n) ≡ drafted (next y role) v n
unfolding with_name with_process
drafted_next (declares n) y v i = refl
drafted_next (labels n) y v i = refl
drafted_next (listens n) y v i = refl
drafted_next (reads n) y v i = refl
drafted_next (assigns n) y v i = refl
drafted_next (belongs e n) y v i = refl
drafted_next (closes o n) y v i = refl
drafted_next opens y v i = refl
drafted_next (delays n u) y v i = refl
drafted_next (counts k) y v i = refl
drafted_next passes y v i = refl

-- the next instruction, in the draft's words
pub put-drafted : (i : Instruction) (y : State) (m : ℕ) (v : List ℕ) {n : ℕ} {w : List ℕ} → n ≡ following m → w ≡ placed v m (operation_word i) (delay_word i)
    → put i (drafted y v m) ≡ drafted y w n
unfolding put
put-drafted i y m v {n} {w} e g = sym (ap (λ k. drafted y (placed v m (operation_word i) (delay_word i)) k) e) ∙ sym (ap (λ u. drafted y u n) g)

-- ONE PART AFTER THE OTHER

-- where nothing is read, nothing is judged
pub none-judged : {u : ℕ} {s : List ℕ} {p : Reached} {l v : List ℕ} → Judged u u s p p l l v v (λ r. r) (λ m. m)
none-judged {p = p} {v = v} = record { after = λ j. j; keeps = λ j h. h; folds = λ j r. refl; writes = λ y y' k e. ap (λ z. drafted z v p.next) (fine-state e) }

judgement_end : (s : List ℕ) (at : ℕ) (j : Judgement) → judgement s at j [] ≡ j
unfolding judgement judged
judgement_end s at (fine y) = refl
judgement_end s at (refused n p) = refl

module _ {u u' : ℕ} {s : List ℕ} {p q : Reached} {l l' v v' : List ℕ} {f : List Role → List Role} {d : Draft → Draft} (a : Judged u u' s p q l l' v v' f d) where
  -- what is refused stays so
  refused-stays : (n c : ℕ) → a.after (refused n c) ≡ refused n c
  unfolding judgement
  refused-stays n c = sym (judgement_end s q.at (a.after (refused n c))) ∙ sym (a.folds (refused n c) [])

  -- where nothing is refused behind a part, nothing was before it
  pub fine_before : (j : Judgement) {y : State} → a.after j ≡ fine y → Fine j
  fine_before (fine y) e = record { state = y; is = refl }
  fine_before (refused n c) e = absurd (refused-fine (sym (refused-stays n c) ∙ e))

  -- more was written than the tokens say
  unfoldable pub redrafted : {n : ℕ} {w : List ℕ} {o : Draft → Draft}
      → ((y y' : State) → Keeps u s l (fine y) → a.after (fine y) ≡ fine y' → d (drafted y v p.next) ≡ drafted y' v' q.next → o (drafted y v p.next) ≡ drafted y' w n)
      → Judged u u' s p (addressed q n) l l' v w f o
  redrafted h = record { after = a.after; keeps = a.keeps; folds = a.folds; writes = λ y y' k e. h y y' k e (a.writes y y' k e) }

  -- the next instruction follows
  unfoldable pub put-judged : (i : Instruction) {n : ℕ} {w : List ℕ} → n ≡ following q.next → w ≡ placed v' q.next (operation_word i) (delay_word i)
      → Judged u u' s p (addressed q n) l l' v w f (λ m. put i (d m))
  put-judged i e g = redrafted (λ y y' k z h. ap (put i) h ∙ put-drafted i y' q.next v' e g)

module _ {u u' u'' : ℕ} {s : List ℕ} {p q r : Reached} {l l' l'' v v' v'' : List ℕ} {f g : List Role → List Role} {d o : Draft → Draft} where
  unfoldable pub then_judged : Judged u u' s p q l l' v v' f d → Judged u' u'' s q r l' l'' v' v'' g o → Judged u u'' s p r l l'' v v'' (λ rs. f (g rs)) (λ m. o (d m))
  then_judged a b =
      record {
        after = λ j. b.after (a.after j);
        keeps = λ j h. b.keeps (a.after j) (a.keeps j h);
        folds = λ j rs. a.folds j (g rs) ∙ b.folds (a.after j) rs;
        writes = λ y y'' k e.
            let y' = fine_before b (a.after (fine y)) e in
            ap o (a.writes y y'.state k y'.is) ∙ b.writes y'.state y'' (subst (Keeps u' s l') y'.is (a.keeps (fine y) k)) (ap b.after (sym y'.is) ∙ e);
      }

-- ONE TOKEN

module _ {s : List ℕ} {p : Reached} {t : Look} (x : There s p.at t) {v : List ℕ} where
  unfoldable pub token-judged : (role : Role) {u u' : ℕ} {l l' : List ℕ} → Judges u u' s role t.start l l'
      → Judged u u' s p (past t p.next) l l' v v (λ r. role ∷ r) (draft_of role)
  unfolding judgement judged
  token-judged role h =
      record {
        after = λ j. onward j (λ y. judge y role t.start);
        keeps = h.keeps;
        folds = λ j r. ap (λ (ls : List Placed). onward j (λ y. judged y (role ∷ r) (map (λ p. p.start) ls))) x.tokens
            ∙ onward-onward j (λ y. judge y role t.start) (λ y. judged y r (starts_from s t.end));
        writes = λ y y' k e. drafted_next role y v p.next ∙ ap (λ z. drafted z v p.next) (lowest-fine (faults y role) t.start e);
      }

  -- a token that nothing is said of
  unfoldable pub passes-judged : {u : ℕ} {l : List ℕ} → Judged u u s p (past t p.next) l l v v (λ r. passes ∷ r) (λ m. m)
  unfolding judgement judged
  passes-judged =
      record {
        after = λ j. j;
        keeps = λ j h. h;
        folds = λ j r. ap (λ (ls : List Placed). onward j (λ y. judged y (passes ∷ r) (map (λ p. p.start) ls))) x.tokens;
        writes = λ y y' k e. ap (λ z. drafted z v p.next) (fine-state e);
      }
