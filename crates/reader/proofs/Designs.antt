-- The whole design: one law for each way of returning.
-- Assumes nothing.
use Prim.Native.Nat.{ℕ, ◌≤◌}
use native.Mathlib.Omega.{arith}
use mathlib.Core.Path.{◌≡◌, refl, sym, ap, ◌∙◌, subst}
use mathlib.Core.Option.{Option, some}
use mathlib.Core.List.{List, [], ◌∷◌}
use lib.ListN.{length}
use borrow.Author.Tests.{ne_eqb}
use Rattle.words.specs.Token.{Name, ENTITY, ARCHITECTURE, OF, IS, END}
use Rattle.syntax.specs.Tree.{design}
use Rattle.syntax.proofs.Rows.{entity_part, architecture_part, a_design, a_name, the_word, signals, processes, closing}
use Rattle.look.specs.declared.Look.{Look}
use Rattle.look.specs.Inside.Looks.{kind_seen, name_at, look_of}
use Rattle.look.proofs.Looks.{View, there, gone, seen, seen-there, seen-gone}
use Rattle.emission.specs.Inside.Draft.{declarations_draft, processes_draft}
use Rattle.ledger.specs.Inside.Standing.{Sound, Span}
use Rattle.reading.specs.Inside.Spots.{Reached, reached, machine, verdict, Judged, unfit, word_of}
use Rattle.reading.specs.Inside.Reading.{whole, the_name, Named, belongs_roles, signals_roles, processes_end_roles, closing_part_roles, silent, Ready, Reads}
use Rattle.reader.specs.Inside.Designs.{Finished, behind_entity, Architecture, architecture_roles, architecture_draft, Behind, beginning, Designed}
use Rattle.reading.proofs.Moves.{on}
use Rattle.reading.proofs.Judging.{then_judged}
use Rattle.reading.proofs.Words.{worded, only-word}
use Rattle.reading.proofs.Generic.{numbered, word-off, reads-stays}
use Rattle.reading.specs.declared.Unfit.{Unfit}
use Rattle.reading.specs.declared.Spot.{Spot}
use Rattle.std.specs.Prelude.{Result, Err, IsErrAnd}
use Rattle.std.proofs.lemmas.Result.{err_from_is_err_and}

-- every look stands for a part of the text
pub look_span : {s : List ℕ} {at : ℕ} {t : Look} → at ≤ length s → t ≡ look_of s at → Span s t.start t.end
look_span {s} {at} {t} h e = go (seen h e)
  where
    go : View s at t → Span s t.start t.end
    go (there x) = record { rising = omega (arith, x.some); inside = x.inside }
    go (gone x) = record { rising = omega (arith, x.start, x.end); inside = omega (arith, x.end) }

-- behind a refusal
pub named-stays : {s : List ℕ} {p : Reached} {l v : List ℕ} → p.at ≤ length s → (p.number ≡ 0 → ⊥) → Named s p p l v
named-stays h f = record { reads = reads-stays _ h f; some = λ z. absurd (f z) }

-- THE END OF THE TEXT

pub finished_off : {s : List ℕ} {p : Reached} → (p.number ≡ 0 → ⊥) → Finished s p p
finished_off f = record { fine = λ z. z; moves = λ k. refl; judges = λ z. refl; ends = λ z. absurd (f z) }

module _ {s : List ℕ} {p : Reached} {t : Look} (h : p.at ≤ length s) (f : p.number ≡ 0) (e : t ≡ look_of s p.at) where
  pub finished_end : kind_seen t ≡ 117 → Finished s p p
  finished_end k = record { fine = λ z. z; moves = λ k. refl; judges = λ z. refl; ends = λ z. (seen-gone h e k).tokens }

  pub finished_more : {n : ℕ} → (kind_seen t ≡ 117 → ⊥) → Finished s p (unfit t n)
  unfolding machine verdict
  finished_more k =
      let x = seen-there h e k in
      record {
        fine = λ _. f;
        moves = λ g. on s p f [] g ∙ rw x.tokens;
        judges = λ z. absurd (omega (arith, z));
        ends = λ z. absurd (omega (arith, z));
      }

-- FROM THE WORD `architecture` ON

-- the name that a part is closed by
own_name_lem : (s : List ℕ) (at : ℕ) {t : Look} → t ≡ look_of s at → ◌≡◌ {A = Option Name} (some (name_at s t.start t.end)) (some (the_name s at))
own_name_lem s at e = ap (λ (t : Look). some (name_at s t.start t.end)) e

pub architecture_read : {s : List ℕ} {n : Name} {own : Look} {p a b c d e f g h q : Reached} {l l1 l2 l3 l4 v v1 v2 : List ℕ}
    → p.at ≤ length s → a ≡ word_of s p 3 → own ≡ look_of s a.at → Named s a b l v → c ≡ word_of s b 4 → Reads (whole a_name (belongs_roles n) silent) s 32 c d l l1 v v
    → e ≡ word_of s d 1 → Reads (whole signals signals_roles declarations_draft) s 32 e f l1 l2 v v1 → Reads (whole processes processes_end_roles processes_draft) s 32 f g l2 l3 v1 v2
    → Reads (whole (closing architecture_part) (closing_part_roles (some (name_at s own.start own.end))) silent) s 32 g h l3 l4 v2 v2 → Finished s h q
    → Behind s n p q l l4 v v2
architecture_read {s} {n} {own} {p} {a} {b} {c} {d} {e} {f} {g} {h} {q} {l} {l1} {l2} {l3} {l4} {v} {v1} {v2} i e1 eo nm e2 r1 e3 r2 r3 r4 fin =
    let w1 = worded ARCHITECTURE i e1 in
    let r0 = nm.reads in
    let w2 = worded OF r0.inside e2 in
    let w3 = worded IS r1.inside e3 in
    let built : Architecture = record { name = the_name s a.at; of = r1.tree; declared = r2.tree; processes = r3.tree; word = r4.tree.0; closed = r4.tree.1 } in
    let back : q.number ≡ 0 → b.number ≡ 0 = λ z. w2.fine (r1.fine (w3.fine (r2.fine (r3.fine (r4.fine (fin.fine z)))))) in
    record {
      tree = built;
      fine = λ z. w1.fine (r0.fine (back z));
      moves = λ k. w1.moves (the_word ARCHITECTURE) record { push = []; build = λ _. tt } refl (only-word s p ARCHITECTURE) (a_name ∷ the_word OF ∷ a_name ∷ the_word IS ∷ signals ∷ processes ∷ closing architecture_part ∷ []) k (omega arith)
          ∙ r0.moves tt (the_word OF ∷ a_name ∷ the_word IS ∷ signals ∷ processes ∷ closing architecture_part ∷ []) _ refl
          ∙ w2.moves (the_word OF) record { push = []; build = λ _. tt } refl (only-word s b OF) (a_name ∷ the_word IS ∷ signals ∷ processes ∷ closing architecture_part ∷ []) _ (omega arith)
          ∙ r1.moves tt (the_word IS ∷ signals ∷ processes ∷ closing architecture_part ∷ []) _ refl
          ∙ w3.moves (the_word IS) record { push = []; build = λ _. tt } refl (only-word s d IS) (signals ∷ processes ∷ closing architecture_part ∷ []) _ (omega arith)
          ∙ r2.moves tt (processes ∷ closing architecture_part ∷ []) _ refl
          ∙ r3.moves tt (closing architecture_part ∷ []) _ refl
          ∙ r4.moves tt [] _ refl
          ∙ fin.moves _;
      judges = λ z.
          let fh = fin.fine z in
          let fg = r4.fine fh in
          let ff = r3.fine fg in
          let fe = r2.fine ff in
          let fd = w3.fine fe in
          let fc = r1.fine fd in
          let fb = w2.fine fc in
          let closed : Judged 0 0 s g h l3 l4 v2 v2 (closing_part_roles (some (the_name s a.at)) r4.tree) (λ m. m)
          = subst (λ (o : Option Name). Judged 0 0 s g h l3 l4 v2 v2 (closing_part_roles o r4.tree) (λ m. m)) (own_name_lem s a.at eo) (r4.judges fh) in
          let all = then_judged (w1.judges (r0.fine fb)) (then_judged (r0.judges fb) (then_judged (w2.judges fc) (then_judged (r1.judges fd) (then_judged (w3.judges fe)
          (then_judged (r2.judges ff) (then_judged (r3.judges fg) closed)))))) in
          subst (λ (x : Reached). Judged 0 0 s p x l l4 v v2 (architecture_roles n built) (architecture_draft built)) (fin.judges z) all;
      ends = fin.ends;
    }

pub architecture_stays : {s : List ℕ} {n : Name} {p : Reached} {l v : List ℕ} → p.at ≤ length s → (p.number ≡ 0 → ⊥) → Behind s n p p l l v v
architecture_stays {s} {n} {p} h f =
    architecture_read h (word-off s p 3 f) refl (named-stays h f) (word-off s p 4 f) (reads-stays _ h f) (word-off s p 1 f) (reads-stays _ h f) (reads-stays _ h f) (reads-stays _ h f) (finished_off f)

-- a refusal ends the reading
pub architecture_ends : {s : List ℕ} {n : Name} {p : Reached} {l l' l2 v v' v2 : List ℕ} (q : Result Spot Unfit) (r : Unfit) → IsErrAnd q (λ e. e ≡ r)
    → Behind s n p (reached (Err r)) l l' v v' → Behind s n p (reached q) l l2 v v2
architecture_ends {s} {n} {p} {l = l} {l2 = l2} {v = v} {v2 = v2} q r h d =
    let e = err_from_is_err_and q h in
    let o : Behind s n p (reached (Err r)) l l2 v v2 = record { tree = d.tree; fine = d.fine; moves = d.moves; judges = λ z. absurd (numbered r z); ends = d.ends } in
    rw (e.1, e.2) o

-- THE WHOLE TEXT

pub begins : {s l : List ℕ} → Sound 0 s l → Ready 0 s beginning l
begins d = record { inside = omega arith; sound = λ _. d }

pub design-read : {s : List ℕ} {own : Look} {a b c d e q : Reached} {l l1 l2 v v' : List ℕ}
    → a ≡ word_of s beginning 0 → own ≡ look_of s a.at → Named s a b l v → c ≡ word_of s b 1 → d ≡ word_of s c 2
    → Reads (whole (closing entity_part) (closing_part_roles (some (name_at s own.start own.end))) silent) s 32 d e l l1 v v
    → Behind s (name_at s own.start own.end) e q l1 l2 v v' → Designed s q l l2 v v'
design-read {s} {own} {a} {b} {c} {d} {e} {q} {l} {l1} {l2} {v} {v'} e1 eo nm e2 e3 r1 o0 =
    let w1 = worded ENTITY {p = beginning} (omega arith) e1 in
    let r0 = nm.reads in
    let w2 = worded IS r0.inside e2 in
    let w3 = worded END w2.inside e3 in
    let o : Behind s (the_name s a.at) e q l1 l2 v v' = subst (λ (t : Look). Behind s (name_at s t.start t.end) e q l1 l2 v v') eo o0 in
    record {
      entity = the_name s a.at;
      word = r1.tree.0;
      closed = r1.tree.1;
      behind = o.tree;
      named = ap (λ (x : Reached). the_name s x.at) e1;
      begun = λ z. ap (λ (x : Reached). x.number) (sym e1) ∙ r0.fine (w2.fine (w3.fine (r1.fine (o.fine z))));
      moves = w1.moves a_design
          record {
            push = a_name ∷ the_word IS ∷ the_word END ∷ closing entity_part ∷ behind_entity;
            build = λ vs. design vs.0 vs.1.1.1.0.0 vs.1.1.1.0.1 vs.1.1.1.1.1.0 vs.1.1.1.1.1.1.1.0 vs.1.1.1.1.1.1.1.1.1.0 vs.1.1.1.1.1.1.1.1.1.1.0 vs.1.1.1.1.1.1.1.1.1.1.1.0.0 vs.1.1.1.1.1.1.1.1.1.1.1.0.1;
          }
          refl (λ _ small i. rw (ne_eqb _ 0 i)) [] (λ vs. vs.0) (omega arith)
          ∙ r0.moves tt (the_word IS ∷ the_word END ∷ closing entity_part ∷ behind_entity) _ refl
          ∙ w2.moves (the_word IS) record { push = []; build = λ _. tt } refl (only-word s b IS) (the_word END ∷ closing entity_part ∷ behind_entity) _ (omega arith)
          ∙ w3.moves (the_word END) record { push = []; build = λ _. tt } refl (only-word s c END) (closing entity_part ∷ behind_entity) _ (omega arith)
          ∙ r1.moves tt behind_entity _ refl
          ∙ o.moves _;
      judges = λ z.
          let fe = o.fine z in
          let fd = r1.fine fe in
          let fc = w3.fine fd in
          let fb = w2.fine fc in
          let closed : Judged 0 0 s d e l l1 v v (closing_part_roles (some (the_name s a.at)) r1.tree) (λ m. m)
          = subst (λ (o : Option Name). Judged 0 0 s d e l l1 v v (closing_part_roles o r1.tree) (λ m. m)) (own_name_lem s a.at eo) (r1.judges fe) in
          then_judged (w1.judges (r0.fine fb)) (then_judged (r0.judges fb) (then_judged (w2.judges fc) (then_judged (w3.judges fd) (then_judged closed (o.judges z)))));
      ends = o.ends;
    }

pub design-ends : {s l l' l2 v v' v2 : List ℕ} (q : Result Spot Unfit) (r : Unfit) → IsErrAnd q (λ e. e ≡ r) → Designed s (reached (Err r)) l l' v v' → Designed s (reached q) l l2 v v2
design-ends {s} {l} {l2 = l2} {v = v} {v2 = v2} q r h d =
    let e = err_from_is_err_and q h in
    let o : Designed s (reached (Err r)) l l2 v v2 = record {
      entity = d.entity;
      word = d.word;
      closed = d.closed;
      behind = d.behind;
      named = d.named;
      begun = λ z. absurd (numbered r z);
      moves = d.moves;
      judges = λ z. absurd (numbered r z);
      ends = d.ends;
    } in
    rw (e.1, e.2) o
