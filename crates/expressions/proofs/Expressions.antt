-- Expressions: one law for each way of returning.
-- Assumes nothing.
use Prim.Native.Nat.{ℕ, zero, suc, ◌+◌, ◌-◌, ◌*◌, ◌<◌, ◌≤◌}
use native.Mathlib.Omega.{arith}
use mathlib.Core.Path.{◌≡◌, refl, sym, ap, ◌∙◌}
use mathlib.Core.Bool.{Bool, true, false}
use lib.Dec.{ltb}
use mathlib.Core.Option.{some}
use mathlib.Core.List.{List, [], ◌∷◌, map}
use lib.ListN.{length}
use borrow.Author.Tests.{ne_eqb, ltb-true, ltb-false}
use Rattle.laws.specs.Pick.{within}
use Rattle.laws.proofs.Ranges.{Ranged, ranged, below, inside, above, within-below, within-above}
use Rattle.words.specs.Token.{Token, Chain, NOT, OPEN, CLOSE, chain}
use Rattle.syntax.specs.Tree.{Design, expression, alone, joined, chained, enough, more, plain, negated, named, constant, bracketed}
use Rattle.syntax.proofs.Machine.{Values, Step, weights}
use Rattle.syntax.proofs.Rows.{Place, in_brackets, Symbol, Value, next, a_primary, a_factor, an_end, any_once, any_chain, the_chain, the_fixed, an_expression as expression_at, a_tail as tail_at, a_more as more_at}
use Rattle.syntax.proofs.Nesting.{weight}
use Rattle.syntax.proofs.Theorem.{run}
use Rattle.syntax.proofs.Missing as missing
use Rattle.names.specs.Roles.{reads, counts, factor_roles, primary_roles}
use Rattle.names.specs.CircuitOf.{once_operator, chain_operator}
use Rattle.table.specs.Instructions.{Instruction}
use Rattle.layout.specs.TableWords.{operation_word}
use Rattle.emission.specs.Inside.Draft.{placed, following, binary_kind, put, primary_draft, factor_draft}
use Rattle.look.specs.declared.Look.{Look}
use Rattle.look.specs.Inside.Looks.{kind_seen, part, name_at, look_of, token_of_kind, token_of_look, once_of, chain_of, literal_of}
use Rattle.look.proofs.Looks.{seen, seen-there}
use Rattle.look.proofs.Numbers.{chain_kind, chain-kind, misfit, once-token, chain-token, literal-token, name-seen, fixed-seen}
use Rattle.ledger.specs.Inside.Standing.{Judges, Numbers}
use Rattle.reading.specs.Inside.Spots.{Reached, reached, tokens_from, machine, verdict, drafted, past, unfit, deep, word_of, addressed}
use Rattle.reading.specs.Inside.Reading.{What, whole, an_expression, a_tail, a_more, Reads}
use Rattle.reading.proofs.Moves.{some_moves, deep-moves, same_moves}
use Rattle.reading.proofs.Judging.{none-judged, then_judged, token-judged, passes-judged, redrafted, put-judged, put-drafted}
use Rattle.reading.proofs.Words.{worded}
use Rattle.reading.specs.declared.Unfit.{Unfit}
use Rattle.std.specs.Prelude.{Err}
use Rattle.reading.proofs.Generic.{numbered, reads-stays, reads-stuck, to_address}

abbrev pub primary : What
primary = whole a_primary primary_roles primary_draft

abbrev pub factor : What
factor = whole a_factor factor_roles factor_draft

literal-not : (k : ℕ) → (k ≡ 22 → ⊥) → (k ≡ 23 → ⊥) → within 22 23 k ≡ false
literal-not k p q = go (ranged 22 23 k)
  where
    go : Ranged 22 23 k → within 22 23 k ≡ false
    go (below t h) = t
    go (inside t h g) = absurd (omega (arith, p, q))
    go (above t h) = t

-- the operation of a name, and of a binary word
named-operation : (i : ℕ) → 16 * i ≡ operation_word (Instruction.name i)
named-operation i = omega arith

once-operation : (k : ℕ) → 16 ≤ k → k < 18 → binary_kind k ≡ operation_word (Instruction.binary (once_operator (once_of k)))
once-operation k lo hi = go (k - 16) (omega arith)
  where
    go : (j : ℕ) → k ≡ 16 + j → binary_kind k ≡ operation_word (Instruction.binary (once_operator (once_of k)))
    go zero e = rw e
    go (suc zero) e = rw e
    go (suc (suc j)) e = absurd (omega (arith, e))

chain-operation : (k : ℕ) → 18 ≤ k → k < 22 → binary_kind k ≡ operation_word (Instruction.binary (chain_operator (chain_of k)))
chain-operation k lo hi = go (k - 18) (omega arith)
  where
    go : (j : ℕ) → k ≡ 18 + j → binary_kind k ≡ operation_word (Instruction.binary (chain_operator (chain_of k)))
    go zero e = rw e
    go (suc zero) e = rw e
    go (suc (suc zero)) e = rw e
    go (suc (suc (suc zero))) e = rw e
    go (suc (suc (suc (suc j)))) e = absurd (omega (arith, e))

-- what a bracket does
abbrev bracket_step : Step Value a_primary
bracket_step = record { push = expression_at in_brackets ∷ []; build = λ ws. bracketed ws.0.0 }

module _ {s : List ℕ} {room : ℕ} {p : Reached} {l v : List ℕ} {t : Look} (h : p.at ≤ length s) (f : p.number ≡ 0) (e : t ≡ look_of s p.at) where
  -- PRIMARY

  pub primary-name : {l' v' : List ℕ} {n k : ℕ} → kind_seen t ≡ 108 → Judges 0 0 s (reads (name_at s t.start t.end)) t.start l l'
      → Numbers s l (name_at s t.start t.end) k → n ≡ following p.next → v' ≡ placed v p.next (16 * k) 0 → Reads primary s room p (past t n) l l' v v'
  primary-name {n = n} {k = i} k g r a w =
      let x = seen-there h e (λ z. omega arith) in
      record {
        tree = named (name_at s t.start t.end);
        fine = λ _. f;
        ahead = omega (arith, x.after, x.some);
        inside = x.inside;
        moves = λ c ss m u. some_moves s p f n a_primary x record { push = []; build = λ _. named (name_at s t.start t.end) } (ap (next a_primary) (name-seen s t k)) ss m (omega arith);
        judges = λ _. redrafted (token-judged x (reads (name_at s t.start t.end)) g)
            (λ y y' o d q. ap (λ j. put (Instruction.name j) (drafted y v p.next)) (sym (r.number_is y o)) ∙ ap (put (Instruction.name i)) q ∙ put-drafted (Instruction.name i) y' p.next v a (w ∙ ap (λ j. placed v p.next j 0) (named-operation i)));
      }

  pub primary-literal : {l' v' : List ℕ} {n o : ℕ} → 22 ≤ kind_seen t → kind_seen t < 24 → Judges 0 0 s (counts 1) t.start l l'
      → o ≡ operation_word (Instruction.literal (literal_of (kind_seen t))) → n ≡ following p.next → v' ≡ placed v p.next o 0 → Reads primary s room p (past t n) l l' v v'
  primary-literal {n = n} lo hi g i a w =
      let x = seen-there h e (λ z. omega arith) in
      record {
        tree = constant (literal_of (kind_seen t));
        fine = λ _. f;
        ahead = omega (arith, x.after, x.some);
        inside = x.inside;
        moves = λ c ss m u. some_moves s p f n a_primary x record { push = []; build = λ _. constant (literal_of (kind_seen t)) }
            (ap (next a_primary) (literal-token (part s t.start t.end) (kind_seen t) lo hi)) ss m (omega arith);
        judges = λ _. put-judged (token-judged x (counts 1) g) (Instruction.literal (literal_of (kind_seen t))) a (w ∙ ap (λ j. placed v p.next j 0) i);
      }

  pub primary-none : {l' v' : List ℕ} (n : ℕ) → (kind_seen t ≡ 108 → ⊥) → (kind_seen t ≡ 22 → ⊥) → (kind_seen t ≡ 23 → ⊥) → (kind_seen t ≡ 110 → ⊥) → Reads primary s room p (unfit t n) l l' v v'
  primary-none n a b c d = reads-stuck primary h f e (λ _ small. rw (ne_eqb (kind_seen t) 108 a, literal-not (kind_seen t) b c, ne_eqb (kind_seen t) 110 d))

  pub primary-deep : {l' v' : List ℕ} (n : ℕ) → kind_seen t ≡ 110 → room ≡ 0 → Reads primary s room p (deep t n) l l' v v'
  primary-deep n k z =
      let x = seen-there h e (λ z. omega arith) in
      record {
        tree = named [];
        fine = λ _. f;
        ahead = x.after;
        inside = omega (arith, x.some, x.inside);
        moves = λ c ss m u. deep-moves s p f n a_primary x bracket_step (ap (next a_primary) (fixed-seen s t OPEN k)) ss ss m (λ us. m (named [], us)) (λ (g : 1 + weights weight ss ≤ 32). omega arith);
        judges = λ z. absurd (omega (arith, z));
      }

  pub primary_bracket : {q r : Reached} {l' v' : List ℕ} → kind_seen t ≡ 110 → (room ≡ 0 → ⊥) → Reads an_expression s (room - 1) (past t p.next) q l l' v v' → r ≡ word_of s q 111
      → Reads primary s room p r l l' v v'
  primary_bracket {q} k z d e2 =
      let x = seen-there h e (λ z. omega arith) in
      let w = worded CLOSE d.inside e2 in
      record {
        tree = bracketed d.tree;
        fine = λ _. f;
        ahead = omega (arith, x.after, x.some, d.ahead, w.ahead);
        inside = w.inside;
        moves = λ c ss m u. some_moves s p f p.next a_primary x bracket_step (ap (next a_primary) (fixed-seen s t OPEN k)) ss m (omega arith)
            ∙ d.moves in_brackets ss _ (omega arith)
            ∙ w.moves (an_end in_brackets) record { push = []; build = λ _. tt } refl (λ _ small o. rw (ne_eqb _ 111 o)) ss _ (omega arith);
        judges = λ g. then_judged (passes-judged x) (then_judged (d.judges (w.fine g)) (w.judges g));
      }

  -- FACTOR

  pub factor-plain : {q : Reached} {l' v' : List ℕ} → (kind_seen t ≡ 15 → ⊥) → Reads primary s room p q l l' v v' → Reads factor s room p q l l' v v'
  factor-plain {q} k d =
      record {
        tree = plain d.tree;
        fine = d.fine;
        ahead = d.ahead;
        inside = d.inside;
        moves = λ c ss m u. same_moves s p f 0 a_factor (seen h e) a_primary ss ss m (λ vs. m (plain vs.0, vs.1))
            (λ small ts. missing.factor-plain (token_of_look s t) ts ss (misfit (part s t.start t.end) (kind_seen t) small (the_fixed NOT) (ne_eqb (kind_seen t) 15 k)) m)
            ∙ d.moves c ss (λ vs. m (plain vs.0, vs.1)) (omega arith);
        judges = d.judges;
      }

  pub factor-not : {m : ℕ} {q : Reached} {l1 l2 v1 v2 : List ℕ} → kind_seen t ≡ 15 → Judges 0 0 s (counts 1) t.start l l1 → Reads primary s room (past t p.next) q l1 l2 v v1
      → m ≡ following q.next → v2 ≡ placed v1 q.next 2 0 → Reads factor s room p (addressed q m) l l2 v v2
  factor-not {m} {q} k g d a w =
      let x = seen-there h e (λ z. omega arith) in
      record {
        tree = negated d.tree;
        fine = λ _. f;
        ahead = omega (arith, x.after, x.some, d.ahead);
        inside = d.inside;
        moves = λ c ss o u. some_moves s p f p.next a_factor x record { push = a_primary ∷ []; build = λ ws. negated ws.0 } (ap (next a_factor) (fixed-seen s t NOT k)) ss o (omega arith)
            ∙ d.moves c ss _ (omega arith) ∙ to_address s q m ss _;
        judges = λ z. put-judged (then_judged (token-judged x (counts 1) g) (d.judges z)) Instruction.negation a w;
      }

-- EXPRESSION

first_run : (ts : List Token) (c : Place) (ss : List Symbol) (k : Values Value (expression_at c ∷ ss) → Design)
    → run ts (expression_at c ∷ ss) k ≡ run ts (a_factor ∷ tail_at c ∷ ss) (λ vs. k ((expression vs.0 vs.1.0.0, vs.1.0.1), vs.1.1))
first_run [] c ss k = refl
first_run (t ∷ ts) c ss k = missing.expression_first t ts ss c k

first_moves : (s : List ℕ) (p : Reached) (c : Place) (ss : List Symbol) (k : Values Value (expression_at c ∷ ss) → Design)
    → verdict s p (expression_at c ∷ ss) k ≡ verdict s p (a_factor ∷ tail_at c ∷ ss) (λ vs. k ((expression vs.0 vs.1.0.0, vs.1.0.1), vs.1.1))
unfolding verdict machine
first_moves s p c ss k = rw (first_run (map (λ p. p.token) (tokens_from s p.at)) c ss k)

pub expression_then : {s : List ℕ} {room : ℕ} {p q r : Reached} {l l1 l2 v v1 v2 : List ℕ} → Reads factor s room p q l l1 v v1 → Reads a_tail s room q r l1 l2 v1 v2 → Reads an_expression s room p r l l2 v v2
expression_then {s} {room} {p} a b =
    record {
      tree = expression a.tree b.tree;
      fine = λ z. a.fine (b.fine z);
      ahead = omega (arith, a.ahead, b.ahead);
      inside = b.inside;
      moves = λ c ss k u. first_moves s p c ss k ∙ a.moves tt (tail_at c ∷ ss) _ (omega arith) ∙ b.moves c ss _ (omega arith);
      judges = λ z. then_judged (a.judges (b.fine z)) (b.judges z);
    }

-- TAIL AND CHAIN

module _ {s : List ℕ} {room : ℕ} {p : Reached} {l v : List ℕ} {t : Look} (h : p.at ≤ length s) (f : p.number ≡ 0) (e : t ≡ look_of s p.at) where
  tail_none : (within 16 17 (kind_seen t) ≡ false) → (within 18 21 (kind_seen t) ≡ false) → Reads a_tail s room p p l l v v
  tail_none a b =
      record {
        tree = alone;
        fine = λ z. z;
        ahead = omega arith;
        inside = h;
        moves = λ c ss k u. same_moves s p f 0 (tail_at c) (seen h e) (an_end c) ss ss k (λ vs. k ((alone, vs.0), vs.1))
            (λ small ts. missing.tail-alone (token_of_look s t) ts ss c (misfit (part s t.start t.end) (kind_seen t) small any_once a) (misfit (part s t.start t.end) (kind_seen t) small any_chain b) k);
        judges = λ z. none-judged;
      }

  -- no binary word
  pub tail-not : within 16 21 (kind_seen t) ≡ false → Reads a_tail s room p p l l v v
  tail-not a = go (ranged 16 21 (kind_seen t))
    where
      go : Ranged 16 21 (kind_seen t) → Reads a_tail s room p p l l v v
      go (below _ b) = tail_none (within-below 16 17 (kind_seen t) b) (within-below 18 21 (kind_seen t) (omega arith))
      go (inside b _ _) = let z : ◌≡◌ {A = Bool} true false = sym b ∙ a in let o : ◌≡◌ {A = ℕ} 0 1 = cc in absurd (omega arith)
      go (above _ b) = tail_none (within-above 16 17 (kind_seen t) (omega arith)) (within-above 18 21 (kind_seen t) b)

  pub tail-once : {m o : ℕ} {q : Reached} {l1 l2 v1 v2 : List ℕ} → 16 ≤ kind_seen t → kind_seen t < 18 → Judges 0 0 s (counts 1) t.start l l1 → Reads factor s room (past t p.next) q l1 l2 v v1
      → m ≡ following q.next → o ≡ binary_kind (kind_seen t) → v2 ≡ placed v1 q.next o 0 → Reads a_tail s room p (addressed q m) l l2 v v2
  tail-once {m} {q = q} {v1 = v1} lo hi g d a i w =
      let x = seen-there h e (λ z. omega arith) in
      record {
        tree = joined (once_of (kind_seen t)) d.tree;
        fine = λ _. f;
        ahead = omega (arith, x.after, x.some, d.ahead);
        inside = d.inside;
        moves = λ c ss k u. some_moves s p f p.next (tail_at c) x record { push = a_factor ∷ an_end c ∷ []; build = λ ws. (joined (once_of (kind_seen t)) ws.0, ws.1.0) }
            (ap (next (tail_at c)) (once-token (part s t.start t.end) (kind_seen t) lo hi)) ss k (omega arith)
            ∙ d.moves tt (an_end c ∷ ss) _ (omega arith) ∙ to_address s q m (an_end c ∷ ss) _;
        judges = λ z. put-judged (then_judged (token-judged x (counts 1) g) (d.judges z)) (Instruction.binary (once_operator (once_of (kind_seen t)))) a
            (w ∙ ap (λ j. placed v1 q.next j 0) (i ∙ once-operation (kind_seen t) lo hi));
      }

  pub tail-chain : {m o : ℕ} {q r : Reached} {l1 l2 l3 v1 v2 v3 : List ℕ} → 18 ≤ kind_seen t → kind_seen t < 22 → Judges 0 0 s (counts 1) t.start l l1 → Reads factor s room (past t p.next) q l1 l2 v v1
      → m ≡ following q.next → o ≡ binary_kind (kind_seen t) → v2 ≡ placed v1 q.next o 0
      → Reads (a_more (chain_of (kind_seen t))) s room (addressed q m) r l2 l3 v2 v3 → Reads a_tail s room p r l l3 v v3
  tail-chain {m} {q = q} {v1 = v1} lo hi g d a i w b =
      let x = seen-there h e (λ z. omega arith) in
      record {
        tree = chained (chain_of (kind_seen t)) d.tree b.tree;
        fine = λ _. f;
        ahead = omega (arith, x.after, x.some, d.ahead, b.ahead);
        inside = b.inside;
        moves = λ c ss k u. some_moves s p f p.next (tail_at c) x record { push = a_factor ∷ more_at (chain_of (kind_seen t)) c ∷ []; build = λ ws. (chained (chain_of (kind_seen t)) ws.0 ws.1.0.0, ws.1.0.1) }
            (ap (next (tail_at c)) (chain-token (part s t.start t.end) (kind_seen t) lo hi)) ss k (omega arith)
            ∙ d.moves tt (more_at (chain_of (kind_seen t)) c ∷ ss) _ (omega arith) ∙ to_address s q m (more_at (chain_of (kind_seen t)) c ∷ ss) _ ∙ b.moves c ss _ (omega arith);
        judges = λ z. then_judged (put-judged (then_judged (token-judged x (counts 1) g) (d.judges (b.fine z))) (Instruction.binary (chain_operator (chain_of (kind_seen t)))) a
            (w ∙ ap (λ j. placed v1 q.next j 0) (i ∙ chain-operation (kind_seen t) lo hi))) (b.judges z);
      }

  -- a refusal in the factor behind a word, whichever it is
  pub tail-refused : (r : Unfit) {l1 l2 v1 : List ℕ} → 16 ≤ kind_seen t → kind_seen t < 22 → Judges 0 0 s (counts 1) t.start l l1
      → Reads factor s room (past t p.next) (reached (Err r)) l1 l2 v v1
      → Reads a_tail s room p (addressed (reached (Err r)) (following 0)) l l2 v (placed v1 0 (binary_kind (kind_seen t)) 0)
  tail-refused r {l2 = l2} {v1 = v1} lo hi g d = go (ltb (kind_seen t) 18) refl
    where
      go : (b : Bool) → ltb (kind_seen t) 18 ≡ b → Reads a_tail s room p (addressed (reached (Err r)) (following 0)) l l2 v (placed v1 0 (binary_kind (kind_seen t)) 0)
      go true b = tail-once lo (ltb-true (kind_seen t) 18 b) g d refl refl refl
      go false b = tail-chain (ltb-false (kind_seen t) 18 b) hi g d refl refl refl (reads-stays (a_more (chain_of (kind_seen t))) d.inside (numbered r))

  module _ {d : ℕ} (lo : 18 ≤ d) (hi : d < 22) where
    pub chain-none : (kind_seen t ≡ d → ⊥) → Reads (a_more (chain_of d)) s room p p l l v v
    chain-none a =
        record {
          tree = enough;
          fine = λ z. z;
          ahead = omega arith;
          inside = h;
          moves = λ c ss k u. same_moves s p f 0 (more_at (chain_of d) c) (seen h e) (an_end c) ss ss k (λ vs. k ((enough, vs.0), vs.1))
              (λ small ts. missing.more_enough (token_of_look s t) ts ss (chain_of d) c (misfit (part s t.start t.end) (kind_seen t) small (the_chain (chain_of d)) (ne_eqb (kind_seen t) (chain_kind (chain_of d)) (λ z. a (z ∙ chain-kind d lo hi)))) k);
          judges = λ z. none-judged;
        }

    pub chain_more : {m o : ℕ} {q r : Reached} {l1 l2 l3 v1 v2 v3 : List ℕ} → kind_seen t ≡ d → Judges 0 0 s (counts 1) t.start l l1 → Reads factor s room (past t p.next) q l1 l2 v v1
        → m ≡ following q.next → o ≡ binary_kind d → v2 ≡ placed v1 q.next o 0
        → Reads (a_more (chain_of d)) s room (addressed q m) r l2 l3 v2 v3 → Reads (a_more (chain_of d)) s room p r l l3 v v3
    chain_more {m} {q = q} {v1 = v1} k g b1 a i w b =
        let x = seen-there h e (λ z. omega arith) in
        record {
          tree = more b1.tree b.tree;
          fine = λ _. f;
          ahead = omega (arith, x.after, x.some, b1.ahead, b.ahead);
          inside = b.inside;
          moves = λ c ss j u. some_moves s p f p.next (more_at (chain_of d) c) x record { push = a_factor ∷ more_at (chain_of d) c ∷ []; build = λ ws. (more ws.0 ws.1.0.0, ws.1.0.1) }
              (more_next c) ss j (omega arith)
              ∙ b1.moves tt (more_at (chain_of d) c ∷ ss) _ (omega arith) ∙ to_address s q m (more_at (chain_of d) c ∷ ss) _ ∙ b.moves c ss _ (omega arith);
          judges = λ z. then_judged (put-judged (then_judged (token-judged x (counts 1) g) (b1.judges (b.fine z))) (Instruction.binary (chain_operator (chain_of d))) a
              (w ∙ ap (λ j. placed v1 q.next j 0) (i ∙ chain-operation d lo hi))) (b.judges z);
        }
      where
        same : (b : Chain) (c : Place) → next (more_at b c) (chain b) ≡ some record { push = a_factor ∷ more_at b c ∷ []; build = λ ws. (more ws.0 ws.1.0.0, ws.1.0.1) }
        same Chain.AND c = refl
        same Chain.OR c = refl
        same Chain.XOR c = refl
        same Chain.XNOR c = refl

        more_next : (c : Place) → next (more_at (chain_of d) c) (token_of_look s t) ≡ some record { push = a_factor ∷ more_at (chain_of d) c ∷ []; build = λ ws. (more ws.0 ws.1.0.0, ws.1.0.1) }
        more_next c = ap (next (more_at (chain_of d) c)) (ap (token_of_kind (part s t.start t.end)) k ∙ chain-token (part s t.start t.end) d lo hi) ∙ same (chain_of d) c
