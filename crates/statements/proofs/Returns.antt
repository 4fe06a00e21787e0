-- How statements are read: one law for each way of returning.
-- Assumes nothing.
use Prim.Native.Nat.{ℕ, ◌+◌, ◌-◌, ◌*◌, ◌<◌, ◌≤◌}
use native.Mathlib.Omega.{arith}
use mathlib.Core.Path.{◌≡◌, refl, sym, ap, ◌∙◌, subst}
use mathlib.Core.Bool.{Bool, true, false, ◌||◌}
use mathlib.Core.Option.{some}
use mathlib.Core.List.{List, [], ◌∷◌}
use lib.Dec.{eqb, ltb}
use lib.ListN.{length, get_or}
use borrow.Author.Tests.{ne_eqb, eqb-true, ltb-false}
use Rattle.laws.specs.Pick.{pick}
use Rattle.words.specs.Token.{Name, AFTER, IF, THEN, ELSE, END, NULL, SEMICOLON, ARROW, TRANSPORT, fixed}
use Rattle.words.specs.Integer.{value_of}
use Rattle.words.specs.Unit.{femtoseconds_of, longest}
use Rattle.words.specs.declared.unit.TimeUnit.{TimeUnit}
use Rattle.syntax.specs.Tree.{Design, Expression, immediate, after, Statements, done, also, assignment, conditional, null, Otherwise, missing, otherwise}
use Rattle.table.specs.Instructions.{Instruction}
use Rattle.syntax.specs.Sentence.{most_open}
use Rattle.syntax.proofs.Machine.{Values, Step, weights}
use Rattle.syntax.proofs.Rows.{in_assignment, in_condition, Block, in_process, in_then, in_else, Closing, Symbol, Value, rows, next, an_integer, a_unit, the_word, statements, closing_if, an_end, the_fixed, an_expression as expression_at}
use Rattle.syntax.proofs.Nesting.{weight, block_weight}
use Rattle.syntax.proofs.Missing as missing-laws
use Rattle.names.specs.Roles.{Role, assigns, counts, delays, passes}
use Rattle.names.specs.Judge.{State, fine, refused, judge, number_of}
use Rattle.names.specs.CircuitOf.{delay_femtoseconds}
use Rattle.emission.specs.Inside.Draft.{Draft, placed, following, aimed, put, with_targets, expression_draft, statements_draft, statement_draft, otherwise_draft}
use Rattle.look.specs.declared.Look.{Look}
use Rattle.look.specs.Inside.Looks.{kind_seen, part, name_at, look_of, token_of_look}
use Rattle.look.specs.Inside.Tokens.{unit_seen}
use Rattle.look.proofs.Tokens.{unit-found, unit-met, no-unit}
use Rattle.look.proofs.Looks.{seen, seen-there}
use Rattle.look.proofs.Numbers.{taken_by, misfit, name-seen, integer-seen, fixed-seen}
use Rattle.ledger.specs.Inside.Standing.{Span, Keeps, keeps_fine, Judges, Numbers, Lasts}
use Rattle.reading.specs.Inside.Spots.{Reached, reached, verdict, drafted, Judged, addressed, past, unfit, deep, word_of, end_if_of, starter, Stops}
use Rattle.reading.specs.Inside.Reading.{an_expression, a_statement, some_statements, closes, onto, ending_roles, finish_roles, Reads}
use Rattle.reading.proofs.Moves.{some_moves, deep-moves, stuck-moves, same_moves}
use Rattle.reading.proofs.Judging.{fine_before, redrafted, put-drafted, put-judged, none-judged, then_judged, token-judged, passes-judged}
use Rattle.reading.proofs.Words.{Only, worded, only-word}
use Rattle.reading.proofs.Generic.{numbered, word-off, reads-stays, reads-ends, near, within_text, span, to_address}
use Rattle.statements.specs.Inside.Ending.{ending_reached, ending_delay, an_ending, Ends}
use Rattle.statements.specs.declared.Ending.{Ending}
use Rattle.reading.specs.declared.Unfit.{Unfit}
use Rattle.std.specs.Prelude.{Result, Err, IsErrAnd, Some, None}
use Rattle.std.proofs.lemmas.Result.{err_from_is_err_and}

-- a delay that is not refused is not too long
not-long : (y : State) (n place : ℕ) (u : TimeUnit) {z : State} → judge y (delays n u) place ≡ fine z → n * femtoseconds_of u ≤ longest
not-long y n place u {z} e = ltb-false _ _ (go (ltb longest (n * femtoseconds_of u)) e)
  where
    go : (b : Bool) → pick b (refused 8 place) (fine y) ≡ fine z → b ≡ false
    go true e = let o : ◌≡◌ {A = ℕ} 0 1 = cc in absurd (omega arith)
    go false e = refl

clear : {s l : List ℕ} {y : State} → Keeps 0 s l (fine y) → get_or l 0 0 ≡ 0
clear (keeps_fine d) = d.clear

-- where it is refused, nothing is said of the delay
pub ends-refused : {s : List ℕ} {room : ℕ} {p q : Reached} {delay : ℕ} {l l' v : List ℕ} → (q.number ≡ 0 → ⊥) → Reads an_ending s room p q l l' v v → Ends s room p q delay l l' v
ends-refused f d = record { reads = d; lasts = λ z y y' k g. absurd (f z) }

pub ends-stays : {s : List ℕ} {room : ℕ} {p : Reached} {l v : List ℕ} → p.at ≤ length s → (p.number ≡ 0 → ⊥) → Ends s room p p 0 l l v
ends-stays h f = ends-refused f (reads-stays _ h f)

-- a refusal ends the reading
pub ending-ends : {s : List ℕ} {room : ℕ} {p : Reached} {l l' v v' : List ℕ} (q : Result Ending Unfit) (r : Unfit) → IsErrAnd q (λ e. e ≡ r)
    → Reads an_ending s room p (reached (Err r)) l l' v v' → Ends s room p (ending_reached q) (ending_delay q) l l' v
ending-ends {s} {room} {p} {l} {l'} {v} q r h d =
    let e = err_from_is_err_and q h in
    let o : Ends s room p (reached (Err r)) 0 l l' v = ends-refused (numbered r) (reads-ends (Err r) r refl d) in
    rw (e.1, e.2) o

-- `end` `if` `;` behind a refusal
pub end_if-off : (s : List ℕ) (q : Reached) → (q.number ≡ 0 → ⊥) → q ≡ end_if_of s q
end_if-off s q f = word-off s q 114 f ∙ ap (λ (x : Reached). word_of s x 114) (word-off s q 11 f ∙ ap (λ (x : Reached). word_of s x 11) (word-off s q 2 f))

-- the integer behind `after`
pub integer-span : {s : List ℕ} {at : ℕ} {i : Look} → at ≤ length s → kind_seen (look_of s at) ≡ 10 → i ≡ look_of s (look_of s at).end → kind_seen i ≡ 109 → Span s i.start i.end
integer-span h k e g = span (seen-there h refl (λ z. omega arith)).inside e (λ z. omega arith)

-- [`after` integer unit] `;`
abbrev after_step : Step Value (an_end in_assignment)
after_step = record { push = an_integer ∷ a_unit ∷ the_word SEMICOLON ∷ []; build = λ ws. after ws.0 ws.1.0 }

pub onto-done : (v : Statements) → onto v done ≡ v
onto-done done = refl
onto-done (also s ss) = ap (also s) (onto-done ss)

-- what `if` does
abbrev if_step : (c : Block) → Step Value (statements c)
if_step c = record {
  push = expression_at in_condition ∷ statements in_then ∷ statements c ∷ [];
  build = λ ws. (also (conditional ws.0.0 ws.1.0.0 ws.1.0.1) ws.1.1.0.0, ws.1.1.0.1);
}

-- WHAT IS WRITTEN

-- an assignment, behind its delay
assignment-judged : {s : List ℕ} {room : ℕ} {p q r : Reached} {number delay m : ℕ} {l l2 l3 v v1 v2 : List ℕ} {f : List Role → List Role} (n : Name) (x : Expression)
    → Judged 0 0 s p q l l2 v v1 f (expression_draft x) → (ends : Ends s room q r delay l2 l3 v1) → r.number ≡ 0 → Numbers s l n number
    → m ≡ following r.next → v2 ≡ placed v1 r.next (9 + 16 * number) delay
    → Judged 0 0 s p (addressed r m) l l3 v v2 (λ rs. f (ending_roles ends.reads.tree rs)) (statement_draft (assignment n x ends.reads.tree))
unfolding then_judged
assignment-judged {s} {r = r} {delay = delay} {l2 = l2} {v1 = v1} n x a ends z is e1 e2 =
    let o = ends.reads.judges z in
    redrafted (then_judged a o) (λ y y' keeps g written.
    let y1 = fine_before o (a.after (fine y)) g in
    let lasts = ends.lasts z y1.state y' (subst (Keeps 0 s l2) y1.is (a.keeps (fine y) keeps)) (ap o.after (sym y1.is) ∙ g) in
    let i = Instruction.assignment (number_of n y.signal_names) (delay_femtoseconds ends.reads.tree) in
    ap (put i) written
    ∙ put-drafted i y' r.next v1 e1 (e2 ∙ ap (λ (k : ℕ). placed v1 r.next (9 + 16 * k) delay) (is.number_is y keeps)
    ∙ ap (placed v1 r.next (9 + 16 * number_of n y.signal_names)) lasts))

-- the two instructions of an `if`, aimed
targets : (a b : Draft) {c : Draft} (y : State) {v w : List ℕ} {m k n : ℕ} → a.next ≡ m → b.next ≡ k → c ≡ drafted y v n → w ≡ aimed (aimed v m 10 (following k)) k 11 n
    → with_targets a b c ≡ drafted y w n
unfolding with_targets
targets a b y e1 e2 e3 e4 = rw (e3, e4, e1, e2)

if_judged : {s : List ℕ} {p a b r : Reached} {m1 m2 : ℕ} {l l2 l3 l4 v v1 v2 v3 v4 v5 v6 v7 : List ℕ} {f g k : List Role → List Role} (x : Expression) (ss : Statements) (o : Otherwise)
    → Judged 0 0 s p a l l2 v v1 f (expression_draft x) → m1 ≡ following a.next → v2 ≡ placed v1 a.next 10 0
    → Judged 0 0 s (addressed a m1) b l2 l3 v2 v3 g (statements_draft ss) → m2 ≡ following b.next → v4 ≡ placed v3 b.next 11 0
    → Judged 0 0 s (addressed b m2) r l3 l4 v4 v5 k (otherwise_draft o) → v6 ≡ aimed v5 a.next 10 m2 → v7 ≡ aimed v6 b.next 11 r.next
    → Judged 0 0 s p r l l4 v v7 (λ rs. f (g (k rs))) (statement_draft (conditional x ss o))
unfolding then_judged redrafted put-judged
if_judged {a = a} {b} {r} {v5 = v5} x ss o c e1 e2 d e3 e4 last e5 e6 =
    let test = put-judged c (Instruction.test 0) e1 e2 in
    let arm = then_judged test d in
    redrafted (then_judged (put-judged arm (Instruction.skip 0) e3 e4) last) (λ y y' keeps g written.
    let y2 = fine_before last (arm.after (fine y)) g in
    let y1 = fine_before d (c.after (fine y)) y2.is in
    targets _ _ y' (ap (λ (m : Draft). m.next) (c.writes y y1.state keeps y1.is)) (ap (λ (m : Draft). m.next) (arm.writes y y2.state keeps y2.is)) written
    (e6 ∙ ap (λ (u : List ℕ). aimed u b.next 11 r.next) (e5 ∙ ap (aimed v5 a.next 10) e3)))

module _ {s : List ℕ} {room : ℕ} {p : Reached} {l v : List ℕ} {t : Look} (h : p.at ≤ length s) (f : p.number ≡ 0) (e : t ≡ look_of s p.at) where
  pub ending_none : {q : Reached} → (kind_seen t ≡ 10 → ⊥) → q ≡ word_of s p 114 → Ends s room p q 0 l l v
  ending_none {q} k e2 =
      let w = worded SEMICOLON h e2 in
      record {
        reads = record {
          tree = immediate;
          fine = λ _. f;
          ahead = w.ahead;
          inside = w.inside;
          moves = λ c ss m u. same_moves s p f 0 (an_end in_assignment) (seen h e) (the_word SEMICOLON) ss ss m (λ vs. m (immediate, vs.1))
              (λ small ts. missing-laws.delay-missing (token_of_look s t) ts ss (misfit (part s t.start t.end) (kind_seen t) small (the_fixed AFTER) (ne_eqb (kind_seen t) 10 k)) m)
              ∙ w.moves (the_word SEMICOLON) record { push = []; build = λ _. tt } refl (only-word s p SEMICOLON) ss _ (omega arith);
          judges = λ g. w.judges g;
        };
        lasts = λ z y y' d g. refl;
      }

  module _ (k : kind_seen t ≡ 10) {i : Look} (e2 : i ≡ look_of s t.end) where
    pub ending_no_integer : (n : ℕ) {l' : List ℕ} → (kind_seen i ≡ 109 → ⊥) → Reads an_ending s room p (unfit i n) l l' v v
    ending_no_integer n g =
        let x = seen-there h e (λ z. omega arith) in
        let y = seen x.inside e2 in
        record {
          tree = immediate;
          fine = λ _. f;
          ahead = omega (arith, x.after, x.some, near y x.inside);
          inside = within_text y;
          moves = λ c ss m u. some_moves s p f n (an_end in_assignment) x after_step (ap (next (an_end in_assignment)) (fixed-seen s t AFTER k)) ss m (omega arith)
              ∙ stuck-moves s (past t n) refl n an_integer y (λ small. rw (ne_eqb (kind_seen i) 109 g)) (a_unit ∷ the_word SEMICOLON ∷ ss) ss _ (λ us. m (immediate, us));
          judges = λ z. absurd (omega (arith, z));
        }

    module _ (k2 : kind_seen i ≡ 109) {u : Look} (e3 : u ≡ look_of s i.end) where
      no_unit : (n : ℕ) {l' : List ℕ} → ((small : kind_seen u < 117) → taken_by (part s u.start u.end) (kind_seen u) small (rows a_unit) ≡ false) → Reads an_ending s room p (unfit u n) l l' v v
      no_unit n g =
          let x = seen-there h e (λ z. omega arith) in
          let x2 = seen-there x.inside e2 (λ z. omega arith) in
          let y = seen x2.inside e3 in
          record {
            tree = immediate;
            fine = λ _. f;
            ahead = omega (arith, x.after, x.some, x2.after, x2.some, near y x2.inside);
            inside = within_text y;
            moves = λ c ss m o. some_moves s p f n (an_end in_assignment) x after_step (ap (next (an_end in_assignment)) (fixed-seen s t AFTER k)) ss m (omega arith)
                ∙ some_moves s (past t n) refl n an_integer x2 record { push = []; build = λ _. value_of (part s i.start i.end) } (ap (next an_integer) (integer-seen s i k2)) (a_unit ∷ the_word SEMICOLON ∷ ss) _ (omega arith)
                ∙ stuck-moves s (past i n) refl n a_unit y g (the_word SEMICOLON ∷ ss) ss _ (λ us. m (immediate, us));
            judges = λ z. absurd (omega (arith, z));
          }

      pub ending_no_unit : (n : ℕ) {l' : List ℕ} → unit_seen u.token ≡ None → Reads an_ending s room p (unfit u n) l l' v v
      ending_no_unit n g = no_unit n (λ small. rw (no-unit u.token g))

      pub ending_after : {q : Reached} {delay : ℕ} {l' : List ℕ} {time : TimeUnit} → unit_seen u.token ≡ Some time
          → Judges 0 0 s (delays (value_of (part s i.start i.end)) time) i.start l l'
          → Lasts l (value_of (part s i.start i.end)) time delay → q ≡ word_of s (past u p.next) 114 → Ends s room p q delay l l' v
      unfolding then_judged token-judged passes-judged
      ending_after {time = time} g1 j d e4 =
          let n = p.next in
          let hi : kind_seen u < 32 = (unit-found u.token time g1).1 in
          let x = seen-there h e (λ z. omega arith) in
          let x2 = seen-there x.inside e2 (λ z. omega arith) in
          let x3 = seen-there x2.inside e3 (λ z. omega arith) in
          let w = worded SEMICOLON x3.inside e4 in
          record {
            reads = record {
              tree = after (value_of (part s i.start i.end)) time;
              fine = λ _. f;
              ahead = omega (arith, x.after, x.some, x2.after, x2.some, x3.after, x3.some, w.ahead);
              inside = w.inside;
              moves = λ c ss m o. some_moves s p f n (an_end in_assignment) x after_step (ap (next (an_end in_assignment)) (fixed-seen s t AFTER k)) ss m (omega arith)
                  ∙ some_moves s (past t n) refl n an_integer x2 record { push = []; build = λ _. value_of (part s i.start i.end) } (ap (next an_integer) (integer-seen s i k2)) (a_unit ∷ the_word SEMICOLON ∷ ss) _ (omega arith)
                  ∙ some_moves s (past i n) refl n a_unit x3 record { push = []; build = λ _. time } (ap (next a_unit) (unit-met (part s u.start u.end) u.token time g1)) (the_word SEMICOLON ∷ ss) _ (omega arith)
                  ∙ w.moves (the_word SEMICOLON) record { push = []; build = λ _. tt } refl (only-word s (past u n) SEMICOLON) ss _ (omega arith);
              judges = λ z. then_judged (passes-judged x) (then_judged (token-judged x2 (delays (value_of (part s i.start i.end)) time) j) (then_judged (passes-judged x3) (w.judges z)));
            };
            lasts = λ z y y' keeps g.
                d.time_is (clear keeps) (not-long y (value_of (part s i.start i.end)) i.start time (fine_before (w.judges z) (judge y (delays (value_of (part s i.start i.end)) time) i.start) g).is);
          }

  -- ONE STATEMENT

  pub statement_assignment : {m number delay : ℕ} {a b q r : Reached} {l1 l2 l3 v1 v2 : List ℕ} → kind_seen t ≡ 108
      → Judges 0 0 s (assigns (name_at s t.start t.end)) t.start l l1 → Numbers s l (name_at s t.start t.end) number
      → a ≡ word_of s (past t p.next) 115 → b ≡ word_of s a 9 → Reads an_expression s room b q l1 l2 v v1 → Ends s room q r delay l2 l3 v1
      → m ≡ following r.next → v2 ≡ placed v1 r.next (9 + 16 * number) delay → Reads a_statement s room p (addressed r m) l l3 v v2
  statement_assignment {m} {a = a} {r = r} k j is e1 e2 d ends e3 e4 =
      let n = p.next in
      let x = seen-there h e (λ z. omega arith) in
      let w1 = worded ARROW x.inside e1 in
      let w2 = worded TRANSPORT w1.inside e2 in
      let o = ends.reads in
      record {
        tree = assignment (name_at s t.start t.end) d.tree o.tree;
        fine = λ _. f;
        ahead = omega (arith, x.after, x.some, w1.ahead, w2.ahead, d.ahead, o.ahead);
        inside = o.inside;
        moves = λ c ss g u. some_moves s p f n (statements c) x
            record {
              push = the_word ARROW ∷ the_word TRANSPORT ∷ expression_at in_assignment ∷ statements c ∷ [];
              build = λ ws. (also (assignment (name_at s t.start t.end) ws.1.1.0.0 ws.1.1.0.1) ws.1.1.1.0.0, ws.1.1.1.0.1);
            }
            (ap (next (statements c)) (name-seen s t k)) ss g (omega arith)
            ∙ w1.moves (the_word ARROW) record { push = []; build = λ _. tt } refl (only-word s (past t n) ARROW) (the_word TRANSPORT ∷ expression_at in_assignment ∷ statements c ∷ ss) _ (omega arith)
            ∙ w2.moves (the_word TRANSPORT) record { push = []; build = λ _. tt } refl (only-word s a TRANSPORT) (expression_at in_assignment ∷ statements c ∷ ss) _ (omega arith)
            ∙ d.moves in_assignment (statements c ∷ ss) _ (omega arith)
            ∙ o.moves tt (statements c ∷ ss) _ (omega arith)
            ∙ to_address s r m (statements c ∷ ss) _;
        judges = λ z.
            let fq = o.fine z in
            let fb = d.fine fq in
            let fa = w2.fine fb in
            assignment-judged (name_at s t.start t.end) d.tree
            (then_judged (token-judged x (assigns (name_at s t.start t.end)) j) (then_judged (w1.judges fa) (then_judged (w2.judges fb) (d.judges fq)))) ends z is e3 e4;
      }

  pub statement_deep : {n : ℕ} {l' v' : List ℕ} → kind_seen t ≡ 11 → room ≡ 0 → Reads a_statement s room p (deep t n) l l' v v'
  statement_deep {n} k z =
      let x = seen-there h e (λ z. omega arith) in
      record {
        tree = null;
        fine = λ _. f;
        ahead = x.after;
        inside = omega (arith, x.some, x.inside);
        moves = λ c ss m u. deep-moves s p f n (statements c) x (if_step c) (ap (next (statements c)) (fixed-seen s t IF k)) ss (statements c ∷ ss) m (λ us. m ((also null us.0.0, us.0.1), us.1))
            (λ g. omega (arith, g));
        judges = λ z. absurd (omega (arith, z));
      }

  pub statement_if : {m1 m2 : ℕ} {a q b r : Reached} {l1 l2 l3 l4 v1 v2 v3 v4 v5 v6 v7 : List ℕ} → kind_seen t ≡ 11 → (room ≡ 0 → ⊥) → Judges 0 0 s (counts 2) t.start l l1
      → Reads an_expression s (room - 1) (past t p.next) q l1 l2 v v1 → a ≡ word_of s q 12
      → m1 ≡ following a.next → v2 ≡ placed v1 a.next 10 0 → Reads some_statements s (room - 1) (addressed a m1) b l2 l3 v2 v3
      → m2 ≡ following b.next → v4 ≡ placed v3 b.next 11 0 → Reads (closes in_then finish_roles otherwise_draft) s (room - 1) (addressed b m2) r l3 l4 v4 v5
      → v6 ≡ aimed v5 a.next 10 m2 → v7 ≡ aimed v6 b.next 11 r.next → Reads a_statement s room p r l l4 v v7
  statement_if {m1} {m2} {a} {b = b} {r} k z j d e1 i1 i2 o i3 i4 o2 i5 i6 =
      let n = p.next in
      let x = seen-there h e (λ z. omega arith) in
      let w = worded THEN d.inside e1 in
      record {
        tree = conditional d.tree o.tree o2.tree;
        fine = λ _. f;
        ahead = omega (arith, x.after, x.some, d.ahead, w.ahead, o.ahead, o2.ahead);
        inside = o2.inside;
        moves = λ c ss g u. some_moves s p f n (statements c) x (if_step c) (ap (next (statements c)) (fixed-seen s t IF k)) ss g (omega arith)
            ∙ d.moves in_condition (statements in_then ∷ statements c ∷ ss) _ (omega arith)
            ∙ w.moves (an_end in_condition) record { push = []; build = λ _. tt } refl (λ _ small i. rw (ne_eqb _ 12 i)) (statements in_then ∷ statements c ∷ ss) _ (omega arith)
            ∙ to_address s a m1 (statements in_then ∷ statements c ∷ ss) _
            ∙ o.moves in_then (statements c ∷ ss) _ (omega arith)
            ∙ to_address s b m2 (statements in_then ∷ statements c ∷ ss) _
            ∙ o2.moves tt (statements c ∷ ss) _ (omega arith)
            ∙ ap (λ (v : Statements). verdict s r (statements c ∷ ss) (λ us. g ((also (conditional d.tree v o2.tree) us.0.0, us.0.1), us.1))) (onto-done o.tree);
        judges = λ z.
            let fb = o2.fine z in
            let fa = o.fine fb in
            let fq = w.fine fa in
            if_judged d.tree o.tree o2.tree (then_judged (token-judged x (counts 2) j) (then_judged (d.judges fq) (w.judges fa))) i1 i2 (o.judges fb) i3 i4 (o2.judges z) i5 i6;
      }

  pub statement_null : {q : Reached} → kind_seen t ≡ 14 → q ≡ word_of s (past t p.next) 114 → Reads a_statement s room p q l l v v
  statement_null k e1 =
      let n = p.next in
      let x = seen-there h e (λ z. omega arith) in
      let w = worded SEMICOLON x.inside e1 in
      record {
        tree = null;
        fine = λ _. f;
        ahead = omega (arith, x.after, x.some, w.ahead);
        inside = w.inside;
        moves = λ c ss g u. some_moves s p f n (statements c) x record { push = the_word SEMICOLON ∷ statements c ∷ []; build = λ ws. (also null ws.1.0.0, ws.1.0.1) }
            (ap (next (statements c)) (fixed-seen s t NULL k)) ss g (omega arith)
            ∙ w.moves (the_word SEMICOLON) record { push = []; build = λ _. tt } refl (only-word s (past t n) SEMICOLON) (statements c ∷ ss) _ (omega arith);
        judges = λ z. then_judged (passes-judged x) (w.judges z);
      }

-- STATEMENTS

pub none-stops : (s : List ℕ) (p : Reached) → (p.number ≡ 0 → ⊥) → Stops s p
none-stops s p f = record { none = λ z. absurd (f z) }

pub statements-none : {s : List ℕ} {room : ℕ} {p : Reached} {l v : List ℕ} → p.at ≤ length s → Reads some_statements s room p p l l v v
statements-none h = record { tree = done; fine = λ z. z; ahead = omega arith; inside = h; moves = λ c ss k u. refl; judges = λ z. none-judged }

pub statements_more : {s : List ℕ} {room : ℕ} {p q r : Reached} {l l1 l2 v v1 v2 : List ℕ} → Reads a_statement s room p q l l1 v v1 → Reads some_statements s room q r l1 l2 v1 v2
    → Reads some_statements s room p r l l2 v v2
statements_more a b =
    record {
      tree = also a.tree b.tree;
      fine = λ z. a.fine (b.fine z);
      ahead = omega (arith, a.ahead, b.ahead);
      inside = b.inside;
      moves = λ c ss k u. a.moves c ss k u ∙ b.moves c ss _ u;
      judges = λ z. then_judged (a.judges (b.fine z)) (b.judges z);
    }

-- WHAT CLOSES THE ARMS OF AN `if`

none_of : (a b c d : Bool) → (a || (b || c)) ≡ false → d ≡ false → (a || (b || (c || d))) ≡ false
none_of false false false d e g = g
none_of false false true d e g = e
none_of false true c d e g = e
none_of true b c d e g = e

-- only `end` may stand there
module _ (s : List ℕ) (p : Reached) (stops : Stops s p) where
  only_then : (p.number ≡ 0 → kind_seen (look_of s p.at) ≡ 13 → ⊥) → Only s p (statements in_then) END
  only_then g f small o =
      let k = kind_seen (look_of s p.at) in
      none_of (eqb k 108) (eqb k 11) (eqb k 14) (eqb k 13 || (eqb k 2 || false)) (stops.none f) (rw (ne_eqb k 13 (g f), ne_eqb k 2 o))

  only_else : Only s p (statements in_else) END
  only_else f small o =
      let k = kind_seen (look_of s p.at) in
      none_of (eqb k 108) (eqb k 11) (eqb k 14) (eqb k 2 || false) (stops.none f) (rw (ne_eqb k 2 o))

  pub only-process : Only s p (statements in_process) END
  only-process f small o =
      let k = kind_seen (look_of s p.at) in
      none_of (eqb k 108) (eqb k 11) (eqb k 14) (eqb k 2 || false) (stops.none f) (rw (ne_eqb k 2 o))

-- `end` `if` `;`, where b is closed by it
record Closed (s : List ℕ) (p q : Reached) (b : Block) (v : Closing b) : Type 0 where
  fine : q.number ≡ 0 → p.number ≡ 0
  ahead : p.at ≤ q.at
  inside : q.at ≤ length s
  moves : (ss : List Symbol) (k : Values Value (statements b ∷ ss) → Design) → weights weight (statements b ∷ ss) ≤ most_open
      → verdict s p (statements b ∷ ss) k ≡ verdict s q ss (λ us. k ((done, v), us))
  judges : q.number ≡ 0 → {l v : List ℕ} → Judged 0 0 s p q l l v v (λ r. passes ∷ passes ∷ passes ∷ r) (λ m. m)

closed : {s : List ℕ} {p q : Reached} (b : Block) (v : Closing b) → block_weight b ≡ 1 → next (statements b) (fixed END) ≡ some record { push = closing_if ∷ []; build = λ _. (done, v) }
    → Only s p (statements b) END → p.at ≤ length s → q ≡ end_if_of s p → Closed s p q b v
closed {s} {p} {q} b v one n o h e =
    let w1 = worded END h refl in
    let w2 = worded IF w1.inside refl in
    let w3 = worded SEMICOLON w2.inside e in
    record {
      fine = λ z. w1.fine (w2.fine (w3.fine z));
      ahead = omega (arith, w1.ahead, w2.ahead, w3.ahead);
      inside = w3.inside;
      moves = λ ss k u. w1.moves (statements b) record { push = closing_if ∷ []; build = λ _. (done, v) } n o ss k (omega arith)
          ∙ w2.moves closing_if record { push = the_word SEMICOLON ∷ []; build = λ _. tt } refl (λ _ small i. rw (ne_eqb _ 11 i)) ss _ (omega arith)
          ∙ w3.moves (the_word SEMICOLON) record { push = []; build = λ _. tt } refl (only-word s (word_of s (word_of s p 2) 11) SEMICOLON) ss _ (omega arith);
      judges = λ z. let f2 = w3.fine z in then_judged (w1.judges (w2.fine f2)) (then_judged (w2.judges f2) (w3.judges z));
    }

module _ {s : List ℕ} {room : ℕ} {p : Reached} {l v : List ℕ} {t : Look} (h : p.at ≤ length s) (f : p.number ≡ 0) (e : t ≡ look_of s p.at) (stops : Stops s p) where
  pub finish_end : {q : Reached} → (kind_seen t ≡ 13 → ⊥) → q ≡ end_if_of s p → Reads (closes in_then finish_roles otherwise_draft) s room p q l l v v
  finish_end g e1 =
      let c = closed {s = s} {p = p} in_then missing refl refl (only_then s p stops (λ _ z. g (ap kind_seen e ∙ z))) h e1 in
      record { tree = missing; fine = c.fine; ahead = c.ahead; inside = c.inside; moves = λ _ ss k u. c.moves ss k (omega arith); judges = λ z. c.judges z }

  pub finish_else : {q r : Reached} {l' v' : List ℕ} → kind_seen t ≡ 13 → Reads some_statements s room (past t p.next) q l l' v v' → Stops s q → r ≡ end_if_of s q
      → Reads (closes in_then finish_roles otherwise_draft) s room p r l l' v v'
  finish_else {q} {r} k d stops2 e1 =
      let x = seen-there h e (λ z. omega arith) in
      let c = closed {s = s} {p = q} in_else tt refl refl (only_else s q stops2) d.inside e1 in
      record {
        tree = otherwise d.tree;
        fine = λ _. f;
        ahead = omega (arith, x.after, x.some, d.ahead, c.ahead);
        inside = c.inside;
        moves = λ _ ss g u. some_moves s p f p.next (statements in_then) x record { push = statements in_else ∷ []; build = λ ws. (done, otherwise ws.0.0) }
            (ap (next (statements in_then)) (fixed-seen s t ELSE k)) ss g (omega arith)
            ∙ d.moves in_else ss _ (omega arith) ∙ c.moves ss _ (omega arith)
            ∙ ap (λ (v : Statements). verdict s r ss (λ us. g ((done, otherwise v), us))) (onto-done d.tree);
        judges = λ z. then_judged (passes-judged x) (then_judged (d.judges (c.fine z)) (c.judges z));
      }

-- LOOPS

-- what begins a statement and is no name and no `if` is `null`
pub starter-null : (k : ℕ) → starter k ≡ true → (k ≡ 108 → ⊥) → (k ≡ 11 → ⊥) → k ≡ 14
starter-null k e a b = eqb-true k 14 (sym (rw (ne_eqb k 108 a, ne_eqb k 11 b)) ∙ e)

pub stops_at : {s : List ℕ} {p : Reached} {n : ℕ} → Stops s p → Stops s (addressed p n)
stops_at d = record { none = d.none }
