-- Processes: one law for each way of returning.
-- Assumes nothing.
use Prim.Native.Nat.{ℕ, ◌≤◌}
use native.Mathlib.Omega.{arith}
use mathlib.Core.Path.{◌≡◌, refl, ap, ◌∙◌}
use mathlib.Core.Bool.{true, false}
use mathlib.Core.Option.{Option, none, some}
use mathlib.Core.List.{List, [], ◌∷◌}
use lib.ListN.{length, get_or}
use borrow.Author.Tests.{eq-eqb, ne_eqb}
use Rattle.words.specs.Token.{Name, IS, BEGIN, END, PROCESS, OPEN, CLOSE, COLON, COMMA, SEMICOLON, fixed}
use Rattle.syntax.specs.Tree.{Statements, done, unlisted, listed}
use Rattle.syntax.proofs.Rows.{in_process, Part, entity_part, architecture_part, part_word, next, labelled, a_name, the_word, more_listed, beginning, closing_name, closing, process_body, processes, statements, the_fixed}
use Rattle.syntax.proofs.Missing as missing
use Rattle.names.specs.Roles.{listens, labels, opens, closes}
use Rattle.look.specs.declared.Look.{Look}
use Rattle.look.specs.Inside.Looks.{kind_seen, part, name_at, look_of, token_of_look}
use Rattle.look.proofs.Looks.{seen, seen-there}
use Rattle.look.proofs.Numbers.{fixed_kind, misfit, name-seen, fixed-seen}
use Rattle.names.specs.Judge.{State, fine, number_of}
use Rattle.emission.specs.Inside.Draft.{Draft, waking, ended, with_listener, with_end, processes_draft}
use Rattle.ledger.specs.Inside.Standing.{Keeps, keeps_fine, Judges, Numbers}
use Rattle.ledger.proofs.Keeping.{unlabelled}
use Rattle.reading.specs.Inside.Spots.{Reached, verdict, drafted, past, unfit, word_of, Stops}
use Rattle.reading.specs.Inside.Reading.{whole, a_list, a_process, some_statements, listens_roles, more_listed_roles, beginning_roles, closing_name_roles, body_roles, processes_end_roles, closing_part_roles, silent, more_listed_draft, body_draft, Opens, Ready, Reads}
use Rattle.reading.proofs.Moves.{some_moves, same_moves}
use Rattle.reading.proofs.Judging.{none-judged, then_judged, redrafted, token-judged, passes-judged}
use Rattle.reading.proofs.Words.{worded, only-word}
use Rattle.statements.proofs.Returns.{onto-done, only-process}
use Rattle.reader.proofs.Declarations.{kept-after}

part_next : (u : Part) → next (closing u) (fixed (part_word u)) ≡ some record { push = closing_name ∷ []; build = λ ws. (true, ws.0) }
part_next entity_part = refl
part_next architecture_part = refl

-- how many processes there are by the words that keep a state
counted-processes : {u : ℕ} {s l : List ℕ} {y : State} → Keeps u s l (fine y) → get_or l 4 0 ≡ y.processes
counted-processes (keeps_fine x) = x.processes_are

-- a signal wakes the last process, and the last process ends, in the draft's words
listener-drafted : (n : Name) (y : State) (v : List ℕ) (i : ℕ) {k j : ℕ} {w : List ℕ} → k ≡ number_of n y.signal_names → j ≡ y.processes → w ≡ waking v k j
    → with_listener n (drafted y v i) ≡ drafted y w i
unfolding with_listener
listener-drafted n y v i e g o = rw (o, e, g)

end_drafted : (y : State) (v : List ℕ) (i : ℕ) {j : ℕ} {w : List ℕ} → j ≡ y.processes → w ≡ ended v j i → with_end (drafted y v i) ≡ drafted y w i
unfolding with_end
end_drafted y v i g o = rw (o, g)

module _ {s : List ℕ} {p : Reached} {t : Look} (h : p.at ≤ length s) (f : p.number ≡ 0) (e : t ≡ look_of s p.at) where
  -- a name in a list

  pub listened_read : {k : ℕ} {l l' v v' : List ℕ} → kind_seen t ≡ 108 → Judges 0 0 s (listens (name_at s t.start t.end)) t.start l l'
      → Numbers s l (name_at s t.start t.end) k → v' ≡ waking v k (get_or l' 4 0) → Reads (whole a_name listens_roles with_listener) s 32 p (past t p.next) l l' v v'
  listened_read {k} {l} {l'} {v} {v'} g j numbers o =
      let x = seen-there h e (λ z. omega arith) in
      let n = name_at s t.start t.end in
      let token = token-judged {p = p} x {v = v} (listens n) j in
      record {
        tree = n;
        fine = λ _. f;
        ahead = omega (arith, x.after, x.some);
        inside = x.inside;
        moves = λ c ss m u. some_moves s p f p.next a_name x record { push = []; build = λ _. n } (ap (next a_name) (name-seen s t g)) ss m (omega arith);
        judges = λ _. redrafted token (λ y y' c i w. ap (with_listener n) w
            ∙ listener-drafted n y' v p.next (numbers.number_is y c ∙ ap (λ (m : Draft). number_of n m.names) w) (counted-processes (kept-after token c i)) o);
      }

  -- {`,` name} `)`

  pub listed_end : {q : Reached} {l v : List ℕ} → (kind_seen t ≡ 112 → ⊥) → q ≡ word_of s p 111 → Reads (whole more_listed more_listed_roles more_listed_draft) s 32 p q l l v v
  listed_end k e1 =
      let w = worded CLOSE h e1 in
      record {
        tree = [];
        fine = λ _. f;
        ahead = w.ahead;
        inside = w.inside;
        moves = λ c ss m u. w.moves more_listed record { push = []; build = λ _. [] } refl
            (λ _ small o. rw (ne_eqb _ 112 (λ z. k (ap kind_seen e ∙ z)), ne_eqb _ 111 o)) ss m (omega arith);
        judges = λ z. w.judges z;
      }

  pub listed_comma : {q r : Reached} {l l1 l2 v v1 v2 : List ℕ} → kind_seen t ≡ 112 → Reads (whole a_name listens_roles with_listener) s 32 (past t p.next) q l l1 v v1
      → Reads (whole more_listed more_listed_roles more_listed_draft) s 32 q r l1 l2 v1 v2 → Reads (whole more_listed more_listed_roles more_listed_draft) s 32 p r l l2 v v2
  listed_comma k d o =
      let x = seen-there h e (λ z. omega arith) in
      record {
        tree = d.tree ∷ o.tree;
        fine = λ _. f;
        ahead = omega (arith, x.after, x.some, d.ahead, o.ahead);
        inside = o.inside;
        moves = λ c ss m u. some_moves s p f p.next more_listed x record { push = a_name ∷ more_listed ∷ []; build = λ ws. ws.0 ∷ ws.1.0 } (ap (next more_listed) (fixed-seen s t COMMA k)) ss m (omega arith)
            ∙ d.moves tt (more_listed ∷ ss) _ (omega arith) ∙ o.moves tt ss _ (omega arith);
        judges = λ z. then_judged (passes-judged x) (then_judged (d.judges (o.fine z)) (o.judges z));
      }

  -- [`(` name {`,` name} `)`]

  pub list_none : {l v : List ℕ} → (kind_seen t ≡ 110 → ⊥) → Reads a_list s 32 p p l l v v
  list_none k =
      record {
        tree = unlisted;
        fine = λ z. z;
        ahead = omega arith;
        inside = h;
        moves = λ c ss m u. same_moves s p f 0 process_body (seen h e) beginning ss (statements in_process ∷ ss) m (λ vs. m ((unlisted, (vs.0, vs.1.0)), vs.1.1))
            (λ small ts. missing.list_missing (token_of_look s t) ts ss (misfit (part s t.start t.end) (kind_seen t) small (the_fixed OPEN) (ne_eqb (kind_seen t) 110 k)) m);
        judges = λ z. none-judged;
      }

  pub list_some : {q r : Reached} {l l1 l2 v v1 v2 : List ℕ} → kind_seen t ≡ 110 → Reads (whole a_name listens_roles with_listener) s 32 (past t p.next) q l l1 v v1
      → Reads (whole more_listed more_listed_roles more_listed_draft) s 32 q r l1 l2 v1 v2 → Reads a_list s 32 p r l l2 v v2
  list_some k d o =
      let x = seen-there h e (λ z. omega arith) in
      record {
        tree = listed d.tree o.tree;
        fine = λ _. f;
        ahead = omega (arith, x.after, x.some, d.ahead, o.ahead);
        inside = o.inside;
        moves = λ c ss m u. some_moves s p f p.next process_body x
            record { push = a_name ∷ more_listed ∷ beginning ∷ statements in_process ∷ []; build = λ ws. (listed ws.0 ws.1.0, (ws.1.1.0, ws.1.1.1.0)) }
            (ap (next process_body) (fixed-seen s t OPEN k)) ss m (omega arith)
            ∙ d.moves tt (more_listed ∷ beginning ∷ statements in_process ∷ ss) _ (omega arith) ∙ o.moves tt (beginning ∷ statements in_process ∷ ss) _ (omega arith);
        judges = λ z. then_judged (passes-judged x) (then_judged (d.judges (o.fine z)) (o.judges z));
      }

  -- [`is`] `begin`

  pub beginning-plain : {q : Reached} {l v : List ℕ} → (kind_seen t ≡ 1 → ⊥) → q ≡ word_of s p 6 → Reads (whole beginning beginning_roles silent) s 32 p q l l v v
  beginning-plain k e1 =
      let w = worded BEGIN h e1 in
      record {
        tree = false;
        fine = λ _. f;
        ahead = w.ahead;
        inside = w.inside;
        moves = λ c ss m u. w.moves beginning record { push = []; build = λ _. false } refl
            (λ _ small o. rw (ne_eqb _ 1 (λ z. k (ap kind_seen e ∙ z)), ne_eqb _ 6 o)) ss m (omega arith);
        judges = λ z. w.judges z;
      }

  pub beginning_is : {q : Reached} {l v : List ℕ} → kind_seen t ≡ 1 → q ≡ word_of s (past t p.next) 6 → Reads (whole beginning beginning_roles silent) s 32 p q l l v v
  beginning_is k e1 =
      let x = seen-there h e (λ z. omega arith) in
      let w = worded BEGIN x.inside e1 in
      record {
        tree = true;
        fine = λ _. f;
        ahead = omega (arith, x.after, x.some, w.ahead);
        inside = w.inside;
        moves = λ c ss m u. some_moves s p f p.next beginning x record { push = the_word BEGIN ∷ []; build = λ _. true } (ap (next beginning) (fixed-seen s t IS k)) ss m (omega arith)
            ∙ w.moves (the_word BEGIN) record { push = []; build = λ _. tt } refl (only-word s (past t p.next) BEGIN) ss _ (omega arith);
        judges = λ z. then_judged (passes-judged x) (w.judges z);
      }

  -- [name] `;`

  pub closing-none : {q : Reached} {l v : List ℕ} {o : Option Name} → (kind_seen t ≡ 108 → ⊥) → q ≡ word_of s p 114 → Reads (whole closing_name (closing_name_roles o) silent) s 32 p q l l v v
  closing-none k e1 =
      let w = worded SEMICOLON h e1 in
      record {
        tree = none;
        fine = λ _. f;
        ahead = w.ahead;
        inside = w.inside;
        moves = λ c ss m u. w.moves closing_name record { push = []; build = λ _. none } refl
            (λ _ small o. rw (ne_eqb _ 108 (λ z. k (ap kind_seen e ∙ z)), ne_eqb _ 114 o)) ss m (omega arith);
        judges = λ z. w.judges z;
      }

  pub closing_some : {q : Reached} {l l' v : List ℕ} {o : Option Name} → kind_seen t ≡ 108 → Judges 0 0 s (closes o (name_at s t.start t.end)) t.start l l'
      → q ≡ word_of s (past t p.next) 114 → Reads (whole closing_name (closing_name_roles o) silent) s 32 p q l l' v v
  closing_some {o = o} k j e1 =
      let x = seen-there h e (λ z. omega arith) in
      let w = worded SEMICOLON x.inside e1 in
      record {
        tree = some (name_at s t.start t.end);
        fine = λ _. f;
        ahead = omega (arith, x.after, x.some, w.ahead);
        inside = w.inside;
        moves = λ c ss m u. some_moves s p f p.next closing_name x record { push = the_word SEMICOLON ∷ []; build = λ _. some (name_at s t.start t.end) } (ap (next closing_name) (name-seen s t k)) ss m (omega arith)
            ∙ w.moves (the_word SEMICOLON) record { push = []; build = λ _. tt } refl (only-word s (past t p.next) SEMICOLON) ss _ (omega arith);
        judges = λ z. then_judged (token-judged x (closes o (name_at s t.start t.end)) j) (w.judges z);
      }

  -- [`entity` or `architecture`] [name] `;`

  pub part-plain : (u : Part) {q : Reached} {l l' v v' : List ℕ} {o : Option Name} → (kind_seen t ≡ fixed_kind (part_word u) → ⊥)
      → Reads (whole closing_name (closing_name_roles o) silent) s 32 p q l l' v v' → Reads (whole (closing u) (closing_part_roles o) silent) s 32 p q l l' v v'
  part-plain u k d =
      record {
        tree = (false, d.tree);
        fine = d.fine;
        ahead = d.ahead;
        inside = d.inside;
        moves = λ c ss m i. same_moves s p f 0 (closing u) (seen h e) closing_name ss ss m (λ vs. m ((false, vs.0), vs.1))
            (λ small ts. missing.closing-word-missing (token_of_look s t) ts ss u (misfit (part s t.start t.end) (kind_seen t) small (the_fixed (part_word u)) (ne_eqb (kind_seen t) (fixed_kind (part_word u)) k)) m)
            ∙ d.moves tt ss (λ vs. m ((false, vs.0), vs.1)) (omega arith);
        judges = d.judges;
      }

  pub part-word : (u : Part) {q : Reached} {l l' v v' : List ℕ} {o : Option Name} → kind_seen t ≡ fixed_kind (part_word u) → (kind_seen t ≡ 117 → ⊥)
      → Reads (whole closing_name (closing_name_roles o) silent) s 32 (past t p.next) q l l' v v' → Reads (whole (closing u) (closing_part_roles o) silent) s 32 p q l l' v v'
  part-word u k g d =
      let x = seen-there h e g in
      record {
        tree = (true, d.tree);
        fine = λ _. f;
        ahead = omega (arith, x.after, x.some, d.ahead);
        inside = d.inside;
        moves = λ c ss m i. some_moves s p f p.next (closing u) x record { push = closing_name ∷ []; build = λ ws. (true, ws.0) } (ap (next (closing u)) (fixed-seen s t (part_word u) k) ∙ part_next u) ss m (omega arith)
            ∙ d.moves tt ss _ (omega arith);
        judges = λ z. then_judged (passes-judged x) (d.judges z);
      }

-- WHAT FOLLOWS THE WORD `process`

pub body-read : {s : List ℕ} {p a b c d e q : Reached} {l l1 l2 l3 v v1 v2 v3 : List ℕ} {o : Option Name} → Reads a_list s 32 p a l l1 v v1
    → Reads (whole beginning beginning_roles silent) s 32 a b l1 l1 v1 v1 → Reads some_statements s 32 b c l1 l2 v1 v2 → Stops s c → v3 ≡ ended v2 (get_or l2 4 0) c.next
    → d ≡ word_of s c 2 → e ≡ word_of s d 8 → Reads (whole closing_name (closing_name_roles o) silent) s 32 e q l2 l3 v3 v3
    → Reads (whole process_body (body_roles o) body_draft) s 32 p q l l3 v v3
body-read {s} {p} {a} {b} {c} {d} {e} {q} {v2 = v2} r1 r2 r3 stops ends e1 e2 r4 =
    let w1 = worded END r3.inside e1 in
    let w2 = worded PROCESS w1.inside e2 in
    record {
      tree = (r1.tree, (r2.tree, (r3.tree, r4.tree)));
      fine = λ z. r1.fine (r2.fine (r3.fine (w1.fine (w2.fine (r4.fine z)))));
      ahead = omega (arith, r1.ahead, r2.ahead, r3.ahead, w1.ahead, w2.ahead, r4.ahead);
      inside = r4.inside;
      moves = λ _ ss m u. r1.moves tt ss m (omega arith) ∙ r2.moves tt (statements in_process ∷ ss) _ (omega arith) ∙ r3.moves in_process ss _ (omega arith)
          ∙ w1.moves (statements in_process) record { push = the_word PROCESS ∷ closing_name ∷ []; build = λ ws. (done, ws.1.0) } refl (only-process s c stops) ss _ (omega arith)
          ∙ w2.moves (the_word PROCESS) record { push = []; build = λ _. tt } refl (only-word s d PROCESS) (closing_name ∷ ss) _ (omega arith)
          ∙ r4.moves tt ss _ (omega arith)
          ∙ ap (λ (v : Statements). verdict s q ss (λ us. m ((r1.tree, (r2.tree, (v, r4.tree))), us))) (onto-done r3.tree);
      judges = λ z.
          let fe = r4.fine z in
          let fd = w2.fine fe in
          let fc = w1.fine fd in
          let fb = r3.fine fc in
          let fa = r2.fine fb in
          let inner = then_judged (r1.judges fa) (then_judged (r2.judges fb) (r3.judges fc)) in
          then_judged (redrafted inner {n = c.next} (λ y y' k g i. ap with_end i ∙ end_drafted y' v2 c.next (counted-processes (kept-after inner k g)) ends))
          (then_judged (w1.judges fd) (then_judged (w2.judges fe) (r4.judges z)));
    }

-- THE WORD `process`

module _ {s : List ℕ} {p : Reached} {t : Look} (h : p.at ≤ length s) (f : p.number ≡ 0) (e : t ≡ look_of s p.at) where
  pub opens-read : {l l' v : List ℕ} → kind_seen t ≡ 8 → Judges 1 0 s opens t.start l l' → Opens s p (past t p.next) l l' v
  unfolding word_of
  opens-read k j =
      let x = seen-there h e (λ z. omega arith) in
      record { worded = rw (eq-eqb p.number 0 f, ← e, eq-eqb (kind_seen t) 8 k); judged = λ _. token-judged x opens j }

  pub opens-unfit : {l l' v : List ℕ} → (kind_seen t ≡ 8 → ⊥) → Opens s p (unfit t 0) l l' v
  unfolding word_of
  opens-unfit k = record { worded = rw (eq-eqb p.number 0 f, ← e, ne_eqb (kind_seen t) 8 k); judged = λ z. absurd (omega (arith, z)) }

pub opens-off : {s : List ℕ} {p : Reached} {l l' v : List ℕ} → (p.number ≡ 0 → ⊥) → Opens s p p l l' v
unfolding word_of
opens-off {p = p} f = record { worded = rw (ne_eqb p.number 0 f); judged = λ z. absurd (f z) }

pub ready_open : {s : List ℕ} {p : Reached} {l : List ℕ} → Ready 0 s p l → Ready 1 s p l
ready_open r = record { inside = r.inside; sound = λ f. let d = r.sound f in record { judgement = d.judgement; keeps = unlabelled d.keeps } }

pub ready-opened : {s : List ℕ} {p q : Reached} {l l' v : List ℕ} → Ready 1 s p l → Opens s p q l l' v → Ready 0 s q l'
ready-opened r o =
    let w = worded PROCESS r.inside o.worded in
    record { inside = w.inside; sound = λ f. let d = r.sound (w.fine f) in record { judgement = _; keeps = (o.judged f).keeps d.judgement d.keeps } }

-- A PROCESS

module _ {s : List ℕ} {p : Reached} {t : Look} (h : p.at ≤ length s) (f : p.number ≡ 0) (e : t ≡ look_of s p.at) where
  pub process-labelled : {a b q : Reached} {l l1 l2 l3 v v' : List ℕ} → kind_seen t ≡ 108 → Judges 0 1 s (labels (name_at s t.start t.end)) t.start l l1
      → a ≡ word_of s (past t p.next) 113 → Opens s a b l1 l2 v → Reads (whole process_body (body_roles (some (name_at s t.start t.end))) body_draft) s 32 b q l2 l3 v v'
      → Reads a_process s 32 p q l l3 v v'
  process-labelled {a} {b} {q} {l} {l1} {l2} {l3} {v} {v'} k j e1 o d =
      let x = seen-there h e (λ z. omega arith) in
      let w1 = worded COLON x.inside e1 in
      let w2 = worded PROCESS w1.inside o.worded in
      record {
        tree = labelled (some (name_at s t.start t.end)) d.tree;
        fine = λ _. f;
        ahead = omega (arith, x.after, x.some, w1.ahead, w2.ahead, d.ahead);
        inside = d.inside;
        moves = λ _ ss m u. some_moves s p f p.next processes x
            record { push = the_word COLON ∷ the_word PROCESS ∷ process_body ∷ processes ∷ []; build = λ ws. labelled (some (name_at s t.start t.end)) ws.1.1.0 ∷ ws.1.1.1.0 }
            (ap (next processes) (name-seen s t k)) ss m (omega arith)
            ∙ w1.moves (the_word COLON) record { push = []; build = λ _. tt } refl (only-word s (past t p.next) COLON) (the_word PROCESS ∷ process_body ∷ processes ∷ ss) _ (omega arith)
            ∙ w2.moves (the_word PROCESS) record { push = []; build = λ _. tt } refl (only-word s a PROCESS) (process_body ∷ processes ∷ ss) _ (omega arith)
            ∙ d.moves tt (processes ∷ ss) _ (omega arith);
        judges = λ z.
            let fb = d.fine z in
            let fa = w2.fine fb in
            then_judged (token-judged x (labels (name_at s t.start t.end)) j) (then_judged (w1.judges fa) (then_judged (o.judged fb) (d.judges z)));
      }

  pub process-plain : {b q : Reached} {l l1 l2 v v' : List ℕ} → (kind_seen t ≡ 108 → ⊥) → (kind_seen t ≡ 2 → ⊥) → Opens s p b l l1 v
      → Reads (whole process_body (body_roles none) body_draft) s 32 b q l1 l2 v v' → Reads a_process s 32 p q l l2 v v'
  process-plain k g o d =
      let w = worded PROCESS h o.worded in
      record {
        tree = labelled none d.tree;
        fine = λ _. f;
        ahead = omega (arith, w.ahead, d.ahead);
        inside = d.inside;
        moves = λ _ ss m u. w.moves processes record { push = process_body ∷ processes ∷ []; build = λ ws. labelled none ws.0 ∷ ws.1.0 } refl
            (λ _ small i. rw (ne_eqb _ 108 (λ z. k (ap kind_seen e ∙ z)), ne_eqb _ 8 i, ne_eqb _ 2 (λ z. g (ap kind_seen e ∙ z)))) ss m (omega arith)
            ∙ d.moves tt (processes ∷ ss) _ (omega arith);
        judges = λ z.
            let i = o.judged (d.fine z) in
            then_judged (record { after = i.after; keeps = λ j c. i.keeps j (unlabelled c); folds = i.folds; writes = λ y y' c. i.writes y y' (unlabelled c) }) (d.judges z);
      }

  -- {process} `end`

  pub processes_end : {l v : List ℕ} → kind_seen t ≡ 2 → Reads (whole processes processes_end_roles processes_draft) s 32 p (past t p.next) l l v v
  processes_end k =
      let x = seen-there h e (λ z. omega arith) in
      record {
        tree = [];
        fine = λ _. f;
        ahead = omega (arith, x.after, x.some);
        inside = x.inside;
        moves = λ c ss m u. some_moves s p f p.next processes x record { push = []; build = λ _. [] } (ap (next processes) (fixed-seen s t END k)) ss m (omega arith);
        judges = λ _. passes-judged x;
      }

pub processes_more : {s : List ℕ} {p q r : Reached} {l l1 l2 v v1 v2 : List ℕ} → Reads a_process s 32 p q l l1 v v1
    → Reads (whole processes processes_end_roles processes_draft) s 32 q r l1 l2 v1 v2 → Reads (whole processes processes_end_roles processes_draft) s 32 p r l l2 v v2
processes_more a b =
    record {
      tree = a.tree ∷ b.tree;
      fine = λ z. a.fine (b.fine z);
      ahead = omega (arith, a.ahead, b.ahead);
      inside = b.inside;
      moves = λ c ss k u. a.moves tt ss k u ∙ b.moves tt ss _ u;
      judges = λ z. then_judged (a.judges (b.fine z)) (b.judges z);
    }
