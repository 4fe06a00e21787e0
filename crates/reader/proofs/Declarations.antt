-- Names and declarations of signals: one law for each way of returning.
-- Assumes nothing.
use Prim.Native.Nat.{ℕ, ◌<◌, ◌≤◌}
use native.Mathlib.Omega.{arith}
use mathlib.Core.Path.{◌≡◌, refl, sym, ap, ◌∙◌, subst}
use mathlib.Core.Bool.{Bool, true, false}
use mathlib.Core.Option.{none, some}
use mathlib.Core.List.{List, [], ◌∷◌}
use lib.Dec.{eqb}
use lib.ListN.{length, get_or}
use borrow.Author.Tests.{ne_eqb, eqb-true, eqb-false}
use Rattle.laws.specs.Pick.{within}
use Rattle.words.specs.Token.{Name, SIGNAL, BEGIN, BOOLEAN, COLON, COMMA, SEMICOLON, BECOMES}
use Rattle.syntax.specs.Tree.{declaration}
use Rattle.syntax.proofs.Rows.{rows, next, a_name, a_literal, the_word, initial_value, more_signals, signals, the_fixed}
use Rattle.syntax.proofs.Missing as missing
use Rattle.names.specs.Roles.{Role, passes}
use Rattle.look.specs.declared.Look.{Look}
use Rattle.look.specs.Inside.Looks.{kind_seen, part, name_at, look_of, token_of_look, literal_of}
use Rattle.look.proofs.Looks.{seen, seen-there}
use Rattle.look.proofs.Numbers.{taken_by, misfit, literal-token, name-seen, fixed-seen}
use Rattle.names.specs.Judge.{State, fine}
use Rattle.emission.specs.Inside.Draft.{Draft, begun, with_name, with_initial, declaration_draft, declarations_draft}
use Rattle.ledger.specs.Inside.Standing.{Keeps, keeps_fine, Judges}
use Rattle.ledger.proofs.Keeping.{signals-count}
use Rattle.reading.specs.Inside.Spots.{Reached, drafted, Judged, past, unfit, word_of}
use Rattle.reading.specs.Inside.Reading.{whole, given, declares_roles, initial_roles, more_signals_roles, signals_roles, initial_draft, more_signals_draft, the_name, Named, Reads}
use Rattle.reading.proofs.Moves.{some_moves, stuck-moves, same_moves}
use Rattle.reading.proofs.Judging.{draft_of, then_judged, redrafted, token-judged, passes-judged}
use Rattle.reading.proofs.Words.{worded, only-word}
use Rattle.reading.proofs.Generic.{near, within_text, reads-stuck}

-- how many signals there are by the words that keep a state
pub counted-signals : {s l : List ℕ} {y : State} → Keeps 0 s l (fine y) → get_or l 2 0 ≡ length y.signal_names
counted-signals (keeps_fine x) = sym (signals-count x)

-- what the words keep of the state after a part
pub kept-after : {u u' : ℕ} {s : List ℕ} {p q : Reached} {l l' v v' : List ℕ} {f : List Role → List Role} {d : Draft → Draft} (a : Judged u u' s p q l l' v v' f d)
    {y y' : State} → Keeps u s l (fine y) → a.after (fine y) ≡ fine y' → Keeps u' s l' (fine y')
kept-after {u' = u'} {s} {l' = l'} a {y} k e = subst (Keeps u' s l') e (a.keeps (fine y) k)

-- the starting values of the signals from number k on, in the draft's words
begun-drafted : (kind k upto : ℕ) → 22 ≤ kind → kind < 24 → (y : State) (v w : List ℕ) (n : ℕ) → upto ≡ length y.signal_names → w ≡ begun v k upto kind
    → with_initial (some (literal_of kind)) k (drafted y v n) ≡ drafted y w n
unfolding with_initial
begun-drafted kind k upto lo hi y v w n e g = go (eqb kind 22) refl
  where
    go : (b : Bool) → eqb kind 22 ≡ b → with_initial (some (literal_of kind)) k (drafted y v n) ≡ drafted y w n
    go true b = let z = eqb-true kind 22 b in rw (z, g, z, e)
    go false b = let z : kind ≡ 23 = omega (arith, eqb-false kind 22 b) in rw (z, g, z)

module _ {s : List ℕ} {p : Reached} {t : Look} (h : p.at ≤ length s) (f : p.number ≡ 0) (e : t ≡ look_of s p.at) where
  -- NAMES

  -- a name in a role
  pub name-read : {l l' v : List ℕ} (role : Name → Role) → kind_seen t ≡ 108 → Judges 0 0 s (role (name_at s t.start t.end)) t.start l l'
      → Reads (whole a_name (λ m r. role m ∷ r) (λ m. draft_of (role m))) s 32 p (past t p.next) l l' v v
  name-read role k j =
      let x = seen-there h e (λ z. omega arith) in
      record {
        tree = name_at s t.start t.end;
        fine = λ _. f;
        ahead = omega (arith, x.after, x.some);
        inside = x.inside;
        moves = λ c ss m u. some_moves s p f p.next a_name x record { push = []; build = λ _. name_at s t.start t.end } (ap (next a_name) (name-seen s t k)) ss m (omega arith);
        judges = λ _. token-judged x (role (name_at s t.start t.end)) j;
      }

  pub name-unfit : {l l' v v' : List ℕ} (role : Name → Role) {drafts : Name → Draft → Draft} (n : ℕ) → (kind_seen t ≡ 108 → ⊥)
      → Reads (whole a_name (λ m r. role m ∷ r) drafts) s 32 p (unfit t n) l l' v v'
  name-unfit role {drafts} n k = reads-stuck (whole a_name (λ m r. role m ∷ r) drafts) h f e (λ _ small. rw (ne_eqb (kind_seen t) 108 k))

  named-token : {l v : List ℕ} → kind_seen t ≡ 108 → Reads (given a_name (name_at s t.start t.end) (λ r. passes ∷ r)) s 32 p (past t p.next) l l v v
  named-token k =
      let x = seen-there h e (λ z. omega arith) in
      record {
        tree = tt;
        fine = λ _. f;
        ahead = omega (arith, x.after, x.some);
        inside = x.inside;
        moves = λ c ss m u. some_moves s p f p.next a_name x record { push = []; build = λ _. name_at s t.start t.end } (ap (next a_name) (name-seen s t k)) ss m (omega arith);
        judges = λ _. passes-judged x;
      }

  pub named-read : {l v : List ℕ} → kind_seen t ≡ 108 → Named s p (past t p.next) l v
  named-read {l} {v} k =
      let x = seen-there h e (λ z. omega arith) in
      record {
        reads = subst (λ (u : Look). Reads (given a_name (name_at s u.start u.end) (λ r. passes ∷ r)) s 32 p (past t p.next) l l v v) e (named-token k);
        some = λ _. subst (λ (u : Look). u.start < u.end) e x.some;
      }

  pub named-unfit : {l v : List ℕ} (n : ℕ) → (kind_seen t ≡ 108 → ⊥) → Named s p (unfit t n) l v
  named-unfit n k =
      record {
        reads = reads-stuck (given a_name (the_name s p.at) (λ r. passes ∷ r)) h f e (λ _ small. rw (ne_eqb (kind_seen t) 108 k));
        some = λ z. absurd (omega (arith, z));
      }

  -- [`:=` literal] `;`, for the signals from number from on

  module _ (from : ℕ) where
    pub initial-none : {q : Reached} {l v : List ℕ} → (kind_seen t ≡ 116 → ⊥) → q ≡ word_of s p 114 → Reads (whole initial_value initial_roles (initial_draft from)) s 32 p q l l v v
    unfolding with_initial
    initial-none {q} k e2 =
        let w = worded SEMICOLON h e2 in
        record {
          tree = none;
          fine = λ _. f;
          ahead = w.ahead;
          inside = w.inside;
          moves = λ c ss m u. same_moves s p f 0 initial_value (seen h e) (the_word SEMICOLON) ss ss m (λ vs. m (none, vs.1))
              (λ small ts. missing.initial-missing (token_of_look s t) ts ss (misfit (part s t.start t.end) (kind_seen t) small (the_fixed BECOMES) (ne_eqb (kind_seen t) 116 k)) m)
              ∙ w.moves (the_word SEMICOLON) record { push = []; build = λ _. tt } refl (only-word s p SEMICOLON) ss _ (omega arith);
          judges = λ g. w.judges g;
        }

    module _ (k : kind_seen t ≡ 116) {i : Look} (e2 : i ≡ look_of s t.end) where
      no_literal : (n : ℕ) {l l' v v' : List ℕ} → ((small : kind_seen i < 117) → taken_by (part s i.start i.end) (kind_seen i) small (rows a_literal) ≡ false)
          → Reads (whole initial_value initial_roles (initial_draft from)) s 32 p (unfit i n) l l' v v'
      no_literal n g =
          let x = seen-there h e (λ z. omega arith) in
          let sight = seen x.inside e2 in
          record {
            tree = none;
            fine = λ _. f;
            ahead = omega (arith, x.after, x.some, near sight x.inside);
            inside = within_text sight;
            moves = λ c ss m u. some_moves s p f n initial_value x record { push = a_literal ∷ the_word SEMICOLON ∷ []; build = λ ws. some ws.0 } (ap (next initial_value) (fixed-seen s t BECOMES k)) ss m (omega arith)
                ∙ stuck-moves s (past t n) refl n a_literal sight g (the_word SEMICOLON ∷ ss) ss _ (λ us. m (none, us));
            judges = λ z. absurd (omega (arith, z));
          }

      pub initial-no-literal : (n : ℕ) {l l' v v' : List ℕ} → within 22 23 (kind_seen i) ≡ false → Reads (whole initial_value initial_roles (initial_draft from)) s 32 p (unfit i n) l l' v v'
      initial-no-literal n g = no_literal n (λ small. rw g)

      pub initial-given : (upto : ℕ) {q : Reached} {l v v' : List ℕ} → 22 ≤ kind_seen i → kind_seen i < 24 → q ≡ word_of s (past i p.next) 114 → upto ≡ get_or l 2 0
          → v' ≡ begun v from upto (kind_seen i) → Reads (whole initial_value initial_roles (initial_draft from)) s 32 p q l l v v'
      initial-given upto {q} {l} {v} {v'} lo hi e3 counted e4 =
          let x = seen-there h e (λ z. omega arith) in
          let x2 = seen-there x.inside e2 (λ z. omega arith) in
          let w = worded SEMICOLON x2.inside e3 in
          record {
            tree = some (literal_of (kind_seen i));
            fine = λ _. f;
            ahead = omega (arith, x.after, x.some, x2.after, x2.some, w.ahead);
            inside = w.inside;
            moves = λ c ss m u. some_moves s p f p.next initial_value x record { push = a_literal ∷ the_word SEMICOLON ∷ []; build = λ ws. some ws.0 } (ap (next initial_value) (fixed-seen s t BECOMES k)) ss m (omega arith)
                ∙ some_moves s (past t p.next) refl p.next a_literal x2 record { push = []; build = λ _. literal_of (kind_seen i) } (ap (next a_literal) (literal-token (part s i.start i.end) (kind_seen i) lo (omega arith))) (the_word SEMICOLON ∷ ss) _ (omega arith)
                ∙ w.moves (the_word SEMICOLON) record { push = []; build = λ _. tt } refl (only-word s (past i p.next) SEMICOLON) ss _ (omega arith);
            judges = λ z.
                let literal = passes-judged {p = past t p.next} x2 {v = v} {u = 0} {l = l} in
                then_judged (passes-judged x) (then_judged (redrafted literal (λ y y' c o g. ap (with_initial (some (literal_of (kind_seen i))) from) g
                ∙ begun-drafted (kind_seen i) from upto lo hi y' v v' p.next (counted ∙ counted-signals (kept-after literal c o)) e4)) (w.judges z));
          }

  -- {`,` name} `:` `boolean` [`:=` literal] `;`

  module _ (from : ℕ) where
    pub more_typed : {a b q : Reached} {l v v' : List ℕ} → (kind_seen t ≡ 112 → ⊥) → a ≡ word_of s p 113 → b ≡ word_of s a 7
        → Reads (whole initial_value initial_roles (initial_draft from)) s 32 b q l l v v' → Reads (whole more_signals more_signals_roles (more_signals_draft from)) s 32 p q l l v v'
    more_typed {a} {b} k e1 e2 d =
        let w1 = worded COLON h e1 in
        let w2 = worded BOOLEAN w1.inside e2 in
        record {
          tree = ([], d.tree);
          fine = λ _. f;
          ahead = omega (arith, w1.ahead, w2.ahead, d.ahead);
          inside = d.inside;
          moves = λ c ss m u. w1.moves more_signals record { push = the_word BOOLEAN ∷ initial_value ∷ []; build = λ ws. ([], ws.1.0) } refl
              (λ _ small o. rw (ne_eqb _ 112 (λ z. k (ap kind_seen e ∙ z)), ne_eqb _ 113 o)) ss m (omega arith)
              ∙ w2.moves (the_word BOOLEAN) record { push = []; build = λ _. tt } refl (only-word s a BOOLEAN) (initial_value ∷ ss) _ (omega arith)
              ∙ d.moves tt ss _ (omega arith);
          judges = λ z.
              let fb = d.fine z in
              then_judged (w1.judges (w2.fine fb)) (then_judged (w2.judges fb) (d.judges z));
        }

    pub more_comma : {q r : Reached} {l l1 l2 v v1 v2 : List ℕ} → kind_seen t ≡ 112 → Reads (whole a_name declares_roles with_name) s 32 (past t p.next) q l l1 v v1
        → Reads (whole more_signals more_signals_roles (more_signals_draft from)) s 32 q r l1 l2 v1 v2 → Reads (whole more_signals more_signals_roles (more_signals_draft from)) s 32 p r l l2 v v2
    more_comma k d o =
        let x = seen-there h e (λ z. omega arith) in
        record {
          tree = (d.tree ∷ o.tree.0, o.tree.1);
          fine = λ _. f;
          ahead = omega (arith, x.after, x.some, d.ahead, o.ahead);
          inside = o.inside;
          moves = λ c ss m u. some_moves s p f p.next more_signals x record { push = a_name ∷ more_signals ∷ []; build = λ ws. (ws.0 ∷ ws.1.0.0, ws.1.0.1) } (ap (next more_signals) (fixed-seen s t COMMA k)) ss m (omega arith)
              ∙ d.moves tt (more_signals ∷ ss) _ (omega arith) ∙ o.moves tt ss _ (omega arith);
          judges = λ z. then_judged (passes-judged x) (then_judged (d.judges (o.fine z)) (o.judges z));
        }

  -- {signal} `begin`

  pub signals_end : {q : Reached} {l v : List ℕ} → (kind_seen t ≡ 5 → ⊥) → q ≡ word_of s p 6 → Reads (whole signals signals_roles declarations_draft) s 32 p q l l v v
  signals_end k e1 =
      let w = worded BEGIN h e1 in
      record {
        tree = [];
        fine = λ _. f;
        ahead = w.ahead;
        inside = w.inside;
        moves = λ c ss m u. w.moves signals record { push = []; build = λ _. [] } refl
            (λ _ small o. rw (ne_eqb _ 5 (λ z. k (ap kind_seen e ∙ z)), ne_eqb _ 6 o)) ss m (omega arith);
        judges = λ z. w.judges z;
      }

  pub signals_more : (from : ℕ) {a q r : Reached} {l l1 l2 l3 v v1 v2 v3 : List ℕ} → kind_seen t ≡ 5 → from ≡ get_or l 2 0
      → Reads (whole a_name declares_roles with_name) s 32 (past t p.next) a l l1 v v1 → Reads (whole more_signals more_signals_roles (more_signals_draft from)) s 32 a q l1 l2 v1 v2
      → Reads (whole signals signals_roles declarations_draft) s 32 q r l2 l3 v2 v3 → Reads (whole signals signals_roles declarations_draft) s 32 p r l l3 v v3
  signals_more from {q = q} {v = v} k counted d o i =
      let x = seen-there h e (λ z. omega arith) in
      record {
        tree = declaration d.tree o.tree.0 o.tree.1 ∷ i.tree;
        fine = λ _. f;
        ahead = omega (arith, x.after, x.some, d.ahead, o.ahead, i.ahead);
        inside = i.inside;
        moves = λ c ss m u. some_moves s p f p.next signals x record { push = a_name ∷ more_signals ∷ signals ∷ []; build = λ ws. declaration ws.0 ws.1.0.0 ws.1.0.1 ∷ ws.1.1.0 }
            (ap (next signals) (fixed-seen s t SIGNAL k)) ss m (omega arith)
            ∙ d.moves tt (more_signals ∷ signals ∷ ss) _ (omega arith) ∙ o.moves tt (signals ∷ ss) _ (omega arith) ∙ i.moves tt ss _ (omega arith);
        judges = λ z.
            let fq = i.fine z in
            let first = then_judged (passes-judged x) (then_judged (d.judges (o.fine fq)) (o.judges fq)) in
            then_judged (redrafted first {n = q.next} {o = declaration_draft (declaration d.tree o.tree.0 o.tree.1)}
            (λ y y' c e g. ap (λ (n : ℕ). more_signals_draft n o.tree (with_name d.tree (drafted y v p.next))) (sym (counted ∙ counted-signals c)) ∙ g)) (i.judges z);
      }
