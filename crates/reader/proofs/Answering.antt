-- From the readers' answer to what the text gets.
-- Assumes nothing.
use Prim.Native.Nat.{ℕ, ◌≤◌, ◌<◌}
use native.Mathlib.Omega.{arith}
use mathlib.Core.Path.{◌≡◌, refl, sym, ap, ◌∙◌, subst}
use mathlib.Core.Bool.{Bool, true, false}
use mathlib.Core.List.{List, [], ◌∷◌}
use lib.ListN.{length, get_or, length-map}
use Rattle.laws.specs.Pick.{pick}
use lib.Dec.{eqb}
use borrow.Author.Tests.{eq-eqb, ne_eqb, le-ltb, eqb-true, eqb-false}
use Rattle.lexis.specs.Token.{tokens_of}
use Rattle.syntax.specs.Tree.{Design}
use Rattle.syntax.specs.Sentence.{Verdict, accepted, refused3, refused4}
use Rattle.syntax.proofs.Rows.{a_design}
use Rattle.syntax.proofs.Theorem.{read}
use Rattle.names.specs.Roles.{Role, design_roles}
use Rattle.names.specs.CircuitOf.{signal_names}
use Rattle.names.specs.Judge.{State, nothing_yet, Judgement, fine, refused, onward, lowest, faults, next, judge, judged, judged_design}
use Rattle.names.specs.Text.{most_bytes, accepts, refuses, tokens, starts, place_of, Scanned, Gets, faultless}
use Rattle.names.proofs.Answer.{answer_to, gets}
use Rattle.names.proofs.Verdict.{after_all}
use Rattle.names.proofs.Tokens.{as_many}
use Rattle.names.proofs.Sizes.{faultless-judged}
use Rattle.emission.specs.Inside.Draft.{design_draft, nothing}
use Rattle.ledger.specs.Inside.Standing.{Keeps, keeps_fine}
use Rattle.ledger.proofs.Keeping.{kept_fine, kept-refused}
use Rattle.std.specs.Prelude.{Result, Ok, Err}
use Rattle.refusal.specs.declared.Reason.{Reason}
use Rattle.refusal.specs.declared.Refusal.{Refusal}
use Rattle.refusal.specs.declared.Reason.TheVariants.{Sentence, Nesting}
use Rattle.refusal.specs.Numbers.{number_of}
use Rattle.refusal.proofs.Numbers.{numbered}
use Rattle.names.proofs.Places.{refused-number}
use Rattle.reading.specs.declared.Unfit.{Unfit}
use Rattle.reading.specs.declared.Unfit.TheVariants.{NoSentence, TooDeep}
use Rattle.reader.specs.Answers.{Answers}
use Rattle.reading.specs.Inside.Spots.{Reached, reached, refusal_of, placed_verdict, machine, verdict, judgement, drafted}
use Rattle.reader.specs.Inside.Designs.{design_of, beginning, Designed, Surveyed, accepted_as, refused_as}

onward-fine : (j : Judgement) → onward j (λ y. fine y) ≡ j
onward-fine (fine y) = refl
onward-fine (refused n p) = refl

abbrev tag_of : Verdict Design → ℕ
tag_of (accepted d) = 0
tag_of (refused3 k) = 1
tag_of (refused4 k) = 2

placed-accepted : (e : ℕ) (ps : List ℕ) (v : Verdict Design) (d : Design) → placed_verdict e ps v ≡ accepted d → v ≡ accepted d
placed-accepted e ps (accepted x) d h = h
placed-accepted e ps (refused3 k) d h = let z : ◌≡◌ {A = ℕ} 1 0 = ap tag_of h in absurd (omega arith)
placed-accepted e ps (refused4 k) d h = let z : ◌≡◌ {A = ℕ} 2 0 = ap tag_of h in absurd (omega arith)

-- THE STATE THAT THE TOKENS LEAD TO

lowest-state : (rows : List (ℕ × Bool)) (p : ℕ) (y z : State) → lowest rows p y ≡ fine z → z ≡ y
lowest-state [] p y z e = cc
lowest-state (row ∷ rows) p y z e = go row.1 e (lowest-state rows p y z)
  where
    go : (b : Bool) → pick b (refused row.0 p) (lowest rows p y) ≡ fine z → (lowest rows p y ≡ fine z → z ≡ y) → z ≡ y
    go true e ih = let o : ◌≡◌ {A = ℕ} 0 1 = cc in absurd (omega arith)
    go false e ih = ih e

pub judged-state : (rs : List Role) (y : State) (ps : List ℕ) (z : State) → length rs ≤ length ps → judged y rs ps ≡ fine z → z ≡ after_all y rs
unfolding judged
judged-state [] y ps z h e = cc
judged-state (r ∷ rs) y [] z h e = absurd (omega arith)
judged-state (r ∷ rs) y (p ∷ ps) z h e = go (judge y r p) refl e (λ x. judged-state rs x ps z (omega arith))
  where
    go : (j : Judgement) → judge y r p ≡ j → onward j (λ x. judged x rs ps) ≡ fine z → ((x : State) → judged x rs ps ≡ fine z → z ≡ after_all x rs) → z ≡ after_all (next y r) rs
    go (fine x) g e ih = ih x e ∙ ap (λ (v : State). after_all v rs) (lowest-state (faults y r) p (next y r) x g)
    go (refused n q) g e ih = let o : ◌≡◌ {A = ℕ} 0 1 = cc in absurd (omega arith)

places_enough : (s : List ℕ) (d : Design) → Gets s (accepts d) → length (design_roles d) ≤ length (starts s)
places_enough s d (faultless w f) =
    let e = as_many d ∙ ap length w.sentence ∙ length-map (tokens_of s) (λ p. p.token) ∙ sym (length-map (tokens_of s) (λ p. p.start)) in
    omega arith

all_names : (s : List ℕ) (d : Design) → Gets s (accepts d) → (after_all nothing_yet (design_roles d)).signal_names ≡ signal_names d
all_names s d (faultless w f) = (faultless-judged d f w.shallow).names

module _ (s : List ℕ) (scanned : Scanned s) where
  -- the machine from the start of the text is the reader of its tokens
  from_start : verdict s beginning (a_design ∷ []) (λ vs. vs.0) ≡ placed_verdict (length s) (starts s) (read (tokens s))
  unfolding verdict machine read tokens_of
  from_start = refl

  module _ {q : Reached} {l l' v v' : List ℕ} (d : Designed s q l l' v v') where
    refuses_3 : (v : Verdict Design) (p : ℕ) → read (tokens s) ≡ v → placed_verdict (length s) (starts s) v ≡ refused3 p → answer_to s ≡ refuses 3 p
    unfolding answer_to
    refuses_3 (accepted x) p r h = let z : ◌≡◌ {A = ℕ} 0 1 = ap tag_of h in absurd (omega arith)
    refuses_3 (refused3 k) p r h = let e : place_of s k ≡ p = cc in rw (le-ltb most_bytes (length s) scanned.short, scanned.lexical, r, e)
    refuses_3 (refused4 k) p r h = let z : ◌≡◌ {A = ℕ} 2 1 = ap tag_of h in absurd (omega arith)

    refuses_4 : (v : Verdict Design) (p : ℕ) → read (tokens s) ≡ v → placed_verdict (length s) (starts s) v ≡ refused4 p → answer_to s ≡ refuses 4 p
    unfolding answer_to
    refuses_4 (accepted x) p r h = let z : ◌≡◌ {A = ℕ} 0 2 = ap tag_of h in absurd (omega arith)
    refuses_4 (refused3 k) p r h = let z : ◌≡◌ {A = ℕ} 1 2 = ap tag_of h in absurd (omega arith)
    refuses_4 (refused4 k) p r h = let e : place_of s k ≡ p = cc in rw (le-ltb most_bytes (length s) scanned.short, scanned.lexical, r, e)

    pub answer-deep : q.number ≡ 4 → Surveyed s (Err (record { reason = Nesting; place = q.at })) l'
    unfolding verdict
    answer-deep k =
        let h : placed_verdict (length s) (starts s) (read (tokens s)) ≡ refused4 q.at = sym from_start ∙ d.moves ∙ rw k in
        refused_as (subst (Gets s) (refuses_4 (read (tokens s)) q.at refl h) (gets s))

    pub answer-stuck : (q.number ≡ 4 → ⊥) → (q.number ≡ 0 → ⊥) → Surveyed s (Err (record { reason = Sentence; place = q.at })) l'
    unfolding verdict
    answer-stuck k g =
        let h : placed_verdict (length s) (starts s) (read (tokens s)) ≡ refused3 q.at = sym from_start ∙ d.moves ∙ rw (ne_eqb q.number 0 g, ne_eqb q.number 4 k) in
        refused_as (subst (Gets s) (refuses_3 (read (tokens s)) q.at refl h) (gets s))

    module _ (f : q.number ≡ 0) where
      abbrev pub tree : Design
      tree = design_of d.entity d.word d.closed d.behind

      pub read-accepts : read (tokens s) ≡ accepted tree
      unfolding verdict machine
      read-accepts = placed-accepted (length s) (starts s) (read (tokens s)) tree (sym from_start ∙ d.moves ∙ rw (eq-eqb q.number 0 f, d.ends f))

      -- what the judge says of the whole text is what the ledger keeps
      pub judged_all : (d.judges f).after (fine nothing_yet) ≡ judged_design tree (starts s)
      unfolding judgement judged tokens_of
      judged_all = sym (onward-fine ((d.judges f).after (fine nothing_yet))) ∙ sym ((d.judges f).folds (fine nothing_yet) [])

      refused-answer : {n p : ℕ} → judged_design tree (starts s) ≡ refused n p → answer_to s ≡ refuses n p
      unfolding answer_to
      refused-answer j = rw (le-ltb most_bytes (length s) scanned.short, scanned.lexical, read-accepts, j)

      module _ (k : Keeps 0 s l (fine nothing_yet)) where
        pub keeps_all : Keeps 0 s l' (judged_design tree (starts s))
        keeps_all = subst (Keeps 0 s l') judged_all ((d.judges f).keeps (fine nothing_yet) k)

        pub refused-judged : (get_or l' 0 0 ≡ 0 → ⊥) → Gets s (refuses (get_or l' 0 0) (get_or l' 1 0))
        refused-judged g = subst (Gets s) (refused-answer (kept-refused keeps_all g)) (gets s)

        pub answer-judged : (reason : Reason) → number_of reason ≡ get_or l' 0 0 → Surveyed s (Err (record { reason = reason; place = get_or l' 1 0 })) l'
        answer-judged reason e = refused_as (rw e (refused-judged (λ z. let n = numbered reason in omega arith)))

        -- where the ledger's word is no reason's number, it is 0
        pub none-judged : (1 ≤ get_or l' 0 0 → 16 < get_or l' 0 0) → get_or l' 0 0 ≡ 0
        none-judged h = go (eqb (get_or l' 0 0) 0) refl
          where
            go : (b : Bool) → eqb (get_or l' 0 0) 0 ≡ b → get_or l' 0 0 ≡ 0
            go true e = eqb-true _ _ e
            go false e = let n = refused-number s (refused-judged (eqb-false _ _ e)) in absurd (omega arith)

        accepts-tree : get_or l' 0 0 ≡ 0 → answer_to s ≡ accepts tree
        unfolding answer_to
        accepts-tree g =
            let j = kept_fine keeps_all g in
            rw (le-ltb most_bytes (length s) scanned.short, scanned.lexical, read-accepts, j.1)

        pub gets-tree : get_or l' 0 0 ≡ 0 → Gets s (accepts tree)
        gets-tree g = subst (Gets s) (accepts-tree g) (gets s)

        -- what is written of the table
        pub words-written : (g : get_or l' 0 0 ≡ 0) → design_draft tree (nothing v) ≡ drafted (kept_fine keeps_all g).0.state v' q.next
        words-written g = let j = kept_fine keeps_all g in (d.judges f).writes nothing_yet j.0.state k (judged_all ∙ j.1)

        pub answer-accepted : get_or l' 0 0 ≡ 0 → Surveyed s (Ok tt) l'
        answer-accepted g =
            let got = gets-tree g in
            let j = kept_fine keeps_all g in
            accepted_as record {
              tree = tree;
              gets = got;
              state = j.0.state;
              keeps = keeps_fine j.0.stands;
              names = ap (λ (y : State). y.signal_names) (judged-state (design_roles tree) nothing_yet (starts s) j.0.state (places_enough s tree got) j.1) ∙ all_names s tree got;
              named = d.named;
              begun = d.begun f;
            }

  -- what could not be read
  pub answer-refused : {l l' v v' : List ℕ} (e : Unfit) → Designed s (reached (Err e)) l l' v v' → Surveyed s (Err (refusal_of e)) l'
  answer-refused (NoSentence place) d = answer-stuck d (λ z. omega (arith, z)) (λ z. omega (arith, z))
  answer-refused (TooDeep place) d = answer-deep d refl

-- what the public answer says
pub answers_of : {s : List ℕ} {r : Result (Unit {0}) Refusal} {l : List ℕ} → Surveyed s r l → Answers s r
answers_of (accepted_as x) = (x.tree, x.gets)
answers_of (refused_as g) = g
