-- Every text gets exactly one answer, and it can be computed.
-- Assumes nothing.
use Prim.Native.Nat.{ℕ, zero, suc, ◌≤◌, ◌<◌}
use native.Mathlib.Omega.{arith}
use mathlib.Core.Path.{◌≡◌, refl, sym, ap, ◌∙◌, subst}
use mathlib.Core.Bool.{Bool, true, false}
use mathlib.Core.Logic.{◌↔◌}
use mathlib.Core.List.{List, [], ◌∷◌}
use lib.Dec.{ltb}
use lib.ListN.{length, get_or, length-map}
use borrow.Author.Tests.{ltb-true, ltb-false, lt-ltb, le-ltb}
use Rattle.laws.specs.Pick.{pick}
use Rattle.std.specs.Prelude.{Option, Some, None}
use Rattle.lexis.specs.Token.{tokens_of, first_refused}
use Rattle.syntax.specs.Tree.{Design, design_text}
use Rattle.syntax.specs.Sentence.{Verdict, accepted, refused3, refused4, Right}
use Rattle.syntax.proofs.Theorem.{read, read_right, read_exact}
use Rattle.names.specs.Roles.{Role, design_roles}
use Rattle.names.specs.Judge.{State, Judgement, fine, refused, nothing_yet, next, judged_design, AppliesFrom, Applies, First, Faultless}
use Rattle.names.specs.Text.{most_bytes, Answer, accepts, refuses, tokens, starts, place_of, Scanned, Written, Gets, too_long, not_lexical, no_sentence, too_deep, faulty, faultless}
use Rattle.rules.specs.Sized.{Sized}
use Rattle.names.specs.CircuitOf.{circuit_of}
use Rattle.names.proofs.Tokens.{as_many}
use Rattle.names.proofs.Sizes.{sized}
use Rattle.names.proofs.Verdict.{Decides, all_fine, first_due, decides, fine-none, one_first}

-- THE ANSWER, COMPUTED

abbrev after_judging : Design → Judgement → Answer
after_judging d (fine y) = accepts d
after_judging d (refused n p) = refuses n p

abbrev after_reading : List ℕ → Verdict Design → Answer
after_reading text (accepted d) = after_judging d (judged_design d (starts text))
after_reading text (refused3 k) = refuses 3 (place_of text k)
after_reading text (refused4 k) = refuses 4 (place_of text k)

abbrev after_scanning : List ℕ → Option ℕ → Answer
after_scanning text (Some p) = refuses 2 p
after_scanning text None = after_reading text (read (tokens text))

unfoldable pub answer_to : List ℕ → Answer
answer_to text =
    let scanned = after_scanning text (first_refused text) in
    pick (ltb most_bytes (length text)) (refuses 1 0) scanned

-- IT IS RIGHT

applies-inside : (rs : List Role) (y : State) (k n : ℕ) → AppliesFrom y rs k n → k < length rs
applies-inside [] y k n a = absurd a
applies-inside (r ∷ rs) y zero n a = omega arith
applies-inside (r ∷ rs) y (suc k) n a = omega (arith, applies-inside rs (next y r) k n a)

get_d_inside : (l : List ℕ) (k a b : ℕ) → k < length l → get_or l k a ≡ get_or l k b
get_d_inside [] k a b h = absurd (omega arith)
get_d_inside (x ∷ l) zero a b h = refl
get_d_inside (x ∷ l) (suc k) a b h = get_d_inside l k a b (omega arith)

module _ (text : List ℕ) where
  as_many_places : (d : Design) → design_text d ≡ tokens text → length (design_roles d) ≡ length (starts text)
  as_many_places d e =
      as_many d ∙ ap length e ∙ length-map (tokens_of text) (λ p. p.token) ∙ sym (length-map (tokens_of text) (λ p. p.start))

  place_inside : (d : Design) (k n : ℕ) → design_text d ≡ tokens text → Applies d k n → get_or (starts text) k 0 ≡ place_of text k
  place_inside d k n e a =
      let h = applies-inside (design_roles d) nothing_yet k n a in
      let g = as_many_places d e in
      get_d_inside (starts text) k 0 _ (omega arith)

  judging : (d : Design) → Written text d → Gets text (after_judging d (judged_design d (starts text)))
  judging d w = go (judged_design d (starts text)) (decides (design_roles d) nothing_yet (starts text) (omega (arith, as_many_places d w.sentence)))
    where
      go : (j : Judgement) → Decides nothing_yet (design_roles d) (starts text) j → Gets text (after_judging d j)
      go (fine y) (all_fine f) = faultless w (fine-none (design_roles d) nothing_yet f)
      go (refused n p) (first_due k f) = rw (place_inside d k n w.sentence f.applies) (faulty k w f)

  reading : Scanned text → (v : Verdict Design) → Right (tokens text) v → Gets text (after_reading text v)
  reading s (accepted d) r = judging d (record { scanned = s; sentence = r.0; shallow = r.1 })
  reading s (refused3 k) r = no_sentence k s r
  reading s (refused4 k) r = too_deep k s r

  scanning : length text ≤ most_bytes → (r : Option ℕ) → first_refused text ≡ r → Gets text (after_scanning text r)
  scanning h (Some p) e = not_lexical h e
  scanning h None e = reading (record { short = h; lexical = e }) (read (tokens text)) (read_right (tokens text))

  measuring : (b : Bool) → ltb most_bytes (length text) ≡ b → Gets text (pick b (refuses 1 0) (after_scanning text (first_refused text)))
  measuring true e = too_long (ltb-true most_bytes (length text) e)
  measuring false e = scanning (ltb-false most_bytes (length text) e) (first_refused text) refl

  pub gets : Gets text (answer_to text)
  unfolding answer_to
  gets = measuring (ltb most_bytes (length text)) refl

  -- NO OTHER ANSWER IS

  judged-refused : (d : Design) (k n : ℕ) → design_text d ≡ tokens text → First (Applies d) k n → judged_design d (starts text) ≡ refused n (place_of text k)
  judged-refused d k n e f = go (judged_design d (starts text)) (decides (design_roles d) nothing_yet (starts text) (omega (arith, as_many_places d e)))
    where
      go : (j : Judgement) → Decides nothing_yet (design_roles d) (starts text) j → j ≡ refused n (place_of text k)
      go (fine y) (all_fine g) = absurd (fine-none (design_roles d) nothing_yet g k n f.applies)
      go (refused m p) (first_due j g) =
          let h = one_first (Applies d) j k m n g f in
          rw (h.0, h.1, place_inside d k n e f.applies)

  judged-fine : (d : Design) → design_text d ≡ tokens text → Faultless d → after_judging d (judged_design d (starts text)) ≡ accepts d
  judged-fine d e f = go (judged_design d (starts text)) (decides (design_roles d) nothing_yet (starts text) (omega (arith, as_many_places d e)))
    where
      go : (j : Judgement) → Decides nothing_yet (design_roles d) (starts text) j → after_judging d j ≡ accepts d
      go (fine y) (all_fine g) = refl
      go (refused m p) (first_due k g) = absurd (f k m g.applies)

  scanned-answer : Scanned text → answer_to text ≡ after_reading text (read (tokens text))
  unfolding answer_to
  scanned-answer s = rw (le-ltb most_bytes (length text) s.short, s.lexical)

  written-answer : (d : Design) → Written text d → answer_to text ≡ after_judging d (judged_design d (starts text))
  written-answer d w =
      scanned-answer w.scanned ∙ ap (after_reading text) ((read_exact (tokens text) (accepted d)).1 (w.sentence, w.shallow))

  pub only : (a : Answer) → Gets text a → answer_to text ≡ a
  unfolding answer_to
  only a (too_long h) = rw (lt-ltb most_bytes (length text) h)
  only a (not_lexical h e) = rw (le-ltb most_bytes (length text) h, e)
  only a (no_sentence k s r) = scanned-answer s ∙ ap (after_reading text) ((read_exact (tokens text) (refused3 k)).1 r)
  only a (too_deep k s r) = scanned-answer s ∙ ap (after_reading text) ((read_exact (tokens text) (refused4 k)).1 r)
  only a (faulty {d} k {number} w f) = written-answer d w ∙ ap (after_judging d) (judged-refused d k number w.sentence f)
  only a (faultless {d} w f) = written-answer d w ∙ judged-fine d w.sentence f

  -- THE THEOREM: an answer is given exactly where it is due, so there is one and only one
  pub answers : (a : Answer) → (answer_to text ≡ a) ↔ Gets text a
  answers a = (λ e. subst (Gets text) e gets, only a)

  pub one_answer : (a b : Answer) → Gets text a → Gets text b → a ≡ b
  one_answer a b g h = sym (only a g) ∙ only b h

  -- what the translation leans on: the circuit of an accepted text keeps the sizes
  pub accepted-sized : (d : Design) → Gets text (accepts d) → Sized (circuit_of d)
  accepted-sized d (faultless w f) = sized d f w.shallow
