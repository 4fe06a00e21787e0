-- The reader of tokens gives the one right verdict: it accepts exactly the sentences that never have more than 32 open, each as its own tree,
-- and refuses 3 and 4 exactly where they are due. Assumes nothing.
use mathlib.Core.Path.{◌≡◌, refl, sym, ap, ◌∙◌, subst}
use mathlib.Core.List.{List, [], ◌∷◌, ◌++◌, append_assoc}
use mathlib.Core.Logic.{◌↔◌, inl, inr}
use Prim.Native.Nat.{ℕ, suc, ◌<◌, ◌≤◌, max}
use native.Mathlib.Omega.{arith}
use native.Mathlib.Decide.{dec_le}
use lib.ListN.{length, take, drop, take-append-drop}
use lib.Seq.{take_all, take-take}
use Rattle.words.specs.Token.{Token}
use Rattle.syntax.specs.Tree.{Design, design_text}
use Rattle.syntax.specs.Sentence.{most_open, nest, Sentence, Viable, ViableWithin, Stuck, Refused3, Refused4, Verdict, accepted, refused3, refused4, Right}
use Rattle.syntax.proofs.Machine as machine
use Rattle.syntax.proofs.Machine.{Values, ViableOf, Judged, judge, complete}
use Rattle.syntax.proofs.Rows.{Symbol, Value, a_design, text, next}
use Rattle.syntax.proofs.Laws.{sound, view, fill}
use Rattle.syntax.proofs.Nesting.{weight, depth, shallow, deep}

-- the machine over the grammar's rows, with the limit of document 01
abbrev pub run : {D : Type 0} → List Token → (ss : List Symbol) → (Values Value ss → D) → Verdict D
run = machine.run Value next weight most_open

unfoldable pub read : List Token → Verdict Design
read ts = run ts (a_design ∷ []) (λ vs. vs.0)

-- THE VERDICT IS RIGHT

whole : (p : List Token) → Viable p → ViableOf Value text next weight depth most_open (a_design ∷ []) p
whole p (d, r, e) = ((d, tt), r, e)

pub read_right : (ts : List Token) → Right ts (read ts)
unfolding read
read_right ts = go (run ts (a_design ∷ []) (λ vs. vs.0))
    (judge Value text next weight depth most_open sound view fill shallow deep ts (a_design ∷ []) (λ vs. vs.0) (omega arith))
  where
    go : (v : Verdict Design) → Judged Value text next weight depth most_open (a_design ∷ []) ts (λ vs. vs.0) v → Right ts v
    go (accepted d) (vs, h, e, g) = (ap design_text (sym e) ∙ g, subst (λ x. nest x ≤ most_open) e (omega arith))
    go (refused3 k) ((vs, h, r, g), inl (l, bad)) = record {
      before = (vs.0, omega arith, r, g);
      here = inl (l, λ v. bad (whole (take (suc k) ts) v));
    }
    go (refused3 k) ((vs, h, r, g), inr (l, bad)) = record {
      before = (vs.0, omega arith, r, g);
      here = inr (l, λ (d, e). bad ((d, tt), e));
    }
    go (refused4 k) ((vs, h, r, g), (us, q, f), bad) = record {
      before = (vs.0, omega arith, r, g);
      viable = (us.0, q, f);
      here = λ (d, h, r, e). bad ((d, tt), omega arith, r, e);
    }

-- NO OTHER VERDICT IS

-- no list of tokens is the text of two trees, however deep
pub one_tree : (d d' : Design) → design_text d ≡ design_text d' → d ≡ d'
one_tree d d' e =
    let p : machine.run Value next weight (max (nest d) (nest d')) (design_text d') (a_design ∷ []) (λ vs. vs.0) ≡ accepted d
    = complete Value text next weight depth (max (nest d) (nest d')) sound view fill shallow deep (design_text d') (a_design ∷ []) (d, tt) (λ vs. vs.0) e (omega arith) in
    let q : machine.run Value next weight (max (nest d) (nest d')) (design_text d') (a_design ∷ []) (λ vs. vs.0) ≡ accepted d'
    = complete Value text next weight depth (max (nest d) (nest d')) sound view fill shallow deep (design_text d') (a_design ∷ []) (d', tt) (λ vs. vs.0) refl (omega arith) in
    cc

module _ (ts : List Token) where
  -- what can go on within the limit can go on
  pub viable-within : (k : ℕ) → ViableWithin (take k ts) → Viable (take k ts)
  viable-within k (d, h, r, e) = (d, r, e)

  extended : (j k : ℕ) → j ≤ k → (r : List Token) → take k ts ++ r ≡ take j ts ++ (drop j (take k ts) ++ r)
  extended j k h r = ap (λ l. l ++ r) (sym (take-append-drop j (take k ts))) ∙ append_assoc (take j (take k ts)) (drop j (take k ts)) r
      ∙ ap (λ l. l ++ (drop j (take k ts) ++ r)) (take-take j k ts h)

  -- fewer tokens can go on too
  pub shorter : (j k : ℕ) → j ≤ k → Viable (take k ts) → Viable (take j ts)
  shorter j k h (d, r, e) = (d, drop j (take k ts) ++ r, e ∙ extended j k h r)

  pub shorter-within : (j k : ℕ) → j ≤ k → ViableWithin (take k ts) → ViableWithin (take j ts)
  shorter-within j k h (d, n, r, e) = (d, n, drop j (take k ts) ++ r, e ∙ extended j k h r)

  sentence-within : (d : Design) → Right ts (accepted d) → (k : ℕ) → ViableWithin (take k ts)
  sentence-within d (e, n) k = (d, n, drop k ts, e ∙ sym (take-append-drop k ts))

  -- 3 is not due on a sentence, nor before what can go on
  pub not_stuck : Sentence ts → (k : ℕ) → ¬ Stuck ts k
  not_stuck (d, e) k (inl (_, bad)) = bad (d, drop (suc k) ts, e ∙ sym (take-append-drop (suc k) ts))
  not_stuck (d, e) k (inr (_, bad)) = bad (d, e)

  pub last_viable : (j k : ℕ) → Stuck ts j → k ≤ length ts → Viable (take k ts) → k ≤ j
  last_viable j k a l v = go a (dec_le k j)
    where
      go : Stuck ts j → Dec (k ≤ j) → k ≤ j
      go x (yes h) = h
      go (inl (_, bad)) (no h) = absurd (bad (shorter (suc j) k (omega arith) v))
      go (inr (e, _)) (no h) = omega arith

  pub place3 : (k : ℕ) → Stuck ts k → k ≤ length ts
  place3 k (inl (l, _)) = omega arith
  place3 k (inr (e, _)) = omega arith

  -- two places where no sentence can go on, both behind tokens that can, are one
  pub one_stuck : (j k : ℕ) → Stuck ts j → Viable (take j ts) → Stuck ts k → Viable (take k ts) → j ≡ k
  one_stuck j k a v b w =
      let p = last_viable j k a (place3 k b) w in
      let q = last_viable k j b (place3 j a) v in
      omega arith

  pub place4 : (k : ℕ) → Refused4 ts k → k < length ts
  place4 k a = go (dec_le (length ts) k)
    where
      go : Dec (length ts ≤ k) → k < length ts
      go (no h) = omega arith
      go (yes h) = absurd (a.here (rw (take_all (suc k) ts (omega arith), ← (take_all k ts h)) a.before))

  not_3_and_4 : (j k : ℕ) → Refused3 ts j → ¬ Refused4 ts k
  not_3_and_4 j k a b =
      let m = last_viable j (suc k) a.here (place4 k b) b.viable in
      b.here (shorter-within (suc k) j m a.before)

  pub one_verdict : (u v : Verdict Design) → Right ts u → Right ts v → u ≡ v
  one_verdict (accepted d) (accepted d') a b = ap accepted (one_tree d d' (a.0 ∙ sym b.0))
  one_verdict (accepted d) (refused3 k) a b = absurd (not_stuck (d, a.0) k b.here)
  one_verdict (accepted d) (refused4 k) a b = absurd (b.here (sentence-within d a (suc k)))
  one_verdict (refused3 k) (accepted d) a b = absurd (not_stuck (d, b.0) k a.here)
  one_verdict (refused3 j) (refused3 k) a b = ap refused3 (one_stuck j k a.here (viable-within j a.before) b.here (viable-within k b.before))
  one_verdict (refused3 j) (refused4 k) a b = absurd (not_3_and_4 j k a b)
  one_verdict (refused4 k) (accepted d) a b = absurd (a.here (sentence-within d b (suc k)))
  one_verdict (refused4 k) (refused3 j) a b = absurd (not_3_and_4 j k b a)
  one_verdict (refused4 j) (refused4 k) a b =
      let p : ¬ (j < k) = λ h. a.here (shorter-within (suc j) k h b.before) in
      let q : ¬ (k < j) = λ h. b.here (shorter-within (suc k) j h a.before) in
      ap refused4 (omega arith)

-- THE THEOREM: a verdict is given exactly where it is right
pub read_exact : (ts : List Token) (v : Verdict Design) → (read ts ≡ v) ↔ Right ts v
read_exact ts v = (λ e. subst (Right ts) e (read_right ts), λ h. one_verdict ts (read ts) v (read_right ts) h)

-- its three cases
pub accepts : (ts : List Token) (d : Design) → (read ts ≡ accepted d) ↔ ((design_text d ≡ ts) × (nest d ≤ most_open))
accepts ts d = read_exact ts (accepted d)

pub refuses3 : (ts : List Token) (k : ℕ) → (read ts ≡ refused3 k) ↔ Refused3 ts k
refuses3 ts k = read_exact ts (refused3 k)

pub refuses4 : (ts : List Token) (k : ℕ) → (read ts ≡ refused4 k) ↔ Refused4 ts k
refuses4 ts k = read_exact ts (refused4 k)
