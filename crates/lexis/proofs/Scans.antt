-- One scan after the other over a text: what is made of the text is made of its first token and of the rest.
-- These laws connect the tokens of a text to the scan of a part of it. Assumes nothing.
use mathlib.Core.Path.{◌≡◌, refl, ap, subst}
use mathlib.Core.List.{List, [], ◌∷◌}
use Prim.Native.Nat.{ℕ, zero, suc, ◌+◌, ◌<◌, ◌≤◌}
use native.Mathlib.Omega.{arith}
use native.Mathlib.Nat.{add_assoc}
use native.Mathlib.Numerals.{add-one}
use lib.ListN.{length, drop, length-drop, drop_of_length-le}
use lib.Seq.{drop-drop}
use Rattle.std.specs.Prelude.{Option, Some, None, Ok, Err}
use Rattle.lexis.specs.Blank.{none_at, skip_from}
use Rattle.lexis.specs.Token.{Placed, placed_token, lexeme_of, Scan, scanned, Within, scan_of, over_text}
use Rattle.lexis.specs.declared.token.Kind.{Kind}
use Rattle.lexis.proofs.Bounds.{scan_within}

module _ {A : Type 0} (found : Placed → A → A) (ended : A) (refused : ℕ → A) where
  -- what is made of a text that starts at place i
  abbrev pub made : ℕ → List ℕ → A
  made i s = over_text found ended refused (length s + 1) i s

  -- more scans than bytes: how many more does not count
  enough : (f g i : ℕ) (s : List ℕ) → length s < f → length s < g → over_text found ended refused f i s ≡ over_text found ended refused g i s
  unfolding over_text
  enough zero g i s p q = absurd (omega arith)
  enough (suc f) zero i s p q = absurd (omega arith)
  enough (suc f) (suc g) i s p q = by_scan (λ j t. enough f g j t) (scan_of s) refl
    where
      by_scan : ((j : ℕ) (t : List ℕ) → length t < f → length t < g → over_text found ended refused f j t ≡ over_text found ended refused g j t)
          → (r : Scan) → scan_of s ≡ r → over_text found ended refused (suc f) i s ≡ over_text found ended refused (suc g) i s
      by_scan again (Ok (Some token)) e =
          let n = token.start in
          let l = token.length in
          let w : (0 < l) × (n + l ≤ length s) = subst (Within (length s)) e (scan_within s) in
          rw e (ap (found (placed_token i token.kind n l s)) (again (i + (n + l)) (drop (n + l) s) (rw length-drop (omega arith)) (rw length-drop (omega arith))))
      by_scan again (Ok None) e = rw e
      by_scan again (Err none) e = rw e

  module _ (i : ℕ) (s : List ℕ) where
    pub made-token : (k : Kind) (n l : ℕ) → scan_of s ≡ scanned k n l
        → made i s ≡ found (placed_token i k n l s) (made (i + (n + l)) (drop (n + l) s))
    unfolding over_text
    made-token k n l e =
        let w : (0 < l) × (n + l ≤ length s) = subst (Within (length s)) e (scan_within s) in
        rw (add-one, e)
        (ap (found (placed_token i k n l s)) (enough (length s) (length (drop (n + l) s) + 1) (i + (n + l)) (drop (n + l) s) (rw length-drop (omega arith)) (omega arith)))

    pub made_end : scan_of s ≡ Ok None → made i s ≡ ended
    unfolding over_text
    made_end e = rw (add-one, e)

    pub made-refused : (p : ℕ) → scan_of s ≡ Err (none_at p) → made i s ≡ refused (i + p)
    unfolding over_text
    made-refused p e = rw (add-one, e)

  -- what is made of the text s from place n on
  module _ (s : List ℕ) (n : ℕ) where
    pub rest-token : (k : Kind) (i l : ℕ) → scan_of (drop n s) ≡ scanned k i l
        → made n (drop n s) ≡ found (placed_token n k i l (drop n s)) (made (n + i + l) (drop (n + i + l) s))
    rest-token k i l e = rw (add_assoc, ← drop-drop) (made-token n (drop n s) k i l e)

    pub rest-none : length s ≤ n → made n (drop n s) ≡ ended
    unfolding over_text scan_of skip_from lexeme_of
    rest-none h = rw (drop_of_length-le s h)

-- THE FIRST REFUSED PLACE, from place n of the text s on

abbrev pub refused_at : ℕ → List ℕ → Option ℕ
refused_at = made (λ token rest. rest) None Some

module _ (s : List ℕ) (n : ℕ) where
  pub refused-token : (k : Kind) (i l : ℕ) → scan_of (drop n s) ≡ scanned k i l → refused_at n (drop n s) ≡ refused_at (n + i + l) (drop (n + i + l) s)
  refused-token = rest-token (λ token rest. rest) None Some s n

  pub refused_end : scan_of (drop n s) ≡ Ok None → refused_at n (drop n s) ≡ None
  refused_end = made_end (λ token rest. rest) None Some n (drop n s)

  pub refused-place : (p : ℕ) → scan_of (drop n s) ≡ Err (none_at p) → refused_at n (drop n s) ≡ Some (n + p)
  refused-place = made-refused (λ token rest. rest) None Some n (drop n s)

-- THE TOKENS, from place n of the text s on

abbrev pub tokens_at : ℕ → List ℕ → List Placed
tokens_at = made (λ token rest. token ∷ rest) [] (λ place. [])

module _ (s : List ℕ) (n : ℕ) where
  pub tokens-token : (k : Kind) (i l : ℕ) → scan_of (drop n s) ≡ scanned k i l
      → tokens_at n (drop n s) ≡ placed_token n k i l (drop n s) ∷ tokens_at (n + i + l) (drop (n + i + l) s)
  tokens-token = rest-token (λ token rest. token ∷ rest) [] (λ place. []) s n

  pub tokens_end : scan_of (drop n s) ≡ Ok None → tokens_at n (drop n s) ≡ []
  tokens_end = made_end (λ token rest. token ∷ rest) [] (λ place. []) n (drop n s)

  pub tokens_none : length s ≤ n → tokens_at n (drop n s) ≡ []
  tokens_none = rest-none (λ token rest. token ∷ rest) [] (λ place. []) s n
