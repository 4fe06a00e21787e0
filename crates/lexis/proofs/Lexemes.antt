-- The token at the start of a text, by the class of its first byte.
-- Assumes nothing.
use mathlib.Core.Path.{◌≡◌, refl, ◌∙◌}
use mathlib.Core.Bool.{false}
use mathlib.Core.List.{List, [], ◌∷◌}
use Prim.Native.Nat.{ℕ}
use types.Run.{OneOf}
use lib.Dec.{eqb}
use lib.ListN.{length, take, get_or}
use Rattle.std.specs.Prelude.{Option, None}
use Rattle.lexis.specs.Byte.{class_of, by_class}
use Rattle.lexis.specs.Run.{run_length, shape_of}
use Rattle.lexis.specs.Token.{mark_of, run_token, start_of, or_refused, lexeme_of}
use Rattle.lexis.specs.declared.byte.Class.{Class}
use Rattle.lexis.specs.declared.byte.Class.TheVariants.{Mark}
use Rattle.lexis.specs.declared.token.Lexeme.{Lexeme}
use Rattle.lexis.proofs.Classes.{tag, among}

abbrev pub run_at : List ℕ → Option Lexeme
run_at s = run_token (shape_of (take (run_length 0 s) s)) (run_length 0 s)

module _ (s : List ℕ) (k : Class) (e : k ≡ class_of (get_or s 0 0)) where
  by : (x : Option Lexeme) → x ≡ by_class k (run_at s) (run_at s) (run_at s) None None (mark_of (get_or s 0 0) (get_or s 1 0)) None None → x ≡ start_of s
  by x h = h ∙ rw (← e)

  pub start_run : OneOf (0 ∷ 1 ∷ 2 ∷ []) (tag k) → run_at s ≡ start_of s
  start_run h =
      by (run_at s)
      (among (λ (k : Class). run_at s ≡ by_class k (run_at s) (run_at s) (run_at s) None None (mark_of (get_or s 0 0) (get_or s 1 0)) None None)
      k 0 (1 ∷ 2 ∷ []) h (refl, (refl, refl)))

  pub start_mark : k ≡ Mark → mark_of (get_or s 0 0) (get_or s 1 0) ≡ start_of s
  start_mark h = by (mark_of (get_or s 0 0) (get_or s 1 0)) (rw h)

  pub start_none : OneOf (3 ∷ 4 ∷ 6 ∷ 7 ∷ []) (tag k) → None ≡ start_of s
  start_none h =
      by None
      (among (λ (k : Class). None ≡ by_class k (run_at s) (run_at s) (run_at s) None None (mark_of (get_or s 0 0) (get_or s 1 0)) None None)
      k 3 (4 ∷ 6 ∷ 7 ∷ []) h (refl, (refl, (refl, refl))))

-- what stands at the start of a text that is not empty
pub stands : (s : List ℕ) → eqb (length s) 0 ≡ false → (x : Option Lexeme) → x ≡ start_of s → or_refused x ≡ lexeme_of s
unfolding lexeme_of
stands s some x e = rw (some, e)
