-- Loading cells from a session's words, and storing them. Assumes nothing.
use Prim.Native.Nat.{ℕ, ◌+◌, ◌≤◌}
use mathlib.Core.Path.{◌≡◌, refl, sym, ap, ◌∙◌}
use mathlib.Core.List.{List, ◌∷◌, ◌++◌}
use native.Mathlib.Omega.{arith}
use borrow.Rule.Slice.PartMut.{put_mid}
use lib.ListN.{length, set, take, drop, length-set}
use lib.Seq.{sets, sets-eq, take_all}
use Rattle.std.specs.List.{between}
use Rattle.std.proofs.lemmas.List.Edits.{length-between, get_or-between}
use Rattle.std.proofs.lemmas.Slice.{put_mid-paste}
use Rattle.run.specs.Inside.Copies.{Loaded}

pub loaded : (words cells : List ℕ) → 1154 ≤ length words → cells ≡ between 2 1154 words → Loaded words 1152 cells
loaded words cells l e =
    record {
      long = rw e (omega (arith, length-between words 2 1154));
      same = λ i h. rw e (get_or-between words 2 1154 i 0 (omega arith));
    }

pub stored : (words : List ℕ) (count time : ℕ) (cells copied : List ℕ) → copied ≡ cells → length cells ≡ 1152 → 1154 ≤ length words
    → put_mid 2 1152 (set (set words 0 count) 1 time) copied ≡ sets words 0 (count ∷ time ∷ cells)
stored words count time cells copied e n l =
    let before = set (set words 0 count) 1 time in
    let whole : take 1152 cells ≡ cells = take_all 1152 cells (omega arith) in
    let behind : 2 + length cells ≡ 1154 = omega arith in
    let room : 2 + length cells ≤ length before = omega (arith, length-set {A = ℕ}) in
    put_mid-paste 2 1152 before copied cells 1152 e refl (sym n)
    ∙ ap (λ s. take 2 before ++ s ++ drop 1154 before) whole
    ∙ ap (λ k. take 2 before ++ cells ++ drop k before) (sym behind)
    ∙ sym (sets-eq cells before 2 room)
