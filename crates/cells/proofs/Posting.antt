-- A post over the cells is a post. Assumes nothing.
use Prim.Native.Nat.{ℕ, ◌+◌, ◌*◌, ◌/◌, ◌%◌, ◌<◌, ◌≤◌}
use mathlib.Core.Path.{◌≡◌, refl, ap, sym, ◌∙◌}
use mathlib.Core.List.{List, [], ◌∷◌, ◌++◌}
use mathlib.Core.Bool.{Bool, true, false, true≢false}
use native.Mathlib.Numerals.{add-one}
use native.Mathlib.Omega.{arith}
use lib.Dec.{ltb}
use lib.ListN.{length, get_or, set, length-set}
use lib.Seq.{get_or-set_same, get_or-set_other}
use borrow.Author.Tests.{lt-ltb, le-ltb, ltb-true, ltb-false}
use Rattle.rules.specs.Pending.{change, before, post}
use Rattle.rules.specs.Session.{Rising}
use Rattle.table.specs.Table.{tabulate}
use Rattle.table.proofs.Tabulated.{length-tabulate}
use Rattle.table.proofs.Changes.{rising-before, rising-append, before-earlier}
use Rattle.cells.specs.Cells.{truth, change_in, count_of, pending_of, Fit, Posted}
use Rattle.cells.specs.Inside.Moves.{Cut}
use Rattle.cells.proofs.Tabulating.{tabulate_more}
use Rattle.cells.proofs.Waiting.{before-tabulate, rising_at}
use Rattle.cells.proofs.Columns.{same_changes, ext_cells, pending_at, Only, count_other, pendings-set, fit-only}

pub rising-cells : (cs : List ℕ) (base n : ℕ) → Rising (tabulate (change_in cs) base n) → (i j : ℕ) → i < j → j < n
    → get_or cs (base + i) 0 / 2 < get_or cs (base + j) 0 / 2
unfolding change_in
rising-cells cs base n r i j h g = rising_at (change_in cs) base n i j r h g

cell_of : (cs : List ℕ) (z t b : ℕ) → b ≤ 1 → get_or cs z 0 ≡ t * 2 + b → change_in cs z ≡ change t (truth b)
unfolding change_in
cell_of cs z t b h e =
    let p : (t * 2 + b) / 2 ≡ t = omega arith in
    let q : (t * 2 + b) % 2 ≡ b = omega arith in
    rw (e, p, q)

module _ (cs : List ℕ) (k t m : ℕ) (es : List ℕ) (fit : Fit cs) (in64 : k < 64) (c : Cut cs (128 + k * 16) (count_of cs k) t m es) where
  left : before t (pending_of cs k) ≡ tabulate (change_in cs) (128 + k * 16) m
  unfolding change_in
  left = before-tabulate (change_in cs) t (128 + k * 16) (count_of cs k) m c.most c.early c.late

  left-length : length (before t (pending_of cs k)) ≡ m
  left-length = ap length left ∙ length-tabulate (change_in cs) (128 + k * 16) m

  -- nothing was cut
  pub post-refused : (v : Bool) → 16 ≤ m → Posted cs k t v false es
  unfolding post
  post-refused v full =
      let n : count_of cs k ≤ m = omega (arith, fit.few k in64) in
      let e : es ≡ cs = ext_cells es cs c.long fit.long (λ z. c.still z (λ i h g q. omega arith)) in
      record {
        answer = λ n l h. rw (pending_at n cs k l, left-length, le-ltb m 16 full);
        values = λ j l. rw e;
        counts = λ j l ne. rw e;
        fit = rw e fit;
        left = λ w. e;
      }

  module _ (b : ℕ) (bit : b ≤ 1) (room : m < 16) where
    abbrev after : List ℕ
    after = set (set es (128 + k * 16 + m) (t * 2 + b)) (64 + k) (m + 1)

    count-here : count_of after k ≡ m + 1
    count-here = get_or-set_same (set es (128 + k * 16 + m) (t * 2 + b)) (64 + k) (m + 1) 0 (simp length-set (omega (arith, c.long)))

    far : (z : ℕ) → (z ≡ 64 + k → ⊥) → (z ≡ 128 + k * 16 + m → ⊥) → get_or after z 0 ≡ get_or es z 0
    far z p q =
        get_or-set_other (set es (128 + k * 16 + m) (t * 2 + b)) (64 + k) z (m + 1) 0 p
        ∙ get_or-set_other es (128 + k * 16 + m) z (t * 2 + b) 0 q

    last_here : get_or after (128 + k * 16 + m) 0 ≡ t * 2 + b
    last_here =
        get_or-set_other (set es (128 + k * 16 + m) (t * 2 + b)) (64 + k) (128 + k * 16 + m) (m + 1) 0 (λ e. omega arith)
        ∙ get_or-set_same es (128 + k * 16 + m) (t * 2 + b) 0 (omega (arith, c.long))

    here : pending_of after k ≡ before t (pending_of cs k) ++ (change t (truth b) ∷ [])
    here =
        ap (λ (n : ℕ). tabulate (change_in after) (128 + k * 16) n) (count-here ∙ add-one m)
        ∙ tabulate_more (change_in after) (128 + k * 16) m
        ∙ rw (
          left,
          cell_of after (128 + k * 16 + m) t b bit last_here,
          same_changes cs after (128 + k * 16) (128 + k * 16) m
              (λ i l.
              far (128 + k * 16 + i) (λ e. omega arith) (λ e. omega arith)
              ∙ c.still (128 + k * 16 + i) (λ u h g e. omega arith)),
        )

    only : Only k cs after
    only =
        record {
          still =
              λ z a b d.
              far z b (λ e. d m room (sym e))
              ∙ c.still z (λ i h g e. d i (omega (arith, fit.few k in64)) e);
        }

    value-here : get_or after k 0 ≡ get_or cs k 0
    value-here = far k (λ e. omega arith) (λ e. omega arith) ∙ c.still k (λ i h g e. omega arith)

    pub post-done : Posted cs k t (truth b) true after
    unfolding post
    post-done =
        record {
          answer = λ n l h. rw (pending_at n cs k l, left-length, lt-ltb m 16 room, pendings-set cs after k fit in64 only n l h, here);
          values = λ j l. far j (λ e. omega arith) (λ e. omega arith) ∙ c.still j (λ i h g e. omega arith);
          counts = count_other cs after k fit in64 only;
          fit =
              fit-only cs after k fit in64 only (simp length-set c.long)
              (rw value-here (fit.bits k in64))
              (rw count-here (omega arith))
              (rw here (rising-append (before t (pending_of cs k)) (change t (truth b)) (rising-before t (pending_of cs k) (fit.rising k in64)) (before-earlier t (pending_of cs k))))
              (λ i p g.
              far (128 + k * 16 + i) (λ e. omega arith) (λ e. omega (arith, count-here))
              ∙ unused-after i (omega (arith, count-here)) g (ltb i (count_of cs k)) refl);
          left = λ e. absurd (true≢false e);
        }
      where
        unused-after : (i : ℕ) → m < i → i < 16 → (q : Bool) → ltb i (count_of cs k) ≡ q → get_or es (128 + k * 16 + i) 0 ≡ 0
        unused-after i p g true e = c.gone i (omega arith) (ltb-true i (count_of cs k) e)
        unused-after i p g false e =
            c.still (128 + k * 16 + i) (λ u h l r. omega (arith, ltb-false i (count_of cs k) e))
            ∙ fit.unused k i in64 (ltb-false i (count_of cs k) e) g
