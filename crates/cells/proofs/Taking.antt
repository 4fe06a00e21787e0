-- To take a signal's first change out is to take its changes of that time out, where none comes before. Assumes nothing.
use Prim.Native.Nat.{ℕ, zero, suc, ◌+◌, ◌*◌, ◌-◌, ◌/◌, ◌%◌, ◌<◌, ◌≤◌}
use mathlib.Core.Path.{◌≡◌, refl, ap, sym, ◌∙◌}
use mathlib.Core.List.{List, ◌∷◌}
use mathlib.Core.Bool.{Bool, true, false, not}
use native.Mathlib.Omega.{arith}
use lib.Dec.{eqb}
use lib.ListN.{get_or, set, length-set}
use lib.Seq.{get_or-set_same, get_or-set_other}
use borrow.Author.Tests.{eq-eqb}
use Rattle.laws.proofs.Cases.{by}
use Rattle.rules.specs.Formulas.{differ}
use Rattle.rules.specs.Pending.{Change, taken, kept}
use Rattle.rules.specs.Session.{Each, Rising}
use Rattle.table.specs.Table.{tabulate}
use Rattle.cells.specs.Cells.{truth, change_in, count_of, pending_of, value_of, Fit, Reached, Took}
use Rattle.cells.specs.Inside.Moves.{Dropped}
use Rattle.cells.proofs.Waiting.{kept-later, taken-later, later_first, later_all, rising-tail}
use Rattle.cells.proofs.Columns.{same_changes, Only, count_other, pending_other, value_other, fit-only}

pub differ_self : (b : Bool) → differ b b ≡ false
differ_self true = refl
differ_self false = refl

unlike : (a b : ℕ) → a ≤ 1 → b ≤ 1 → not (eqb a b) ≡ differ (truth a) (truth b)
unlike zero zero h g = refl
unlike zero (suc zero) h g = refl
unlike (suc zero) zero h g = refl
unlike (suc zero) (suc zero) h g = refl
unlike (suc (suc a)) b h g = absurd (omega arith)
unlike zero (suc (suc b)) h g = absurd (omega arith)
unlike (suc zero) (suc (suc b)) h g = absurd (omega arith)

-- a first change at t is taken, and one that comes later is not
kept_first : (t : ℕ) (c : Change) (cs : List Change) → Rising (c ∷ cs) → c.time ≡ t → kept t (c ∷ cs) ≡ cs
unfolding kept
kept_first t c cs r e = rw (eq-eqb c.time t e) (kept-later t cs (later_first t c cs r (omega arith)))

taken_first : (t : ℕ) (v : Bool) (c : Change) (cs : List Change) → c.time ≡ t → taken t v (c ∷ cs) ≡ c.value
unfolding taken
taken_first t v c cs e = rw (eq-eqb c.time t e)

head-reached : (t : ℕ) (c : Change) (cs : List Change) → Reached t (c ∷ cs) → t ≤ c.time
unfolding Each
head-reached t c cs h = h.0

module _ (cs : List ℕ) (k t : ℕ) (fit : Fit cs) (in64 : k < 64) (reached : Reached t (pending_of cs k)) where
  abbrev base : ℕ
  base = 128 + k * 16

  abbrev rest : List Change
  rest = tabulate (change_in cs) (suc (128 + k * 16)) (count_of cs k - 1)

  seen : 0 < count_of cs k → pending_of cs k ≡ change_in cs base ∷ rest
  unfolding tabulate
  seen some =
      let q : count_of cs k ≡ suc (count_of cs k - 1) = omega arith in
      ap (tabulate (change_in cs) base) q

  -- nothing is due
  idle : kept t (pending_of cs k) ≡ pending_of cs k → taken t (value_of cs k) (pending_of cs k) ≡ value_of cs k → Took cs k t false cs
  idle e d =
      record {
        event = rw d (sym (differ_self (value_of cs k)));
        value = sym d;
        pending = sym e;
        other_value = λ j l ne. refl;
        other_count = λ j l ne. refl;
        other_pending = λ j l ne. refl;
        fit = fit;
      }

  pub took-none : count_of cs k ≡ 0 → Took cs k t false cs
  unfolding tabulate taken kept
  took-none none = idle (rw none) (rw none)

  time_of : (change_in cs base).time ≡ get_or cs base 0 / 2
  unfolding change_in
  time_of = refl

  pub took-later : 0 < count_of cs k → (get_or cs (128 + k * 16) 0 / 2 ≡ t → ⊥) → Took cs k t false cs
  took-later some ne =
      let r : Rising (change_in cs base ∷ rest) = rw (seen some) at (fit.rising k in64) in
      let h : t ≤ (change_in cs base).time = head-reached t (change_in cs base) rest (rw (seen some) at reached) in
      let later : t < (change_in cs base).time = above t (change_in cs base).time h (λ e. ne (sym time_of ∙ e)) in
      let all = later_all t (change_in cs base) rest r later in
      idle (rw (seen some) (kept-later t (change_in cs base ∷ rest) all)) (rw (seen some) (taken-later t (value_of cs k) (change_in cs base ∷ rest) all))
    where
      above : (a b : ℕ) → a ≤ b → (b ≡ a → ⊥) → a < b
      above a b h n = omega arith

  module _ (es : List ℕ) (some : 0 < count_of cs k) (at : get_or cs (128 + k * 16) 0 / 2 ≡ t) (d : Dropped cs (128 + k * 16) es) where
    abbrev fewer : List ℕ
    fewer = set es (64 + k) (count_of cs k - 1)

    abbrev went : List ℕ
    went = set fewer k (get_or cs (128 + k * 16) 0 % 2)

    value-here : get_or went k 0 ≡ get_or cs (128 + k * 16) 0 % 2
    value-here = get_or-set_same fewer k (get_or cs (128 + k * 16) 0 % 2) 0 (simp length-set (omega (arith, d.long)))

    count-here : count_of went k ≡ count_of cs k - 1
    count-here =
        get_or-set_other fewer k (64 + k) (get_or cs (128 + k * 16) 0 % 2) 0 (λ e. omega arith)
        ∙ get_or-set_same es (64 + k) (count_of cs k - 1) 0 (omega (arith, d.long))

    far : (z : ℕ) → (z ≡ k → ⊥) → (z ≡ 64 + k → ⊥) → get_or went z 0 ≡ get_or es z 0
    far z p q =
        get_or-set_other fewer k z (get_or cs (128 + k * 16) 0 % 2) 0 p
        ∙ get_or-set_other es (64 + k) z (count_of cs k - 1) 0 q

    cell_here : (i : ℕ) → get_or went (base + i) 0 ≡ get_or es (base + i) 0
    cell_here i = far (base + i) (λ e. omega arith) (λ e. omega arith)

    tail-here : pending_of went k ≡ rest
    tail-here =
        ap (λ (n : ℕ). tabulate (change_in went) (128 + k * 16) n) count-here
        ∙ same_changes cs went (suc (128 + k * 16)) (128 + k * 16) (count_of cs k - 1)
        (λ i l.
        cell_here i
        ∙ d.moved i (omega (arith, fit.few k in64))
        ∙ ap (λ (z : ℕ). get_or cs z 0) (omega arith))

    pending-new : pending_of went k ≡ kept t (pending_of cs k)
    pending-new = tail-here ∙ sym (rw (seen some) (kept_first t (change_in cs base) rest (rw (seen some) at (fit.rising k in64)) (time_of ∙ at)))

    value_of_lem : (change_in cs base).value ≡ truth (get_or cs base 0 % 2)
    unfolding change_in
    value_of_lem = refl

    value-new : value_of went k ≡ taken t (value_of cs k) (pending_of cs k)
    value-new = ap truth value-here ∙ sym (rw (seen some) (taken_first t (value_of cs k) (change_in cs base) rest (time_of ∙ at) ∙ value_of_lem))

    only : Only k cs went
    only = record { still = λ z a b out. far z a b ∙ d.still z out }

    old_kept : get_or fewer k 0 ≡ get_or cs k 0
    old_kept = get_or-set_other es (64 + k) k (count_of cs k - 1) 0 (λ e. omega arith) ∙ d.still k (λ m l e. omega arith)

    unused-here : (i : ℕ) → count_of went k ≤ i → i < 16 → get_or went (base + i) 0 ≡ 0
    unused-here i p g =
        cell_here i
        ∙ by i 15
        (λ e. rw e d.last)
        (λ ne. d.moved i (omega arith) ∙ fit.unused k (i + 1) in64 (omega (arith, count-here)) (omega arith))

    pub took-done : Took cs k t (not (eqb (get_or fewer k 0) (get_or cs (128 + k * 16) 0 % 2))) went
    took-done =
        record {
          event =
              rw old_kept (unlike (get_or cs k 0) (get_or cs (128 + k * 16) 0 % 2) (fit.bits k in64) (omega arith))
              ∙ ap (λ (b : Bool). differ (value_of cs k) b) (ap truth (sym value-here) ∙ value-new);
          value = value-new;
          pending = pending-new;
          other_value = value_other cs went k fit in64 only;
          other_count = count_other cs went k fit in64 only;
          other_pending = pending_other cs went k fit in64 only;
          fit =
              fit-only cs went k fit in64 only (simp length-set d.long)
              (rw value-here (omega arith))
              (rw count-here (omega (arith, fit.few k in64)))
              (rw tail-here (rising-tail (change_in cs base) rest (rw (seen some) at (fit.rising k in64))))
              unused-here;
        }
