-- The least pending time, and the word of the signals that have a change then. Assumes nothing.
use Prim.Native.Nat.{ℕ, zero, suc, ◌+◌, ◌*◌, ◌-◌, ◌/◌, ◌^◌, ◌<◌, ◌≤◌}
use mathlib.Core.Path.{◌≡◌, refl, ap, sym, ◌∙◌}
use mathlib.Core.List.{List, [], ◌∷◌}
use mathlib.Core.Bool.{true, false, ◌||◌, or-true, or-false, true≢false}
use mathlib.Core.Logic.{⊎_elim}
use native.Mathlib.Numerals.{add-one}
use native.Mathlib.Omega.{arith}
use lib.Bits.{bit_or, or_lt}
use lib.Count.{count_trailing_zeros}
use lib.Dec.{eqb}
use lib.ListN.{length, get_or}
use borrow.Author.Tests.{eq-eqb, eqb-true}
use Rattle.std.specs.Prelude.{Some, None}
use Rattle.laws.proofs.Cases.{side, split, by}
use Rattle.rules.specs.Pending.{Change, Pending, due_in, due, Least, nothing, first, lower, least_in, least}
use Rattle.rules.specs.Session.{Each, Rising}
use Rattle.table.specs.Table.{bit, tabulate}
use Rattle.table.proofs.Tabulated.{bit-zero}
use Rattle.table.proofs.Changes.{each_more}
use Rattle.table.proofs.Leasts.{none-earlier, something_due}
use Rattle.cells.specs.Cells.{change_in, count_of, pending_of, pendings, Fit, Reached, Due, ComesNext}
use Rattle.cells.specs.Inside.Moves.{Nearer, Seen}
use Rattle.cells.specs.declared.Coming.{Coming}
use Rattle.cells.proofs.Waiting.{due-later, later_first, later_all}
use Rattle.cells.proofs.Columns.{length-pendings, pending_at, pending-past}
use Rattle.cells.proofs.Words.{bit-or, bit_same, bit_other, bit-above, one_below}
use Rattle.cells.proofs.Walks.{walk_first, walk_next}

-- WHAT IS DUE

pub due_any : (t : ℕ) (p : Pending) (k : ℕ) → due_in t (get_or p k []) ≡ true → due t p ≡ true
unfolding due due_in
due_any t [] k h = h
due_any t (cs ∷ p) zero h = rw h
due_any t (cs ∷ p) (suc k) h = rw (due_any t p k h) (or-true (due_in t cs))

pub due_all : (t : ℕ) (p : Pending) → ((k : ℕ) → due_in t (get_or p k []) ≡ false) → due t p ≡ false
unfolding due
due_all t [] h = refl
due_all t (cs ∷ p) h = rw (h 0) (due_all t p (λ k. h (suc k)))

module _ (word t : ℕ) (p : Pending) (d : Due word t p) where
  pub due-zero : word ≡ 0 → due t p ≡ false
  due-zero e = due_all t p (λ k. sym (d.tells k) ∙ ap (λ w. bit w k) e ∙ bit-zero k)

  pub due_some : length p ≤ 64 → 0 < word → due t p ≡ true
  due_some few some =
      let s = walk_next (walk_first word (length p) d.small) few (some, refl, refl) in
      due_any t p (count_trailing_zeros 64 word) (sym (d.tells (count_trailing_zeros 64 word)) ∙ s.set)

-- THE LEAST TIME

least-empty : (p : Pending) → ((k : ℕ) → get_or p k [] ≡ []) → least p ≡ nothing
unfolding least least_in
least-empty [] h = refl
least-empty (cs ∷ p) h = rw (h 0) (least-empty p (λ k. h (suc k)))

not-nothing : (t : ℕ) (p : Pending) → least p ≡ nothing → due t p ≡ false
unfolding least least_in due due_in
not-nothing t [] h = refl
not-nothing t (cs ∷ p) h = in_one cs (least p) h (not-nothing t p)
  where
    unlike : (a : ℕ) (l : Least) → lower a l ≡ nothing → ⊥
    unlike a nothing e = let z : ◌≡◌ {A = ℕ} 0 1 = cc in omega arith
    unlike a (first u) e = let z : ◌≡◌ {A = ℕ} 0 1 = cc in omega arith

    in_one : (cs : List Change) (l : Least) → least_in cs l ≡ nothing → (l ≡ nothing → due t p ≡ false) → (due_in t cs || due t p) ≡ false
    in_one [] l e f = f e
    in_one (c ∷ cs) l e f = absurd (unlike c.time (least_in cs l) e)

in_reached : (t u : ℕ) (cs : List Change) → Reached t cs → due_in u cs ≡ true → t ≤ u
unfolding Each due_in
in_reached t u [] h g = absurd (true≢false (sym g))
in_reached t u (c ∷ cs) h g =
    split (eqb c.time u)
    (λ e. let q : c.time ≡ u = eqb-true c.time u e in omega (arith, h.0))
    (λ e. in_reached t u cs h.1 (rw e at g))

all_reached : (t u : ℕ) (p : Pending) → ((k : ℕ) → Reached t (get_or p k [])) → due u p ≡ true → t ≤ u
unfolding due
all_reached t u [] h g = absurd (true≢false (sym g))
all_reached t u (cs ∷ p) h g =
    split (due_in u cs) (λ e. in_reached t u cs (h 0) e) (λ e. all_reached t u p (λ k. h (suc k)) (rw e at g))

-- where something is due at t, and nothing before, t is the least time
pub least_is : (t : ℕ) (p : Pending) → due t p ≡ true → ((k : ℕ) → Reached t (get_or p k [])) → least p ≡ first t
least_is t p d h = of (least p) refl
  where
    of : (l : Least) → least p ≡ l → least p ≡ first t
    of nothing e = absurd (true≢false (sym d ∙ not-nothing t p e))
    of (first u) e =
        let a : t ≤ u = all_reached t u p h (something_due u p e) in
        let b : u ≤ t = all_reached u t p (none-earlier u p e) d in
        e ∙ ap first (omega arith)

-- THE LOOP

abbrev pub coming : ℕ → ℕ → Coming
coming time due = record { time = time; due = due }

module _ (cs : List ℕ) (k time word : ℕ) (fit : Fit cs) (in64 : k < 64) (s : Seen cs k (coming time word)) where
  below : (j : ℕ) → j < k + 1 → (j ≡ k → ⊥) → j < k
  below j l ne = omega arith

  wider : (w : ℕ) → w < 2 ^ k → w < 2 ^ (k + 1)
  wider w l = let e : 2 * 2 ^ k ≡ 2 ^ suc k = omega arith in rw (add-one k) (omega arith)

  -- a signal with no change at the time
  idle : due_in time (pending_of cs k) ≡ false → Reached time (pending_of cs k) → (word ≡ 0 → pending_of cs k ≡ []) → Seen cs (k + 1) (coming time word)
  idle d r n =
      record {
        small = wider word s.small;
        tells = λ j l. by j k (λ e. rw e (bit-above k word k s.small (omega arith) ∙ sym d)) (λ ne. s.tells j (below j l ne));
        reached = λ j l. by j k (λ e. rw e r) (λ ne. s.reached j (below j l ne));
        nothing = λ z j l. by j k (λ e. rw e (n z)) (λ ne. s.nothing z j (below j l ne));
        above = s.above;
      }

  pub seen_none : count_of cs k ≡ 0 → Seen cs (k + 1) (coming time word)
  unfolding due_in Each tabulate
  seen_none e = idle (rw e refl) (rw e tt) (λ z. rw e refl)

  module _ (some : (count_of cs k ≡ 0 → ⊥)) where
    abbrev here : Change
    here = change_in cs (128 + k * 16)

    abbrev rest : List Change
    rest = tabulate (change_in cs) (suc (128 + k * 16)) (count_of cs k - 1)

    seen : pending_of cs k ≡ here ∷ rest
    unfolding tabulate
    seen =
        let q : count_of cs k ≡ suc (count_of cs k - 1) = omega arith in
        ap (tabulate (change_in cs) (128 + k * 16)) q

    rises : Rising (here ∷ rest)
    rises = rw seen at (fit.rising k in64)

    at : here.time ≡ get_or cs (128 + k * 16) 0 / 2
    unfolding change_in
    at = refl

    each_here : (t : ℕ) → t ≤ here.time → Reached t (pending_of cs k)
    unfolding Each
    each_here t h = rw seen (h, each_more (λ d. t < d.time) (λ d. t ≤ d.time) (λ d g. omega arith) rest (later_first t here rest rises h))

    due-here : (t : ℕ) → here.time ≡ t → due_in t (pending_of cs k) ≡ true
    unfolding due_in
    due-here t e = rw (seen, eq-eqb here.time t e)

    seen-later : time < get_or cs (128 + k * 16) 0 / 2 → get_or cs (128 + k * 16) 0 / 2 < 2 ^ 64 → Seen cs (k + 1) (coming time word)
    seen-later l f =
        let h : time < here.time = rw at l in
        idle (rw seen (due-later time (here ∷ rest) (later_all time here rest rises h))) (each_here time (omega arith)) (λ z. absurd (omega (arith, s.above z)))

    not-zero : (w : ℕ) → bit w k ≡ true → w ≡ 0 → ⊥
    not-zero w b z = true≢false (sym b ∙ ap (λ x. bit x k) z ∙ bit-zero k)

    seen-also : get_or cs (128 + k * 16) 0 / 2 ≡ time → Seen cs (k + 1) (coming time (bit_or word (1 * 2 ^ k)))
    seen-also e =
        let h : here.time ≡ time = at ∙ e in
        let one : bit (bit_or word (1 * 2 ^ k)) k ≡ true = bit-or word (1 * 2 ^ k) k ∙ ap (λ b. bit word k || b) (bit_same k) ∙ or-true (bit word k) in
        record {
          small = or_lt (k + 1) word (1 * 2 ^ k) (wider word s.small) (one_below k (k + 1) (omega arith));
          tells = λ j l. by j k
              (λ q. rw q (one ∙ sym (due-here time h)))
              (λ ne. bit-or word (1 * 2 ^ k) j ∙ ap (λ b. bit word j || b) (bit_other k j ne) ∙ or-false (bit word j) ∙ s.tells j (below j l ne));
          reached = λ j l. by j k (λ q. rw q (each_here time (omega arith))) (λ ne. s.reached j (below j l ne));
          nothing = λ z. absurd (not-zero (bit_or word (1 * 2 ^ k)) one z);
          above = λ z. absurd (not-zero (bit_or word (1 * 2 ^ k)) one z);
        }

    abbrev new : ℕ
    new = get_or cs (128 + k * 16) 0 / 2

    seen-earlier : new < time → Seen cs (k + 1) (coming new (1 * 2 ^ k))
    seen-earlier l =
        let far : (j : ℕ) → j < k → Each (λ c. new < c.time) (pending_of cs j) =
        λ j m. each_more (λ c. time ≤ c.time) (λ c. new < c.time) (λ c g. omega arith) (pending_of cs j) (s.reached j m) in
        record {
          small = one_below k (k + 1) (omega arith);
          tells = λ j m. by j k
              (λ q. rw q (bit_same k ∙ sym (due-here new at)))
              (λ ne. bit_other k j ne ∙ sym (due-later new (pending_of cs j) (far j (below j m ne))));
          reached = λ j m. by j k
              (λ q. rw q (each_here new (omega (arith, at))))
              (λ ne. each_more (λ c. new < c.time) (λ c. new ≤ c.time) (λ c g. omega arith) (pending_of cs j) (far j (below j m ne)));
          nothing = λ z. absurd (not-zero (1 * 2 ^ k) (bit_same k) z);
          above = λ z. absurd (not-zero (1 * 2 ^ k) (bit_same k) z);
        }

    pub seen_some : (one : ℕ) (r : Coming) → one ≡ 1 * 2 ^ k → Nearer new one time word r → Seen cs (k + 1) r
    seen_some one r e n =
        by new time
        (λ q. let r = n.same q in is_seen r.0 (r.1 ∙ ap (bit_or word) e) (seen-also q))
        (λ ne. ⊎_elim
        (λ l. let r = n.earlier l in is_seen r.0 (r.1 ∙ e) (seen-earlier l))
        (λ l. let g : time < new = omega arith in let r = n.later g in is_seen r.0 r.1 (seen-later g n.fits))
        (side new time))
      where
        is_seen : {t w : ℕ} → r.time ≡ t → r.due ≡ w → Seen cs (k + 1) (coming t w) → Seen cs (k + 1) r
        is_seen p q g = rw (← p, ← q) at g

pub seen_start : (cs : List ℕ) → Seen cs 0 (coming 18446744073709551615 0)
seen_start cs =
    let e : 2 ^ 64 ≡ 18446744073709551616 = refl in
    record {
      small = omega arith;
      tells = λ j l. absurd (omega arith);
      reached = λ j l. absurd (omega arith);
      nothing = λ z j l. absurd (omega arith);
      above = λ z. omega arith;
    }

module _ (cs : List ℕ) (n time word : ℕ) (few : n ≤ 64) (s : Seen cs n (coming time word)) where
  pub comes_nothing : word ≡ 0 → ComesNext (pendings n cs) None
  comes_nothing e =
      least-empty (pendings n cs)
      (λ k. ⊎_elim (λ l. pending_at n cs k l ∙ s.nothing e k l) (λ l. pending-past n cs k l) (side k n))

  is_due : Due word time (pendings n cs)
  unfolding due_in Each
  is_due =
      record {
        small = rw (length-pendings n cs) s.small;
        tells = λ k. ⊎_elim
            (λ l. s.tells k l ∙ sym (ap (due_in time) (pending_at n cs k l)))
            (λ l. bit-above n word k s.small l ∙ sym (ap (due_in time) (pending-past n cs k l)))
            (side k n);
        reached = λ k. ⊎_elim (λ l. rw (pending_at n cs k l) (s.reached k l)) (λ l. rw (pending-past n cs k l) tt) (side k n);
      }

  pub comes_at : (word ≡ 0 → ⊥) → ComesNext (pendings n cs) (Some (coming time word))
  comes_at ne =
      let some : 0 < word = omega arith in
      (least_is time (pendings n cs) (due_some word time (pendings n cs) is_due (omega (arith, length-pendings n cs)) some) is_due.reached, some, is_due)
