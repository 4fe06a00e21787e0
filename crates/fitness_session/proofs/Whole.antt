-- A session's words are fit for a table just where each part that is tested is. Assumes nothing.
use Prim.Native.Nat.{ℕ, ◌+◌, ◌*◌, ◌/◌, ◌≤◌, ◌<◌}
use native.Mathlib.Omega.{arith}
use mathlib.Core.Path.{◌≡◌, refl, sym, ◌∙◌, ap, subst}
use mathlib.Core.Bool.{Bool, false}
use mathlib.Core.Logic.{◌⊎◌, inl, inr, ⊎_elim}
use mathlib.Core.List.{List, []}
use lib.ListN.{length, get_or, get_or-eq_default}
use Rattle.std.specs.Prelude.{Option, Some, None}
use Rattle.laws.proofs.Cases.{side}
use Rattle.laws.specs.Decides.{Decides}
use Rattle.laws.proofs.Deciding.{differ, one_answer}
use Rattle.laws.proofs.Ranges.{in_part}
use Rattle.words.specs.Unit.{longest}
use Rattle.rules.specs.Sizes.{most_pending}
use Rattle.rules.specs.Pending.{Change}
use Rattle.rules.specs.Session.{Session, Each, Rising, driven, FitSession}
use Rattle.table.specs.Table.{Table, tabulate, runners}
use Rattle.table.specs.Fit.{FitTable}
use Rattle.table.proofs.Tabulated.{length-tabulate, at_tabulated}
use Rattle.layout.specs.TableWords.{HoldsTable, FitTableWords}
use Rattle.layout.specs.SessionWords.{HoldsSession, FitSessionWords}
use Rattle.layout.proofs.ChangeWords.{change_of, none, each_from, rising-from}
use Rattle.layout.proofs.SessionLaws.{pending_at, value-below, values-unused, changes-unused, count_is, time_most, pending_most, change-later, change-near, changes_rise}
use Rattle.layout.proofs.Sessions.{changes_at, decode_session}
use Rattle.layout.proofs.Tables.{decode_table, decode_table_lem}
use Rattle.layout.proofs.Decoded.{PlainSession, plain-fit-session}
use Rattle.fitness.specs.Inside.Parts.{signals, processes, instructions, Rows}
use Rattle.fitness.specs.Inside.Drivers.{Owned}
use Rattle.fitness.proofs.Reading.{count-signals}
use Rattle.fitness.proofs.Whole.{zero-part, part-zero}
use Rattle.fitness_session.specs.Inside.Parts.{Head, most_for, Signals}
use Rattle.fitness_session.proofs.Driven.{driven-known, driven-none, driven-exists}

-- a signal has a driver or none
owner : (o : Option ℕ) → (o ≡ None) ⊎ ((q : ℕ) × (o ≡ Some q))
owner None = inl refl
owner (Some q) = inr (q, refl)

most_none : (driver : Option ℕ) → driver ≡ None → most_for driver ≡ 0
most_none driver e = rw e

pub most_few : (driver : Option ℕ) → most_for driver ≤ 16
most_few None = omega arith
most_few (Some q) = omega arith

-- A FIT SESSION'S WORDS PASS EACH TEST

module _ (w v : List ℕ) (fits : FitTable (decode_table w)) (s : Session) (h : HoldsSession v s)
    (g : FitSession (runners (decode_table w)) (length (decode_table w).initial) s) where
  count : get_or v 0 0 ≡ signals w
  count = count_is _ _ v s h g ∙ count-signals w

  pub fit-head : Head v (signals w)
  fit-head =
      let few : signals w ≤ 64 = omega (arith, count-signals w, fits.few_signals) in
      record {
        long = h.long;
        count = count;
        early = time_most _ _ v s h g;
        values = λ i lo hi. in_part (λ j. get_or v j 0 ≤ 1) 2 (signals w) i (λ k l. omega (arith, value-below v s h k (omega arith))) lo hi;
        no_values = zero-part v 2 (signals w) 64 (λ k a b. values-unused v s h k (omega (arith, count)) b);
      }

module _ (w v : List ℕ) (own : List (Option ℕ)) (fits : FitTable (decode_table w)) (rows : Rows (decode_table w) (processes w) (instructions w))
    (o : Owned (decode_table w) (processes w) (instructions w) own) where
  module _ (s : Session) (h : HoldsSession v s) (g : FitSession (runners (decode_table w)) (length (decode_table w).initial) s) where
    idle : (k : ℕ) → k < 64 → get_or own k None ≡ None → get_or v (66 + k) 0 ≡ 0
    idle k l e = pending_at v s h k l ∙ ap length (g.idle k (driven-none w own rows o k e))

    pub fit-signals : Signals v own 64
    fit-signals k l =
        record {
          few = ⊎_elim
              (λ e. omega (arith, idle k l e))
              (λ n. rw n.1 (pending_most _ _ v s h g k l))
              (owner (get_or own k None));
          changes = record {
            later = λ j m. change-later _ _ v s h g k j l m;
            near = λ j m. change-near _ _ v s h g k j l m;
            rising = λ i j a m. changes_rise _ _ v s h g k i j l a m;
            unused = zero-part v (130 + 16 * k) (get_or v (66 + k) 0) 16 (λ j a b. changes-unused v s h k j a l b);
          };
        }

  -- AND WORDS THAT PASS ALL ARE FIT

  module _ (head : Head v (signals w)) (all : Signals v own 64) where
    few-signals : signals w ≤ 64
    few-signals = omega (arith, count-signals w, fits.few_signals)

    -- a signal that is not there has no driver, so nothing is pending for it
    beyond : (k : ℕ) → get_or v 0 0 ≤ k → k < 64 → get_or v (66 + k) 0 ≡ 0
    beyond k a l =
        ⊎_elim
        (λ e. omega (arith, (all k l).few, most_none (get_or own k None) e))
        (λ n. absurd (omega (arith, driven-exists w own rows o fits k n.0 n.1, count-signals w, head.count)))
        (owner (get_or own k None))

    plainly : PlainSession v
    plainly =
        record {
          long = head.long;
          values = λ k l. ⊎_elim
              (λ u. omega (arith, head.values (2 + k) (omega arith) (omega arith)))
              (λ u. omega (arith, head.no_values (2 + k) (omega arith) (omega arith)))
              (side k (signals w));
          no_values = λ k a l. part-zero v 2 (signals w) 64 head.no_values k (omega (arith, head.count)) l;
          no_pending = beyond;
          no_changes = λ k j a l m. part-zero v (130 + 16 * k) (get_or v (66 + k) 0) 16 (all k l).changes.unused j a m;
        }

    -- what is pending for signal k, where there is one
    pending_in : (k : ℕ) → k < get_or v 0 0 → get_or (decode_session v).pending k [] ≡ changes_at v k
    unfolding decode_session
    pending_in k l = at_tabulated (changes_at v) [] (get_or v 0 0) k l

    pending-out : (k : ℕ) → get_or v 0 0 ≤ k → get_or (decode_session v).pending k [] ≡ []
    unfolding decode_session
    pending-out k l = get_or-eq_default (tabulate (changes_at v) 0 (get_or v 0 0)) [] {n = k} (omega (arith, length-tabulate (changes_at v) 0 (get_or v 0 0)))

    -- what holds of the changes of the signals that are there, and of none
    pendings : (P : List Change → Type 0) → P [] → ((k : ℕ) → k < 64 → P (changes_at v k)) → (k : ℕ) → P (get_or (decode_session v).pending k [])
    pendings P z a k =
        ⊎_elim
        (λ u. rw (pending_in k u) (a k (omega (arith, head.count, few-signals))))
        (λ u. rw (pending-out k u) z)
        (side k (get_or v 0 0))

    length-changes : (k : ℕ) → length (changes_at v k) ≡ get_or v (66 + k) 0
    length-changes k = length-tabulate _ 0 (get_or v (66 + k) 0)

    change_in_lem : (k j : ℕ) → j < length (changes_at v k) → (get_or (changes_at v k) j none).time ≡ get_or v (130 + 16 * k + j) 0 / 2
    unfolding change_of
    change_in_lem k j l =
        ap (λ c. c.time) (at_tabulated (λ i. change_of (get_or v (130 + 16 * k + i) 0)) none (get_or v (66 + k) 0) j (omega (arith, length-changes k)))

    count-values : length (decode_session v).values ≡ length (decode_table w).initial
    unfolding decode_session
    count-values = length-tabulate _ 0 (get_or v 0 0) ∙ head.count ∙ sym (count-signals w)

    count-pending : length (decode_session v).pending ≡ length (decode_table w).initial
    unfolding decode_session
    count-pending = length-tabulate _ 0 (get_or v 0 0) ∙ head.count ∙ sym (count-signals w)

    time_is_lem : (decode_session v).time ≡ get_or v 1 0
    unfolding decode_session
    time_is_lem = refl

    no_changes_lem : (k : ℕ) → get_or v (66 + k) 0 ≡ 0 → changes_at v k ≡ []
    unfolding tabulate
    no_changes_lem k e = ap (λ n. tabulate (λ j. change_of (get_or v (130 + 16 * k + j) 0)) 0 n) e

    unposted : (k : ℕ) → driven (runners (decode_table w)) k ≡ false → get_or (decode_session v).pending k [] ≡ []
    unposted k e =
        ⊎_elim
        (λ u.
        let l : k < 64 = omega (arith, head.count, few-signals) in
        pending_in k u
        ∙ no_changes_lem k (⊎_elim
        (λ z. omega (arith, (all k l).few, most_none (get_or own k None) z))
        (λ n. differ (sym (driven-known w own rows o k n.0 n.1) ∙ e))
        (owner (get_or own k None))))
        (λ u. pending-out k u)
        (side k (get_or v 0 0))

    fitly : FitSession (runners (decode_table w)) (length (decode_table w).initial) (decode_session v)
    unfolding Each Rising
    fitly =
        record {
          counted = count-values;
          agrees = count-pending;
          early = rw (time_is_lem) head.early;
          later = λ k. rw (time_is_lem) (pendings (λ cs. Each (λ c. get_or v 1 0 < c.time) cs) tt
              (λ k l. each_from (λ c. get_or v 1 0 < c.time) (changes_at v k) none
              (λ j m. omega (arith, change_in_lem k j m, (all k l).changes.later j (omega (arith, length-changes k))))) k);
          near = λ k. rw (time_is_lem) (pendings (λ cs. Each (λ c. c.time ≤ get_or v 1 0 + longest) cs) tt
              (λ k l. each_from (λ c. c.time ≤ get_or v 1 0 + longest) (changes_at v k) none
              (λ j m. omega (arith, change_in_lem k j m, (all k l).changes.near j (omega (arith, length-changes k))))) k);
          few = pendings (λ cs. length cs ≤ most_pending) (omega arith)
              (λ k l. omega (arith, length-changes k, (all k l).few, most_few (get_or own k None)));
          rising = pendings Rising tt
              (λ k l. rising-from (changes_at v k) none
              (λ i j m b. omega (
                arith,
                change_in_lem k i (omega arith),
                change_in_lem k j b,
                (all k l).changes.rising i j m (omega (arith, length-changes k)),
              )));
          idle = unposted;
        }

    pub session_is_fit : FitSessionWords (decode_table w) v
    session_is_fit = plain-fit-session (decode_table w) v plainly fitly

-- the table that fit words hold is the one that they are read as
pub for_table : (w v : List ℕ) (r : Bool) → Decides r (FitSessionWords (decode_table w) v) → (t : Table) → HoldsTable w t → FitTable t
    → Decides r (FitSessionWords t v)
for_table w v r d t h f = subst (λ u. Decides r (FitSessionWords u v)) (decode_table_lem w t h f) d

-- no second answer fits
pub one_answer_for : (w v : List ℕ) (r s : Bool) → FitTableWords w
    → ((t : Table) → HoldsTable w t → FitTable t → Decides r (FitSessionWords t v))
    → ((t : Table) → HoldsTable w t → FitTable t → Decides s (FitSessionWords t v)) → r ≡ s
one_answer_for w v r s f d e = one_answer r s _ (d f.table f.holds f.fit) (e f.table f.holds f.fit)
