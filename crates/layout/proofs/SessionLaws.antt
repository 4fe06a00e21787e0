-- What each word of a session says, where the words hold a session and the session is fit. Assumes nothing.
use Prim.Native.Nat.{ℕ, zero, suc, ◌+◌, ◌*◌, ◌/◌, ◌%◌, ◌^◌, ◌≤◌, ◌<◌}
use native.Mathlib.Omega.{arith}
use mathlib.Core.Path.{◌≡◌, ◌∙◌, ap, subst}
use mathlib.Core.Bool.{false}
use mathlib.Core.Logic.{⊎_elim}
use mathlib.Core.List.{List, [], map}
use lib.ListN.{length, get_or, length-map, get_or-map, get_or-eq_default}
use Rattle.laws.proofs.Cases.{side}
use Rattle.laws.proofs.Ranges.{in_part}
use Rattle.words.specs.Unit.{longest}
use Rattle.rules.specs.Pending.{Change}
use Rattle.rules.specs.Runner.{Runner}
use Rattle.rules.specs.Session.{Session, FitSession}
use Rattle.table.specs.Translation.{number}
use Rattle.layout.specs.SessionWords.{count_at, time_at, values_from, pending_from, changes_from, session_size, change_word, HoldsSession}
use Rattle.layout.proofs.Columns.{truth, truth-number, number-below}
use Rattle.layout.proofs.ChangeWords.{change_of, change_of_word, time_of_word, change_word-below, none, each_at, rising_at}

-- the pending change j of signal k
abbrev pub pending_change : Session → ℕ → ℕ → Change
pending_change s k j = get_or (get_or s.pending k []) j none

-- each place of a session is a count, the time, or in one of the columns
pub session-place : (P : ℕ → Type 0) → P count_at → P time_at → ((k : ℕ) → k < 64 → P (values_from + k)) → ((k : ℕ) → k < 64 → P (pending_from + k))
    → ((k j : ℕ) → k < 64 → j < 16 → P (changes_from + 16 * k + j)) → (i : ℕ) → i < session_size → P i
session-place P n t a b c zero l = n
session-place P n t a b c (suc zero) l = t
session-place P n t a b c (suc (suc j)) l =
    let i = suc (suc j) in
    ⊎_elim (λ u. in_part P values_from 64 i a (omega arith) (omega arith))
    (λ u. ⊎_elim (λ v. in_part P pending_from 64 i b (omega arith) (omega arith))
    (λ v. in_part P changes_from 1024 i
    (λ m o. let q : changes_from + 16 * (m / 16) + m % 16 ≡ changes_from + m = omega arith in subst P q (c (m / 16) (m % 16) (omega arith) (omega arith)))
    (omega arith) (omega arith))
    (side i changes_from)) (side i pending_from)

-- OF WORDS THAT HOLD A SESSION

module _ (words : List ℕ) (s : Session) (h : HoldsSession words s) where
  pub value_at : (k : ℕ) → k < 64 → get_or words (values_from + k) 0 ≡ number (get_or s.values k false)
  value_at k l = h.values k l ∙ get_or-map number s.values k false

  pub value-below : (k : ℕ) → k < 64 → get_or words (values_from + k) 0 < 2
  value-below k l = omega (arith, value_at k l, number-below (get_or s.values k false))

  pub value-truth : (k : ℕ) → k < 64 → truth (get_or words (values_from + k) 0) ≡ get_or s.values k false
  value-truth k l = ap truth (value_at k l) ∙ truth-number (get_or s.values k false)

  -- how many changes are pending for signal k
  pub pending_at : (k : ℕ) → k < 64 → get_or words (pending_from + k) 0 ≡ length (get_or s.pending k [])
  pending_at k l = h.pending k l ∙ get_or-map length s.pending k []

  pub change_at : (k j : ℕ) → k < 64 → j < 16 → get_or words (changes_from + 16 * k + j) 0 ≡ change_word (pending_change s k j)
  change_at k j l m = h.changes k j l m ∙ get_or-map change_word (get_or s.pending k []) j none

  pub change-read : (k j : ℕ) → k < 64 → j < 16 → change_of (get_or words (changes_from + 16 * k + j) 0) ≡ pending_change s k j
  change-read k j l m = ap change_of (change_at k j l m) ∙ change_of_word (pending_change s k j)

  pub change-time : (k j : ℕ) → k < 64 → j < 16 → get_or words (changes_from + 16 * k + j) 0 / 2 ≡ (pending_change s k j).time
  change-time k j l m = ap (λ w. w / 2) (change_at k j l m) ∙ time_of_word (pending_change s k j)

  -- unused places are zero
  pub values-unused : (k : ℕ) → get_or words count_at 0 ≤ k → k < 64 → get_or words (values_from + k) 0 ≡ 0
  values-unused k n l = h.values k l ∙ get_or-eq_default (map number s.values) 0 {n = k} (omega (arith, h.count, length-map s.values number))

  pub pending-unused : (k : ℕ) → get_or words count_at 0 ≤ k → k < 64 → get_or words (pending_from + k) 0 ≡ 0
  pending-unused k n l =
      h.pending k l ∙ get_or-eq_default (map length s.pending) 0 {n = k} (omega (arith, h.count, h.agree, length-map s.pending length))

  pub changes-unused : (k j : ℕ) → get_or words (pending_from + k) 0 ≤ j → k < 64 → j < 16 → get_or words (changes_from + 16 * k + j) 0 ≡ 0
  changes-unused k j n l m =
      h.changes k j l m
      ∙ get_or-eq_default (map change_word (get_or s.pending k [])) 0 {n = j}
      (omega (arith, pending_at k l, length-map (get_or s.pending k []) change_word))

-- OF WORDS THAT HOLD A FIT SESSION

module _ (rs : List Runner) (n : ℕ) (words : List ℕ) (s : Session) (h : HoldsSession words s) (f : FitSession rs n s) where
  pub count_is : get_or words count_at 0 ≡ n
  count_is = h.count ∙ f.counted

  pub time_most : get_or words time_at 0 ≤ longest
  time_most = omega (arith, h.time, f.early)

  pub pending_most : (k : ℕ) → k < 64 → get_or words (pending_from + k) 0 ≤ 16
  pending_most k l = omega (arith, pending_at words s h k l, f.few k)

  -- of change j of signal k, where it is pending
  module _ (k j : ℕ) (l : k < 64) (m : j < get_or words (pending_from + k) 0) where
    there : j < length (get_or s.pending k [])
    there = omega (arith, pending_at words s h k l)

    pub change-among : j < 16
    change-among = omega (arith, there, f.few k)

    pub change-later : get_or words time_at 0 < get_or words (changes_from + 16 * k + j) 0 / 2
    change-later =
        omega (arith, h.time, change-time words s h k j l change-among, each_at (λ c. s.time < c.time) (get_or s.pending k []) none j (f.later k) there)

    pub change-near : get_or words (changes_from + 16 * k + j) 0 / 2 ≤ get_or words time_at 0 + longest
    change-near =
        omega (
          arith,
          h.time,
          change-time words s h k j l change-among,
          each_at (λ c. c.time ≤ s.time + longest) (get_or s.pending k []) none j (f.near k) there,
        )

    pub change-below : get_or words (changes_from + 16 * k + j) 0 < 2 ^ 63
    change-below =
        rw (change_at words s h k j l change-among)
        (change_word-below (pending_change s k j)
        (omega (arith, f.early, each_at (λ c. c.time ≤ s.time + longest) (get_or s.pending k []) none j (f.near k) there)))

  pub changes_rise : (k i j : ℕ) → k < 64 → i < j → j < get_or words (pending_from + k) 0
      → get_or words (changes_from + 16 * k + i) 0 / 2 < get_or words (changes_from + 16 * k + j) 0 / 2
  changes_rise k i j l b m =
      let c = change-among k j l m in
      omega (
        arith,
        change-time words s h k i l (omega arith),
        change-time words s h k j l c,
        rising_at (get_or s.pending k []) none i j (f.rising k) b (there k j l m),
      )

  -- each word has 64 bits
  pub session-words-below : n ≤ 64 → (i : ℕ) → i < session_size → get_or words i 0 < 2 ^ 64
  session-words-below few =
      session-place (λ i. get_or words i 0 < 2 ^ 64)
      (omega (arith, count_is)) (omega (arith, time_most))
      (λ k l. omega (arith, value-below words s h k l))
      (λ k l. omega (arith, pending_most k l))
      (λ k j l m. ⊎_elim
      (λ u. omega (arith, change-below k j l u))
      (λ u. omega (arith, changes-unused words s h k j u l m))
      (side j (get_or words (pending_from + k) 0)))
