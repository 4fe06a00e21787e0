-- What header, start and advance write fits a buffer of 4,096 bytes. Assumes nothing.
use Prim.Native.Nat.{ℕ, zero, suc, ◌+◌, ◌*◌, ◌/◌, ◌%◌, ◌^◌, ◌≤◌, ◌<◌}
use native.Mathlib.Nat.{pow-suc}
use native.Mathlib.Omega.{arith}
use mathlib.Core.Path.{◌≡◌, refl}
use mathlib.Core.List.{List, [], ◌∷◌, ◌++◌}
use lib.Dec.{ltb}
use lib.ListN.{length, length-append}
use borrow.Author.Tests.{ltb-false}
use Rattle.laws.specs.Text.{bytes}
use Rattle.laws.proofs.Cases.{split}
use Rattle.words.specs.Token.{Name}
use Rattle.words.specs.Unit.{longest}
use Rattle.rules.specs.Sizes.{most_signals, most_cycles, buffer_bytes}
use Rattle.rules.specs.Outcome.{Outcome, refuses, gives}
use Rattle.rules.specs.Formulas.{Values, differ}
use Rattle.rules.specs.Dump.{LF, variables, header, digits, decimal, all, start_bytes, changed, headed, advance_bytes}
use Rattle.rules.specs.Pending.{Least, nothing, first, least}
use Rattle.rules.specs.Runner.{Runner}
use Rattle.rules.specs.Session.{Session}
use Rattle.rules.specs.Calls.{Progress, Answer, refused, quiet, stop_reached, moved, answered, cycles, started, start, advance_to, advance}
use Rattle.table.proofs.Sessions.{AnswersFit}

-- names are at most 32 bytes
abbrev pub longest_name : ℕ
longest_name = 32

unfoldable pub Short : List Name → Type 0
Short [] = Unit {0}
Short (name ∷ names) = (length name ≤ longest_name) × Short names

variables-length : (k : ℕ) (names : List Name) → Short names → length (variables k names) ≤ 52 * length names
unfolding variables Short
variables-length k [] h = omega arith
variables-length k (name ∷ names) h =
    omega (arith, length-append name (bytes " $end\n" ++ variables (suc k) names), variables-length (suc k) names h.1, h.0)

pub header-fits : (entity : Name) (names : List Name) → length entity ≤ longest_name → Short names → length names ≤ most_signals
    → length (header entity names) ≤ buffer_bytes
unfolding header
header-fits entity names e h n =
    omega (
      arith,
      length-append entity (bytes " $end\n" ++ (variables 0 names ++ bytes "$upscope $end\n$enddefinitions $end\n")),
      length-append (variables 0 names) (bytes "$upscope $end\n$enddefinitions $end\n"),
      variables-length 0 names h,
    )

pub all_length : (k : ℕ) (vs : Values) → length (all k vs) ≡ 3 * length vs
unfolding all
all_length k [] = refl
all_length k (v ∷ vs) = omega (arith, all_length (suc k) vs)

pub start_fits : (vs : Values) → length vs ≤ most_signals → length (start_bytes vs) ≤ buffer_bytes
unfolding start_bytes
start_fits vs h = omega (arith, length-append (all 0 vs) (bytes "$end\n"), all_length 0 vs)

changed-length : (k : ℕ) (old new : Values) → length (changed k old new) ≤ 3 * length new
unfolding changed
changed-length k [] new = omega arith
changed-length k (a ∷ old) [] = omega arith
changed-length k (a ∷ old) (b ∷ new) =
    split (differ a b) (λ e. rw e (omega (arith, changed-length (suc k) old new))) (λ e. rw e (omega (arith, changed-length (suc k) old new)))

digits-length : (more n : ℕ) (others : List ℕ) (j : ℕ) → n < 10 ^ suc j → length (digits more n others) ≤ suc j + length others
unfolding digits
digits-length zero n others j h = omega arith
digits-length (suc more) n others zero h =
    split (ltb n 10) (λ e. rw e (omega arith)) (λ e. absurd (omega (arith, ltb-false n 10 e)))
digits-length (suc more) n others (suc j) h =
    let g : n / 10 < 10 ^ suc j = omega (arith, pow-suc 10 (suc j)) in
    split (ltb n 10) (λ e. rw e (omega arith)) (λ e. rw e (omega (arith, digits-length more (n / 10) ((48 + n % 10) ∷ others) j g)))

headed-length : (t : ℕ) (bs : List ℕ) → t ≤ longest → length (headed t bs) ≤ 21 + length bs
unfolding decimal
headed-length t [] h = omega arith
headed-length t (b ∷ bs) h = omega (arith, length-append (decimal t) (LF ∷ b ∷ bs), digits-length t t [] 18 (omega arith))

pub advance-fits : (t : ℕ) (old new : Values) → t ≤ longest → length new ≤ most_signals → length (advance_bytes t old new) ≤ buffer_bytes
unfolding advance_bytes
advance-fits t old new h n = omega (arith, headed-length t (changed 0 old new) h, changed-length 0 old new)

-- what an answer writes fits
abbrev pub WritesFit : Answer → Type 0
WritesFit (refused r) = Unit {0}
WritesFit quiet = Unit {0}
WritesFit stop_reached = Unit {0}
WritesFit (moved m) = length m.bytes ≤ buffer_bytes

module _ (rs : List Runner) (n : ℕ) (few : n ≤ most_signals) where
  answer-fits : (written : Values → List ℕ) (o : Outcome Progress) → ((vs : Values) → length vs ≤ most_signals → length (written vs) ≤ buffer_bytes)
      → AnswersFit rs n (answered written o) → WritesFit (answered written o)
  answer-fits written (refuses r) h f = tt
  answer-fits written (gives m) h f = h m.session.values (omega (arith, f.counted))

  pub start-writes : (initial : Values) → AnswersFit rs n (start rs initial) → WritesFit (start rs initial)
  unfolding start
  start-writes initial f = answer-fits start_bytes (started rs initial) start_fits f

  to_writes : (stop : ℕ) (s : Session) (l : Least) → stop ≤ longest → AnswersFit rs n (advance_to rs stop s l) → WritesFit (advance_to rs stop s l)
  to_writes stop s nothing h f = tt
  to_writes stop s (first t) h f =
      split (ltb stop t)
      (λ e. rw e tt)
      (λ e. rw e
      (answer-fits (advance_bytes t s.values) (cycles rs most_cycles t (record { session = s; cycles = 0; steps = 0 }))
      (λ vs l. advance-fits t s.values vs (omega (arith, ltb-false stop t e)) l) (rw e at f)))

  pub advance-writes : (stop : ℕ) (s : Session) → stop ≤ longest → AnswersFit rs n (advance rs stop s) → WritesFit (advance rs stop s)
  unfolding advance
  advance-writes stop s h f = to_writes stop s (least s.pending) h f
