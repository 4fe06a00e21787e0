-- The session after a call is fit again, where it was before and every process keeps pending changes in order. Assumes nothing.
use Prim.Native.Nat.{ℕ, zero, suc, ◌+◌, ◌≤◌, ◌<◌}
use native.Mathlib.Omega.{arith}
use mathlib.Core.Path.{◌≡◌, refl, sym, ◌∙◌, ap, subst}
use mathlib.Core.Bool.{true, false}
use mathlib.Core.List.{List, [], ◌∷◌, map}
use lib.Dec.{ltb}
use lib.ListN.{length, get_or, replicate}
use borrow.Author.Tests.{ltb-false}
use Rattle.laws.proofs.Cases.{split, neither}
use Rattle.words.specs.Unit.{longest}
use Rattle.rules.specs.Sizes.{most_cycles}
use Rattle.rules.specs.Outcome.{Outcome, refuses, gives}
use Rattle.rules.specs.Formulas.{Values}
use Rattle.rules.specs.Pending.{Pending, kept, values_at, due_in, due, Least, nothing, first, least}
use Rattle.rules.specs.Runner.{Runner, joined}
use Rattle.rules.specs.Session.{Session, driven, woken, FitSession}
use Rattle.rules.specs.Dump.{start_bytes, advance_bytes}
use Rattle.rules.specs.Calls.{Progress, Answer, refused, quiet, stop_reached, moved, answered, cycle, cycles, started, start, advance_to, advance, leaves}
use Rattle.table.proofs.Outcomes.{Gives, gives_then}
use Rattle.table.proofs.Changes.{each_more, later-kept}
use Rattle.table.proofs.Orderly.{Orderly, InOrder, AllObedient, orderly-kept, orderly-nothing, joined-orderly}
use Rattle.table.proofs.Leasts.{none-earlier, something_due, later_than}

length-values : (t : ℕ) (vs : Values) (p : Pending) → length (values_at t vs p) ≡ length vs
unfolding values_at
length-values t [] p = refl
length-values t (v ∷ vs) [] = refl
length-values t (v ∷ vs) (cs ∷ p) = ap suc (length-values t vs p)

none-due : (t : ℕ) (p : Pending) → due t p ≡ false → (k : ℕ) → due_in t (get_or p k []) ≡ false
unfolding due due_in
none-due t [] h k = refl
none-due t (cs ∷ p) h zero = (neither (due_in t cs) (due t p) h).0
none-due t (cs ∷ p) h (suc k) = none-due t p (neither (due_in t cs) (due t p) h).1 k

-- the session of a call that moved is fit
abbrev pub AnswersFit : List Runner → ℕ → Answer → Type 0
AnswersFit rs n (refused r) = Unit {0}
AnswersFit rs n quiet = Unit {0}
AnswersFit rs n stop_reached = Unit {0}
AnswersFit rs n (moved m) = FitSession rs n m.session

pub leaves-fit : (rs : List Runner) (n : ℕ) (a : Answer) (s : Session) → AnswersFit rs n a → FitSession rs n s → FitSession rs n (leaves a s)
leaves-fit rs n (refused r) s h f = f
leaves-fit rs n quiet s h f = f
leaves-fit rs n stop_reached s h f = f
leaves-fit rs n (moved m) s h f = h

module _ (rs : List Runner) (n : ℕ) (all : AllObedient (driven rs) n rs) where
  -- between cycles at t
  record Going (t : ℕ) (m : Progress) : Type 0 where
    counted : length m.session.values ≡ n
    orderly : Orderly (driven rs) n t (t + longest) m.session.pending
    now : m.session.time ≡ t

  record Over (t : ℕ) (m : Progress) : Type 0 where
    going : Going t m
    over : due t m.session.pending ≡ false

  cycle-going : (t : ℕ) (m : Progress) → length m.session.values ≡ n → Orderly (driven rs) n t (t + longest) m.session.pending
      → Gives (Going t) (cycle rs t m)
  unfolding cycle
  cycle-going t m c o =
      let s = m.session in
      let new = values_at t s.values s.pending in
      let p = map (kept t) s.pending in
      let q = orderly-kept (driven rs) n t (t + longest) t s.pending o in
      gives_then (InOrder (driven rs) n t) (Going t)
      (joined rs new t (woken s.values new) p (record { pending = p; steps = m.steps })) _
      (joined-orderly (driven rs) n new t p q rs (woken s.values new) (record { pending = p; steps = m.steps }) all q)
      (λ a f. record { counted = length-values t s.values s.pending ∙ c; orderly = f; now = refl })

  cycles-going : (more t : ℕ) (m : Progress) → Going t m → Gives (Over t) (cycles rs more t m)
  unfolding cycles
  cycles-going zero t m g =
      split (due t m.session.pending) (λ e. rw e tt) (λ e. rw e (record { going = g; over = e }))
  cycles-going (suc more) t m g =
      split (due t m.session.pending)
      (λ e. rw e (gives_then (Going t) (Over t) (cycle rs t m) _ (cycle-going t m g.counted g.orderly) (λ k h. cycles-going more t k h)))
      (λ e. rw e (record { going = g; over = e }))

  first_cycle : (more t : ℕ) (m : Progress) → due t m.session.pending ≡ true → length m.session.values ≡ n
      → Orderly (driven rs) n t (t + longest) m.session.pending → Gives (Over t) (cycles rs (suc more) t m)
  unfolding cycles
  first_cycle more t m e c o =
      rw e (gives_then (Going t) (Over t) (cycle rs t m) _ (cycle-going t m c o) (λ k h. cycles-going more t k h))

  fit-over : (t : ℕ) (m : Progress) → t ≤ longest → Over t m → FitSession rs n m.session
  fit-over t m l v =
      let g = v.going in
      let o = g.orderly in
      let p = m.session.pending in
      record {
        counted = g.counted;
        agrees = o.agrees;
        early = rw g.now l;
        later = λ k. rw g.now (later-kept t (get_or p k []) (none-due t p v.over k) (o.tidy k).reached);
        near = λ k. rw g.now (o.tidy k).near;
        few = λ k. (o.tidy k).few;
        rising = λ k. (o.tidy k).rising;
        idle = o.idle;
      }

  fit-answer : (t : ℕ) (written : Values → List ℕ) (o : Outcome Progress) → t ≤ longest → Gives (Over t) o → AnswersFit rs n (answered written o)
  fit-answer t written (refuses r) l h = tt
  fit-answer t written (gives m) l h = fit-over t m l h

  started-fit : (initial : Values) → length initial ≡ n → Gives (Over 0) (started rs initial)
  unfolding started
  started-fit initial c =
      let p = replicate (length initial) [] in
      let q : Orderly (driven rs) n 0 (0 + longest) p = subst (λ m. Orderly (driven rs) n 0 (0 + longest) (replicate m [])) (sym c) (orderly-nothing (driven rs) n 0 (0 + longest)) in
      gives_then (InOrder (driven rs) n 0) (Over 0)
      (joined rs initial 0 (λ wakes. true) p (record { pending = p; steps = 0 })) _
      (joined-orderly (driven rs) n initial 0 p q rs (λ wakes. true) (record { pending = p; steps = 0 }) all q)
      (λ a f. cycles-going most_cycles 0 _ (record { counted = c; orderly = f; now = refl }))

  -- the theorems: after the start
  pub start-fit : (initial : Values) → length initial ≡ n → AnswersFit rs n (start rs initial)
  unfolding start
  start-fit initial c = fit-answer 0 start_bytes (started rs initial) (omega arith) (started-fit initial c)

  -- what is pending at the least time and later is in order for that time
  orderly-least : (s : Session) (t : ℕ) → FitSession rs n s → least s.pending ≡ first t → Orderly (driven rs) n t (t + longest) s.pending
  orderly-least s t f e =
      let after : s.time < t = later_than s.time t s.pending (something_due t s.pending e) f.later in
      record {
        agrees = f.agrees;
        tidy = λ k.
            record {
              reached = none-earlier t s.pending e k;
              near = each_more (λ c. c.time ≤ s.time + longest) (λ c. c.time ≤ t + longest) (λ c g. omega arith) (get_or s.pending k []) (f.near k);
              few = f.few k;
              rising = f.rising k;
            };
        idle = f.idle;
      }

  to_fit : (stop : ℕ) (s : Session) (l : Least) → stop ≤ longest → FitSession rs n s → least s.pending ≡ l → AnswersFit rs n (advance_to rs stop s l)
  to_fit stop s nothing h f e = tt
  to_fit stop s (first t) h f e =
      split (ltb stop t)
      (λ g. rw g tt)
      (λ g. rw g
      (fit-answer t (advance_bytes t s.values) (cycles rs most_cycles t (record { session = s; cycles = 0; steps = 0 })) (omega (arith, ltb-false stop t g))
      (first_cycle 999 t (record { session = s; cycles = 0; steps = 0 }) (something_due t s.pending e) f.counted (orderly-least s t f e))))

  -- and after an advance from a fit session
  pub advance-fit : (stop : ℕ) (s : Session) → stop ≤ longest → FitSession rs n s → AnswersFit rs n (advance rs stop s)
  unfolding advance
  advance-fit stop s h f = to_fit stop s (least s.pending) h f refl
