-- One step of each loop that walks a text, from place i on.
-- Assumes nothing.
use mathlib.Core.Path.{◌≡◌, refl}
use mathlib.Core.Bool.{Bool, true, false, not, cond, ◌&&◌}
use mathlib.Core.Logic.{◌⊎◌, inl, inr}
use mathlib.Core.List.{List, [], ◌∷◌}
use Prim.Native.Nat.{ℕ, ◌+◌, ◌<◌, ◌≤◌}
use lib.ListN.{length, drop, get_or, drop_of_length-le}
use Rattle.std.specs.List.{prefix_len, list_all}
use Rattle.laws.specs.Pick.{pick}
use native.Mathlib.Omega.{arith}
use Rattle.laws.proofs.Lists.{uncons}
use Rattle.lexis.specs.Byte.{class_of, in_run, is_digit, is_underscore}
use Rattle.std.specs.Prelude.{Result, Ok, Err}
use Rattle.lexis.specs.Blank.{none_at, dashes_of, step_of, on_step, skip_from}
use Rattle.lexis.specs.Run.{run_length, all_digits, singles}
use Rattle.lexis.specs.declared.byte.Class.{Class}
use Rattle.lexis.specs.declared.blank.Step.{Step}
use Rattle.lexis.specs.declared.blank.Step.TheVariants.{Pass, Stop, Refuse}
use Rattle.lexis.specs.declared.NoToken.{NoToken}

either : (t : Bool) (f : Bool → Result ℕ NoToken) → pick t (f true) (f false) ≡ f t
either true f = refl
either false f = refl

-- what a run is made of
abbrev pub runs_on : ℕ → Bool
runs_on byte = in_run (class_of byte)

pub run_prefix_from : (i : ℕ) (s : List ℕ) → run_length i s ≡ i + prefix_len runs_on s
unfolding run_length
run_prefix_from i [] = omega arith
run_prefix_from i (b ∷ s) = go (runs_on b) (run_prefix_from (i + 1) s)
  where
    go : (t : Bool) → run_length (i + 1) s ≡ i + 1 + prefix_len runs_on s → pick t (run_length (i + 1) s) i ≡ i + cond t (1 + prefix_len runs_on s) 0
    go true e = omega arith
    go false e = omega arith

pub run_prefix : (s : List ℕ) → run_length 0 s ≡ prefix_len runs_on s
run_prefix s = let e = run_prefix_from 0 s in omega arith

pub digits_all : (s : List ℕ) → all_digits s ≡ list_all (λ byte. is_digit (class_of byte)) s
unfolding all_digits
digits_all [] = refl
digits_all (b ∷ s) = go (is_digit (class_of b)) (digits_all s)
  where
    go : (t : Bool) → all_digits s ≡ list_all (λ byte. is_digit (class_of byte)) s → pick t (all_digits s) false ≡ (t && list_all (λ byte. is_digit (class_of byte)) s)
    go true e = e
    go false e = refl

-- an underscore stands at i just where here says so
module _ (s : List ℕ) (i : ℕ) (h : i < length s) (here : Bool) (e : here ≡ is_underscore (class_of (get_or s i 0))) (u : Bool) where
  pub singles_on : pick u here false ≡ false → singles here (drop (i + 1) s) ≡ singles u (drop i s)
  unfolding singles
  singles_on t = rw (uncons s i 0 h, ← e, t)

  pub singles-off : pick u here false ≡ true → false ≡ singles u (drop i s)
  unfolding singles
  singles-off t = rw (uncons s i 0 h, ← e, t)

-- the class k of the byte at i is known
module _ (s : List ℕ) (i : ℕ) (h : i < length s) (k : Class) (e : k ≡ class_of (get_or s i 0)) where
  -- and so is the step r that it takes
  module _ (m d : Bool) (de : d ≡ dashes_of (drop i s)) (r : Step) (re : r ≡ step_of m k d) where
    skip_is : skip_from m i (drop i s) ≡ on_step r (skip_from true (i + 1) (drop (i + 1) s)) (skip_from false (i + 1) (drop (i + 1) s)) (Ok i) (Err (none_at i))
    unfolding skip_from
    skip_is = rw (re, de, e, uncons s i 0 h)

    pub skip_on : (n : Bool) → r ≡ Pass n → skip_from n (i + 1) (drop (i + 1) s) ≡ skip_from m i (drop i s)
    skip_on n t = rw (skip_is, t, either n (λ n. skip_from n (i + 1) (drop (i + 1) s)))

    pub skip_stop : r ≡ Stop → Ok i ≡ skip_from m i (drop i s)
    skip_stop t = rw (skip_is, t)

    pub skip-refused : r ≡ Refuse → Err (none_at i) ≡ skip_from m i (drop i s)
    skip-refused t = rw (skip_is, t)

-- the text has ended
module _ (s : List ℕ) (i : ℕ) (h : length s ≤ i) where
  pub singles_end : (u : Bool) → not u ≡ singles u (drop i s)
  unfolding singles
  singles_end u = rw (drop_of_length-le s h)

  pub skip_end : (m : Bool) → i ≡ length s → Ok (length s) ≡ skip_from m i (drop i s)
  unfolding skip_from
  skip_end m e = rw (drop_of_length-le s h, e)

-- one of two tests fails
pub not_both : (u v : Bool) → ((u ≡ true) × (v ≡ false)) ⊎ (u ≡ false) → pick u v false ≡ false
not_both u v (inl h) = rw (h.0, h.1)
not_both u v (inr h) = rw h
