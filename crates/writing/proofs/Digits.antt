-- A number's digits in decimal are those that `{}` prints. Assumes nothing.
use Prim.Native.Nat.{ℕ, zero, suc, ◌+◌, ◌/◌, ◌%◌, ◌^◌, ◌<◌, ◌≤◌}
use mathlib.Core.Path.{◌≡◌, refl, ap, ◌∙◌}
use mathlib.Core.Bool.{Bool, true, false}
use mathlib.Core.List.{List, [], ◌∷◌, ◌++◌}
use native.Mathlib.Omega.{arith}
use lib.Dec.{ltb}
use borrow.Author.Tests.{lt-ltb, le-ltb}
use Rattle.std.specs.Fmt as printed
use Rattle.std.proofs.lemmas.Fmt.{decimal_by_steps}
use Rattle.laws.specs.Pick.{pick}
use Rattle.rules.specs.Dump.{digits, decimal}

-- so many divisions are enough, and more change nothing
digits-enough : (f g n : ℕ) → n ≤ f → n ≤ g → (others : List ℕ) → digits f n others ≡ digits g n others
unfolding digits
digits-enough zero zero n a b others = refl
digits-enough zero (suc g) n a b others = let e : n % 10 ≡ n = omega arith in rw (lt-ltb n 10 (omega arith), e)
digits-enough (suc f) zero n a b others = let e : n % 10 ≡ n = omega arith in rw (lt-ltb n 10 (omega arith), e)
digits-enough (suc f) (suc g) n a b others =
    ap (pick (ltb n 10) ((48 + n) ∷ others)) (digits-enough f g (n / 10) (omega arith) (omega arith) ((48 + n % 10) ∷ others))

digits_append : (f n : ℕ) (others more : List ℕ) → digits f n (others ++ more) ≡ digits f n others ++ more
unfolding digits
digits_append zero n others more = refl
digits_append (suc f) n others more =
    rw (digits_append f (n / 10) ((48 + n % 10) ∷ others) more) (either (ltb n 10))
  where
    either : (t : Bool) → pick t ((48 + n) ∷ (others ++ more)) (digits f (n / 10) ((48 + n % 10) ∷ others) ++ more)
        ≡ pick t ((48 + n) ∷ others) (digits f (n / 10) ((48 + n % 10) ∷ others)) ++ more
    either true = refl
    either false = refl

one : (n : ℕ) → n < 10 → decimal n ≡ (48 + n) ∷ []
unfolding decimal digits
one zero l = refl
one (suc m) l = rw (lt-ltb (suc m) 10 l)

more : (n : ℕ) → 10 ≤ n → decimal n ≡ decimal (n / 10) ++ ((48 + n % 10) ∷ [])
unfolding decimal digits
more zero l = absurd (omega arith)
more (suc m) l =
    rw (le-ltb (suc m) 10 l)
    (digits-enough m (suc m / 10) (suc m / 10) (omega arith) (omega arith) ((48 + suc m % 10) ∷ [])
    ∙ digits_append (suc m / 10) (suc m / 10) [] ((48 + suc m % 10) ∷ []))

pub decimal_printed : (n : ℕ) → n < 2 ^ 64 → decimal n ≡ printed.decimal n
decimal_printed =
    decimal_by_steps (λ n ds. decimal n ≡ ds) one
    (λ n ds l e. more n l ∙ ap (λ (r : List ℕ). r ++ ((48 + n % 10) ∷ [])) e)
