-- A list from place i on, while a loop walks it; a list put into another; when two lists of numbers are the same; and lists of zeros.
-- Assumes nothing.
use mathlib.Core.Path.{◌≡◌, refl, ap, ◌∙◌}
use mathlib.Core.Bool.{Bool, true, false}
use mathlib.Core.List.{List, [], ◌∷◌, ◌++◌, map}
use Prim.Native.Nat.{ℕ, zero, suc, ◌+◌, ◌-◌, ◌<◌}
use native.Mathlib.Numerals.{add-one}
use native.Mathlib.Nat.{le_refl}
use native.Mathlib.Omega.{arith}
use borrow.Author.Tests.{eqb-true, eq-eqb}
use lib.Dec.{eqb}
use lib.ListN.{length, drop, take, get_or, set, replicate, length-drop}
use lib.Seq.{drop-cons, take_all, sets}
use Rattle.laws.specs.Pick.{pick, same_list}

pub uncons : {A : Type 0} (s : List A) (i : ℕ) (d : A) → i < length s → drop i s ≡ get_or s i d ∷ drop (i + 1) s
uncons s i d h = rw (add-one, drop-cons s i d)

-- what `&s[i..]` hands on
pub rest : {A : Type 0} (s : List A) (i : ℕ) → take (length s - i) (drop i s) ≡ drop i s
rest s i = take_all (length s - i) (drop i s) (rw length-drop (le_refl _))

pub same_refl : (xs : List ℕ) → same_list xs xs ≡ true
unfolding same_list
same_refl [] = refl
same_refl (x ∷ xs) = rw (eq-eqb x x refl) (same_refl xs)

pub same_equal : (xs ys : List ℕ) → same_list xs ys ≡ true → xs ≡ ys
unfolding same_list
same_equal [] [] e = refl
same_equal [] (y ∷ ys) e = let z : ◌≡◌ {A = ℕ} 0 1 = cc in absurd (omega arith)
same_equal (x ∷ xs) [] e = let z : ◌≡◌ {A = ℕ} 0 1 = cc in absurd (omega arith)
same_equal (x ∷ xs) (y ∷ ys) e = go (eqb x y) refl e (same_equal xs ys)
  where
    go : (t : Bool) → eqb x y ≡ t → pick t (same_list xs ys) false ≡ true → (same_list xs ys ≡ true → xs ≡ ys) → x ∷ xs ≡ y ∷ ys
    go true p q f = let h = eqb-true x y p in let t = f q in cc
    go false p q f = let z : ◌≡◌ {A = ℕ} 0 1 = cc in absurd (omega arith)

pub at_map : {A B : Type 0} (f : B → A) (l : List B) (k : ℕ) (b : B) (a : A) → k < length l → get_or (map f l) k a ≡ f (get_or l k b)
at_map f [] k b a h = absurd (omega arith)
at_map f (c ∷ l) zero b a h = refl
at_map f (c ∷ l) (suc k) b a h = at_map f l k b a (omega arith)

pub sets-append : (l : List ℕ) (i : ℕ) (xs ys : List ℕ) → sets l i (xs ++ ys) ≡ sets (sets l i xs) (i + length xs) ys
sets-append l i [] ys = ap (λ j. sets l j ys) (omega arith)
sets-append l i (x ∷ xs) ys = sets-append (set l i x) (suc i) xs ys ∙ ap (λ j. sets (sets (set l i x) (suc i) xs) j ys) (omega arith)

pub zero_at : (n i : ℕ) → ◌≡◌ {A = ℕ} (get_or (replicate n 0) i 0) 0
zero_at zero i = refl
zero_at (suc n) zero = refl
zero_at (suc n) (suc i) = zero_at n i
