-- The loop that cuts a signal's later changes: what it keeps; and how the first change goes. Assumes nothing.
use Prim.Native.Nat.{ℕ, suc, ◌+◌, ◌-◌, ◌/◌, ◌<◌, ◌≤◌}
use mathlib.Core.Path.{◌≡◌, refl, sym, subst, ◌∙◌}
use mathlib.Core.Logic.{⊎_elim}
use mathlib.Core.List.{List}
use native.Mathlib.Nat.{eq-or-lt_of_le}
use native.Mathlib.Omega.{arith}
use lib.ListN.{length, get_or, set, length-set}
use lib.Seq.{get_or-set_same, get_or-set_other}
use Rattle.std.specs.List.{CopiedTo, SameBelow, SameFrom}
use Rattle.laws.proofs.Cases.{by, side}
use Rattle.cells.specs.Inside.Moves.{Cut, Dropped}

-- a list read downwards: what holds from n on and at n - 1 holds from n - 1 on
from_one_less :
    (P : ℕ → Type 0) (n c : ℕ) → 0 < n → P (n - 1) → ((i : ℕ) → n ≤ i → i < c → P i) → (i : ℕ) → n - 1 ≤ i → i < c → P i
from_one_less P n c pos here all i lo hi = ⊎_elim (λ e. subst P e here) (λ l. all i (omega arith) hi) (eq-or-lt_of_le lo)

-- what is below t at the last of rising numbers is below t at each
below_last :
    (f : ℕ → ℕ) (n t : ℕ) → f (n - 1) < t → ((i : ℕ) → i < n - 1 → f i < f (n - 1)) → (i : ℕ) → i < n → f i < t
below_last f n t here all i h =
    ⊎_elim
    (λ (e : suc i ≡ n). let q : i ≡ n - 1 = omega arith in rw q here)
    (λ (l : suc i < n). omega (arith, all i (omega arith)))
    (eq-or-lt_of_le h)

-- a cut that is under way
pub record Cutting (cs : List ℕ) (base n t r : ℕ) (ds : List ℕ) : Type 0 where
  pub long : length ds ≡ 1152
  pub most : r ≤ n
  pub late : (i : ℕ) → r ≤ i → i < n → t ≤ get_or cs (base + i) 0 / 2
  pub gone : (i : ℕ) → r ≤ i → i < n → get_or ds (base + i) 0 ≡ 0
  pub still : (z : ℕ) → ((i : ℕ) → r ≤ i → i < n → base + i ≡ z → ⊥) → get_or ds z 0 ≡ get_or cs z 0

pub cutting_none : (cs : List ℕ) (base n t : ℕ) → length cs ≡ 1152 → Cutting cs base n t n cs
cutting_none cs base n t long =
    record { long = long; most = omega arith; late = λ i h g. absurd (omega arith); gone = λ i h g. absurd (omega arith); still = λ z out. refl }

module _ (cs : List ℕ) (base n t r : ℕ) (ds : List ℕ) (c : Cutting cs base n t r ds) where
  pub cutting_more : 0 < r → base + n ≤ 1152 → t ≤ get_or ds (base + (r - 1)) 0 / 2 → Cutting cs base n t (r - 1) (set ds (base + (r - 1)) 0)
  cutting_more pos fits here =
      let same : get_or ds (base + (r - 1)) 0 ≡ get_or cs (base + (r - 1)) 0 = c.still (base + (r - 1)) (λ i h g e. omega arith) in
      record {
        long = simp length-set c.long;
        most = omega (arith, c.most);
        late = from_one_less (λ i. t ≤ get_or cs (base + i) 0 / 2) r n pos (rw same at here) c.late;
        gone =
            from_one_less (λ i. get_or (set ds (base + (r - 1)) 0) (base + i) 0 ≡ 0) r n pos
            (get_or-set_same ds (base + (r - 1)) 0 0 (omega (arith, c.long, c.most)))
            (λ i h g. get_or-set_other ds (base + (r - 1)) (base + i) 0 0 (λ e. omega arith) ∙ c.gone i h g);
        still =
            λ z out.
            get_or-set_other ds (base + (r - 1)) z 0 0 (λ e. out (r - 1) (omega arith) (omega (arith, c.most)) (sym e))
            ∙ c.still z (λ i h g e. out i (omega arith) g e);
      }

  pub cut-found : 0 < r → ((i j : ℕ) → i < j → j < n → get_or cs (base + i) 0 / 2 < get_or cs (base + j) 0 / 2)
      → get_or ds (base + (r - 1)) 0 / 2 < t → Cut cs base n t r ds
  cut-found pos rises here =
      let same : get_or ds (base + (r - 1)) 0 ≡ get_or cs (base + (r - 1)) 0 = c.still (base + (r - 1)) (λ i h g e. omega arith) in
      record {
        long = c.long;
        most = c.most;
        early = below_last (λ i. get_or cs (base + i) 0 / 2) r t (rw same at here) (λ i l. rises i (r - 1) l (omega (arith, c.most)));
        late = c.late;
        gone = c.gone;
        still = c.still;
      }

  pub cut-none : r ≡ 0 → Cut cs base n t r ds
  cut-none e = record { long = c.long; most = c.most; early = λ i l. absurd (omega arith); late = c.late; gone = c.gone; still = c.still }

-- the first of sixteen cells goes: where it alone may be other than zero, and by a move
module _ (cs : List ℕ) (base : ℕ) (fits : base + 16 ≤ 1152) where
  pub dropped-only : length cs ≡ 1152 → ((i : ℕ) → 1 ≤ i → i < 16 → get_or cs (base + i) 0 ≡ 0) → Dropped cs base (set cs base 0)
  dropped-only long none =
      record {
        long = simp length-set long;
        moved = λ m l. empty m (omega arith) ∙ sym (none (m + 1) (omega arith) (omega arith));
        last = empty 15 (omega arith);
        still = λ z out. get_or-set_other cs base z 0 0 (λ e. out 0 (omega arith) (omega arith));
      }
    where
      empty : (m : ℕ) → m < 16 → get_or (set cs base 0) (base + m) 0 ≡ 0
      empty m l =
          by m 0
          (λ e. let q : base + m ≡ base = omega arith in rw q (get_or-set_same cs base 0 0 (omega arith)))
          (λ ne. get_or-set_other cs base (base + m) 0 0 (λ e. ne (omega arith)) ∙ none m (omega arith) l)

  pub dropped-moved : (ds : List ℕ) → length ds ≡ 1152 → CopiedTo cs ds (base + 1) base 15 → SameBelow cs ds base
      → SameFrom cs ds (base + 15) → Dropped cs base (set ds (base + 15) 0)
  dropped-moved ds long moved low high =
      record {
        long = simp length-set long;
        moved = λ m l.
            let there : base + 1 + (base + m - base) ≡ base + (m + 1) = omega arith in
            get_or-set_other ds (base + 15) (base + m) 0 0 (λ e. omega arith) ∙ (rw there at (moved (base + m) 0 (omega arith) (omega arith)));
        last = get_or-set_same ds (base + 15) 0 0 (omega (arith, long));
        still =
            λ z out.
            get_or-set_other ds (base + 15) z 0 0 (λ e. out 15 (omega arith) (sym e))
            ∙ ⊎_elim
            (λ l. low z 0 l)
            (λ l. high z 0 (outside z out l))
            (side z base);
      }
    where
      outside : (z : ℕ) → ((m : ℕ) → m < 16 → base + m ≡ z → ⊥) → base ≤ z → base + 15 ≤ z
      outside z out l = ⊎_elim (λ g. absurd (out (z - base) (omega arith) (omega arith))) (λ g. g) (side z (base + 15))
