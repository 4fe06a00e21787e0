-- Where values differ, over one step and over several. Assumes nothing.
use Prim.Native.Nat.{ℕ}
use mathlib.Core.Path.{◌≡◌, refl, ap, sym, ◌∙◌}
use mathlib.Core.List.{List}
use mathlib.Core.Bool.{Bool, true, false}
use lib.Bits.{bit_xor, xor_lt}
use lib.ListN.{get_or}
use lib.Pow.{pow_pos}
use Rattle.rules.specs.Formulas.{differ}
use Rattle.table.specs.Table.{bit}
use Rattle.table.proofs.Tabulated.{bit-zero}
use Rattle.cells.specs.Cells.{value_of, values}
use Rattle.cells.specs.Inside.Changes.{Differs}
use Rattle.cells.proofs.Columns.{value_at}
use Rattle.cells.proofs.Taking.{differ_self}
use Rattle.cells.proofs.Words.{bit-xor}

differ_both : (a b c : Bool) → differ (differ a b) (differ b c) ≡ differ a c
differ_both true true true = refl
differ_both true true false = refl
differ_both true false true = refl
differ_both true false false = refl
differ_both false true true = refl
differ_both false true false = refl
differ_both false false true = refl
differ_both false false false = refl

module _ (n : ℕ) (cs : List ℕ) where
  pub differs_none : Differs n 0 cs cs
  differs_none = record { small = pow_pos n; tells = λ k l. bit-zero k ∙ sym (differ_self (value_of cs k)) }

  module _ (v : ℕ) (ds : List ℕ) (one : Differs n v cs ds) where
    -- values that stay
    pub differs-still : (fs : List ℕ) → values n fs ≡ values n ds → Differs n v cs fs
    differs-still fs e =
        record {
          small = one.small;
          tells = λ k l. one.tells k l ∙ ap (differ (value_of cs k)) (sym (value_at n ds k l) ∙ ap (λ vs. get_or vs k false) (sym e) ∙ value_at n fs k l);
        }

    pub differs_more : (w : ℕ) (fs : List ℕ) → Differs n w ds fs → Differs n (bit_xor v w) cs fs
    differs_more w fs other =
        record {
          small = xor_lt n v w one.small other.small;
          tells = λ k l.
              bit-xor v w k
              ∙ ap (λ b. differ b (bit w k)) (one.tells k l)
              ∙ ap (differ (differ (value_of cs k) (value_of ds k))) (other.tells k l)
              ∙ differ_both (value_of cs k) (value_of ds k) (value_of fs k);
        }
