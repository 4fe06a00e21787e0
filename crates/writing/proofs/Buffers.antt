-- Bytes written behind bytes. Assumes nothing.
use Prim.Native.Nat.{ℕ}
use mathlib.Core.Path.{◌≡◌, refl, ap, sym, ◌∙◌}
use mathlib.Core.List.{List, [], ◌++◌}
use native.Mathlib.Omega.{arith}
use lib.ListN.{length, length-append}
use lib.Seq.{length-sets}
use Rattle.laws.proofs.Lists.{sets-append}
use Rattle.writing.specs.Inside.Written.{Writes}

-- first one text, then another behind it
pub writes_both : (out : List ℕ) (at : ℕ) (xs ys : List ℕ) (m r : ℕ) (mid after : List ℕ)
    → Writes out at xs m mid → Writes mid m ys r after → Writes out at (xs ++ ys) r after
writes_both out at xs ys m r mid after a b =
    record {
      bytes = b.bytes ∙ rw (a.bytes, a.end) (sym (sets-append out at xs ys));
      end = omega (arith, a.end, b.end, length-append xs ys);
    }

pub writes-none : (out : List ℕ) (at : ℕ) → Writes out at [] at out
writes-none out at = record { bytes = refl; end = omega arith }

pub writes-length : (out : List ℕ) (at : ℕ) (xs : List ℕ) (r : ℕ) (after : List ℕ) → Writes out at xs r after → length after ≡ length out
writes-length out at xs r after w = ap length w.bytes ∙ length-sets out at xs
