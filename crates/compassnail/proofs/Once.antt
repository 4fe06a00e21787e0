-- No second outcome of a call in C fits: two numbers that both meet its promise are the same, and leave the same in what was lent. Assumes nothing.
use Prim.Native.Nat.{ℕ}
use mathlib.Core.Path.{◌≡◌, refl, ap}
use mathlib.Core.List.{List}
use native.Mathlib.Omega.{arith}
use Rattle.run.proofs.Once.{one_start, one_advance}
use Rattle.reader.proofs.OneTable as reader
use Rattle.heading.proofs.OneOutcome.{one_outcome}
use Rattle.compassnail.specs.Codes.{table_code, ReadsInC, reads, header_code, HeadsInC, heads, code_of, report_after, StartsInC, AdvancesInC}

pub read-once : (text table : List ℕ) (r s : ℕ) (left other : List ℕ) → ReadsInC text table r left → ReadsInC text table s other → (r ≡ s) × (left ≡ other)
read-once text table r s left other (reads a x) (reads b y) =
    let o = reader.one_outcome text table a b left other x y in (ap table_code o.0, o.1)

pub header-once : (text out : List ℕ) (r s : ℕ) (left other : List ℕ) → HeadsInC text out r left → HeadsInC text out s other → (r ≡ s) × (left ≡ other)
header-once text out r s left other (heads a x) (heads b y) =
    let o = one_outcome text out a b left other x y in (ap header_code o.0, o.1)

-- the number, the session, the bytes and the report
abbrev Same : (r s : ℕ) (session session' out out' report report' : List ℕ) → Type 0
Same r s session session' out out' report report' = (r ≡ s) × (session ≡ session') × (out ≡ out') × (report ≡ report')

module _ (table session out report : List ℕ) where
  pub start-once : (r s : ℕ) (us vs cs ds ps qs : List ℕ) → StartsInC table session out report r us cs ps → StartsInC table session out report s vs ds qs
      → Same r s us vs cs ds ps qs
  start-once r s us vs cs ds ps qs (StartsInC.short h) (StartsInC.short g) = (refl, refl, refl, refl)
  start-once r s us vs cs ds ps qs (StartsInC.short h) (StartsInC.starts b m y) = absurd (omega arith)
  start-once r s us vs cs ds ps qs (StartsInC.starts a l x) (StartsInC.short h) = absurd (omega arith)
  start-once r s us vs cs ds ps qs (StartsInC.starts a l x) (StartsInC.starts b m y) =
      let o = one_start table session out a b us vs cs ds x y in (ap code_of o.answer, o.session, o.bytes, ap (λ q. report_after q report) o.answer)

  pub advance-once : (stop r s : ℕ) (us vs cs ds ps qs : List ℕ) → AdvancesInC table session stop out report r us cs ps
      → AdvancesInC table session stop out report s vs ds qs → Same r s us vs cs ds ps qs
  advance-once stop r s us vs cs ds ps qs (AdvancesInC.short h) (AdvancesInC.short g) = (refl, refl, refl, refl)
  advance-once stop r s us vs cs ds ps qs (AdvancesInC.short h) (AdvancesInC.advances b m y) = absurd (omega arith)
  advance-once stop r s us vs cs ds ps qs (AdvancesInC.advances a l x) (AdvancesInC.short h) = absurd (omega arith)
  advance-once stop r s us vs cs ds ps qs (AdvancesInC.advances a l x) (AdvancesInC.advances b m y) =
      let o = one_advance table session out stop a b us vs cs ds x y in (ap code_of o.answer, o.session, o.bytes, ap (λ q. report_after q report) o.answer)
