-- `cells::comes_next` meets its contract: what is known of the first signals. Assumes nothing.
use Prim.Native.Nat.{ℕ, suc, ◌+◌, ◌*◌, ◌%◌, ◌^◌, ◌<◌}
use mathlib.Core.Path.{◌≡◌, refl, ap, ◌∙◌}
use native.Mathlib.Numerals.{add-one}
use native.Mathlib.Omega.{arith}
use Rattle.cells.proofs.Nearest.{seen_start, comes_nothing, comes_at}
use Rattle.cells.proofs.Words.{one_fits}
use Rattle.cells.proofs.comes_next.Goals as goal

twice : (k b : ℕ) → k + 1 < 64 → b ≡ 1 * 2 ^ k → b * 2 ^ 1 % 2 ^ 64 ≡ 1 * 2 ^ (k + 1)
twice k b l e =
    let q : 2 * 2 ^ k ≡ 2 ^ suc k = omega arith in
    let d : 1 * 2 ^ k * 2 ^ 1 ≡ 1 * 2 ^ (k + 1) = rw (add-one k) (omega arith) in
    ap (λ (x : ℕ). x * 2 ^ 1 % 2 ^ 64) e ∙ ap (λ (x : ℕ). x % 2 ^ 64) d ∙ one_fits (k + 1) l

pub loop-signal-init : goal.loop-signal-init
loop-signal-init c = (seen_start _, λ l. refl)

pub earlier-next-requires-clause-bit_value : goal.earlier-next-requires-clause-bit_value
earlier-next-requires-clause-bit_value c = c.loop-signal.invariant.1 (omega (arith, c.requires.count_bound))

pub loop-signal-preserved : goal.loop-signal-preserved
loop-signal-preserved c = (c.earlier-next.ensures, λ l. twice c.loop-signal.signal c.loop-signal.bit l (c.loop-signal.invariant.1 (omega arith)))

pub returns-then-next-eq0 : goal.returns-then-next-eq0
returns-then-next-eq0 c =
    let e : c.loop-signal.signal ≡ c.args.count = omega arith in
    comes_nothing c.args.cells.now c.args.count _ _ c.requires.count_bound (rw e at c.loop-signal.invariant.0) c.if-next-eq0.true

pub returns-else-next-eq0 : goal.returns-else-next-eq0
returns-else-next-eq0 c =
    let e : c.loop-signal.signal ≡ c.args.count = omega arith in
    comes_at c.args.cells.now c.args.count _ _ c.requires.count_bound (rw e at c.loop-signal.invariant.0) c.if-next-eq0.false
