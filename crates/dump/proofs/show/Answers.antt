-- `dump::show` meets its contract: a header is no longer than the buffer.
-- Assumes nothing.
use Rattle.std.proofs.Common.{◌≡◌, arith, rules, length, sym}
use lib.Seq.{length-take-le}
use Rattle.heading.proofs.Sizes.{header-small}
use Rattle.dump.proofs.show.Goals as goal

pub slice_bounds-out-end : goal.slice_bounds-out-end
slice_bounds-out-end g c =
    let l : 4096 ≡ length c.header.new.out = search rules in
    let h = header-small _ _ _ _ c.header.ensures c.in-Ok.is in
    omega arith

pub slice_bounds-write_all-end : goal.slice_bounds-write_all-end
slice_bounds-write_all-end g c =
    let l : 4096 ≡ length c.header.new.out = search rules in
    let h = header-small _ _ _ _ c.header.ensures c.in-Ok.is in
    sym (length-take-le _ _ (omega arith))
