-- `plan::grid_ok` meets its contract: 16-bit numbers are read back from their bits, at 16 and at 32 bits.
-- Assumes nothing.
use mir.ValLaws.{to_z-of_z}
use mir.Syntax.{w32}
use Rattle.plan.proofs.Signed16.{widen, sub_fits, back16, back32}
use Rattle.plan.proofs.grid_ok.Goals as goal

pub returns-then-hi-lo : goal.returns-then-hi-lo
returns-then-hi-lo c = rw (rw (back16 _ c.ranges.lo, back16 _ c.ranges.hi) at c.if-hi-lo.true)

pub overflow_cast-width : goal.overflow_cast-width
overflow_cast-width c = rw (back16 _ c.ranges.hi) (widen c.ranges.hi)

pub overflow_cast-width-2 : goal.overflow_cast-width-2
overflow_cast-width-2 c = rw (back16 _ c.ranges.lo) (widen c.ranges.lo)

pub overflow_sub-width : goal.overflow_sub-width
overflow_sub-width c = rw (back32 _ c.ranges.hi, back32 _ c.ranges.lo) (sub_fits _ _ c.ranges.hi c.ranges.lo)

pub returns : goal.returns
returns c =
    rw (
      back32 _ c.ranges.hi,
      back32 _ c.ranges.lo,
      to_z-of_z w32 _ (sub_fits _ _ c.ranges.hi c.ranges.lo),
      rw (back16 _ c.ranges.lo, back16 _ c.ranges.hi) at c.if-hi-lo.false,
    )
