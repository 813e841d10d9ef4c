-- `curve_test::run::range`: once it is tested. Assumes nothing.
use Rattle.curve_test.specs.Valid.{within}
use Rattle.curve.specs.Curve.{curve_fine}
use Rattle.curve_test.proofs.run.range.Goals as goal

pub least_in-requires : goal.least_in-requires
least_in-requires c = let v = c.valid.ensures c.if-valid.true in record { held = v.list.held; to_lt_levels = c.if-to-grid.true; by_index = curve_fine (within v) v.list }
