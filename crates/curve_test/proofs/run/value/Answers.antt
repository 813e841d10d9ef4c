-- `curve_test::run::value`: once it is tested. Assumes nothing.
use Rattle.curve_test.specs.Valid.{within}
use Rattle.curve.specs.Curve.{curve_fine}
use Rattle.curve_test.proofs.run.value.Goals as goal

pub value_at-requires : goal.value_at-requires
value_at-requires c = let v = c.valid.ensures c.if-valid.true in record { held = v.list.held; j_lt_levels = c.if-j-grid.true; by_index = curve_fine (within v) v.list }
