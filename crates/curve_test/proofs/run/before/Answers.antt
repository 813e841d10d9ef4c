-- `curve_test::run::before`: once it is tested. Assumes nothing.
use Rattle.curve_test.specs.Valid.{sound}
use Rattle.curve_test.proofs.run.before.Goals as goal

pub least_before-requires : goal.least_before-requires
least_before-requires c = let v = c.valid.ensures c.if-valid.true in record { limits = (v.limits, sound v); j_lt_levels = (c.if-j-grid.true, c.kind_of-kind.ensures) }
