use Rattle.curve_test.specs.Valid.{Scanned}
use Rattle.std.proofs.Common.{◌-◌, ◌≤◌}
use Rattle.curve_test.proofs.list.scan.Given as goal

abbrev pub invariant-loop-x : goal.invariant-loop-x
invariant-loop-x l = ((l.n ≤ l.x) × (l.x ≤ l.grid.levels)) × Scanned l.ws l.o l.grid.base l.n l.x

abbrev pub decreases-loop-x : goal.decreases-loop-x
decreases-loop-x l = l.grid.levels - l.x
