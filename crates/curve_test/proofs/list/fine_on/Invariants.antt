-- `curve_test::list::fine_on`: level by level. Assumes nothing.
use Rattle.std.proofs.Common.{ℕ, ◌+◌, ◌<◌, ◌≤◌}
use Rattle.quadratic.specs.Quad.{quad, Fine}
use Rattle.curve_test.proofs.list.fine_on.Given as goal

abbrev pub invariant-loop-j : goal.invariant-loop-j
invariant-loop-j l = (k : ℕ) → l.x ≤ k → k < l.j → Fine 1048573 9007199254740992 (quad l.q) (l.base + k)
