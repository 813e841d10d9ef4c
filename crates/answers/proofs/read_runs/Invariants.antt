-- `answers::read_runs` meets its contract. Assumes nothing.
use Rattle.answers.specs.Reader.{runs_from}
use mathlib.Core.Path.{◌≡◌}
use lib.ListN.{length}
use Prim.Native.Nat.{ℕ, ◌≤◌, ◌<◌, ◌-◌, ◌+◌}
use Rattle.answers.proofs.read_runs.Given as goal

abbrev pub invariant-loop-start : goal.invariant-loop-start
invariant-loop-start l = (l.i ≤ length l.s) × (l.count ≤ l.i) × ((k : ℕ) × (length l.s - l.i < k) × (runs_from k l.s l.cost l.i l.prev l.count ≡ runs_from (length l.s + 1) l.s l.cost l.initial.i l.initial.prev l.initial.count))

abbrev pub decreases-loop-start : goal.decreases-loop-start
decreases-loop-start l = length l.s - l.i
