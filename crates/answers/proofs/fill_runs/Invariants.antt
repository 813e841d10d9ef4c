-- `answers::fill_runs` meets its contract. Assumes nothing.
use Rattle.answers.specs.Reader.{runs_of}
use mathlib.Core.Path.{◌≡◌}
use mathlib.Core.List.{◌++◌}
use lib.ListN.{drop}
use Prim.Native.Nat.{◌*◌}
use Rattle.answers.proofs.fill_runs.Given as goal

abbrev pub invariant-loop-i : goal.invariant-loop-i
invariant-loop-i l = l.runs ≡ runs_of l.s l.i ++ drop (5 * l.i) l.initial.runs
