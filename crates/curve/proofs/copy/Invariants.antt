-- `curve::copy`: word for word, from where nothing is written. Assumes nothing.
use Prim.Native.Nat.{◌+◌, ◌*◌, ◌≤◌}
use lib.ListN.{length}
use Rattle.curve.proofs.Laws.{Copying}
use Rattle.curve.proofs.copy.Given as goal

abbrev pub invariant-loop-i : goal.invariant-loop-i
invariant-loop-i l = ((l.f + 4 * l.n ≤ length l.ws) × (l.dst + 4 * l.n ≤ length l.ws)) × Copying l.initial.ws l.ws l.f l.dst l.n l.i
