-- At most 4,096 words a list.
use Rattle.std.proofs.Common.{◌*◌, ◌≤◌}
use Rattle.saved.proofs.words_of.Given as goal

abbrev pub invariant-loop-q : goal.invariant-loop-q
invariant-loop-q l = l.sum ≤ 4096 * l.q
