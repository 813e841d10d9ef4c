-- The lists before q stand packed, and what is read stands below what is written.
use Rattle.std.proofs.Common.{◌≤◌}
use Rattle.saved.specs.Packed.{Inside, Packing}
use Rattle.saved.proofs.pack.Given as goal

abbrev pub invariant-loop-q : goal.invariant-loop-q
invariant-loop-q l = record {
  low : l.to ≤ l.limit;
  inside : Inside l.at l.limit l.initial.ws l.ws;
  packing : Packing l.initial.ws l.ws l.o l.at l.to l.q l.levels;
}
