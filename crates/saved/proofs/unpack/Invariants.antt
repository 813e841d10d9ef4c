use Rattle.saved.specs.Packed.{Chain, Unpacked}
use Rattle.saved.proofs.unpack.Given as goal

abbrev pub invariant-loop-q : goal.invariant-loop-q
invariant-loop-q l = record {
  chain : Chain l.levels l.initial.ws l.at l.q l.from;
  unpacked : Unpacked l.initial.ws l.ws l.at l.o l.q l.levels;
}
