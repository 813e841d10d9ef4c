-- `neighbourhood::put_nothing`: every list of slot 0 has nothing. Assumes nothing.
use Rattle.neighbourhood.proofs.Empty.{Blank}
use Rattle.neighbourhood.proofs.put_nothing.Given as goal

abbrev pub invariant-loop-q : goal.invariant-loop-q
invariant-loop-q l = Blank l.levels l.q l.initial.ws l.ws
