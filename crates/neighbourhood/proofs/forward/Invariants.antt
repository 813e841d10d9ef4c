-- `neighbourhood::forward`: reading by reading, the two banks in turn. Assumes nothing.
use Rattle.neighbourhood.specs.Slots.{Banks, StepTo}
use Rattle.neighbourhood.proofs.forward.Given as goal

abbrev pub invariant-loop-t : goal.invariant-loop-t
invariant-loop-t l = Banks l.most l.from l.to × StepTo l.problem.plan.now l.problem.readings.now l.most l.t l.from l.initial.ws l.ws
