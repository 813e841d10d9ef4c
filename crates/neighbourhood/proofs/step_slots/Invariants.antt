-- `neighbourhood::step_slots`: one step of the search's layers for each slot. Assumes nothing.
use Rattle.neighbourhood.proofs.Steps.{Stepping}
use Rattle.neighbourhood.proofs.step_slots.Given as goal

abbrev pub invariant-loop-i : goal.invariant-loop-i
invariant-loop-i l = Stepping l.problem.plan.now l.problem.readings.now l.most l.t l.from l.to l.i l.initial.ws l.ws
