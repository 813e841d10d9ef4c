use Rattle.labels.specs.Boundary.{label_of}
use Rattle.layer.specs.Step.{TookEdges}
use Rattle.layer.proofs.take_edges.Given as goal

abbrev pub invariant-loop-i : goal.invariant-loop-i
invariant-loop-i l = TookEdges (label_of l.boundary.label) l.boundary.t l.problem.plan.now.edges l.i l.key.count l.key.state l.from.stays l.from.changes l.problem.shape l.initial.ws l.ws l.temps.acc l.temps.next l.temps.work l.acc
