use Rattle.std.proofs.Common.{ℕ, ◌<◌}
use Rattle.curve.specs.Lows.{rank_of}
use Rattle.model.specs.Held.{Table}
use Rattle.model.specs.Labels.{used}
use Rattle.labels.specs.Boundary.{label_of}
use Rattle.back.specs.Read.{Reads}
use Rattle.back.specs.Step.{Meets}
use Rattle.back.proofs.step_back.Given as goal

-- no edge before i meets what is wanted
abbrev pub invariant-loop-i : goal.invariant-loop-i
invariant-loop-i l = (H : Table) → Reads (used (label_of l.boundary.label)) l.cur l.problem.shape l.ws H → (e : ℕ) → e < l.i → Meets l.problem.plan.now l.boundary.t H l.key.count l.key.state l.j (rank_of l.want) e → ⊥
