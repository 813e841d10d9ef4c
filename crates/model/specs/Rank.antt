-- What the layers minimise, of a segmentation: its rank, which is its cost and its number of changes. Who comes first by ranks and then in the earlier
-- order comes first. Assumes nothing.
use Rattle.std.specs.Prelude.{List, ℕ, ◌+◌, ℤ}
use Rattle.plan.specs.declared.Plan.{Plan}
use Rattle.model.specs.Segmentation.{Seg, first, next, readings}
use Rattle.model.specs.Model.{edge_at, change_of, penalty_of, loss_at}
use Rattle.model.specs.Cost.{Cost, ◌⊕◌, cost_of}

unfoldable pub first_cost : List ℤ → ℤ → Cost
first_cost zs m = cost_of (loss_at zs 0 m) 0

unfoldable pub step_cost : Plan → List ℤ → ℕ → ℕ → ℤ → Cost
step_cost P zs t e m = cost_of (penalty_of P e + loss_at zs t m) (change_of (edge_at P e).kind)

unfoldable pub rank : Plan → List ℤ → Seg → Cost
rank P zs (first s m) = first_cost zs m
rank P zs (next g e m) = rank P zs g ⊕ step_cost P zs (readings g) e m
