-- The answer by layers is the listed one, on every plan, list of readings and question: both are first, and there is one first. Assumes nothing.
use Rattle.std.specs.Prelude.{List, ℤ, length}
use Rattle.plan.specs.declared.Plan.{Plan}
use Rattle.model.specs.Refusals.{search_number, point_number}
use Rattle.model.specs.Result.{Question, whole, point, Result, found_seg, found_cost, unless}
use Rattle.model.specs.Opt.{point_cost}
use Rattle.model.specs.Answer.{answer}

-- by layers
unfoldable pub searched : Plan → List ℤ → Question → Result
searched P zs whole = unless (search_number P (length zs)) (found_seg P (answer P zs))
searched P zs (point s m) = unless (point_number P (length zs) s m) (found_cost (point_cost P zs s m))
