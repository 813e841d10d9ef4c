-- The results from the last layer as code holds it. What code has to show, once no number of `Refusals` refuses:
-- `Holding` of the layer after all readings. A point: the least over the counts (`point_by`). A search: the least end, none
-- of them (`none_by`) or the lowest state and level that has it (`found_by`); then for each step back the lowest edge and level (`walk_on`, and
-- `earlier_value` for the next step), down to `walk_first`. Each law ends in `result_of`; what is reported is the cost of a number. Assumes nothing.
use Rattle.std.specs.Prelude.{List, ℤ, ◌+ℤ◌}
use Rattle.std.proofs.Math.Option.{Option}
use Rattle.std.proofs.Math.Bool.{cond}
use Prim.Native.Nat.{ℕ, zero, suc, ◌+◌, ◌*◌}
use Rattle.std.proofs.Math.IntN.{pos}
use Rattle.integers.specs.Pairs.{unit}
use Rattle.plan.specs.declared.Plan.{Plan}
use Rattle.model.specs.Cost.{Cost}
use Rattle.model.specs.Least.{least_below, given}
use Rattle.model.specs.Model.{width, in_set}
use Rattle.model.specs.Nodes.{Node, node}
use Rattle.model.specs.Index.{no_cost}
use Rattle.model.specs.Held.{edge_most, Table, min_below, first_table, next_table}

-- the most that a reading may cost, with room for the weights of ticket 10, at most 255
abbrev pub loss_most : ℕ
loss_most = 255 * (65535 * 65535)

-- the most that a reading and the boundary before it add to a number
abbrev pub step_most : ℕ
step_most = unit * loss_most + edge_most

-- ---- the cost at a point

-- the least over the first n counts
unfoldable pub point_at : ℕ → Table → ℕ → ℕ → ℕ
point_at n H s j = min_below n (λ k. H k s j)

unfoldable pub end_at : Plan → Table → ℕ → ℕ → ℕ
end_at P H s j = cond (in_set P.end s) (H 0 s j) no_cost

unfoldable pub least_end_at : Plan → Table → ℕ
least_end_at P H = min_below P.states (λ s. min_below (width P) (λ j. end_at P H s j))

-- the cost of a layer at an end, and the least of them
abbrev pub end_of : Plan → (Node → Option Cost) → ℕ → ℕ → Option Cost
end_of P F s j = given (in_set P.end s) (F (node 0 s (P.lo +ℤ pos j)))

unfoldable pub least_end_of : Plan → (Node → Option Cost) → Option Cost
least_end_of P F = least_below P.states (λ s. least_below (width P) (λ j. end_of P F s j))

-- ---- all layers, and the results

unfoldable pub table_at : Plan → List ℤ → ℕ → Table
table_at P zs zero = λ k s j. no_cost
table_at P zs (suc zero) = first_table P zs
table_at P zs (suc (suc t)) = next_table P zs (suc t) (table_at P zs (suc t))
