-- The moving window, ticket 1 of the change requests (02), whose sentences are quoted: "the least cost of every stretch of w readings".
-- Definitions only; `WindowLaws` shows what they mean. Assumes nothing.
use Rattle.std.specs.Prelude.{List, [], ◌∷◌, ◌++◌, ℕ, zero, suc, ◌+◌, ◌-◌, ℤ, length, take, drop}
use Rattle.plan.specs.declared.Plan.{Plan}
use Rattle.model.specs.Result.{Result, found, refused, Costs, cost_list, no_costs, whole, result_of}

-- "each window is a part of the record that starts anywhere in it": the w readings after the first a
abbrev pub part_at : List ℤ → ℕ → ℕ → List ℤ
part_at zs w a = take w (drop a zs)

-- how many parts a record of n readings has, w of them at least
abbrev pub starts : ℕ → ℕ → ℕ
starts n w = n - w + 1

-- the result of one part more; the first refusal stands
abbrev pub and_cost : Costs → Result → Costs
and_cost (cost_list cs) (found c ns) = cost_list (cs ++ (c ∷ []))
and_cost (cost_list cs) (refused n) = no_costs n
and_cost (no_costs n) r = no_costs n

-- "Each cost is that of a search over the part alone": those of the first k parts, "in order of the start"
unfoldable pub costs_to : Plan → List ℤ → ℕ → ℕ → Costs
costs_to P zs w zero = cost_list []
costs_to P zs w (suc k) = and_cost (costs_to P zs w k) (result_of P (part_at zs w k) whole)

unfoldable pub windows_of : Plan → List ℤ → ℕ → Costs
windows_of P zs w = costs_to P zs w (starts (length zs) w)
