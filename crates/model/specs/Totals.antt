-- The least costs for each number of changes, by layers and in numbers. A slot stands for a number of changes: slot 0 has nothing, and slot i + 1 the
-- segmentations with i changes. An edge without a change stays in its slot, and an edge with one comes from the slot before. What code has to show: its
-- first lists are those of a search in slot 1 (`total_first`) and none in every other, and its next ones `next_from` of the slots (`total_next`).
-- Then `total_held` says that each number is that of the least cost there, and from slot t + 1 on there is none after t readings (`total_none`). Assumes nothing.
use Rattle.std.specs.Prelude.{List, ℤ}
use Rattle.std.proofs.Math.Option.{Option, none}
use Prim.Native.Nat.{ℕ, zero, suc, ◌-◌}
use Rattle.plan.specs.declared.Plan.{Plan}
use Rattle.model.specs.Cost.{Cost}
use Rattle.model.specs.Nodes.{Node}
use Rattle.model.specs.Opt.{opt, step_from}
use Rattle.model.specs.Index.{no_cost}
use Rattle.model.specs.Held.{Table, first_table, next_from}

-- the least cost of a segmentation of t readings with i − 1 changes that ends at the node; slot 0 has none
unfoldable pub opt_with : Plan → List ℤ → ℕ → ℕ → Node → Option Cost
opt_with P zs zero i v = none
opt_with P zs (suc zero) zero v = none
opt_with P zs (suc zero) (suc zero) v = opt P zs 1 v
opt_with P zs (suc zero) (suc (suc i)) v = none
opt_with P zs (suc (suc t)) zero v = none
opt_with P zs (suc (suc t)) (suc i) v = step_from P zs (suc t) (λ c. opt_with P zs (suc t) (suc i - c)) v

-- the same as numbers
unfoldable pub total_at : Plan → List ℤ → ℕ → ℕ → Table
total_at P zs zero i = λ k s j. no_cost
total_at P zs (suc zero) zero = λ k s j. no_cost
total_at P zs (suc zero) (suc zero) = first_table P zs
total_at P zs (suc zero) (suc (suc i)) = λ k s j. no_cost
total_at P zs (suc (suc t)) zero = λ k s j. no_cost
total_at P zs (suc (suc t)) (suc i) = next_from P zs (suc t) (λ c. total_at P zs (suc t) (suc i - c))

-- ---- the graph whose nodes have a slot beside them

pub record SlotNode : Type 0 where
  pub slot : ℕ
  pub here : Node
