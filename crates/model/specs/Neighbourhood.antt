-- The costs for each number of changes, the segment neighbourhood table of source document 001: ticket 5 of the change requests (02), whose sentences
-- are quoted. Definitions only; `NeighbourhoodLaws` shows what they mean. Assumes nothing.
use Rattle.std.proofs.Math.Option.{Option, none, some}
use Rattle.std.specs.Prelude.{List, [], ◌∷◌, ◌++◌, ℕ, zero, suc, ℤ}
use Rattle.plan.specs.declared.Plan.{Plan}
use Rattle.model.specs.Segmentation.{Seg}
use Rattle.model.specs.Listed.{listed, listed_with}
use Rattle.model.specs.Result.{Costs, cost_list, no_costs}

-- "and the largest unsigned 64-bit number where there is none"
abbrev pub most_word : ℕ
most_word = 18446744073709551615

abbrev pub entry_of : Option ℕ → ℕ
entry_of none = most_word
entry_of (some c) = c

-- "for k from 0 to K the least cost among allowed whole-record segmentations with exactly k changes": the first n of them
unfoldable pub entries : Plan → List ℤ → ℕ → List ℕ
entries P zs zero = []
entries P zs (suc n) = entries P zs n ++ (entry_of (listed_with P zs n) ∷ [])

-- "16 comes exactly where no allowed segmentation exists with any number of changes"
abbrev pub unless_none : Option Seg → List ℕ → Costs
unless_none none cs = no_costs 16
unless_none (some g) cs = cost_list cs

unfoldable pub table_of : Plan → List ℤ → ℕ → Costs
table_of P zs most = unless_none (listed P zs) (entries P zs (suc most))
