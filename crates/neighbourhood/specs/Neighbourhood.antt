-- What the costs for each number of changes answer, and what becomes of the workspace that the call is lent; of its list, `search/specs/Costs`. The
-- quoted words are those of ticket 5 of the change requests (02). Assumes nothing.
use Rattle.std.specs.Prelude.{List, ℕ, suc, ◌+◌, ◌*◌, ℤ, length}
use Rattle.plan.specs.declared.Plan.{Plan}
use Rattle.model.specs.Refusals.{table_number}
use Rattle.model.specs.Result.{Costs, no_costs}
use Rattle.model.specs.Neighbourhood.{table_of}
use Rattle.search.specs.Lent.{lent}
use Rattle.search.specs.Search.{work_words, words_left}
use Rattle.search.specs.Costs.{costs_looked}

-- "The workspace is 192 × S × L × (K + 1) words"
unfoldable pub table_words : Plan → ℕ → ℕ
table_words P most = work_words P * (most + 1)

-- "checked after 13 and before 14 (that workspace) and 15 (list too short)": the numbers before 14, then what is lent, then the model's costs
unfoldable pub table_result : Plan → List ℤ → ℕ → ℕ → ℕ → Costs
table_result P zs most words room = lent no_costs (table_number P (length zs) most) words (table_words P most) room (suc most) (table_of P zs most)

-- "cleared as in a search"
unfoldable pub table_words_after : Plan → ℕ → Costs → List ℕ → List ℕ
table_words_after P most r ws = words_left (table_words P most) (costs_looked r) ws
