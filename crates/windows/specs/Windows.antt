-- What a moving window answers, and what becomes of the workspace that it is lent; of its list, `search/specs/Costs`. The quoted words are those of ticket 1 of the change requests (02).
-- Assumes nothing.
use Rattle.std.specs.Prelude.{List, ℕ, ℤ, length}
use Rattle.plan.specs.declared.Plan.{Plan}
use Rattle.model.specs.Refusals.{window_number}
use Rattle.model.specs.Result.{Costs, no_costs}
use Rattle.model.specs.Window.{starts, windows_of}
use Rattle.search.specs.Lent.{lent}
use Rattle.search.specs.Search.{work_words, words_left}
use Rattle.search.specs.Costs.{costs_looked}

-- "checked in this order after 11 and 9 and before 14, 15 (list too short) and 16": the numbers before 14, then what is lent, then the model's costs
unfoldable pub window_result : Plan → List ℤ → ℕ → ℕ → ℕ → Costs
window_result P zs w words room = lent no_costs (window_number P (length zs) w) words (work_words P) room (starts (length zs) w) (windows_of P zs w)

-- "The workspace is left as by a search"
unfoldable pub window_words : Plan → Costs → List ℕ → List ℕ
window_words P r ws = words_left (work_words P) (costs_looked r) ws
