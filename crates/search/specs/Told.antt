-- What a search and a cost at a point answer as values, and what the code's results say of them. Assumes nothing.
use Rattle.std.specs.Prelude.{ℕ, Result, Ok, Err}
use Rattle.plan.specs.declared.reasons.Refusal.{Refusal}
use Rattle.plan.specs.Refusals.{refusal_number}
use Rattle.search.specs.declared.Segmentation as Declared

-- the number of the refusal, or the cost and how many runs there are
pub data Found : Type 0 where
  Segmentation : ℕ → ℕ → Found
  Refused : ℕ → Found

pub data Cost : Type 0 where
  Least : ℕ → Cost
  NoCost : ℕ → Cost

abbrev pub found_told : Result Declared.Segmentation Refusal → Found
found_told (Ok s) = Segmentation s.cost s.runs
found_told (Err r) = Refused (refusal_number r)

abbrev pub cost_told : Result ℕ Refusal → Cost
cost_told (Ok c) = Least c
cost_told (Err r) = NoCost (refusal_number r)
