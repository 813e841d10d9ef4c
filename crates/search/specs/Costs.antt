-- Calls that fill a lent list with costs, a moving window and the costs for each number of changes: what they answer, and what becomes of the list.
-- Assumes nothing.
use Rattle.std.specs.Prelude.{◌≡◌, refl, List, ◌++◌, Bool, true, ℕ, eqb, length, take, drop}
use Rattle.std.proofs.Common.{ap}
use Rattle.std.proofs.Math.Seq.{take-append_seam}
use Rattle.model.specs.Result.{Costs, cost_list, no_costs}
use Rattle.saved.specs.Packed.{Inside}
use Rattle.search.specs.ToldCosts.{Filled}
use Rattle.search.specs.ToldCosts as F

-- the answer as a value: the paper's number, or how many costs there are
abbrev pub filled_of : Costs → Filled
filled_of (cost_list cs) = F.Costs (length cs)
filled_of (no_costs n) = F.Refused n

-- and what each case of an answer tells: the number of the refusal; or the costs that stand in front of the lent list
abbrev pub filled_result : Filled → List ℕ → Costs
filled_result (F.Costs k) out = cost_list (take k out)
filled_result (F.Refused n) out = no_costs n

-- the costs go to the front of the list, "the rest of it untouched"; on a refusal all of it stays
abbrev pub costs_after : Costs → List ℕ → List ℕ
costs_after (cost_list cs) out = cs ++ drop (length cs) out
costs_after (no_costs n) out = out

-- the workspace is left as after an answer or 16, or as after another refusal
abbrev pub costs_looked : Costs → Bool
costs_looked (cost_list cs) = true
costs_looked (no_costs n) = eqb n 16

pub filled_tells : (r : Costs) (out : List ℕ) → filled_result (filled_of r) (costs_after r out) ≡ r
filled_tells (cost_list cs) out = ap cost_list (take-append_seam cs (drop (length cs) out))
filled_tells (no_costs n) out = refl

-- what a call has done once it has looked, before it clears the first n words: the model's result, and no word above them changed
pub record FilledBy (c : Costs) (n : ℕ) (r : Filled) (ws ws' out out' : List ℕ) : Type 0 where
  pub answer : r ≡ filled_of c
  pub list : out' ≡ costs_after c out
  pub looks : costs_looked c ≡ true
  pub inside : Inside 0 n ws ws'
