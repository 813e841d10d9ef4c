-- What the parts of the exported calls do with the answers of the search. Assumes nothing.
use Rattle.plan.specs.declared.reasons.Refusal.{Refusal}
use Rattle.plan.specs.Refusals.{refusal_number}
use Rattle.std.specs.Prelude.{List, ℕ, ◌*◌, ℤ, take, Result, Ok, Err}
use Rattle.search.specs.Told.{Found, Segmentation, Refused, Cost, Least, NoCost}
use Rattle.search.specs.ToldCosts.{Filled}
use Rattle.search.specs.ToldCosts as F
use Rattle.fields.specs.Put.{Written}
use Rattle.answers.specs.Writer.{answer_written, after_answer, refusal_written, after_refusal}
use Rattle.finder.specs.declared.Outcome.{Outcome}
use Rattle.finder.specs.Finder.{given, refused_with}

abbrev pub found_outcome : Found → Outcome
found_outcome (Segmentation c k) = given 0 c k
found_outcome (Refused n) = refused_with n

abbrev pub cost_outcome : Cost → Outcome
cost_outcome (Least c) = given 0 c 0
cost_outcome (NoCost n) = refused_with n

abbrev pub filled_outcome : Filled → Outcome
filled_outcome (F.Costs k) = given 0 0 k
filled_outcome (F.Refused n) = refused_with n

-- of what is counted: readings, costs or bytes
abbrev pub counted_outcome : Result ℕ Refusal → Outcome
counted_outcome (Ok n) = given 0 0 n
counted_outcome (Err r) = refused_with (refusal_number r)

-- how many run numbers an answer has in its list
abbrev pub runs_in : Found → ℕ
runs_in (Segmentation c k) = 5 * k
runs_in (Refused n) = 0

-- writing an answer whose runs are at the front of a list
abbrev pub found_written : Found → List ℤ → ℕ → Written
found_written (Segmentation c k) runs room = answer_written (take (5 * k) runs) room
found_written (Refused n) runs room = refusal_written n room

abbrev pub after_found : Found → List ℤ → List ℕ → List ℕ
after_found (Segmentation c k) runs out = after_answer c (take (5 * k) runs) out
after_found (Refused n) runs out = after_refusal n out
