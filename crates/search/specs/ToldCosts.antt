-- What a call that fills a list with costs answers as a value, and what the code's result says of it. Assumes nothing.
use Rattle.std.specs.Prelude.{ℕ, Result, Ok, Err}
use Rattle.plan.specs.declared.reasons.Refusal.{Refusal}
use Rattle.plan.specs.Refusals.{refusal_number}

-- the number of the refusal, or how many costs there are
pub data Filled : Type 0 where
  Costs : ℕ → Filled
  Refused : ℕ → Filled

abbrev pub filled_told : Result ℕ Refusal → Filled
filled_told (Ok n) = Costs n
filled_told (Err r) = Refused (refusal_number r)
