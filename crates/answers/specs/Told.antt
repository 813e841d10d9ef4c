-- What the result of reading an answer file says.
use Rattle.std.specs.Prelude.{Result, Ok, Err}
use Rattle.plan.specs.declared.reasons.Refusal.{Refusal as Reason}
use Rattle.plan.specs.Refusals.{refusal_number}
use Rattle.answers.specs.declared.AnswerFile.{AnswerFile}
use Rattle.answers.specs.declared.AnswerFile.TheVariants.{Runs as HeldRuns, Refusal as HeldRefusal}
use Rattle.answers.specs.Reader.{AnswerRead, Runs, Refusal, Unread}

abbrev pub answer_of : Result AnswerFile Reason → AnswerRead
answer_of (Ok (HeldRuns cost count)) = Runs cost count
answer_of (Ok (HeldRefusal r)) = Refusal (refusal_number r)
answer_of (Err r) = Unread (refusal_number r)
