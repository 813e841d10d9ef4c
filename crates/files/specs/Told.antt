-- What the results of the reader's calls say.
use Rattle.std.specs.Prelude.{◌≡◌, Result, Ok, Err}
use Rattle.plan.specs.declared.reasons.Refusal.{Refusal}
use Rattle.plan.specs.declared.Plan.{Plan}
use Rattle.plan.specs.Refusals.{refusal_number}
use Rattle.plan.specs.Build.{Done, Refused, Built, done}
use Rattle.files.specs.declared.PlanFile.{PlanFile}
use Rattle.files.specs.declared.FileError.{FileError}
use Rattle.files.specs.Reader.{FileRead, refused_file}

-- of a file, with what a refused reading gives beside the refusal
abbrev pub file_of : Result PlanFile FileError → FileRead
file_of (Ok f) = record { answer = Done; plan = f.plan; start = f.start; len = f.len }
file_of (Err e) = record { answer = Refused (refusal_number e.refusal); plan = e.file.plan; start = e.file.start; len = e.file.len }

-- of a step of the reading, whose refusal has nothing beside it yet
abbrev pub step_of : Result PlanFile Refusal → FileRead
step_of (Ok f) = record { answer = Done; plan = f.plan; start = f.start; len = f.len }
step_of (Err r) = refused_file (refusal_number r)

-- what the reading gives with the refusal alone, as a step gives it
abbrev pub refusal_alone : Result PlanFile FileError → Result PlanFile Refusal
refusal_alone (Ok f) = Ok f
refusal_alone (Err e) = Err e.refusal

-- of a plan call, the plan that a refused one gives back left out
abbrev pub Comes : Result Plan Refusal → Built → Type 0
Comes (Ok p) b = b ≡ done p
Comes (Err r) b = b.answer ≡ Refused (refusal_number r)
