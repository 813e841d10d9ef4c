-- What a field that code has read says.
use Rattle.std.specs.Prelude.{ℕ, Option, None, Some}
use Rattle.plan.specs.declared.reasons.Refusal.{Refusal}
use Rattle.plan.specs.Refusals.{refusal_number}
use Rattle.fields.specs.declared.Field.{Field as Found}
use Rattle.fields.specs.declared.Field.TheVariants.{Body as FoundBody, Wrong as FoundWrong}
use Rattle.fields.specs.Fields.{Field, Body, Wrong}

abbrev pub field_of : Found → Field
field_of (FoundBody tag start len) = Body tag start len
field_of (FoundWrong r) = Wrong (refusal_number r)

-- the refusal of a field, none where it has none
abbrev pub refusal_in : Found → Option Refusal
refusal_in (FoundBody tag start len) = None
refusal_in (FoundWrong r) = Some r

-- its number, 0 for none
abbrev pub told_number : Option Refusal → ℕ
told_number None = 0
told_number (Some r) = refusal_number r
