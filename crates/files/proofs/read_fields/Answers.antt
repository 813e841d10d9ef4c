-- `files::read_fields` meets its contract. Assumes nothing.
use native.Mathlib.Omega.{arith}
use mathlib.Core.Path.{refl, sym, ◌∙◌, ap, ap₂}
use Rattle.fields.proofs.Laws.{field_is}
use Rattle.fields.specs.Fields.{field_number}
use Rattle.fields.specs.Told.{field_of, told_number}
use Rattle.plan.proofs.Passing.{number_some}
use Rattle.files.specs.Reader.{refused_file, grid_number, open_bodies}
use Rattle.files.proofs.Walk.{file_passed, grid_refused, grid_wrong, states_refused, open_refused, open_done}
use Rattle.files.proofs.read_fields.Goals as goal

pub returns-in_default : goal.returns-in_default
returns-in_default c = ap refused_file (sym (ap told_number c.unwrap.ensures) ∙ c.refusal.ensures.number ∙ ap (λ f. field_number (field_of f)) c.in_default.is) ∙ grid_refused _ _ (sym c.read_field-grid.ensures ∙ ap field_of c.in_default.is)

pub returns-in_err-check_grid : goal.returns-in_err-check_grid
returns-in_err-check_grid c =
    file_passed _ _ c.from_residual.ensures.1 ∙
    grid_wrong _ _ _ _ (sym c.read_field-grid.ensures ∙ ap field_of c.in-Body.is) _ (c.in_err-check_grid.ensures ∙ ap grid_number c.field_body-levels.ensures) (number_some _)

pub overflow_add-start : goal.overflow_add-start
overflow_add-start c = let h = field_is _ _ _ (sym c.read_field-grid.ensures ∙ ap field_of c.in-Body.is) in omega (arith, h.whole, c.well_formed)

pub returns-in_default-states : goal.returns-in_default-states
returns-in_default-states c =
    ap refused_file (sym (ap told_number c.unwrap-in_default-states.ensures) ∙ c.refusal-in_default-states.ensures.number ∙ ap (λ f. field_number (field_of f)) c.in_default-states.is) ∙
    states_refused _ _ _ _ (sym c.read_field-grid.ensures ∙ ap field_of c.in-Body.is) _ (c.in_ok-check_grid.ensures ∙ ap grid_number c.field_body-levels.ensures) refl _ (sym c.read_field-states.ensures ∙ ap field_of c.in_default-states.is)

pub returns-in_err-plan : goal.returns-in_err-plan
returns-in_err-plan c =
    file_passed _ _ c.from_residual-in_err-plan.ensures.1 ∙
    open_refused _ _ _ _ (sym c.read_field-grid.ensures ∙ ap field_of c.in-Body.is) _ (c.in_ok-check_grid.ensures ∙ ap grid_number c.field_body-levels.ensures) refl _ _ _ (sym c.read_field-states.ensures ∙ ap field_of c.in-Body-states.is) _
    (ap₂ open_bodies c.field_body-levels.ensures c.field_body.ensures) _ c.in_err-plan.ensures

pub overflow_add-at : goal.overflow_add-at
overflow_add-at c = let h = field_is _ _ _ (sym c.read_field-states.ensures ∙ ap field_of c.in-Body-states.is) in omega (arith, h.whole, c.well_formed)

pub read_entries-requires : goal.read_entries-requires
read_entries-requires c = let h = field_is _ _ _ (sym c.read_field-states.ensures ∙ ap field_of c.in-Body-states.is) in h.whole

pub returns : goal.returns
returns c =
    c.read_entries.ensures ∙
    open_done _ _ _ _ (sym c.read_field-grid.ensures ∙ ap field_of c.in-Body.is) _ (c.in_ok-check_grid.ensures ∙ ap grid_number c.field_body-levels.ensures) refl _ _ _ (sym c.read_field-states.ensures ∙ ap field_of c.in-Body-states.is) _
    (sym c.in_ok-plan.ensures ∙ ap₂ open_bodies c.field_body-levels.ensures c.field_body.ensures) refl
