-- `answers::read_file` meets its contract. Assumes nothing.
use native.Mathlib.Omega.{arith}
use Prim.Native.Nat.{◌+◌}
use lib.ListN.{length}
use mathlib.Core.Path.{sym, ◌∙◌, ap}
use Rattle.fields.proofs.Laws.{field_is}
use Rattle.fields.specs.Fields.{field_number, number8}
use Rattle.fields.specs.Told.{field_of, told_number}
use Rattle.answers.specs.Reader.{Unread, runs_from, refusal_read}
use Rattle.answers.proofs.Walk.{head_wrong, head_cost, head_refusal}
use Rattle.answers.proofs.read_file.Goals as goal

pub returns-in_default : goal.returns-in_default
returns-in_default c = ap Unread (sym (ap told_number c.unwrap.ensures) ∙ c.refusal.ensures.number ∙ ap (λ f. field_number (field_of f)) c.in_default.is) ∙ head_wrong _ _ (sym c.read_field-f.ensures ∙ ap field_of c.in_default.is)

pub overflow_add-start : goal.overflow_add-start
overflow_add-start c = let h = field_is _ _ _ (sym c.read_field-f.ensures ∙ ap field_of c.in-Body.is) in omega (arith, h.whole, c.well_formed)

pub read_runs-requires : goal.read_runs-requires
read_runs-requires c = let h = field_is _ _ _ (sym c.read_field-f.ensures ∙ ap field_of c.in-Body.is) in h.whole

pub returns-then-tag : goal.returns-then-tag
returns-then-tag c = c.read_runs.ensures ∙ ap (λ n. runs_from (length c.args.s.now + 1) c.args.s.now n (c.in-Body.start + c.in-Body.len) 0 0) (c.number8.ensures ∙ ap number8 c.field_body-b.ensures) ∙ head_cost _ _ _ _ (sym c.read_field-f.ensures ∙ ap field_of c.in-Body.is) c.if-tag.true

pub overflow_add-start-2 : goal.overflow_add-start-2
overflow_add-start-2 c = let h = field_is _ _ _ (sym c.read_field-f.ensures ∙ ap field_of c.in-Body.is) in omega (arith, h.whole, c.well_formed)

pub returns : goal.returns
returns c = c.read_refusal.ensures ∙ ap (refusal_read c.args.s.now (c.in-Body.start + c.in-Body.len)) c.field_body-b.ensures ∙ head_refusal _ _ _ _ (sym c.read_field-f.ensures ∙ ap field_of c.in-Body.is) c.if-tag.false
