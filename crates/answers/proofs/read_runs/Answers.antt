-- `answers::read_runs` meets its contract. Assumes nothing.
use native.Mathlib.Omega.{arith}
use Rattle.answers.proofs.Walk.{run_wrong, run_breaks, run_last, run_on}
use Rattle.answers.specs.Reader.{Unread, body_fits, body_last}
use Rattle.fields.specs.Fields.{field_number}
use Rattle.fields.specs.Told.{field_of, told_number}
use Rattle.fields.proofs.Laws.{field_is}
use mathlib.Core.Path.{refl, sym, ◌∙◌, ap}
use lib.ListN.{length}
use Prim.Native.Nat.{◌<◌, ◌+◌}
use Rattle.answers.proofs.read_runs.Goals as goal

pub loop-start-init : goal.loop-start-init
loop-start-init c = (c.requires, omega arith, (length c.args.s.now + 1, omega arith, refl))

pub enum_known-f : goal.enum_known-f
enum_known-f c = omega arith

pub enum_told-1 : goal.enum_told-1
enum_told-1 c = omega arith

pub returns-in_default : goal.returns-in_default
returns-in_default c = ap Unread (sym (ap told_number c.unwrap.ensures) ∙ c.refusal.ensures.number ∙ ap (λ f. field_number (field_of f)) c.in_default.is) ∙ sym (run_wrong _ _ _ _ _ _ _ (omega (arith, c.loop-start.invariant.2.1)) (sym c.read_field-f.ensures ∙ ap field_of c.in_default.is)) ∙ c.loop-start.invariant.2.2

pub returns-then-not-body_fits : goal.returns-then-not-body_fits
returns-then-not-body_fits c = sym (run_breaks _ _ _ _ _ _ _ _ (sym c.read_field-f.ensures ∙ ap field_of c.in-Body.is) _ (c.body_fits.ensures ∙ ap (body_fits c.loop-start.prev) c.field_body-b.ensures) _ (omega (arith, c.loop-start.invariant.2.1)) c.if-not-body_fits.true) ∙ c.loop-start.invariant.2.2

pub overflow_add-i : goal.overflow_add-i
overflow_add-i c = let h = field_is _ _ _ (sym c.read_field-f.ensures ∙ ap field_of c.in-Body.is) in omega (arith, h.whole, c.well_formed)

pub overflow_add-count : goal.overflow_add-count
overflow_add-count c = let h = field_is _ _ _ (sym c.read_field-f.ensures ∙ ap field_of c.in-Body.is) in omega (arith, h.whole, h.start, c.loop-start.invariant.1, c.well_formed)

pub returns-then-i-s : goal.returns-then-i-s
returns-then-i-s c = sym (run_last _ _ _ _ _ _ _ _ (sym c.read_field-f.ensures ∙ ap field_of c.in-Body.is) _ (c.body_fits.ensures ∙ ap (body_fits c.loop-start.prev) c.field_body-b.ensures) _ (omega (arith, c.loop-start.invariant.2.1)) c.if-not-body_fits.false c.if-i-s.true) ∙ c.loop-start.invariant.2.2

pub loop-start-smaller : goal.loop-start-smaller
loop-start-smaller c = let h = field_is _ _ _ (sym c.read_field-f.ensures ∙ ap field_of c.in-Body.is) in omega (arith, h.whole, h.start)

pub loop-start-preserved : goal.loop-start-preserved
loop-start-preserved c = let h = field_is _ _ _ (sym c.read_field-f.ensures ∙ ap field_of c.in-Body.is) in
    let fuel : 0 < c.loop-start.invariant.2.0 = omega (arith, c.loop-start.invariant.2.1) in
    let w = run_on c.args.s.now c.args.cost c.loop-start.i c.loop-start.prev c.loop-start.count _ _ _ (sym c.read_field-f.ensures ∙ ap field_of c.in-Body.is) _ (c.body_fits.ensures ∙ ap (body_fits c.loop-start.prev) c.field_body-b.ensures) _ fuel c.if-not-body_fits.false c.if-i-s.false in
    (h.whole, omega (arith, h.start, c.loop-start.invariant.1), (w.0, omega (arith, h.whole, h.start, c.loop-start.invariant.2.1, w.1), rw (c.body_last-prev.ensures ∙ ap body_last c.field_body-b.ensures) (sym w.2 ∙ c.loop-start.invariant.2.2)))
