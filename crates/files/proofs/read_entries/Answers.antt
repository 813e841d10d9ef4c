-- `files::read_entries` meets its contract. Assumes nothing.
use native.Mathlib.Omega.{arith}
use Prim.Native.Nat.{◌<◌, ◌+◌}
use mathlib.Core.Path.{refl, sym, ◌∙◌, ap}
use lib.ListN.{length}
use Rattle.fields.proofs.Laws.{field_is}
use Rattle.fields.specs.Fields.{field_number}
use Rattle.fields.specs.Told.{field_of, told_number}
use Rattle.files.specs.Reader.{refused_file, entry_body}
use Rattle.files.proofs.Walk.{file_passed, walk_wrong, walk_end, walk_refused, walk_on}
use Rattle.files.proofs.read_entries.Goals as goal

pub loop-tag-init : goal.loop-tag-init
loop-tag-init c = (c.requires, (length c.args.s.now + 1, omega arith, refl))

pub returns-in_default : goal.returns-in_default
returns-in_default c =
    ap refused_file (sym (ap told_number c.unwrap.ensures) ∙ c.refusal.ensures.number ∙ ap (λ f. field_number (field_of f)) c.in_default.is) ∙
    sym (walk_wrong _ _ _ _ _ _ (omega (arith, c.loop-tag.invariant.1.1)) (sym c.read_field-f.ensures ∙ ap field_of c.in_default.is)) ∙ c.loop-tag.invariant.1.2

pub finish_file-requires : goal.finish_file-requires
finish_file-requires c = (field_is _ _ _ (sym c.read_field-f.ensures ∙ ap field_of c.in-Body.is)).whole

pub returns-then-tag-eq5 : goal.returns-then-tag-eq5
returns-then-tag-eq5 c = c.finish_file.ensures ∙ sym (walk_end _ _ _ _ _ _ _ (sym c.read_field-f.ensures ∙ ap field_of c.in-Body.is) _ (omega (arith, c.loop-tag.invariant.1.1)) c.if-tag-eq5.true) ∙ c.loop-tag.invariant.1.2

pub returns-in_err-p : goal.returns-in_err-p
returns-in_err-p c =
    file_passed _ _ c.from_residual.ensures.1 ∙
    sym (walk_refused _ _ _ _ _ _ _ (sym c.read_field-f.ensures ∙ ap field_of c.in-Body.is) c.if-tag-eq5.false _ (ap (λ b. entry_body c.in-Body.tag b c.loop-tag.p) c.field_body.ensures) _ _ (omega (arith, c.loop-tag.invariant.1.1)) c.in_err-p.ensures) ∙
    c.loop-tag.invariant.1.2

pub overflow_add-i : goal.overflow_add-i
overflow_add-i c = let h = field_is _ _ _ (sym c.read_field-f.ensures ∙ ap field_of c.in-Body.is) in omega (arith, h.whole, c.well_formed)

pub loop-tag-smaller : goal.loop-tag-smaller
loop-tag-smaller c = let h = field_is _ _ _ (sym c.read_field-f.ensures ∙ ap field_of c.in-Body.is) in omega (arith, h.whole, h.start)

pub loop-tag-preserved : goal.loop-tag-preserved
loop-tag-preserved c =
    let h = field_is _ _ _ (sym c.read_field-f.ensures ∙ ap field_of c.in-Body.is) in
    let fuel : 0 < c.loop-tag.invariant.1.0 = omega (arith, c.loop-tag.invariant.1.1) in
    let w = walk_on _ _ _ _ _ _ _ (sym c.read_field-f.ensures ∙ ap field_of c.in-Body.is) c.if-tag-eq5.false _ (sym c.in_ok-p.ensures ∙ ap (λ b. entry_body c.in-Body.tag b c.loop-tag.p) c.field_body.ensures) _ fuel refl in
    (h.whole, (w.0, omega (arith, h.whole, h.start, c.loop-tag.invariant.1.1, w.1), rw c.row_of-stage.ensures (sym w.2 ∙ c.loop-tag.invariant.1.2)))
