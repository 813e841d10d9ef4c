-- `files::write_plan` meets its contract. Assumes nothing.
use native.Mathlib.Omega.{arith}
use mathlib.Core.Path.{sym, ◌∙◌, ap}
use lib.ListN.{length}
use Rattle.plan.specs.Counts.{count_is}
use Rattle.fields.proofs.PutLaws.{write_passed, write_done, put_front}
use Rattle.fields.specs.Put.{Bytes}
use Rattle.files.proofs.Sizes.{write_room, plan_length_lem}
use Rattle.files.specs.Writer.{plan_bytes, plan_length}
use Rattle.files.proofs.write_plan.Goals as goal

pub returns-in_err-check_writing : goal.returns-in_err-check_writing
returns-in_err-check_writing c =
    let p = write_passed _ _ _ _ c.args.out.now _ c.from_residual.ensures.1 c.in_err-check_writing.ensures in record { answer = p.0; list = p.1 }

pub put_plan-requires : goal.put_plan-requires
put_plan-requires c = (write_room _ _ _ (sym c.in_ok-check_writing.ensures)).space

pub plan_length-requires : goal.plan_length-requires
plan_length-requires c = let w = (write_room _ _ _ (sym c.in_ok-check_writing.ensures)).space in (w.edges, w.labels, (count_is _ w.counts).1)

pub returns : goal.returns
unfolding plan_length
returns c =
    let e = sym c.in_ok-check_writing.ensures in
    let w = (write_room _ _ _ e).space in
    let n = plan_length_lem c.args.plan c.args.zs.now in
    let d = write_done _ (plan_bytes c.args.plan c.args.zs.now) c.args.out.now _ (plan_length c.args.plan (length c.args.zs.now)) e (c.put_plan.ensures ∙ put_front c.args.out.now (plan_bytes c.args.plan c.args.zs.now) (omega (arith, n, w.fits))) in
    record { answer = ap Bytes c.plan_length.ensures ∙ d.0; list = d.1 }
