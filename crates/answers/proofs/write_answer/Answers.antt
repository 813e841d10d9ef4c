-- `answers::write_answer` meets its contract. Assumes nothing.
use Rattle.fields.proofs.PutLaws.{put_length}
use Rattle.fields.specs.Fields.{field, bytes8}
use native.Mathlib.Omega.{arith}
use Rattle.answers.specs.Writer.{answer_bytes}
use Rattle.answers.specs.Lengths.{answer_room, answer_put, answer_length_lem}
use Rattle.fields.proofs.PutLaws.{write_passed, write_done, put_front}
use Prim.Native.Nat.{◌/◌, ◌*◌, ◌+◌}
use lib.ListN.{length}
use mathlib.Core.Path.{◌≡◌, sym, ◌∙◌, ap}
use Rattle.answers.proofs.write_answer.Goals as goal

pub returns-in_err-check_answer : goal.returns-in_err-check_answer
returns-in_err-check_answer c =
    let p = write_passed _ _ _ _ c.args.out.now _ c.from_residual.ensures.1 c.in_err-check_answer.ensures in record { answer = p.0; list = p.1 }

pub put_runs-requires : goal.put_runs-requires
put_runs-requires c = let w = answer_room c.args.runs.now (length c.args.out.now) (sym c.in_ok-check_answer.ensures) in
    let l : length c.put_cost.new.out ≡ length c.args.out.now = ap length c.put_cost.ensures ∙ put_length c.args.out.now 0 (field 0x81 (bytes8 c.args.cost)) in
    (w.rules, omega (arith, w.fits))

pub returns : goal.returns
returns c = let w = answer_room c.args.runs.now (length c.args.out.now) (sym c.in_ok-check_answer.ensures) in
    let d = write_done _ (answer_bytes c.args.cost c.args.runs.now) c.args.out.now _ (11 + 11 * (length c.args.runs.now / 5)) (sym c.in_ok-check_answer.ensures)
    (answer_put c.args.cost c.args.runs.now c.args.out.now _ _ w.fits c.put_cost.ensures c.put_runs.ensures ∙ put_front c.args.out.now (answer_bytes c.args.cost c.args.runs.now) (omega (arith, w.fits, answer_length_lem c.args.cost c.args.runs.now))) in
    record { answer = d.0; list = d.1 }
