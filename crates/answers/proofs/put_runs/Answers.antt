-- `answers::put_runs` meets its contract. Assumes nothing.
use native.Mathlib.Omega.{arith}
use Prim.Native.Nat.{◌+◌, ◌*◌}
use mathlib.Core.Path.{◌∙◌, ap}
use Rattle.fields.specs.Fields.{put_at}
use Rattle.answers.specs.Writer.{run_field}
use Rattle.answers.specs.Lengths.{none_put, run_put}
use Rattle.answers.specs.Rules.{runs_each}
use Rattle.answers.proofs.put_runs.Goals as goal

pub loop-i-init : goal.loop-i-init
loop-i-init c = none_put _ _ (omega arith)

pub put_run_field-requires : goal.put_run_field-requires
put_run_field-requires c = (omega arith, runs_each c.args.runs.now _ c.loop-i.i c.loop-i-test.true c.requires.0)

pub loop-i-preserved : goal.loop-i-preserved
loop-i-preserved c =
    c.put_run_field.ensures ∙ ap (λ x. put_at x (11 + 11 * c.loop-i.i) (run_field c.args.runs.now c.loop-i.i)) c.loop-i.invariant ∙
    run_put c.args.out.now c.args.runs.now c.loop-i.i (omega (arith, c.requires.1))
