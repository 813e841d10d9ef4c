-- `answers::fill_runs` meets its contract. Assumes nothing.
use native.Mathlib.Omega.{arith}
use Prim.Native.Nat.{◌+◌, ◌*◌}
use mathlib.Core.Path.{◌∙◌, ap}
use lib.ListN.{length}
use lib.Seq.{sets}
use Rattle.fields.proofs.Laws.{part_length}
use Rattle.answers.specs.Reader.{run_numbers, run_body}
use Rattle.answers.specs.Sizes.{no_runs, runs_turn}
use Rattle.answers.proofs.fill_runs.Goals as goal

pub loop-i-init : goal.loop-i-init
loop-i-init c = no_runs _ _

pub put_run-requires : goal.put_run-requires
put_run-requires c = (ap length c.part.ensures ∙ part_length c.args.s.now (14 + 11 * c.loop-i.i) 8 (omega arith), omega (arith, c.loop-i.auto.runs))

pub loop-i-preserved : goal.loop-i-preserved
loop-i-preserved c =
    c.put_run.ensures ∙ ap (λ b. sets c.loop-i.runs (5 * c.loop-i.i) (run_numbers b)) c.part.ensures ∙
    ap (λ x. sets x (5 * c.loop-i.i) (run_numbers (run_body c.args.s.now c.loop-i.i))) c.loop-i.invariant ∙ runs_turn c.args.s.now c.loop-i.i c.args.runs.now (omega arith)
