-- `answers::put_run` meets its contract. Assumes nothing.
use native.Mathlib.Omega.{arith}
use mathlib.Core.Path.{refl, ◌∙◌}
use Rattle.std.proofs.lemmas.Grind.{common_steps}
use Rattle.answers.specs.Reader.{run_numbers}
use Rattle.answers.proofs.Stored.{stored}
use Rattle.answers.proofs.put_run.Goals as goal

pub returns : goal.returns
returns c = stored c.args.runs.now c.args.at 5 (run_numbers c.args.b.now) c.copy_from_slice.new.self (c.copy_from_slice.ensures.after ∙ grind (arith, common_steps)) refl c.requires.1
