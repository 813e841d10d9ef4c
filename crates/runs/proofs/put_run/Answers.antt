use Rattle.std.proofs.Common.{rules, arith}
use Rattle.runs.proofs.Turn.{put_part}
use Rattle.runs.proofs.put_run.Goals as goal

pub returns : goal.returns
returns c = put_part _ _ _ _ _ c.requires.1 (omega arith) (search rules)
