use Rattle.coded.proofs.Numbers.{label_read}
use Rattle.coded.proofs.label_in.Goals as goal

pub returns : goal.returns
returns c = label_read _
