-- `curve::constant`. Assumes nothing.
use Rattle.curve.specs.Lists.{made}
use Rattle.curve.proofs.constant.Goals as goal

pub returns : goal.returns
returns c = made c.constant_to.ensures
