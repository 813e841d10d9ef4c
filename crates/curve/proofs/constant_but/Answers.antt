use Rattle.curve.proofs.Second.{constant_but_lem}
use Rattle.curve.proofs.constant_but.Goals as goal

pub returns : goal.returns
returns c = constant_but_lem _ c.requires.0.1 c.constant_to-below.ensures c.constant_to-here.ensures c.constant_to.ensures
