-- `neighbourhood::fill`: the model's answer, whichever it is. Assumes nothing.
use Rattle.neighbourhood.proofs.Slots.{ground_then}
use Rattle.neighbourhood.proofs.Entries.{filled_16, filled_table}
use Rattle.saved.proofs.Chains.{inside_then}
use native.Mathlib.Omega.{arith}
use native.Mathlib.Numerals.{add-one}
use Rattle.neighbourhood.proofs.fill.Goals as goal

pub put_entries-some-requires : goal.put_entries-some-requires
put_entries-some-requires c = (ground_then c.requires.ground c.forward-bank.ensures.step.inside, (c.forward-bank.ensures.step.slots, (c.forward-bank.ensures.bank, omega (arith, c.requires.ground.few))))

pub none_allowed-requires : goal.none_allowed-requires
none_allowed-requires c = (ground_then c.requires.ground c.forward-bank.ensures.step.inside, c.put_entries-some.ensures.some)

pub returns-then-none_allowed : goal.returns-then-none_allowed
returns-then-none_allowed c = filled_16 _ _ _ (inside_then c.forward-bank.ensures.step.inside c.none_allowed.ensures.inside) (c.none_allowed.ensures.none c.if-none_allowed.true)

pub overflow_add-most : goal.overflow_add-most
overflow_add-most c = omega (arith, c.requires.ground.few)

pub copy_front-requires : goal.copy_front-requires
copy_front-requires c = (omega (arith, c.put_entries-some.ensures.size, c.requires.ground.few), omega (arith, c.requires.room))

pub overflow_add-result : goal.overflow_add-result
overflow_add-result c = omega (arith, c.requires.ground.few)

pub returns : goal.returns
returns c = filled_table _ _ _ (inside_then c.forward-bank.ensures.step.inside c.none_allowed.ensures.inside) (c.none_allowed.ensures.found c.if-none_allowed.false) c.put_entries-some.ensures (add-one _) c.copy_front.ensures
