use mathlib.Core.Path.{◌∙◌}
use Prim.Native.Nat.{◌<◌}
use native.Mathlib.Omega.{arith}
use Rattle.saved.proofs.Stacks.{taken_count, taken_time, taken_below}
use Rattle.saved.proofs.Walks.{restarted_first, unpack_ready, restarted_top}
use Rattle.saved.proofs.restart.Goals as goal

pub start-requires : goal.start-requires
start-requires c = (c.requires.0, c.requires.1.0)

pub returns-in_default : goal.returns-in_default
returns-in_default c = restarted_first c.requires.0 (omega (arith, c.in_default.len_below, taken_count c.requires.1.1)) c.start.ensures

pub unpack-requires : goal.unpack-requires
unpack-requires c =
    let k = c.requires.1.1 in
    let h : 0 < c.args.count = omega (arith, c.in-len1-up.len_at_least, taken_count k) in
    rw (c.stack_top-at.ensures ∙ taken_below k h) (unpack_ready c.requires.0 c.requires.1.0 k h (rw (taken_time k h) at c.lists_at-lists.ensures.0))

pub returns : goal.returns
returns c =
    let k = c.requires.1.1 in
    let h : 0 < c.args.count = omega (arith, c.in-len1-up.len_at_least, taken_count k) in
    rw (taken_time k h) (restarted_top c.requires.0 c.requires.1.0 k h (rw (taken_time k h) at c.lists_at-lists.ensures.0) (rw (c.stack_top-at.ensures ∙ taken_below k h) at c.unpack.ensures))
