use Rattle.saved.proofs.Walks.{space_then, reached_walked, pack_ready, full_walked, pushed_walked, walked_then}
use Rattle.saved.proofs.Stacks.{taken_off}
use mathlib.Core.Path.{◌∙◌}
use native.Mathlib.Omega.{arith}
use Rattle.saved.proofs.go_on.Goals as goal

pub returns-then-t-x : goal.returns-then-t-x
returns-then-t-x c = reached_walked c.requires.0.space c.requires.1 c.forward-w.ensures

pub pack-requires : goal.pack-requires
pack-requires c = let m = reached_walked c.requires.0.space c.requires.1 c.forward-w.ensures in
    rw (c.stack_top-at.ensures ∙ taken_off m.stack) (pack_ready (space_then c.requires.0.space m.inside.size) m.at m.stack c.area-limit.ensures.0 c.lists_at-lists.ensures.0)

pub returns-in_default : goal.returns-in_default
returns-in_default c = let m = reached_walked c.requires.0.space c.requires.1 c.forward-w.ensures in
    walked_then m (full_walked (space_then c.requires.0.space m.inside.size) m.at m.stack c.area-limit.ensures.0 c.lists_at-lists.ensures.0 (rw (c.stack_top-at.ensures ∙ taken_off m.stack) at c.pack.ensures) m.time)

pub returns : goal.returns
returns c = let m = reached_walked c.requires.0.space c.requires.1 c.forward-w.ensures in
    walked_then m (pushed_walked (space_then c.requires.0.space m.inside.size) m.at m.stack c.area-limit.ensures.0 c.lists_at-lists.ensures.0 (rw (c.stack_top-at.ensures ∙ taken_off m.stack) at c.pack.ensures) m.time c.in-Some.is (omega (arith, c.if-n-ge-SLOTS.false)))
