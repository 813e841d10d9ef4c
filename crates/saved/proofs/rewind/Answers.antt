use Rattle.saved.proofs.Stacks.{dropped_taken, stack_dropped}
use Rattle.saved.proofs.Walks.{space_then, starts_early, restarted_walked, walked_then}
use native.Mathlib.Omega.{arith}
use mathlib.Core.Path.{refl}
use Rattle.saved.proofs.rewind.Goals as goal

pub restart-w-requires : goal.restart-w-requires
restart-w-requires c = (c.requires.0, (c.requires.1.0.places, stack_dropped c.requires.1.1.0 (dropped_taken c.requires.1.1.0 c.drop_after-kept.ensures)))

pub advance-requires : goal.advance-requires
advance-requires c = record {
  goes = let m = restarted_walked c.requires.0 (stack_dropped c.requires.1.1.0 (dropped_taken c.requires.1.1.0 c.drop_after-kept.ensures)) c.restart-w.ensures refl in (
    record {
      space = space_then c.requires.0 m.inside.size;
      at = m.at;
      from = starts_early (dropped_taken c.requires.1.1.0 c.drop_after-kept.ensures) c.restart-w.ensures c.requires.1.1.1.0;
      most = omega (arith, c.requires.1.1.1.1, c.requires.1.0.most);
    },
    m.stack,
  );
  slots_le_most_slots = omega arith;
}

pub returns : goal.returns
returns c = walked_then (restarted_walked c.requires.0 (stack_dropped c.requires.1.1.0 (dropped_taken c.requires.1.1.0 c.drop_after-kept.ensures)) c.restart-w.ensures refl) c.advance.ensures
