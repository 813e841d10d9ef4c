-- `neighbourhood::none_allowed`: an entry that is a cost, or the search, decides 16. Assumes nothing.
use Rattle.neighbourhood.proofs.Entries.{workspace_of, decided_some, decided}
use native.Mathlib.Omega.{arith}
use mathlib.Core.Path.{refl}
use Rattle.neighbourhood.proofs.none_allowed.Goals as goal

pub returns-then-some : goal.returns-then-some
returns-then-some c = decided_some c.requires.0 c.requires.1 c.if-some.true

pub cheapest-reached-requires : goal.cheapest-reached-requires
cheapest-reached-requires c = record { workspace = (workspace_of c.requires.0, refl); slots_le_most_slots = omega arith }

pub returns : goal.returns
returns c = decided c.requires.0 c.cheapest-reached.ensures _ refl
