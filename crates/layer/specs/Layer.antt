-- Layers in the workspace: for each count and state a list whose value at a level's index is the number of a table. Assumes nothing.
use Rattle.std.specs.Prelude.{◌≡◌, List, ℕ, zero, suc, ◌+◌, ◌*◌, ◌≤◌, ◌<◌, ℤ, pos, nat_abs, ◌+ℤ◌}
use Rattle.plan.specs.declared.Plan.{Plan}
use Rattle.model.specs.Model.{width}
use Rattle.model.specs.Labels.{counts, used_at}
use Rattle.model.specs.Held.{penalty_most, Table}
use Rattle.model.specs.Ends.{loss_most, table_at}
use Rattle.curve.specs.Curve.{Curve}
use Rattle.layer.specs.declared.Shape.{Shape}

-- the most that a reading and the boundary before it cost; and the most that they add to what is counted, a change and the reading, with room for
-- its weight (ticket 10, at most 255)
abbrev pub reading_most : ℕ
reading_most = loss_most + penalty_most

abbrev pub count_most : ℕ
count_most = 256

-- the place of the lowest level
unfoldable pub base_of : Plan → ℕ
base_of P = nat_abs (P.lo +ℤ pos 163840)

-- no place in the workspace that code computes is above this, so that no sum of them overflows
abbrev pub place_most : ℕ
place_most = 67108864

-- where the list of count k and state s stands in the layer at o
unfoldable pub list_at : ℕ → ℕ → ℕ → ℕ → ℕ → ℕ
list_at o S L k s = o + (k * S + s) * (4 * L)

pub record Shape-small (g : Shape) : Type 0 where
  pub states : g.states ≤ 8
  pub levels : g.grid.levels ≤ 1024

-- the plan's shape
pub record ShapeOf (P : Plan) (g : Shape) : Type 0 where
  pub states : g.states ≡ P.states
  pub levels : g.grid.levels ≡ width P
  pub base : g.grid.base ≡ base_of P

-- the words of a layer for each state and level, a list having four for each level; and all of them
abbrev pub layer_cell : ℕ
layer_cell = 4 * counts

abbrev pub layer_words : Plan → ℕ
layer_words P = layer_cell * (P.states * width P)

-- the words of the three temporary lists over L levels
abbrev pub temp_words : ℕ → ℕ
temp_words L = 12 * L

-- a layer of t readings with the numbers H stands at o: the lists of the counts that are used
pub record LayerOf (P : Plan) (t : ℕ) (H : Table) (ws : List ℕ) (o : ℕ) : Type 0 where
  pub list : (k s : ℕ) → k < used_at P t → s < P.states → Curve (t * count_most) (t * reading_most) (base_of P) (width P) ws (list_at o P.states (width P) k s) (H k s)

-- the layer of the search after t readings
abbrev pub Layer : Plan → List ℤ → ℕ → List ℕ → ℕ → Type 0
Layer P zs t ws o = LayerOf P t (table_at P zs t) ws o

-- Where an edge with c changes comes from: a stay from the layer at cur, a change from the one at moved.
unfoldable pub from_place : ℕ → ℕ → ℕ → ℕ
from_place zero cur moved = cur
from_place (suc c) cur moved = moved

-- layers of t readings to go on from: with the numbers T 0 for stays, and T 1 for changes
pub record Sources (P : Plan) (t : ℕ) (T : ℕ → Table) (ws : List ℕ) (cur moved : ℕ) : Type 0 where
  pub stays : LayerOf P t (T 0) ws cur
  pub changes : LayerOf P t (T 1) ws moved
