-- Layers of all numbers of changes in the workspace. Slot i + 1 is the layer of the segmentations with i changes, slot 0 has nothing; two banks of
-- slots come after it, one with the layers at hand and one for the next ones. Assumes nothing.
use Rattle.std.specs.Prelude.{◌≡◌, ◌⊎◌, List, cond, ℕ, suc, ◌+◌, ◌*◌, ◌≤◌, ◌<◌, eqb, ltb, ℤ, length}
use Rattle.plan.specs.declared.Plan.{Plan}
use Rattle.model.specs.Labels.{counts}
use Rattle.model.specs.Refusals.{search_number}
use Rattle.model.specs.Index.{no_cost}
use Rattle.model.specs.Held.{Table}
use Rattle.model.specs.Totals.{total_at}
use Rattle.curve.specs.Curve.{Curve}
use Rattle.layer.specs.declared.Shape.{Shape}
use Rattle.layer.specs.Layer.{layer_cell, layer_words, list_at, LayerOf}
use Rattle.layer.specs.Next.{Task}
use Rattle.saved.specs.Packed.{Inside}
use Rattle.saved.specs.Walk.{limit}

-- the most layers that come before a place: slot 0 and two banks of 33 slots
abbrev pub slots_most : ℕ
slots_most = 67

-- the place after n layers
abbrev pub place_of : Plan → ℕ → ℕ
place_of P n = n * layer_words P

-- where slot i of the bank after b layers stands after t readings, counted in layers: where slot 0 does while it has nothing
unfoldable pub slot_of : ℕ → ℕ → ℕ → ℕ
slot_of b i t = cond (eqb i 0) 0 (cond (ltb t i) 0 (b + i))

-- the two banks, one at hand and the other
abbrev pub Banks : ℕ → ℕ → ℕ → Type 0
Banks most from to = ((from ≡ 0) × (to ≡ suc most)) ⊎ ((from ≡ suc most) × (to ≡ 0))

-- the words that a table needs
abbrev pub table_limit : Plan → ℕ → ℕ
table_limit P most = limit P * (most + 1)

-- a record that no number before 14 refuses, and the words that it needs
pub record Ground (P : Plan) (zs : List ℤ) (most : ℕ) (g : Shape) (ws : List ℕ) : Type 0 where
  pub accepts : search_number P (length zs) ≡ 0
  pub task : Task P zs g
  pub few : most ≤ 32
  pub room : table_limit P most ≤ length ws

-- numbers of a layer in which nothing is reached
abbrev pub nothing : Table
nothing k s j = no_cost

-- a layer of them stands at 0, whatever it is the layer of
pub record Emptied (g : Shape) (ws ws' : List ℕ) : Type 0 where
  pub inside : Inside 0 (layer_cell * (g.states * g.grid.levels)) ws ws'
  pub list : (k s A B base : ℕ) → k < counts → s < g.states → Curve A B base g.grid.levels ws' (list_at 0 g.states g.grid.levels k s) (λ (j : ℕ). no_cost)

-- the slots after t readings, in the bank after b layers
pub record Slots (P : Plan) (zs : List ℤ) (most t b : ℕ) (ws : List ℕ) : Type 0 where
  pub empty : (t' : ℕ) → LayerOf P t' nothing ws (place_of P 0)
  pub slot : (i : ℕ) → 1 ≤ i → i ≤ t → i ≤ suc most → LayerOf P t (total_at P zs t i) ws (place_of P (b + i))

-- they stand there, and no word above what the table needs is changed
pub record StepTo (P : Plan) (zs : List ℤ) (most t b : ℕ) (ws ws' : List ℕ) : Type 0 where
  pub slots : Slots P zs most t b ws'
  pub inside : Inside 0 (table_limit P most) ws ws'

pub record ForwardTo (P : Plan) (zs : List ℤ) (most b : ℕ) (ws ws' : List ℕ) : Type 0 where
  pub step : StepTo P zs most (length zs) b ws ws'
  pub bank : b ≤ suc most
