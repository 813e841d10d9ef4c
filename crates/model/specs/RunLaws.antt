-- What the list of runs tells of its segmentation: it covers the record (`runs_tile`); each reading is in a run that has its state and level
-- (`reading_run`, `run_of`); and it determines the segmentation (`runs_one`). Assumes nothing.
use Rattle.std.specs.Prelude.{◌≡◌, ◌⊎◌, cond, ltb}
use mathlib.Core.List.{List, [], ◌∷◌}
use Rattle.std.proofs.Math.Bool.{true, false}
use Prim.Native.Nat.{ℕ, suc, ◌≤◌, ◌<◌}
use Rattle.plan.specs.declared.Plan.{Plan}
use Rattle.model.specs.Segmentation.{Seg, first, next, readings, last_level}
use Rattle.model.specs.Model.{edge_at, on_grid, last_state}
use Rattle.model.specs.Run.{Run, joins}

-- ---- the runs follow each other from reading 1 to the last, as an answer file has them

pub record RunOk (P : Plan) (a : ℕ) (r : Run) : Type 0 where
  pub starts_at : r.start ≡ a
  pub not_empty : a ≤ r.last
  pub state_below : r.state < P.states
  pub on_grid_lem : on_grid P r.level ≡ true
  pub enters : ((a ≡ 1) × (r.edge ≡ 255)) ⊎ ((1 < a) × (r.edge < P.edgecount))

-- from reading a to reading n
abbrev pub Tiles : Plan → ℕ → List Run → ℕ → Type 0
Tiles P a [] n = a ≡ suc n
Tiles P a (r ∷ rs) n = RunOk P a r × Tiles P (suc r.last) rs n

-- ---- what holds of each run

-- the first t readings of a segmentation
unfoldable pub prefix : ℕ → Seg → Seg
prefix t (first s m) = first s m
prefix t (next g e m) = cond (ltb (readings g) t) (next g e m) (prefix t g)

-- the edge that leads to the last reading, 255 where it is the first
unfoldable pub last_edge : Seg → ℕ
last_edge (first s m) = 255
last_edge (next g e m) = e

pub record RunOf (P : Plan) (g : Seg) (r : Run) : Type 0 where
  pub inside : (1 ≤ r.start) × (r.start ≤ r.last) × (r.last ≤ readings g)
  -- each of its readings has its state and level
  pub at : (t : ℕ) → r.start ≤ t → t ≤ r.last → (last_state P (prefix t g) ≡ r.state) × (last_level (prefix t g) ≡ r.level)
  -- its edge leads to its first reading and does not join; those that lead to its other readings do
  pub entered : last_edge (prefix r.start g) ≡ r.edge
  pub longest : 1 < r.start → joins (edge_at P r.edge) ≡ false
  pub joined : (t : ℕ) → r.start < t → t ≤ r.last → joins (edge_at P (last_edge (prefix t g))) ≡ true
