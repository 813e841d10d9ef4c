-- The runs of a segmentation, and the five numbers of a run. The quoted sentences are those of the scope paper (01), "The model". What a run
-- list tells of its segmentation is in `RunLaws`. Assumes nothing.
use Rattle.std.specs.Prelude.{List, [], ◌∷◌, ◌++◌, reverse, Bool, true, false, ◌&&◌, cond, ℕ, suc, eqb, ℤ, pos}
use Rattle.plan.specs.declared.Plan.{Plan}
use Rattle.plan.specs.declared.Edge.{Edge}
use Rattle.plan.specs.declared.Kind.{Kind}
use Rattle.plan.specs.declared.Kind.TheVariants.{Stay, Any, Up, Down, Abs}
use Rattle.model.specs.Segmentation.{Seg, first, next, readings}
use Rattle.model.specs.Model.{edge_at}

-- "It carries first reading, last reading, state, level and the number of the edge that enters it"
pub record Run : Type 0 where
  pub start : ℕ
  pub last : ℕ
  pub state : ℕ
  pub level : ℤ
  pub edge : ℕ

abbrev pub run : ℕ → ℕ → ℕ → ℤ → ℕ → Run
run a b s m e = record { start = a; last = b; state = s; level = m; edge = e }

unfoldable pub is_stay : Kind → Bool
is_stay Stay = true
is_stay Any = false
is_stay (Up gap) = false
is_stay (Down gap) = false
is_stay (Abs gap) = false

-- "joined by stay edges from a state to itself"
unfoldable pub joins : Edge → Bool
joins e = is_stay e.kind && eqb e.from e.to

-- "A run is a longest stretch of readings joined by ..", the last run first: it ends at reading n, and starts where an edge does not join.
-- "(255 for the first run)"
unfoldable pub back_from : Plan → ℕ → Seg → List Run
back_from P n (first s m) = run 1 n s m 255 ∷ []
back_from P n (next g e m) =
    cond (joins (edge_at P e)) (back_from P n g) (run (suc (readings g)) n (edge_at P e).to m e ∷ back_from P (readings g) g)

unfoldable pub runs : Plan → Seg → List Run
runs P g = reverse (back_from P (readings g) g)

-- the five numbers of each run, in the order of that sentence
abbrev pub five : Run → List ℤ
five r = pos r.start ∷ pos r.last ∷ pos r.state ∷ r.level ∷ pos r.edge ∷ []

unfoldable pub numbers : List Run → List ℤ
numbers [] = []
numbers (r ∷ rs) = five r ++ numbers rs

unfoldable pub run_numbers : Plan → Seg → List ℤ
run_numbers P g = numbers (runs P g)
