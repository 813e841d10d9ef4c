-- A walk over the layers: the one at hand, and the saved ones. Assumes nothing.
use Rattle.std.specs.Prelude.{◌≡◌, ◌⊎◌, List, ℕ, zero, suc, ◌+◌, ◌-◌, ◌*◌, ◌≤◌, ◌<◌, ℤ, length, get_or}
use Rattle.plan.specs.declared.Plan.{Plan}
use Rattle.model.specs.Model.{width}
use Rattle.model.specs.Checked.{Checked}
use Rattle.model.specs.Labels.{counts, used_at}
use Rattle.model.specs.Ends.{table_at}
use Rattle.curve.specs.Curve.{Curve}
use Rattle.layer.specs.declared.Shape.{Shape}
use Rattle.layer.specs.Layer.{temp_words, reading_most, count_most, base_of, place_most, layer_cell, layer_words, ShapeOf, Layer}
use Rattle.layer.specs.Next.{Task}
use Rattle.saved.specs.declared.Walk.{Walk}
use Rattle.saved.specs.declared.Saved.{Saved}
use Rattle.saved.specs.Packed.{Chain, Inside, Row}

-- The workspace, in words: two layers, the three temporary lists, then the stack of saved layers up to the limit. For each state and level: the first
-- word after the layers, and the first after the stack.
abbrev pub free_cell : ℕ
free_cell = 2 * layer_cell

abbrev pub limit_cell : ℕ
limit_cell = 24 * counts

abbrev pub stack_at : Plan → ℕ
stack_at P = free_cell * (P.states * width P) + temp_words (width P)

abbrev pub limit : Plan → ℕ
limit P = limit_cell * (P.states * width P)

-- the most layers that are saved: the entries of the table of them
abbrev pub most_slots : ℕ
most_slots = 1024

-- the layer after t readings stands packed from a up to e, in the order of its lists
pub record Packed (P : Plan) (zs : List ℤ) (t : ℕ) (ws : List ℕ) (a e : ℕ) : Type 0 where
  pub chain : Chain (width P) ws a (used_at P t * P.states) e
  pub list : (k s m : ℕ) → k < used_at P t → s < P.states → Chain (width P) ws a (k * P.states + s) m → Curve (t * count_most) (t * reading_most) (base_of P) (width P) ws m (table_at P zs t k s)

-- the table of saved layers: entry i is the layer after time_of T i readings, packed from off_of P T i up to off_of P T (suc i)
abbrev pub saved_at : List Saved → ℕ → Saved
saved_at T i = get_or T i (record { time = 0; end = 0 })

abbrev pub time_of : List Saved → ℕ → ℕ
time_of T i = (saved_at T i).time

abbrev pub off_of : Plan → List Saved → ℕ → ℕ
off_of P T zero = stack_at P
off_of P T (suc i) = (saved_at T i).end

pub record Entry (P : Plan) (zs : List ℤ) (t : ℕ) (ws : List ℕ) (a e : ℕ) : Type 0 where
  pub some : 1 ≤ t
  pub most : t ≤ length zs
  pub packed : Packed P zs t ws a e

-- the n saved layers of the table T
pub record Stack (P : Plan) (zs : List ℤ) (n : ℕ) (T : List Saved) (ws : List ℕ) : Type 0 where
  pub size : length T ≡ most_slots
  pub few : n ≤ most_slots
  pub top : off_of P T n ≤ limit P
  pub entry : (i : ℕ) → i < n → Entry P zs (time_of T i) ws (off_of P T i) (off_of P T (suc i))

-- the two places of layers, one at hand and the other
abbrev pub Places : Plan → ℕ → ℕ → Type 0
Places P cur other = ((cur ≡ 0) × (other ≡ layer_words P)) ⊎ ((cur ≡ layer_words P) × (other ≡ 0))

-- the layer after w's time stands at its place
pub record At (P : Plan) (zs : List ℤ) (w : Walk) (ws : List ℕ) : Type 0 where
  pub some : 1 ≤ w.time
  pub most : w.time ≤ length zs
  pub places : Places P w.cur w.other
  pub layer : Layer P zs w.time ws w.cur

-- a task with a reading, and the words that it needs
pub record Workspace (P : Plan) (zs : List ℤ) (g : Shape) (ws : List ℕ) : Type 0 where
  pub task : Task P zs g
  pub some : 1 ≤ length zs
  pub room : limit P ≤ length ws

-- what is asked before a walk goes forward to t
pub record Goes (P : Plan) (zs : List ℤ) (g : Shape) (w : Walk) (t : ℕ) (ws : List ℕ) : Type 0 where
  pub space : Workspace P zs g ws
  pub at : At P zs w ws
  pub from : w.time ≤ t
  pub most : t ≤ length zs

-- the walk is at t, over the layers saved in T', and no word above the stack is changed
pub record Walked (P : Plan) (zs : List ℤ) (t : ℕ) (T' : List Saved) (ws ws' : List ℕ) (r : Walk) : Type 0 where
  pub at : At P zs r ws'
  pub stack : Stack P zs r.count T' ws'
  pub time : r.time ≡ t
  pub inside : Inside 0 (limit P) ws ws'

-- the walk is at the first reading, over no layer saved, whatever the table has
abbrev pub Begun : Plan → List ℤ → List ℕ → List ℕ → Walk → Type 0
Begun P zs ws ws' r = (T : List Saved) → length T ≡ most_slots → Walked P zs 1 T ws ws' r

-- the walk is at t, and no word from the stack of n layers on is changed
pub record Reached (P : Plan) (zs : List ℤ) (t n : ℕ) (ws ws' : List ℕ) (r : Walk) : Type 0 where
  pub at : At P zs r ws'
  pub count : r.count ≡ n
  pub time : r.time ≡ t
  pub inside : Inside 0 (stack_at P) ws ws'

-- ---- the table alone

-- of n entries r are left: those below the top ones that are later than t
pub record Dropped (T : List Saved) (n t r : ℕ) : Type 0 where
  pub count : r ≤ n
  pub top : 0 < r → time_of T (r - 1) ≤ t

-- ---- steps of a walk

-- the walk starts again from the top one of n entries, or where there is none from the first reading
pub record Restarted (P : Plan) (zs : List ℤ) (n : ℕ) (T : List Saved) (ws ws' : List ℕ) (r : Walk) : Type 0 where
  pub at : At P zs r ws'
  pub count : r.count ≡ n
  pub first : n ≡ 0 → r.time ≡ 1
  pub loaded : 0 < n → r.time ≡ time_of T (n - 1)
  pub inside : Inside 0 (stack_at P) ws ws'

-- what is asked before the next stop is chosen
pub record Stops (P : Plan) (g : Shape) (w : Walk) (t : ℕ) (T : List Saved) (ws : List ℕ) : Type 0 where
  pub checked : Checked P
  pub shape : ShapeOf P g
  pub row : Row ws w.cur (used_at P w.time * P.states) g.grid.levels
  pub place : w.cur + used_at P w.time * P.states * (4 * g.grid.levels) ≤ place_most
  pub size : length T ≡ most_slots
  pub few : w.count ≤ most_slots
  pub top : off_of P T w.count ≤ limit_cell * (g.states * g.grid.levels)
  pub before : w.time < t
  pub most : t ≤ 4096
