-- The next layer, list by list. Assumes nothing.
use Rattle.std.specs.Prelude.{◌≡◌, ◌⊎◌, List, ◌&&◌, cond, eqb, ℕ, suc, ◌+◌, ◌*◌, ◌≤◌, ◌<◌, ℤ, length, get_or}
use Rattle.std.proofs.Math.Option.{Option}
use Rattle.plan.specs.declared.Plan.{Plan}
use Rattle.plan.specs.declared.Label.{Label}
use Rattle.model.specs.Model.{width, in_set}
use Rattle.model.specs.Labels.{label_on, counts}
use Rattle.quadratic.specs.Quad.{none}
use Rattle.model.specs.Held.{Table}
use Rattle.model.specs.Tables.{Ready}
use Rattle.curve.specs.Curve.{Curve}
use Rattle.edges.specs.Edge.{Off}
use Rattle.layer.specs.declared.Shape.{Shape}
use Rattle.layer.specs.Layer.{temp_words, reading_most, count_most, base_of, place_most, list_at, layer_words, ShapeOf, LayerOf, Sources}

-- a plan and a record that no number before 14 refuses, and their shape
pub record Task (P : Plan) (zs : List ℤ) (g : Shape) : Type 0 where
  pub ready : Ready P zs
  pub shape : ShapeOf P g

-- every word outside the list at dst and the three temporary lists at free is as before
pub record Beside (dst free L : ℕ) (ws ws' : List ℕ) : Type 0 where
  pub size : length ws' ≡ length ws
  pub word : (i : ℕ) → Off dst L i → (i < free) ⊎ (free + temp_words L ≤ i) → get_or ws' i 0 ≡ get_or ws i 0

-- what is asked before list (k, s) of the next layer is made at dst, from the layers at cur and moved
pub record NextReady (P : Plan) (zs : List ℤ) (o : Option Label) (t cur moved dst free k s : ℕ) (g : Shape) (ws : List ℕ) : Type 0 where
  pub task : Task P zs g
  pub on : o ≡ label_on P t
  pub more : t < length zs
  pub tables : ℕ → Table
  pub sources : Sources P t tables ws cur moved
  pub count : k < counts
  pub state : s < P.states
  pub below : cur + layer_words P ≤ free
  pub moved_below : moved + layer_words P ≤ free
  pub under : dst + 4 * width P ≤ free
  pub room : free + temp_words (width P) ≤ length ws
  pub place : free ≤ place_most

-- list (k, s) of a layer of one reading more than t, with the numbers H, stands at dst
pub record NextList (P : Plan) (t : ℕ) (H : Table) (dst free k s : ℕ) (ws ws' : List ℕ) : Type 0 where
  pub beside : Beside dst free (width P) ws ws'
  pub list : Curve (suc t * count_most) (suc t * reading_most) (base_of P) (width P) ws' dst (H k s)

-- what the first reading's loss is added to
unfoldable pub first_cost : Plan → ℕ → ℕ → ℕ
first_cost P k s = cond (in_set P.start s && eqb k 0) 0 none

-- what is asked before list (k, s) of the first layer is made at dst
pub record FirstReady (P : Plan) (zs : List ℤ) (dst free k s : ℕ) (g : Shape) (ws : List ℕ) : Type 0 where
  pub task : Task P zs g
  pub more : 0 < length zs
  pub state : s < P.states
  pub under : dst + 4 * width P ≤ free
  pub room : free + temp_words (width P) ≤ length ws

-- ---- many lists

-- the lists with Q of the layer at o are those of t readings with the numbers H, and nothing else but the temporary lists is changed
pub record Lists (Q : ℕ → ℕ → Type 0) (P : Plan) (t : ℕ) (H : Table) (o free : ℕ) (ws ws' : List ℕ) : Type 0 where
  pub size : length ws' ≡ length ws
  pub word : (i : ℕ) → ((k s : ℕ) → Q k s → Off (list_at o P.states (width P) k s) (width P) i) → (i < free) ⊎ (free + temp_words (width P) ≤ i) → get_or ws' i 0 ≡ get_or ws i 0
  pub list : (k s : ℕ) → Q k s → Curve (t * count_most) (t * reading_most) (base_of P) (width P) ws' (list_at o P.states (width P) k s) (H k s)

-- one list, the first n of a count, the first n counts
abbrev pub One : ℕ → ℕ → ℕ → ℕ → Type 0
One k s k' s' = (k' ≡ k) × (s' ≡ s)

abbrev pub OfCount : ℕ → ℕ → ℕ → ℕ → Type 0
OfCount k n k' s' = (k' ≡ k) × (s' < n)

abbrev pub Counts : Plan → ℕ → ℕ → ℕ → Type 0
Counts P n k s = (k < n) × (s < P.states)

-- the layer at o is apart from the one at next and from what is free
pub record Aside (P : Plan) (o next free : ℕ) : Type 0 where
  pub apart : (o + layer_words P ≤ next) ⊎ (next + layer_words P ≤ o)
  pub below : o + layer_words P ≤ free

-- what is asked before a step from layers of t readings, at cur for stays and at moved for changes, to one of t + 1 readings at next
pub record StepReady (P : Plan) (zs : List ℤ) (t cur moved next free : ℕ) (g : Shape) (ws : List ℕ) : Type 0 where
  pub task : Task P zs g
  pub more : t < length zs
  pub tables : ℕ → Table
  pub sources : Sources P t tables ws cur moved
  pub stays : Aside P cur next free
  pub changes : Aside P moved next free
  pub under : next + layer_words P ≤ free
  pub room : free + temp_words (width P) ≤ length ws
  pub place : free ≤ place_most

-- the layer of t readings with the numbers H stands at o, and no word outside it and the temporary lists is changed
pub record Stepped (P : Plan) (t : ℕ) (H : Table) (o free : ℕ) (ws ws' : List ℕ) : Type 0 where
  pub size : length ws' ≡ length ws
  pub word : (i : ℕ) → (i < o) ⊎ (o + layer_words P ≤ i) → (i < free) ⊎ (free + temp_words (width P) ≤ i) → get_or ws' i 0 ≡ get_or ws i 0
  pub layer : LayerOf P t H ws' o

-- what is asked before the first layer is made at o
pub record StartReady (P : Plan) (zs : List ℤ) (o free : ℕ) (g : Shape) (ws : List ℕ) : Type 0 where
  pub task : Task P zs g
  pub more : 0 < length zs
  pub under : o + layer_words P ≤ free
  pub room : free + temp_words (width P) ≤ length ws
  pub place : free ≤ place_most
