-- What the plan check (`plan_number P ≡ 0`), and a search, a point, a table of costs for each number of changes or a moving window that no earlier
-- number refuses, ensure: the proofs of the model rest on these facts alone, and none is assumed. Assumes nothing.
use Rattle.std.specs.Prelude.{◌≡◌, Bool, List, [], ◌∷◌, ℕ, ◌≤◌, ◌<◌, eqb, ℤ}
use Rattle.std.proofs.Math.Bool.{true, false}
use Rattle.std.specs.Int.Signed.{le_z}
use Rattle.plan.specs.declared.Plan.{Plan}
use Rattle.plan.specs.Build.{pick, kind_number, gap_of}
use Rattle.model.specs.Model.{edge_at, label_at, width, in_set, on_grid}
unfoldable pub use Rattle.model.specs.Refusals.{search_number}

pub record GoodEdge (P : Plan) (e : ℕ) : Type 0 where
  pub from_below : (edge_at P e).from < P.states
  pub to_below : (edge_at P e).to < P.states
  pub class_low : (edge_at P e).class ≤ 15
  pub gap_low : gap_of (edge_at P e).kind ≤ 1023

pub record LabelsInOrder (P : Plan) : Type 0 where
  pub positive : (i : ℕ) → i < P.labelcount → 1 ≤ (label_at P i).p
  pub proper : (i : ℕ) → i < P.labelcount → (label_at P i).p < (label_at P i).q
  pub apart : (i j : ℕ) → i < j → j < P.labelcount → (label_at P i).q ≤ (label_at P j).p

pub record Checked (P : Plan) : Type 0 where
  pub grid : le_z P.lo P.hi ≡ true
  pub narrow : width P ≤ 1024
  pub some_states : 1 ≤ P.states
  pub few_states : P.states ≤ 8
  pub starts : (s : ℕ) → in_set P.start s ≡ true → s < P.states
  pub ends : (s : ℕ) → in_set P.end s ≡ true → s < P.states
  pub few_edges : P.edgecount ≤ 32
  pub few_labels : P.labelcount ≤ 64
  pub edge : (e : ℕ) → e < P.edgecount → GoodEdge P e
  pub distinct : (e e' : ℕ) → e < P.edgecount → e' < P.edgecount → (edge_at P e).from ≡ (edge_at P e').from → (edge_at P e).to ≡ (edge_at P e').to
      → kind_number (edge_at P e).kind ≡ kind_number (edge_at P e').kind → e ≡ e'
  pub labels : LabelsInOrder P
  pub low : (i : ℕ) → i < P.labelcount → (label_at P i).q ≤ 4096

-- ---- a search, a point, a table or a moving window that no number refuses

pub record Accepted (P : Plan) (n : ℕ) : Type 0 where
  pub plan : Checked P
  pub sealed : P.sealed ≡ true
  pub some_readings : 1 ≤ n
  pub few_readings : n ≤ 4096
  pub closed : (i : ℕ) → i < P.labelcount → (label_at P i).q ≤ n

pub record AcceptedPoint (P : Plan) (n s : ℕ) (m : ℤ) : Type 0 where
  pub plan : Checked P
  pub sealed : P.sealed ≡ true
  pub some_readings : 1 ≤ n
  pub few_readings : n ≤ 4096
  pub state : s < P.states
  pub level : on_grid P m ≡ true

pub record AcceptedWindow (P : Plan) (n w : ℕ) : Type 0 where
  pub plan : Checked P
  pub few_readings : n ≤ 65535
  pub inside : w ≤ n
  pub part : search_number P w ≡ 0

-- ---- the numbers of a refusal before a call looks

-- These numbers, and 0. A refusal that a ticket adds to a plan or to a call that searches joins the list; all else follows by computing. 16 is none of
-- them: it says that the call has looked.
abbrev pub early_numbers : List ℕ
early_numbers = 0 ∷ 4 ∷ 5 ∷ 6 ∷ 7 ∷ 8 ∷ 9 ∷ 10 ∷ 11 ∷ 12 ∷ 13 ∷ 18 ∷ 19 ∷ 20 ∷ []

abbrev pub is_in : ℕ → List ℕ → Bool
is_in n [] = false
is_in n (k ∷ ks) = pick (eqb n k) true (is_in n ks)

abbrev pub every : (ℕ → Bool) → List ℕ → Bool
every q [] = true
every q (k ∷ ks) = pick (q k) (every q ks) false

abbrev pub is_early : ℕ → Bool
is_early n = is_in n early_numbers

abbrev pub holds_early : (ℕ → Bool) → Bool
holds_early q = every q early_numbers
