-- The number of an edge and of a label, written and read; and the list that has those of a plan. Assumes nothing.
use Rattle.std.specs.Prelude.{◌≡◌, List, [], ◌∷◌, ◌++◌, ℕ, zero, suc, ◌+◌, ◌*◌, ◌/◌, ◌%◌, ◌<◌, eqb, length, get_or}
use Rattle.std.proofs.Common.{◌∙◌}
use Rattle.integers.specs.Pick.{pick}
use Rattle.plan.specs.declared.Kind.{Kind}
use Rattle.plan.specs.declared.Kind.TheVariants.{Stay, Any, Up, Down, Abs}
use Rattle.plan.specs.declared.Edge.{Edge}
use Rattle.plan.specs.declared.Label.{Label}
use Rattle.plan.specs.declared.Plan.{Plan}
use Rattle.plan.specs.Build.{kind_number, gap_of}
use Rattle.model.specs.Model.{edge_at, label_at}

-- the kind with this number, at this gap; stay where no kind has it
abbrev pub kind_with : ℕ → ℕ → Kind
kind_with k g =
    pick (eqb k 0) Stay (pick (eqb k 1) Any (pick (eqb k 2) (Up g) (pick (eqb k 3) (Down g) (pick (eqb k 4) (Abs g) Stay))))

-- the number of an edge, and of a label
abbrev pub edge_number : Edge → ℕ
edge_number e = e.from + 256 * e.to + 65536 * e.class + 16777216 * kind_number e.kind + 4294967296 * gap_of e.kind

abbrev pub label_number : Label → ℕ
label_number l = l.p + 65536 * l.q + 4294967296 * l.c

-- the edge with this number
unfoldable pub edge_in : ℕ → Edge
edge_in w = record { from = w % 256; to = w / 256 % 256; kind = kind_with (w / 16777216 % 256) (w / 4294967296 % 65536); class = w / 65536 % 256 }

-- the label with this number
unfoldable pub label_in : ℕ → Label
label_in w = record { p = w % 65536; q = w / 65536 % 65536; c = w / 4294967296 % 256 }

-- the first n edges of a plan stand at the front of a list of 98
pub record EdgesFrom (P : Plan) (n : ℕ) (code : List ℕ) : Type 0 where
  pub size : length code ≡ 98
  pub edges : (i : ℕ) → i < n → edge_in (get_or code i 0) ≡ edge_at P i

-- and then its first n labels
pub record LabelsFrom (P : Plan) (n : ℕ) (code : List ℕ) : Type 0 where
  pub front : EdgesFrom P 32 code
  pub labels : (i : ℕ) → i < n → label_in (get_or code (32 + i) 0) ≡ label_at P i

-- the edges and labels of a plan, and how many there are
pub record Coded (P : Plan) (code : List ℕ) : Type 0 where
  pub front : EdgesFrom P 32 code
  pub labels : (i : ℕ) → i < 64 → label_in (get_or code (32 + i) 0) ≡ label_at P i
  pub edge_count : get_or code 96 0 ≡ P.edgecount
  pub label_count : get_or code 97 0 ≡ P.labelcount

-- f i, f (i + 1), .., n of them
unfoldable pub listed : (ℕ → ℕ) → ℕ → ℕ → List ℕ
listed f i zero = []
listed f i (suc n) = f i ∷ listed f (i + 1) n

-- the list of a plan: the numbers of its 32 edges, then of its 64 labels, then the two counts
abbrev pub code_of : Plan → List ℕ
code_of P = (listed (λ (i : ℕ). edge_number (edge_at P i)) 0 32 ++ listed (λ (i : ℕ). label_number (label_at P i)) 0 64) ++ (P.edgecount ∷ P.labelcount ∷ [])

-- the numbers of the first n edges and of the first m labels stand in the list
pub record Numbered (P : Plan) (n m : ℕ) (code : List ℕ) : Type 0 where
  pub edge : (i : ℕ) → i < n → get_or code i 0 ≡ edge_number (edge_at P i)
  pub label : (i : ℕ) → i < m → get_or code (32 + i) 0 ≡ label_number (label_at P i)

-- the list is the plan's, and reads as its edges and labels
pub record Written (P : Plan) (code : List ℕ) : Type 0 where
  pub is : code ≡ code_of P
  pub coded : Coded P code

-- what is read of a list that has a plan's edges and labels
pub edge_got : (P : Plan) {code : List ℕ} (i : ℕ) (e : Edge) → Coded P code → i < 32 → e ≡ edge_in (get_or code i 0) → e ≡ edge_at P i
edge_got P i e h g q = q ∙ h.front.edges i g

pub label_got : (P : Plan) {code : List ℕ} (i : ℕ) (l : Label) → Coded P code → i < 64 → l ≡ label_in (get_or code (32 + i) 0) → l ≡ label_at P i
label_got P i l h g q = q ∙ h.labels i g
