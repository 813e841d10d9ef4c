-- Plans as the calls make them: sequences of calls, and the calls that would build a given plan.
use Rattle.std.specs.Prelude.{ℕ, zero, suc, ◌<◌, ◌≡◌, ℤ, get_or}
use Rattle.plan.specs.declared.Edge.{Edge}
use Rattle.plan.specs.declared.Label.{Label}
use Rattle.plan.specs.declared.Plan.{Plan}
use Rattle.plan.specs.Build.{kind_number, gap_of, no_edge, no_label, done, open_plan, add_edge, add_label, seal_plan}
use Rattle.plan.specs.Build.{Answer, Built, Done, Refused}

abbrev pub edge_at : Plan → ℕ → Edge
edge_at p i = get_or p.edges i no_edge

abbrev pub label_at : Plan → ℕ → Label
label_at p i = get_or p.labels i no_label

-- a call on an open plan
pub data Call : Type 0 where
  edge : ℕ → ℕ → ℕ → ℕ → ℕ → Call
  label : ℕ → ℕ → ℕ → Call
  seal : Call

abbrev pub call : Plan → Call → Built
call p (edge f t k g c) = add_edge p f t k g c
call p (label a b c) = add_label p a b c
call p seal = seal_plan p

-- p comes of an opening and of calls none of which was refused
pub data Made : Plan → Type 0 where
  opened : (lo hi : ℤ) (s a b : ℕ) (p : Plan) → open_plan lo hi s a b ≡ done p → Made p
  called : (p q : Plan) (k : Call) → Made p → call p k ≡ done q → Made q

-- the calls that add an edge and a label, as read off them
abbrev pub edge_call : Edge → Call
edge_call e = edge e.from e.to (kind_number e.kind) (gap_of e.kind) e.class

abbrev pub label_call : Label → Call
label_call l = label l.p l.q l.c

-- a call after an answer: a refusal ends the building
abbrev pub after : Answer → Plan → Call → Built
after (Refused n) p k = record { answer = Refused n; plan = p }
after Done p k = call p k

abbrev pub and_then : Built → Call → Built
and_then b k = after b.answer b.plan k

-- building p call by call: the opening, its first i edges, all edges and its first j labels
unfoldable pub build_edges : Plan → ℕ → Built
build_edges p zero = open_plan p.lo p.hi p.states p.start p.end
build_edges p (suc i) = and_then (build_edges p i) (edge_call (edge_at p i))

unfoldable pub build_labels : Plan → ℕ → Built
build_labels p zero = build_edges p p.edgecount
build_labels p (suc j) = and_then (build_labels p j) (label_call (label_at p j))

abbrev pub build_again : Plan → Built
build_again p = build_labels p p.labelcount

-- equal but for entries past the counts, and whether sealed
pub record SameEntries (p q : Plan) : Type 0 where
  pub lo : p.lo ≡ q.lo
  pub hi : p.hi ≡ q.hi
  pub states : p.states ≡ q.states
  pub start : p.start ≡ q.start
  pub end : p.end ≡ q.end
  pub edgecount : p.edgecount ≡ q.edgecount
  pub labelcount : p.labelcount ≡ q.labelcount
  pub edges : (i : ℕ) → i < p.edgecount → edge_at p i ≡ edge_at q i
  pub labels : (i : ℕ) → i < p.labelcount → label_at p i ≡ label_at q i
