-- The plan that comes back from its file: the counted entries, and zeros past them.
use Rattle.std.specs.Prelude.{ℕ, zero, suc}
use Rattle.plan.specs.Build.{blank, with_edge, with_label, closed}
use Rattle.plan.specs.Calls.{edge_at, label_at}
use Rattle.plan.specs.declared.Plan.{Plan}

-- the plan with its first n edges and no label; with its edges and its first n labels
unfoldable pub edges_made : Plan → ℕ → Plan
edges_made p zero = blank p.lo p.hi p.states p.start p.end
edges_made p (suc n) = with_edge (edges_made p n) (edge_at p n)

unfoldable pub labels_made : Plan → ℕ → Plan
labels_made p zero = edges_made p p.edgecount
labels_made p (suc n) = with_label (labels_made p n) (label_at p n)

-- the plan, sealed, with zeros past its counts
abbrev pub cleared : Plan → Plan
cleared p = closed (labels_made p p.labelcount)
