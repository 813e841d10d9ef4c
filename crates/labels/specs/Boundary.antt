-- What code knows of a boundary: the label that has it, if any. Assumes nothing.
use Rattle.std.specs.Prelude.{◌≡◌, refl, Bool, true, ◌&&◌, ℕ, ◌<◌, eqb, Option as Maybe, Some, None}
use Rattle.std.proofs.Math.Option.{Option, none, some}
use Rattle.plan.specs.declared.Plan.{Plan}
use Rattle.plan.specs.declared.Label.{Label}
use Rattle.plan.specs.declared.Edge.{Edge}
use Rattle.model.specs.Model.{edge_at}
use Rattle.model.specs.Labels.{label_on, count_after, count_before, label_test, used}
use Rattle.model.proofs.Labels.{led_used}
use Rattle.model.specs.Held.{from_count, leads_at}

-- the label, in the model's own option
abbrev pub label_of : Maybe Label → Option Label
label_of None = none
label_of (Some l) = some l

-- the edge e may lead at boundary t, under the label o, to state s with count k
unfoldable pub leads_from : Option Label → ℕ → Edge → ℕ → ℕ → Bool
leads_from o t e k s =
    eqb s e.to && (label_test o t e.kind (count_before o t e.kind k) && eqb k (count_after o t e.kind (count_before o t e.kind k)))

-- then the count before is one that is used
pub leads_from_used : (o : Option Label) (t : ℕ) (e : Edge) (k s : ℕ) → leads_from o t e k s ≡ true → count_before o t e.kind k < used o
unfolding leads_from
leads_from_used o t e k s h = led_used o t e.kind k (eqb s e.to) (eqb k (count_after o t e.kind (count_before o t e.kind k))) h

pub leads_at_lem : (P : Plan) (t e k s : ℕ) → leads_from (label_on P t) t (edge_at P e) k s ≡ leads_at P t e k s
unfolding leads_from leads_at from_count
leads_at_lem P t e k s = refl
