-- A label's two counts, of changes and of changes of the kind asked for, as one number, its marks: all that has to be kept of an open label. No definition
-- that a public contract cites knows of it: that the rules of labels say the same of it is proved here. Assumes nothing.
use Rattle.std.specs.Prelude.{◌≡◌, cond, ℕ, ◌≤◌, ◌<◌, eqb}
use Rattle.plan.specs.declared.Plan.{Plan}
use Rattle.plan.specs.declared.Label.{Label}
use Rattle.plan.specs.declared.Kind.{Kind}
use Rattle.model.specs.Segmentation.{Seg, readings}
use Rattle.model.specs.Model.{label_at, change_of, need, asked_of, tally}

-- a change of the kind asked for counts 1; one of another kind counts 2, more than a label that asks for a kind ever allows
unfoldable pub mark_of : Label → Kind → ℕ
mark_of l k = cond (eqb (asked_of l k) (change_of k)) (change_of k) 2

abbrev pub marks : Plan → Label → Seg → ℕ
marks P l g = tally (mark_of l) P l g

-- the rule of a label, after n readings with so many marks in it
pub record MarksHoldAt (l : Label) (n x : ℕ) : Type 0 where
  pub closed : l.q ≤ n → x ≡ need l
  pub open' : l.p < n → n < l.q → x ≤ need l

-- the rules of all labels hold exactly where they hold of the marks; both ways below
unfoldable pub MarksHold : Plan → Seg → Type 0
MarksHold P g = (i : ℕ) → i < P.labelcount → MarksHoldAt (label_at P i) (readings g) (marks P (label_at P i) g)
