use Rattle.plan.specs.Build.{label_number}
use borrow.Author.Tests.{le-ltb, lt-ltb, le-leb, lt-leb, eq-eqb, ne_eqb}
use Rattle.plan.proofs.check_label.Goals as goal
use Rattle.plan.proofs.check_label.Goals.{then-l-eq0-via-then-l-eq0, then-l-eq0-via-else-l-eq0+then-l, then-l-eq0-via-else-l-eq0+else-l+then-l-gt-MAX_READINGS, then-l-eq0-via-else-l-eq0+else-l+else-l-gt-MAX_READINGS+then-l-gt-MAX_LABEL_C}

pub returns-then-n-ge-MAX_LABELS : goal.returns-then-n-ge-MAX_LABELS
unfolding label_number
returns-then-n-ge-MAX_LABELS c = simp (le-leb _ _ c.if-n-ge-MAX_LABELS.true)

pub returns-then-l-eq0 : goal.returns-then-l-eq0
unfolding label_number
returns-then-l-eq0 c =
    elim c.then-l-eq0.branch [
      | then-l-eq0-via-then-l-eq0 w ↦ simp (lt-leb _ _ c.if-n-ge-MAX_LABELS.false, eq-eqb _ _ w.if-l-eq0.true)
      | then-l-eq0-via-else-l-eq0+then-l w ↦ simp (lt-leb _ _ c.if-n-ge-MAX_LABELS.false, ne_eqb _ _ w.if-l-eq0.false, le-leb _ _ w.if-l.true)
      | then-l-eq0-via-else-l-eq0+else-l+then-l-gt-MAX_READINGS w ↦
          simp (lt-leb _ _ c.if-n-ge-MAX_LABELS.false, ne_eqb _ _ w.if-l-eq0.false, lt-leb _ _ w.if-l.false, lt-ltb _ _ w.if-l-gt-MAX_READINGS.true)
      | then-l-eq0-via-else-l-eq0+else-l+else-l-gt-MAX_READINGS+then-l-gt-MAX_LABEL_C w ↦
          simp (lt-leb _ _ c.if-n-ge-MAX_LABELS.false, ne_eqb _ _ w.if-l-eq0.false, lt-leb _ _ w.if-l.false, le-ltb _ _ w.if-l-gt-MAX_READINGS.false, lt-ltb _ _ w.if-l-gt-MAX_LABEL_C.true)
    ]

pub returns-then-n-eq0 : goal.returns-then-n-eq0
unfolding label_number
returns-then-n-eq0 c = simp (lt-leb _ _ c.if-n-ge-MAX_LABELS.false, ne_eqb _ _ c.if-l-eq0.false, lt-leb _ _ c.if-l.false, le-ltb _ _ c.if-l-gt-MAX_READINGS.false, le-ltb _ _ c.if-l-gt-MAX_LABEL_C.false, eq-eqb _ _ c.if-n-eq0.true)

pub returns-then-l-before : goal.returns-then-l-before
unfolding label_number
returns-then-l-before c = simp (lt-leb _ _ c.if-n-ge-MAX_LABELS.false, ne_eqb _ _ c.if-l-eq0.false, lt-leb _ _ c.if-l.false, le-ltb _ _ c.if-l-gt-MAX_READINGS.false, le-ltb _ _ c.if-l-gt-MAX_LABEL_C.false, ne_eqb _ _ c.if-n-eq0.false, lt-ltb _ _ c.if-l-before.true)

pub returns : goal.returns
unfolding label_number
returns c = simp (lt-leb _ _ c.if-n-ge-MAX_LABELS.false, ne_eqb _ _ c.if-l-eq0.false, lt-leb _ _ c.if-l.false, le-ltb _ _ c.if-l-gt-MAX_READINGS.false, le-ltb _ _ c.if-l-gt-MAX_LABEL_C.false, ne_eqb _ _ c.if-n-eq0.false, le-ltb _ _ c.if-l-before.false)
