use Rattle.plan.specs.Build.{edge_of}
use mathlib.Core.Path.{◌∙◌, sym}
use borrow.Author.Tests.{le-ltb, lt-ltb, le-leb, lt-leb}
use Rattle.plan.proofs.edge_of.Goals as goal

pub returns-then-states-from : goal.returns-then-states-from
unfolding edge_of
returns-then-states-from c = simp (le-ltb _ _ c.if-states-from.true)

pub returns-then-states-to : goal.returns-then-states-to
unfolding edge_of
returns-then-states-to c = simp (lt-ltb _ _ c.if-states-from.false, le-ltb _ _ c.if-states-to.true)

pub returns-then-class-gt-MAX_CLASS : goal.returns-then-class-gt-MAX_CLASS
unfolding edge_of
returns-then-class-gt-MAX_CLASS c = simp (lt-ltb _ _ c.if-states-from.false, lt-ltb _ _ c.if-states-to.false, lt-leb _ _ c.if-class-gt-MAX_CLASS.true)

pub returns-in_err-kind : goal.returns-in_err-kind
unfolding edge_of
returns-in_err-kind c =
    simp (lt-ltb _ _ c.if-states-from.false, lt-ltb _ _ c.if-states-to.false, le-leb _ _ c.if-class-gt-MAX_CLASS.false, c.from_residual.ensures, sym c.kind_of.ensures ∙ c.in_err-kind.was)

pub returns : goal.returns
unfolding edge_of
returns c =
    simp (lt-ltb _ _ c.if-states-from.false, lt-ltb _ _ c.if-states-to.false, le-leb _ _ c.if-class-gt-MAX_CLASS.false, sym c.kind_of.ensures ∙ c.in_ok-kind.was)
