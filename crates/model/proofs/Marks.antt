-- A label's two counts, of changes and of changes of the kind asked for, as one number, its marks: all that has to be kept of an open label. No definition
-- that a public contract cites knows of it: that the rules of labels say the same of it is proved here. Assumes nothing.
use Rattle.std.specs.Prelude.{◌≡◌, ◌⊎◌, Bool, cond, ℕ, ◌+◌, ◌≤◌, eqb}
use Rattle.std.proofs.Math.Path.{refl}
use Rattle.std.proofs.Math.Logic.{inl, inr}
use Rattle.std.proofs.Math.Bool.{true, false}
use native.Mathlib.Omega.{arith}
use Rattle.std.proofs.Math.Decide.{ℕ_discrete}
use Rattle.std.proofs.Math.Dec.{leb}
use Rattle.std.proofs.Common.{eq-eqb, ne_eqb}
use Rattle.plan.specs.declared.Plan.{Plan}
use Rattle.plan.specs.declared.Label.{Label}
use Rattle.plan.specs.declared.Kind.{Kind}
use Rattle.plan.specs.declared.Kind.TheVariants.{Stay, Any, Up, Down, Abs}
use Rattle.model.specs.Segmentation.{Seg, first, next, readings}
use Rattle.model.specs.Model.{label_at, edge_at, within, count_if, change_of, up_of, down_of, need, asked_of, tally, changes, asked, Exactly, AtMost, HoldsAt, KeepsLabels}
use Rattle.model.specs.Marks.{MarksHold, MarksHoldAt, mark_of, marks}

-- ---- one edge

kind_low : (k : Kind) → (change_of k ≤ 1) × (up_of k ≤ change_of k) × (down_of k ≤ change_of k)
unfolding change_of up_of down_of
kind_low Stay = (omega arith, omega arith, omega arith)
kind_low Any = (omega arith, omega arith, omega arith)
kind_low (Up gap) = (omega arith, omega arith, omega arith)
kind_low (Down gap) = (omega arith, omega arith, omega arith)
kind_low (Abs gap) = (omega arith, omega arith, omega arith)

asked_low : (l : Label) (k : Kind) → asked_of l k ≤ change_of k
unfolding asked_of
asked_low l k = go (leb l.c 7) (eqb l.c 8)
  where
    go : (a b : Bool) → cond a (change_of k) (cond b (up_of k) (down_of k)) ≤ change_of k
    go true b = omega arith
    go false true = (kind_low k).1
    go false false = (kind_low k).2

-- mark and asked change make two for every change
mark_twice : (l : Label) (k : Kind) → mark_of l k + asked_of l k ≡ change_of k + change_of k
unfolding mark_of
mark_twice l k = go (ℕ_discrete (asked_of l k) (change_of k))
  where
    go : Dec (asked_of l k ≡ change_of k) → cond (eqb (asked_of l k) (change_of k)) (change_of k) 2 + asked_of l k ≡ change_of k + change_of k
    go (yes e) = rw (eq-eqb (asked_of l k) (change_of k) e) (omega arith)
    go (no e) = rw (ne_eqb (asked_of l k) (change_of k) e) (omega (arith, e, asked_low l k, (kind_low k).0))

pub mark_low : (l : Label) (k : Kind) → mark_of l k ≤ 2
mark_low l k = omega (arith, mark_twice l k, (kind_low k).0)

-- ---- all edges so far

module _ (P : Plan) (l : Label) where
  marks_twice : (g : Seg) → marks P l g + asked P l g ≡ changes P l g + changes P l g
  unfolding tally count_if
  marks_twice (first s m) = refl
  marks_twice (next g e m) = go (within l.p l.q (readings g)) (marks_twice g)
    where
      x : Kind
      x = (edge_at P e).kind

      go : (b : Bool) → marks P l g + asked P l g ≡ changes P l g + changes P l g
          → marks P l g + count_if b (mark_of l x) + (asked P l g + count_if b (asked_of l x)) ≡ changes P l g + count_if b (change_of x) + (changes P l g + count_if b (change_of x))
      go true h = omega (arith, mark_twice l x)
      go false h = omega arith

  asked_most : (g : Seg) → asked P l g ≤ changes P l g
  unfolding tally count_if
  asked_most (first s m) = omega arith
  asked_most (next g e m) = go (within l.p l.q (readings g)) (asked_most g)
    where
      x : Kind
      x = (edge_at P e).kind

      go : (b : Bool) → asked P l g ≤ changes P l g → asked P l g + count_if b (asked_of l x) ≤ changes P l g + count_if b (change_of x)
      go true h = omega (arith, asked_low l x)
      go false h = omega arith

  -- up to 7 every change is of the kind asked for
  asked_all : leb l.c 7 ≡ true → (g : Seg) → asked P l g ≡ changes P l g
  unfolding tally asked_of
  asked_all h (first s m) = refl
  asked_all h (next g e m) = rw (asked_all h g, h) refl

  -- a label asks for any change, or for one alone
  any_or_one : (g : Seg) → (asked P l g ≡ changes P l g) ⊎ (need l ≡ 1)
  unfolding need
  any_or_one g = go (leb l.c 7) refl
    where
      go : (b : Bool) → leb l.c 7 ≡ b → (asked P l g ≡ changes P l g) ⊎ (cond b l.c 1 ≡ 1)
      go true e = inl (asked_all e g)
      go false e = inr refl

-- ---- the marks say what the two counts say

module _ (P : Plan) (l : Label) (g : Seg) where
  marks_exactly : marks P l g ≡ need l → Exactly l (changes P l g) (asked P l g)
  marks_exactly h = go (any_or_one P l g)
    where
      go : (asked P l g ≡ changes P l g) ⊎ (need l ≡ 1) → Exactly l (changes P l g) (asked P l g)
      go (inl e) = (omega (arith, marks_twice P l g), omega (arith, marks_twice P l g))
      go (inr e) = (omega (arith, marks_twice P l g, asked_most P l g), omega (arith, marks_twice P l g, asked_most P l g))

  exactly_marks : Exactly l (changes P l g) (asked P l g) → marks P l g ≡ need l
  exactly_marks (a, b) = omega (arith, marks_twice P l g)

  marks_most : marks P l g ≤ need l → AtMost l (changes P l g) (asked P l g)
  marks_most h = go (any_or_one P l g)
    where
      go : (asked P l g ≡ changes P l g) ⊎ (need l ≡ 1) → AtMost l (changes P l g) (asked P l g)
      go (inl e) = (omega (arith, marks_twice P l g), e)
      go (inr e) = (omega (arith, marks_twice P l g, asked_most P l g), omega (arith, marks_twice P l g, asked_most P l g))

  most_marks : AtMost l (changes P l g) (asked P l g) → marks P l g ≤ need l
  most_marks (a, b) = omega (arith, marks_twice P l g)

  holds_marks : (n : ℕ) → HoldsAt l n (changes P l g) (asked P l g) → MarksHoldAt l n (marks P l g)
  holds_marks n h = record { closed = λ a. exactly_marks (h.closed a); open' = λ a b. most_marks (h.open' a b) }

  marks_hold : (n : ℕ) → MarksHoldAt l n (marks P l g) → HoldsAt l n (changes P l g) (asked P l g)
  marks_hold n h = record { closed = λ a. marks_exactly (h.closed a); open' = λ a b. marks_most (h.open' a b) }

pub rules_marks : (P : Plan) (g : Seg) → KeepsLabels P g → MarksHold P g
unfolding KeepsLabels MarksHold
rules_marks P g h i hi = holds_marks P (label_at P i) g (readings g) (h i hi)

pub marks_rules : (P : Plan) (g : Seg) → MarksHold P g → KeepsLabels P g
unfolding KeepsLabels MarksHold
marks_rules P g h i hi = marks_hold P (label_at P i) g (readings g) (h i hi)
