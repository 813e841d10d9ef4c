-- The label at a boundary, looked up from the last one down. Assumes nothing.
use mathlib.Core.Path.{◌≡◌, refl, sym, ◌∙◌, ap}
use mathlib.Core.Option.{Option, none, some}
use mathlib.Core.Logic.{inr}
use mathlib.Core.Bool.{Bool, true, false, cond}
use Prim.Native.Nat.{ℕ, zero, suc, ◌-◌, ◌≤◌, ◌<◌}
use native.Mathlib.Omega.{arith}
use Rattle.plan.specs.declared.Plan.{Plan}
use Rattle.plan.specs.declared.Label.{Label}
use Rattle.model.specs.Model.{label_at, within}
use Rattle.model.specs.Checked.{Checked}
use Rattle.model.specs.Labels.{covering, label_on, used, used_at, counts}
use Rattle.model.proofs.Labels.{used_most, within_out}
use mathlib.Core.List.{List}
use lib.ListN.{get_or}
use Rattle.plan.specs.Build.{no_label}

pub cover_none : (P : Plan) (t i : ℕ) → i ≤ 0 → none ≡ covering P i t
unfolding covering
cover_none P t i h = let e : i ≡ 0 = omega arith in rw e refl

-- label i - 1 has boundary t, or those below it decide
module _ (P : Plan) (t i : ℕ) (h : 0 < i) (l : Label) (e : l ≡ label_at P (i - 1)) where
  step : covering P i t ≡ cond (within l.p l.q t) (some l) (covering P (i - 1) t)
  unfolding covering
  step = let q : i ≡ suc (i - 1) = omega arith in ap (λ (n : ℕ). covering P n t) q ∙ rw (← e) refl

  module _ (b : Bool) (w : b ≡ within l.p l.q t) where
    pub cover_here : b ≡ true → some l ≡ covering P i t
    cover_here p = sym (step ∙ rw (← w, p) refl)

    pub cover_not : b ≡ false → covering P i t ≡ covering P (i - 1) t
    cover_not p = step ∙ rw (← w, p) refl

-- a label that starts at t or before and does not have t: none below it has
closed_below : (P : Plan) (n t : ℕ) → ((j : ℕ) → j < n → (label_at P j).q ≤ t) → covering P n t ≡ none
unfolding covering
closed_below P zero t h = refl
closed_below P (suc n) t h = rw (within_out (label_at P n).p (label_at P n).q t (inr (h n (omega arith)))) (closed_below P n t (λ j k. h j (omega arith)))

pub cover_past : (P : Plan) (t i : ℕ) (l : Label) → Checked P → 0 < i → i ≤ P.labelcount → l ≡ label_at P (i - 1) → l.p ≤ t → none ≡ covering P (i - 1) t
cover_past P t i l ch h k e q = sym (closed_below P (i - 1) t (λ j g. omega (arith, ch.labels.apart j (i - 1) g (omega arith), ap (λ (x : Label). x.p) e)))

-- ---- how many counts are kept apart

pub used_here : (P : Plan) (t : ℕ) (o : Option Label) (n : ℕ) → o ≡ label_on P t → n ≡ used o → (n ≡ used_at P t) × (n ≤ counts)
used_here P t o n e h = let q : n ≡ used_at P t = h ∙ ap used e in (q, omega (arith, q, used_most (label_on P t)))

-- the label at a boundary by the list of labels alone: it is the plan's; no proof here asks for it
unfoldable pub covering_in : List Label → ℕ → ℕ → Option Label
covering_in ls zero t = none
covering_in ls (suc i) t = cond (within (get_or ls i no_label).p (get_or ls i no_label).q t) (some (get_or ls i no_label)) (covering_in ls i t)

pub covering_in_lem : (P : Plan) (n t : ℕ) → covering P n t ≡ covering_in P.labels n t
unfolding covering covering_in
covering_in_lem P zero t = refl
covering_in_lem P (suc n) t = rw (covering_in_lem P n t) refl
