-- What the layers minimise, of a segmentation: its rank, which is its cost and its number of changes. Who comes first by ranks and then in the earlier
-- order comes first. Assumes nothing.
use Rattle.std.specs.Prelude.{◌≡◌, refl, ◌⊎◌, List, ◌≤◌, ℤ, length}
use Rattle.std.proofs.Common.{sym, ◌∙◌, ap, subst, inl, inr, arith}
use Rattle.std.proofs.Math.Decide.{ℕ_discrete}
use Rattle.plan.specs.declared.Plan.{Plan}
use Rattle.model.specs.Segmentation.{Seg, first, next, readings, Lower}
use Rattle.model.specs.Model.{cost, change_count, AllowedWhole, earlier_order, order, First}
use Rattle.model.proofs.Grid.{pos_lower}
use Rattle.model.specs.Cost.{Cost, ◌⊕◌, Below, ◌≼◌, cost_of, value}
use Rattle.model.proofs.Cost.{≼_refl, value_mono}
use Rattle.model.specs.Rank.{first_cost, rank, step_cost}

pub rank_is : (P : Plan) (zs : List ℤ) (g : Seg) → rank P zs g ≡ (cost P zs g, change_count P g)
unfolding rank cost change_count first_cost step_cost cost_of ◌⊕◌
rank_is P zs (first s m) = refl
rank_is P zs (next g e m) = ap (λ x. x ⊕ step_cost P zs (readings g) e m) (rank_is P zs g)

pub rank_value : (P : Plan) (zs : List ℤ) (g : Seg) → value (rank P zs g) ≡ cost P zs g
unfolding value
rank_value P zs g = ap value (rank_is P zs g)

pub first_by_rank : (P : Plan) (zs : List ℤ) (g : Seg) → AllowedWhole P (length zs) g
    → ((g' : Seg) → AllowedWhole P (length zs) g' → rank P zs g ≼ rank P zs g')
    → ((g' : Seg) → AllowedWhole P (length zs) g' → rank P zs g' ≼ rank P zs g → (g ≡ g') ⊎ Lower (earlier_order P g) (earlier_order P g')) → First P zs g
unfolding order
first_by_rank P zs g a cheapest before = record {
  allowed = a;
  cheapest = λ g' a'. rw (← rank_value P zs g, ← rank_value P zs g') (value_mono (cheapest g' a'));
  before = λ g' a' e. by_changes g' a' e (few g' a' e) (ℕ_discrete (change_count P g) (change_count P g'));
}
  where
    -- of equal cost, none has fewer changes
    few : (g' : Seg) → AllowedWhole P (length zs) g' → cost P zs g ≡ cost P zs g' → change_count P g ≤ change_count P g'
    few g' a' e = go (rw (rank_is P zs g, rank_is P zs g') at (cheapest g' a')).le
      where
        go : Below (cost P zs g, change_count P g) (cost P zs g', change_count P g') → change_count P g ≤ change_count P g'
        go (inl h) = absurd (omega arith)
        go (inr (_, h)) = h

    tied : (g' : Seg) → change_count P g ≡ change_count P g' → (g ≡ g') ⊎ Lower (earlier_order P g) (earlier_order P g') → (g ≡ g') ⊎ Lower (order P g) (order P g')
    tied g' k (inl h) = inl h
    tied g' k (inr h) = inr (inr (cc, h))

    by_changes : (g' : Seg) → AllowedWhole P (length zs) g' → cost P zs g ≡ cost P zs g' → change_count P g ≤ change_count P g' → Dec (change_count P g ≡ change_count P g')
        → (g ≡ g') ⊎ Lower (order P g) (order P g')
    by_changes g' a' e h (yes k) =
        let r : rank P zs g' ≡ rank P zs g = rank_is P zs g' ∙ (λ i. (sym e i, sym k i)) ∙ sym (rank_is P zs g) in
        tied g' k (before g' a' (subst (λ (x : Cost). rank P zs g' ≼ x) r (≼_refl (rank P zs g'))))
    by_changes g' a' e h (no k) = inr (inl (pos_lower (change_count P g) (change_count P g') (omega arith)))
