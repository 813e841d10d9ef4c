-- A refusal that is passed on, as the values of the answers. Assumes nothing.
use Rattle.std.specs.Prelude.{◌≡◌, ℕ, Result, Err, IsErrAnd}
use Rattle.plan.specs.declared.reasons.Refusal.{Refusal}
use Rattle.plan.specs.Refusals.{number_of}
use Rattle.plan.proofs.Passing.{passed_as}
use Rattle.search.specs.declared.Segmentation as Declared
use Rattle.search.specs.Told.{Refused, NoCost, found_told, cost_told}
use Rattle.search.specs.ToldCosts as F

module _ {B : Type 0} where
  pub found_passed : (r : Result Declared.Segmentation Refusal) (q : Result B Refusal) (x : Refusal) → q ≡ Err x → IsErrAnd r (λ (y : Refusal). y ≡ x) → found_told r ≡ Refused (number_of q)
  found_passed r q x e h = rw (passed_as r x h, e)

  pub cost_passed : (r : Result ℕ Refusal) (q : Result B Refusal) (x : Refusal) → q ≡ Err x → IsErrAnd r (λ (y : Refusal). y ≡ x) → cost_told r ≡ NoCost (number_of q)
  cost_passed r q x e h = rw (passed_as r x h, e)

  pub filled_passed : (r : Result ℕ Refusal) (q : Result B Refusal) (x : Refusal) → q ≡ Err x → IsErrAnd r (λ (y : Refusal). y ≡ x) → F.filled_told r ≡ F.Refused (number_of q)
  filled_passed r q x e h = rw (passed_as r x h, e)
