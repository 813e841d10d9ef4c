-- The answer by layers is the listed one, on every plan, list of readings and question: both are first, and there is one first. Assumes nothing.
use Rattle.std.specs.Prelude.{◌≡◌, refl, List, Bool, true, false, cond, ℕ, eqb, ℤ, length}
use Rattle.std.proofs.Common.{sym, ◌∙◌, ap, eqb-true}
use Rattle.std.proofs.Math.Option.{Option, none, some}
use Rattle.plan.specs.declared.Plan.{Plan}
use Rattle.plan.specs.Build.{plan_number}
use Rattle.model.specs.Segmentation.{Seg}
use Rattle.model.specs.Model.{cost}
use Rattle.model.specs.Listed.{listed, priced, listed_answer, listed_cost}
use Rattle.model.specs.Refusals.{search_number, point_number}
use Rattle.model.specs.Result.{Question, whole, point, Result, refused, found_seg, found_cost, unless, result_of}
use Rattle.model.specs.Checked.{AcceptedPoint}
use Rattle.model.proofs.Checked.{accepted, accepted_point, built_search, built_point}
use Rattle.model.proofs.Order.{first_one}
use Rattle.model.proofs.Complete.{listed_first, listed_none, listed_least, listed_point_none, least_one}
use Rattle.model.specs.Opt.{point_cost}
use Rattle.model.proofs.Opt.{point_least, point_none}
use Rattle.model.specs.Answer.{answer}
use Rattle.model.proofs.Answer.{answer_right, none_right}
use Rattle.model.specs.Agree.{searched}

answer_listed_lem : (P : Plan) (zs : List ℤ) → search_number P (length zs) ≡ 0 → answer P zs ≡ listed_answer P zs
unfolding listed_answer
answer_listed_lem P zs h = go (answer P zs) (listed P zs) refl refl
  where
    go : (a : Option (ℕ × Seg)) (o : Option Seg) → answer P zs ≡ a → listed P zs ≡ o → a ≡ priced P zs o
    go none none p q = refl
    go none (some g) p q = absurd (none_right P zs (accepted P (length zs) h) p g (listed_first P zs (built_search P (length zs) h) g q).allowed)
    go (some (c, g)) none p q = absurd (listed_none P zs (built_search P (length zs) h) q g (answer_right P zs (accepted P (length zs) h) c g p).0.allowed)
    go (some (c, g)) (some g') p q =
        let (a, w) = answer_right P zs (accepted P (length zs) h) c g p in
        let e : g ≡ g' = first_one P zs g g' a (listed_first P zs (built_search P (length zs) h) g' q) in
        let v : c ≡ cost P zs g' = sym w ∙ ap (cost P zs) e in
        cc

point_listed : (P : Plan) (zs : List ℤ) (s : ℕ) (m : ℤ) → point_number P (length zs) s m ≡ 0 → point_cost P zs s m ≡ listed_cost P zs s m
point_listed P zs s m h = go (point_cost P zs s m) (listed_cost P zs s m) refl refl
  where
    built : plan_number P ≡ 0
    built = built_point P (length zs) s m h

    a : AcceptedPoint P (length zs) s m
    a = accepted_point P (length zs) s m h

    go : (x y : Option ℕ) → point_cost P zs s m ≡ x → listed_cost P zs s m ≡ y → x ≡ y
    go none none p q = refl
    go none (some d) p q =
        let (g, k, i, j, e) = (listed_least P zs built s m d q).met in
        absurd (point_none P zs a.plan a.some_readings s m p g k i j)
    go (some c) none p q =
        let (g, k, i, j, e) = (point_least P zs a.plan a.some_readings s m c p).met in
        absurd (listed_point_none P zs built s m q g k i j)
    go (some c) (some d) p q = ap some (least_one P zs (length zs) s m c d (point_least P zs a.plan a.some_readings s m c p) (listed_least P zs built s m d q))

unless_same : (n : ℕ) (r r' : Result) → (n ≡ 0 → r ≡ r') → unless n r ≡ unless n r'
unfolding unless
unless_same n r r' h = go (eqb n 0) refl
  where
    go : (b : Bool) → eqb n 0 ≡ b → cond b r (refused n) ≡ cond b r' (refused n)
    go true e = h (eqb-true n 0 e)
    go false e = refl

pub searched_right : (P : Plan) (zs : List ℤ) (q : Question) → searched P zs q ≡ result_of P zs q
unfolding searched result_of
searched_right P zs whole = unless_same (search_number P (length zs)) _ _ (λ h. ap (found_seg P) (answer_listed_lem P zs h))
searched_right P zs (point s m) = unless_same (point_number P (length zs) s m) _ _ (λ h. ap found_cost (point_listed P zs s m h))
