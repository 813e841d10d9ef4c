-- The runs as code makes them: walking back over the layers from the last reading, with no segmentation in between. Code shows each step by
-- `walk_step_lem` (in held numbers `walk_on` of `Ends`), and has the runs by `walk_runs` and `runs_from_lem`. Assumes nothing.
use Rattle.std.specs.Prelude.{◌≡◌, refl, List, ◌∷◌, reverse, Bool, true, false, cond, ℕ, zero, suc, ◌≤◌, ℤ, length}
use Rattle.std.proofs.Common.{sym, ap, arith}
use Rattle.std.proofs.Math.Option.{Option, none, some}
use Rattle.plan.specs.declared.Plan.{Plan}
use Rattle.model.specs.Segmentation.{Seg, readings}
use Rattle.model.specs.Cost.{Cost}
use Rattle.model.specs.Model.{edge_at}
use Rattle.model.specs.Run.{run, joins, runs}
use Rattle.model.specs.Nodes.{Node}
use Rattle.model.specs.Opt.{opt, before}
use Rattle.model.specs.Answer.{way, trace_step, trace}
use Rattle.model.proofs.Answer.{trace_right, way_is, hit_lowest, some_hit}
unfoldable pub use Rattle.model.specs.Answer.{way_back}
unfoldable pub use Rattle.model.specs.Run.{back_from}
pub use Rattle.model.proofs.RunLaws.{few_runs}
use Rattle.model.specs.Runs.{walk_back, walk_step}

pub runs_from_lem : (P : Plan) (g : Seg) → runs P g ≡ reverse (back_from P (readings g) g)
unfolding runs
runs_from_lem P g = refl

pub walk_runs : (P : Plan) (zs : List ℤ) (n t : ℕ) (v : Node) (c : Cost) → opt P zs (suc t) v ≡ some c → walk_back P zs n (suc t) v ≡ back_from P n (trace P zs (suc t) v)
unfolding walk_back back_from trace
walk_runs P zs n zero v c p = refl
walk_runs P zs n (suc t) v c p = go (way_back P zs t v) (sym (way_is P zs t v c p)) (λ k u d. walk_runs P zs k t u d)
  where
    go : (o : Option (ℕ × ℕ)) → way P zs t v c ≡ o
        → ((k : ℕ) (u : Node) (d : Cost) → opt P zs (suc t) u ≡ some d → walk_back P zs k (suc t) u ≡ back_from P k (trace P zs (suc t) u))
        → walk_step P n t v (λ k u. walk_back P zs k (suc t) u) o ≡ back_from P n (trace_step P t v (trace P zs (suc t)) o)
    go none h ih = absurd (some_hit P zs t v c p h)
    go (some x) h ih =
        let u = before P (suc t) v x.0 x.1 in
        let (d, k, l) = hit_lowest P zs t v c x p h in
        let (r, w) = trace_right P zs t u d k in
        let s : v.state ≡ (edge_at P x.0).to = ap (λ (w : Node). w.state) l.arc.at in
        at (joins (edge_at P x.0)) u r s (ih n u d k) (ih (suc t) u d k)
      where
        at : (b : Bool) (u : Node) → readings (trace P zs (suc t) u) ≡ suc t → v.state ≡ (edge_at P x.0).to
            → walk_back P zs n (suc t) u ≡ back_from P n (trace P zs (suc t) u) → walk_back P zs (suc t) (suc t) u ≡ back_from P (suc t) (trace P zs (suc t) u)
            → cond b (walk_back P zs n (suc t) u) (run (suc (suc t)) n v.state v.level x.0 ∷ walk_back P zs (suc t) (suc t) u)
            ≡ cond b (back_from P n (trace P zs (suc t) u)) (run (suc (readings (trace P zs (suc t) u))) n (edge_at P x.0).to v.level x.0 ∷ back_from P (readings (trace P zs (suc t) u)) (trace P zs (suc t) u))
        at true u r s h k = h
        at false u r s h k = rw (r, s, k) refl

pub walk_step_lem : (P : Plan) (zs : List ℤ) (n t : ℕ) (v : Node) (e j : ℕ) → way_back P zs t v ≡ some (e, j)
    → walk_back P zs n (suc (suc t)) v
    ≡ cond (joins (edge_at P e)) (walk_back P zs n (suc t) (before P (suc t) v e j)) (run (suc (suc t)) n v.state v.level e ∷ walk_back P zs (suc t) (suc t) (before P (suc t) v e j))
unfolding walk_back
walk_step_lem P zs n t v e j p = ap (walk_step P n t v (λ k u. walk_back P zs k (suc t) u)) p

-- there are no more runs than readings
pub walk_few : (P : Plan) (zs : List ℤ) (n t : ℕ) (v : Node) (c : Cost) → opt P zs (suc t) v ≡ some c → length (walk_back P zs n (suc t) v) ≤ suc t
walk_few P zs n t v c p = rw (walk_runs P zs n t v c p) (omega (arith, few_runs P n (trace P zs (suc t) v), (trace_right P zs t v c p).0))
