-- The model as a graph: its nodes are (count in the open label, state, level), its walks the allowed segmentations. Assumes nothing.
use Rattle.std.specs.Prelude.{◌≡◌, ◌⊎◌, List, true, ℕ, suc, ◌≤◌, ◌<◌, ℤ, length}
use Rattle.std.proofs.Math.Path.{refl, ap, subst}
use Rattle.std.proofs.Common.{sym, ◌∙◌}
use Rattle.std.proofs.Math.Option.{Option, some}
use Rattle.plan.specs.declared.Plan.{Plan}
use Rattle.plan.specs.declared.Kind.{Kind}
use Rattle.model.specs.Cost.{Cost, ◌⊕◌, ◌≼◌}
use Rattle.model.proofs.Cost.{≼_trans, ≼-antisym, ≼-mono, cancel}
use Rattle.model.specs.Segmentation.{Seg, first, next, readings, last_level, Lower}
use Rattle.model.specs.Rank.{step_cost, rank}
use Rattle.model.proofs.Rank.{first_by_rank}
use Rattle.model.specs.Layers.{Laws}
use Rattle.model.proofs.Layers.{Runs}
use Rattle.model.proofs.Layers as G
use Rattle.model.specs.Model.{label_at, edge_at, in_set, last_state, Follows, Allowed, AllowedWhole, earlier_order, First}
use Rattle.model.specs.Checked.{Checked}
use Rattle.model.specs.Marks.{MarksHold}
use Rattle.model.proofs.Marks.{rules_marks, marks_rules}
use Rattle.model.specs.Labels.{label_on, count_after, count_before}
use Rattle.model.proofs.Labels.{whole_point, point_whole, count_next, marks_up, marks_before, marks_test, count_back, count_first, marks_first}
use Rattle.model.specs.Nodes.{Node, Step, graph, node, node_of}

same_source : (P : Plan) {t e : ℕ} {m m' : ℤ} {u u' v : Node} → Step P t u e m v → Step P t u' e m' v → u.level ≡ u'.level → u ≡ u'
same_source P {t} {e} {m} {m'} {u} {u'} {v} a a' h = λ i. record { count = counts i; state = (sym a.from' ∙ a'.from') i; level = h i }
  where
    x : Kind
    x = (edge_at P e).kind

    after : count_after (label_on P t) t x u.count ≡ count_after (label_on P t) t x u'.count
    after = sym (ap (λ (w : Node). w.count) a.at) ∙ ap (λ (w : Node). w.count) a'.at

    counts : u.count ≡ u'.count
    counts =
        count_back (label_on P t) t x u.count a.label ∙ ap (count_before (label_on P t) t x) after
        ∙ sym (count_back (label_on P t) t x u'.count a'.label)

pub laws : (P : Plan) (zs : List ℤ) → Laws (graph P zs)
laws P zs = record {
  trans = ≼_trans;
  antisym = ≼-antisym;
  mono = ≼-mono;
  cancel = cancel;
  init_level = λ i. ap (λ (v : Node). v.level) i.at;
  init_one = λ {s} {s'} i i'. sym (ap (λ (v : Node). v.state) i.at) ∙ ap (λ (v : Node). v.state) i'.at;
  arc_level = λ a. ap (λ (v : Node). v.level) a.at;
  arc_one = λ a a' h. same_source P a a' h;
}

module _ (P : Plan) (zs : List ℤ) (ch : Checked P) where
  pub runs_model : (g : Seg) (v : Node) → Runs (graph P zs) g v → Follows P g × MarksHold P g × (v ≡ node_of P g)
  unfolding Runs Follows node_of readings last_state last_level
  runs_model (first s m) v i = ((i.starts, i.grid), marks_first P ch.labels s m, i.at ∙ ap (λ k. node k s m) (sym (count_first P ch.labels s m)))
  runs_model (next g e m) v (u, r, a) =
      let (f, k, n) = runs_model g u r in
      let b : Step P (readings g) (node_of P g) e m v = subst (λ w. Step P (readings g) w e m v) n a in (
        (f, b.known, b.from', b.permitted, b.grid),
        marks_up P ch.labels g e m k b.label,
        b.at ∙ ap (λ k. node k (edge_at P e).to m) (sym (count_next P ch.labels g e m)),
      )

  pub model_runs : (g : Seg) → Follows P g → MarksHold P g → Runs (graph P zs) g (node_of P g)
  unfolding Runs Follows node_of readings last_state last_level
  model_runs (first s m) f k = record { starts = f.0; grid = f.1; at = ap (λ k. node k s m) (count_first P ch.labels s m) }
  model_runs (next g e m) f k = (
    node_of P g,
    model_runs g f.0 (marks_before P ch.labels g e m k),
    record { known = f.1; from' = f.2; permitted = f.3; grid = f.4; label = marks_test P ch.labels g e m k; at = ap (λ k. node k (edge_at P e).to m) (count_next P ch.labels g e m) },
  )

  pub same_cost : (g : Seg) → G.cost (graph P zs) g ≡ rank P zs g
  unfolding G.cost rank
  same_cost (first s m) = refl
  same_cost (next g e m) = ap (λ x. x ⊕ step_cost P zs (readings g) e m) (same_cost g)

  -- ---- the theorems of the model, for whatever layers keep the rules of layers

  module _ (L : ℕ → Node → Option Cost) (layers : G.Layers (graph P zs) L) where
    pub sound : (t : ℕ) {v : Node} {c : Cost} → L (suc t) v ≡ some c → (g : Seg) × Allowed P (suc t) g × (node_of P g ≡ v) × (rank P zs g ≡ c)
    sound t {v} p =
        let (g, n, r, w) = G.met_by (graph P zs) (laws P zs) L layers t p in
        let (f, k, e) = runs_model g v r in
        (g, record { count = n; follows = f; labels = marks_rules P g k }, sym e, sym (same_cost g) ∙ w)

    pub least : (n : ℕ) (g : Seg) → Allowed P n g → (c : Cost) × (L n (node_of P g) ≡ some c) × (c ≼ rank P zs g)
    least n g a =
        let (c, p, h) = G.at_least (graph P zs) (laws P zs) L layers g (node_of P g) (model_runs g a.follows (rules_marks P g a.labels)) in
        (c, rw a.count at p, rw (same_cost g) at h)

    abbrev pub Ends : Node → Type 0
    Ends v = in_set P.end v.state ≡ true

    -- the walk back by the lowest arcs from the lowest of the best ends comes first
    pub answer_first : (g : Seg) (v : Node) → ((i : ℕ) → i < P.labelcount → (label_at P i).q ≤ length zs) → readings g ≡ length zs
        → G.BestEnd (graph P zs) (laws P zs) L layers Ends (readings g) v → G.Traced (graph P zs) (laws P zs) L layers g v → First P zs g
    unfolding node_of G.trail
    answer_first g v closed n b r =
        first_by_rank P zs g
        (point_whole P (length zs) g closed (record { count = n; follows = m.0; labels = marks_rules P g m.1 }) (subst (λ w. Ends w) m.2 b.ends))
        (λ g' a. rw (same_cost g, same_cost g') at (versus g' a).0)
        (λ g' a h. subst (λ w. (g ≡ g') ⊎ Lower (G.trail (graph P zs) (laws P zs) L layers w g) (earlier_order P g')) m.2
        ((versus g' a).1 (rw (same_cost g, same_cost g') h)))
      where
        m : Follows P g × MarksHold P g × (v ≡ node_of P g)
        m = runs_model g v (G.traced_runs (graph P zs) (laws P zs) L layers g v r)

        versus : (g' : Seg) → AllowedWhole P (length zs) g'
            → (G.cost (graph P zs) g ≼ G.cost (graph P zs) g') × (G.cost (graph P zs) g' ≼ G.cost (graph P zs) g
            → (g ≡ g') ⊎ Lower (G.trail (graph P zs) (laws P zs) L layers v g) (G.trail (graph P zs) (laws P zs) L layers (node_of P g') g'))
        versus g' a =
            G.whole_first (graph P zs) (laws P zs) L layers Ends g g' v (node_of P g') b r a.ends
            (model_runs g' a.follows (rules_marks P g' (whole_point P (length zs) g' a).labels)) (n ∙ sym a.count)
