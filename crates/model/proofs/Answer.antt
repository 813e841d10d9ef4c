-- The answer by layers, computed, and why it is the one that comes first. Assumes nothing.
use Rattle.std.proofs.Math.Path.{◌≡◌, refl, sym, ap, subst}
use Rattle.std.proofs.Common.{◌∙◌, inl, inr}
use Rattle.std.specs.Prelude.{◌⊎◌, List, [], ◌∷◌, true, ◌&&◌, ◌+ℤ◌}
use Rattle.std.proofs.Math.Option.{Option, none, some, some-injective}
use Prim.Native.Nat.{ℕ, zero, suc, ◌≤◌, ◌<◌}
use native.Mathlib.Omega.{arith}
use Rattle.std.proofs.Math.Decide.{dec_lt}
use Rattle.std.proofs.Math.Dec.{eqb}
use borrow.Author.Tests.{eqb-true}
use Rattle.std.proofs.Math.IntN.{ℤ, pos}
use Rattle.std.proofs.Math.ListN.{length}
use Rattle.plan.specs.declared.Plan.{Plan}
use Rattle.model.specs.Cost.{Cost, ◌⊕◌, ◌≼◌, value}
use Rattle.model.proofs.Cost.{≼_trans, ≼-antisym}
use Rattle.model.specs.Segmentation.{Seg, readings, Lower}
use Rattle.model.specs.Rank.{first_cost, step_cost}
use Rattle.model.proofs.Rank.{rank_value}
use Rattle.model.proofs.Layers.{Traced, Lowest, BestEnd, traced_cost}
use Rattle.model.proofs.Layers as G
use Rattle.model.specs.Least.{least_below, first_hit, Upto}
use Rattle.model.proofs.Least.{below_met, below_least, given_met, hit_none, hit_first}
use Rattle.model.proofs.Grid.{grid_index, add_lower, pos_lower}
use Rattle.model.proofs.Bools.{and_yes}
use Rattle.model.specs.Model.{in_set, above, width, on_grid, last_state, cost, AllowedWhole, First}
use Rattle.model.specs.Checked.{Accepted}
use Rattle.model.specs.Labels.{label_on, count_in}
use Rattle.model.proofs.Labels.{closed_none, whole_point}
use Rattle.model.specs.Nodes.{Node, node, Start, graph, node_of}
use Rattle.model.proofs.Nodes.{laws, sound, least, same_cost, answer_first, Ends}
use Rattle.model.specs.Opt.{opt, offer, before, start_test}
use Rattle.model.proofs.Opt.{offer_met, offer_of, opt_layers, opt_grid}
use Rattle.model.specs.Answer.{answer, end_cost, from_end, from_least, least_end, trace, trace_step, way, way_back}

module _ (P : Plan) (zs : List ℤ) where
  start_of : (v : Node) (c : Cost) → opt P zs 1 v ≡ some c → Start P v.state v.level v
  unfolding opt start_test
  start_of v c p =
      let (h, q) = given_met (start_test P v) (some (first_cost zs v.level)) c p in
      let (a, h') = and_yes (in_set P.start v.state) (on_grid P v.level && eqb v.count 0) h in
      let (b, k) = and_yes (on_grid P v.level) (eqb v.count 0) h' in
      record { starts = a; grid = b; at = λ i. record { count = eqb-true v.count 0 k i; state = v.state; level = v.level } }

  abbrev Tr : Seg → Node → Type 0
  Tr = Traced (graph P zs) (laws P zs) (opt P zs) (opt_layers P zs)

  -- lower in the pair of edge and level is lower in the order
  by_pair : (e e' j j' : ℕ) (l l' : ℤ) → P.lo +ℤ pos j ≡ l → P.lo +ℤ pos j' ≡ l' → Upto e j e' j'
      → ◌≡◌ {A = List ℤ} (pos e ∷ l ∷ []) (pos e' ∷ l' ∷ []) ⊎ Lower (pos e ∷ l ∷ []) (pos e' ∷ l' ∷ [])
  by_pair e e' j j' l l' p p' (inl h) = inr (inl (pos_lower e e' h))
  by_pair e e' j j' l l' p p' (inr (i, h)) = go (dec_lt j j')
    where
      go : Dec (j < j') → ◌≡◌ {A = List ℤ} (pos e ∷ l ∷ []) (pos e' ∷ l' ∷ []) ⊎ Lower (pos e ∷ l ∷ []) (pos e' ∷ l' ∷ [])
      go (yes k) = inr (inr (ap pos i, inl (rw (← p, ← p') (add_lower P.lo j j' k))))
      go (no k) = let q : j ≡ j' = omega arith in inl (cc)

  -- the first hit is the lowest arc
  pub hit_lowest : (t : ℕ) (v : Node) (c : Cost) (x : ℕ × ℕ) → opt P zs (suc (suc t)) v ≡ some c
      → way P zs t v c ≡ some x
      → (d : Cost) × (opt P zs (suc t) (before P (suc t) v x.0 x.1) ≡ some d)
      × Lowest (graph P zs) (laws P zs) (opt P zs) (opt_layers P zs) (suc t) (before P (suc t) v x.0 x.1) x.0 v.level v
  unfolding before
  hit_lowest t v c x p h =
      let (hi, hj, f, low) = hit_first P.edgecount (width P) (offer P zs (suc t) (opt P zs (suc t)) v) c x h in
      let (d, a, k, w) = offer_met P zs (suc t) (opt P zs (suc t)) v x.0 x.1 c hi f in (
        d,
        k,
        record {
          arc = a;
          before = d;
          known = k;
          meets = p ∙ ap some (sym w);
          lowest = λ {u'} {e'} {m'} {d = d'} a' k' q.
              let r : d' ⊕ step_cost P zs (suc t) e' m' ≡ c = cc in
              let (j', hj', i', f') = offer_of P zs (suc t) (opt P zs (suc t)) u' v e' m' d' a' (opt_grid P zs (suc t) u' d' k') k' in
              by_pair x.0 e' x.1 j' (P.lo +ℤ pos x.1) u'.level refl i' (low e' j' a'.known hj' (f' ∙ ap some r));
        },
      )

  -- the node has a cost, so an arc meets it
  pub some_hit : (t : ℕ) (v : Node) (c : Cost) → opt P zs (suc (suc t)) v ≡ some c
      → way P zs t v c ≡ none → ⊥
  some_hit t v c p h =
      let (u, e, m, d, a, k, w) = ((opt_layers P zs).step (suc t) (omega arith)).met p in
      let (j, hj, i, f) = offer_of P zs (suc t) (opt P zs (suc t)) u v e m d a (opt_grid P zs (suc t) u d k) k in
      hit_none P.edgecount (width P) (offer P zs (suc t) (opt P zs (suc t)) v) c h e j a.known hj (f ∙ ap some w)

  pub way_is : (t : ℕ) (v : Node) (c : Cost) → opt P zs (suc (suc t)) v ≡ some c → way_back P zs t v ≡ way P zs t v c
  unfolding way_back
  way_is t v c p = rw p refl

  pub trace_right : (t : ℕ) (v : Node) (c : Cost) → opt P zs (suc t) v ≡ some c → (readings (trace P zs (suc t) v) ≡ suc t) × Tr (trace P zs (suc t) v) v
  unfolding trace readings Traced
  trace_right zero v c p = (refl, start_of v c p)
  trace_right (suc t) v c p = go (way_back P zs t v) (sym (way_is t v c p)) (λ u d. trace_right t u d)
    where
      go : (o : Option (ℕ × ℕ)) → way P zs t v c ≡ o
          → ((u : Node) (d : Cost) → opt P zs (suc t) u ≡ some d → (readings (trace P zs (suc t) u) ≡ suc t) × Tr (trace P zs (suc t) u) u)
          → (readings (trace_step P t v (trace P zs (suc t)) o) ≡ suc (suc t)) × Tr (trace_step P t v (trace P zs (suc t)) o) v
      go none h ih = absurd (some_hit t v c p h)
      go (some x) h ih =
          let (d, k, l) = hit_lowest t v c x p h in
          let (n, r) = ih (before P (suc t) v x.0 x.1) d k in
          (ap suc n, (before P (suc t) v x.0 x.1, r, rw n l))

-- ---- the whole record

module _ (P : Plan) (zs : List ℤ) (acc : Accepted P (length zs)) where
  count_zero : (n : ℕ) (v : Node) (c : Cost) → n ≡ length zs → 1 ≤ n → opt P zs n v ≡ some c → v.count ≡ 0
  unfolding node_of count_in
  count_zero zero v c e h p = absurd (omega arith)
  count_zero (suc t) v c e h p =
      let (g, a, k, w) = sound P zs acc.plan (opt P zs) (opt_layers P zs) t p in
      go g (a.count ∙ e) k
    where
      go : (g : Seg) → readings g ≡ length zs → node_of P g ≡ v → v.count ≡ 0
      go g n k =
          let o : label_on P (readings g) ≡ none = rw n (closed_none P (length zs) acc.closed) in
          sym (ap (λ (w : Node). w.count) k) ∙ rw o refl

  -- a cost at a permitted end is offered there
  end_of : (v : Node) (c : Cost) → in_set P.end v.state ≡ true → opt P zs (length zs) v ≡ some c
      → (j : ℕ) × (v.state < P.states) × (j < width P) × (node 0 v.state (P.lo +ℤ pos j) ≡ v) × (end_cost P zs v.state j ≡ some c)
  unfolding end_cost
  end_of v c en p =
      let j = above P.lo v.level in
      let (hj, i) = grid_index P v.level (opt_grid P zs (length zs) v c p) in
      let z : v.count ≡ 0 = count_zero (length zs) v c refl acc.some_readings p in
      let e : node 0 v.state (P.lo +ℤ pos j) ≡ v = λ x. record { count = sym z x; state = v.state; level = i x } in
      (j, acc.plan.ends v.state en, hj, e, rw (en, e) p)

  -- every allowed segmentation of the whole record is offered at its end, at no more than its cost
  reach : (g : Seg) → AllowedWhole P (length zs) g → (c : Cost) × (j : ℕ) × (last_state P g < P.states) × (j < width P) × (end_cost P zs (last_state P g) j ≡ some c)
  unfolding node_of
  reach g a =
      let (c, p, h) = least P zs acc.plan (opt P zs) (opt_layers P zs) (length zs) g (whole_point P (length zs) g a) in
      let (j, hs, hj, e, f) = end_of (node_of P g) c a.ends p in
      (c, j, hs, hj, f)

  end_least : (c c' : Cost) (s j : ℕ) → least_end P zs ≡ some c → s < P.states → j < width P → end_cost P zs s j ≡ some c' → c ≼ c'
  unfolding least_end
  end_least c c' s j p hs hj f =
      let (d, q, h) = below_least (width P) (end_cost P zs s) j c' hj f in
      let (d', q', h') = below_least P.states (λ s. least_below (width P) (λ j. end_cost P zs s j)) s d hs q in
      subst (λ (y : Cost). y ≼ c') (some-injective d' c (sym q' ∙ p)) (≼_trans h' h)

  end_met : (c : Cost) → least_end P zs ≡ some c → first_hit P.states (width P) (end_cost P zs) c ≡ none → ⊥
  unfolding least_end
  end_met c p h =
      let (s, hs, q) = below_met P.states (λ s. least_below (width P) (λ j. end_cost P zs s j)) c p in
      let (j, hj, f) = below_met (width P) (end_cost P zs s) c q in
      hit_none P.states (width P) (end_cost P zs) c h s j hs hj f

  end_none : least_end P zs ≡ none → (g : Seg) → AllowedWhole P (length zs) g → ⊥
  unfolding least_end
  end_none p g a =
      let (c, j, hs, hj, f) = reach g a in
      let (d, q, h) = below_least (width P) (end_cost P zs (last_state P g)) j c hj f in
      let (d', q', h') = below_least P.states (λ s. least_below (width P) (λ j. end_cost P zs s j)) (last_state P g) d hs q in
      let z : ◌≡◌ {A = ℕ} 0 1 = cc in
      omega arith

  pub none_right : answer P zs ≡ none → (g : Seg) → AllowedWhole P (length zs) g → ⊥
  unfolding answer
  none_right p g a = go (least_end P zs) refl p
    where
      hit : (c : Cost) (o : Option (ℕ × ℕ)) → least_end P zs ≡ some c → first_hit P.states (width P) (end_cost P zs) c ≡ o → from_end P zs c o ≡ none → ⊥
      hit c none e h q = end_met c e h
      hit c (some x) e h q = let z : ◌≡◌ {A = ℕ} 0 1 = cc in omega arith

      go : (o : Option Cost) → least_end P zs ≡ o → from_least P zs o ≡ none → ⊥
      go none e q = end_none e g a
      go (some c) e q = hit c (first_hit P.states (width P) (end_cost P zs) c) e refl q

  -- the lowest of the best ends
  best : (c : Cost) (x : ℕ × ℕ) → least_end P zs ≡ some c → first_hit P.states (width P) (end_cost P zs) c ≡ some x
      → BestEnd (graph P zs) (laws P zs) (opt P zs) (opt_layers P zs) (Ends P zs acc.plan (opt P zs) (opt_layers P zs)) (length zs) (node 0 x.0 (P.lo +ℤ pos x.1))
  unfolding end_cost
  best c x p h =
      let (hs, hj, f, low) = hit_first P.states (width P) (end_cost P zs) c x h in
      let (en, q) = given_met (in_set P.end x.0) (opt P zs (length zs) (node 0 x.0 (P.lo +ℤ pos x.1))) c f in
      record {
        ends = en;
        cheapest = c;
        known = q;
        lowest = λ v' c' en' p'.
            let (j', hs', hj', e', f') = end_of v' c' en' p' in (
              end_least c c' v'.state j' p hs' hj' f',
              λ k. let i : c' ≡ c = ≼-antisym k (end_least c c' v'.state j' p hs' hj' f') in
                  apart v' (count_zero (length zs) v' c' refl acc.some_readings p') (by_pair P zs x.0 v'.state x.1 j' (P.lo +ℤ pos x.1) v'.level refl (ap (λ (w : Node). w.level) e') (low v'.state j' hs' hj' (f' ∙ ap some i))),
            );
      }
    where
      l : ℤ
      l = P.lo +ℤ pos x.1

      apart : (v' : Node) → v'.count ≡ 0
          → ◌≡◌ {A = List ℤ} (pos x.0 ∷ l ∷ []) (pos v'.state ∷ v'.level ∷ []) ⊎ Lower (pos x.0 ∷ l ∷ []) (pos v'.state ∷ v'.level ∷ [])
          → (node 0 x.0 l ≡ v') ⊎ Lower (pos x.0 ∷ l ∷ []) (pos v'.state ∷ v'.level ∷ [])
      apart v' z (inl e) =
          let es : x.0 ≡ v'.state = cc in
          let el : l ≡ v'.level = cc in
          inl (λ i. record { count = sym z i; state = es i; level = el i })
      apart v' z (inr o) = inr o

  best_known : (c : Cost) (x : ℕ × ℕ) → first_hit P.states (width P) (end_cost P zs) c ≡ some x → opt P zs (length zs) (node 0 x.0 (P.lo +ℤ pos x.1)) ≡ some c
  unfolding end_cost
  best_known c x h =
      (given_met (in_set P.end x.0) (opt P zs (length zs) (node 0 x.0 (P.lo +ℤ pos x.1))) c (hit_first P.states (width P) (end_cost P zs) c x h).2).1

  traced_at : (n : ℕ) (v : Node) (c : Cost) → 1 ≤ n → opt P zs n v ≡ some c → (readings (trace P zs n v) ≡ n) × Tr P zs (trace P zs n v) v
  traced_at zero v c h p = absurd (omega arith)
  traced_at (suc n) v c h p = trace_right P zs n v c p

  pub answer_right : (c : ℕ) (g : Seg) → answer P zs ≡ some (c, g) → First P zs g × (cost P zs g ≡ c)
  unfolding answer
  answer_right c g p = go (least_end P zs) refl p
    where
      at : (c' : Cost) (x : ℕ × ℕ) (g' : Seg) → trace P zs (length zs) (node 0 x.0 (P.lo +ℤ pos x.1)) ≡ g'
          → least_end P zs ≡ some c' → first_hit P.states (width P) (end_cost P zs) c' ≡ some x → First P zs g' × (cost P zs g' ≡ value c')
      at c' x g' i e h =
          let v : Node = node 0 x.0 (P.lo +ℤ pos x.1) in
          let b = best c' x e h in
          let known = best_known c' x h in
          let (n, r) = traced_at (length zs) v c' acc.some_readings known in
          let n' : readings g' ≡ length zs = rw (← i) n in
          let r' : Tr P zs g' v = subst (λ (y : Seg). Tr P zs y v) i r in
          let k : opt P zs (length zs) v ≡ some (G.cost (graph P zs) g') = rw n' at (traced_cost (graph P zs) (laws P zs) (opt P zs) (opt_layers P zs) g' v r') in
          let w : G.cost (graph P zs) g' ≡ c' = cc in
          (answer_first P zs acc.plan (opt P zs) (opt_layers P zs) g' v acc.closed n' (rw n' b) r', sym (rank_value P zs g') ∙ ap value (sym (same_cost P zs acc.plan g') ∙ w))

      hit : (c' : Cost) (o : Option (ℕ × ℕ)) → least_end P zs ≡ some c' → first_hit P.states (width P) (end_cost P zs) c' ≡ o → from_end P zs c' o ≡ some (c, g)
          → First P zs g × (cost P zs g ≡ c)
      hit c' none e h q = let z : ◌≡◌ {A = ℕ} 0 1 = cc in absurd (omega arith)
      hit c' (some x) e h q =
          let pair = some-injective (value c', trace P zs (length zs) (node 0 x.0 (P.lo +ℤ pos x.1))) (c, g) q in
          let y : value c' ≡ c = ap (λ (y : ℕ × Seg). y.0) pair in
          let z : trace P zs (length zs) (node 0 x.0 (P.lo +ℤ pos x.1)) ≡ g = ap (λ (y : ℕ × Seg). y.1) pair in
          let (f, w) = at c' x g z e h in
          (f, w ∙ y)

      go : (o : Option Cost) → least_end P zs ≡ o → from_least P zs o ≡ some (c, g) → First P zs g × (cost P zs g ≡ c)
      go none e q = let z : ◌≡◌ {A = ℕ} 0 1 = cc in absurd (omega arith)
      go (some c') e q = hit c' (first_hit P.states (width P) (end_cost P zs) c') e refl q
