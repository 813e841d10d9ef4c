-- Why a step of the way back is the model's. Assumes nothing.
use mathlib.Core.Path.{◌≡◌, refl, sym, ◌∙◌, ap, subst}
use mathlib.Core.List.{List, [], ◌∷◌, append-nil}
use mathlib.Core.Bool.{Bool, true, false, cond}
use Prim.Native.Nat.{ℕ, zero, suc, ◌+◌, ◌-◌, ◌*◌, ◌^◌, ◌≤◌, ◌<◌}
use native.Mathlib.Omega.{arith}
use native.Mathlib.Numerals.{add-one}
use mathlib.Core.Option.{Option}
use Rattle.plan.specs.declared.Label.{Label}
use lib.IntN.{ℤ, pos, ◌+ℤ◌}
use lib.ListN.{length, get_or}
use lib.Signed.{mag}
use mir.Facts.{to_z-of_z}
use mir.Syntax.{w16}
use mir.Val.{SFits, to_z, of_z, hbits}
use Rattle.integers.specs.Pairs.{unit, lex}
use Rattle.plan.specs.declared.Plan.{Plan}
use Rattle.plan.specs.declared.Edge.{Edge}
use Rattle.model.specs.Model.{edge_at, loss_at}
use Rattle.model.specs.Labels.{label_on, counts, count_before, used}
use Rattle.model.specs.Run as M
use Rattle.model.specs.Run.{joins, five}
use Rattle.model.specs.Nodes.{Node, node}
use Rattle.model.specs.Index.{no_cost}
use Rattle.model.specs.Held.{Table, from_count}
use Rattle.model.specs.Ends.{table_at}
use Rattle.model.specs.Runs.{walk_back}
use Rattle.model.specs.Tables.{Ready}
use Rattle.model.proofs.Tables.{MeetsAt, some_edge, step_walk, step_count}
use Rattle.quadratic.specs.Quad.{count_limit}
use Rattle.curve.specs.Lows.{low_of}
use Rattle.layer.specs.declared.Shape.{Shape}
use Rattle.runs.specs.declared.Run.{Run}
use Rattle.runs.specs.Runs.{five_of, Put, holds_put}
use Rattle.quadratic.specs.Fine.{far}
use Rattle.edges.specs.Edge.{loss_place}
use Rattle.layer.proofs.Next.{base_place}
use Rattle.back.specs.Read.{Readable, Reads, layer_readable, layer_reads}
use Rattle.std.specs.Prelude.{Option as Maybe, Some}
use Rattle.back.specs.declared.Step.{Step}
use Rattle.back.specs.Step.{BackReady, Meets, StepFound, StepTo}
use Rattle.trace.specs.declared.Point.{Point}
use Rattle.trace.specs.Trace.{value_of, PointAt, node_at, StepMade, StepReady}

module _ {P : Plan} {zs : List ℤ} (R : Ready P zs) (t : ℕ) (ht : suc (suc t) ≤ length zs) {p : Point} (a : PointAt P zs (suc (suc t)) p) where
  low : table_at P zs (suc (suc t)) p.key.count p.key.state p.low.level < no_cost
  low = omega (arith, a.is, a.some)

  abbrev loss : ℕ
  loss = loss_at zs (suc t) (P.lo +ℤ pos p.low.level)

  abbrev T : Table
  T = table_at P zs (suc t)

  abbrev MeetsHere : ℕ → Type 0
  MeetsHere = MeetsAt P zs R t p.key.count p.key.state p.low.level ht a.count a.state a.level low

  -- the loss is part of the cost
  loss_low : loss ≤ p.low.rank.value
  loss_low =
      let (e, he, m) = some_edge P zs R t p.key.count p.key.state p.low.level ht a.count a.state a.level low in
      omega (arith, a.is, m.2, a.changes)

  module _ (want : ℕ) (w : want + unit * loss ≡ value_of p) where
    to_model : (e : ℕ) → Meets P (suc t) T p.key.count p.key.state p.low.level want e → MeetsHere e
    to_model e (l, v, q) = (l, v, omega (arith, a.is))

    of_model : (e : ℕ) → MeetsHere e → Meets P (suc t) T p.key.count p.key.state p.low.level want e
    of_model e (l, v, q) = (l, v, omega (arith, a.is))

    -- an edge meets the cost
    never_lost : ((e : ℕ) → e < P.edgecount → Meets P (suc t) T p.key.count p.key.state p.low.level want e → ⊥) → ⊥
    never_lost n =
        let (e, he, m) = some_edge P zs R t p.key.count p.key.state p.low.level ht a.count a.state a.level low in
        n e he (of_model e m)

    module _ {e i : ℕ} (v c : ℕ) (f : StepFound P (suc t) T p.key.count p.key.state p.low.level want e i (lex v c)) (hc : c ≤ count_limit) where
      abbrev before : Node
      before = node (from_count P (suc t) e p.key.count) (edge_at P e).from (P.lo +ℤ pos i)

      way : (n : ℕ) → walk_back P zs n (suc (suc t)) (node_at P p)
          ≡ cond (joins (edge_at P e)) (walk_back P zs n (suc t) before) (M.run (suc (suc t)) n p.key.state (P.lo +ℤ pos p.low.level) e ∷ walk_back P zs (suc t) (suc t) before)
      way = step_walk P zs R t p.key.count p.key.state p.low.level ht a.count a.state a.level low e f.known (to_model e f.meets)
          (λ e' h m. f.lowest e' h (of_model e' m)) i f.inside f.permitted f.at f.first

      count_low : from_count P (suc t) e p.key.count < counts
      count_low = step_count P zs R t p.key.count p.key.state p.low.level ht a.count a.state a.level low e f.known (to_model e f.meets)
          (λ e' h m. f.lowest e' h (of_model e' m)) i f.inside f.permitted f.at f.first

      point_before : (last n : ℕ) → PointAt P zs (suc t) (record { key = record { count = from_count P (suc t) e p.key.count; state = (edge_at P e).from }; low = record { rank = record { value = v; changes = c }; level = i }; last = last; runs = n })
      point_before last n = record {
        count = count_low;
        state = (R.plan.edge e f.known).from_below;
        level = f.inside;
        is = f.value ∙ sym f.at;
        some = omega (arith, f.value, f.meets.1);
        changes = hc;
      }

      module _ (lasts : p.last ≤ length zs) {out : List ℤ} where
        -- the run goes on
        pub joined : joins (edge_at P e) ≡ true → StepMade P zs (suc t) p (record { key = record { count = from_count P (suc t) e p.key.count; state = (edge_at P e).from }; low = record { rank = record { value = v; changes = c }; level = i }; last = p.last; runs = p.runs }) out out
        joined j = record {
          here = point_before p.last p.runs;
          last = lasts;
          size = refl;
          new = [];
          few = omega arith;
          count = omega arith;
          way = way p.last ∙ rw j refl;
          holds = λ rs l₀ q h. rw (append-nil rs) h;
        }

        -- the run starts here
        pub put_out : joins (edge_at P e) ≡ false → {out' : List ℤ} {r : Run} → five_of r ≡ five (M.run (suc (suc t)) p.last p.key.state (P.lo +ℤ pos p.low.level) e) → Put p.runs r out out'
            → StepMade P zs (suc t) p (record { key = record { count = from_count P (suc t) e p.key.count; state = (edge_at P e).from }; low = record { rank = record { value = v; changes = c }; level = i }; last = suc t; runs = p.runs + 1 }) out out'
        put_out j {out'} {r} e5 m = record {
          here = point_before (suc t) (p.runs + 1);
          last = omega arith;
          size = m.size;
          new = M.run (suc (suc t)) p.last p.key.state (P.lo +ℤ pos p.low.level) e ∷ [];
          few = omega arith;
          count = omega arith;
          way = way p.last ∙ rw j refl;
          holds = λ rs l₀ q h. holds_put rs l₀ out out' p.runs r _ q e5 h m;
        }

-- ---- the same at any boundary, for the code

module _ {P : Plan} {zs : List ℤ} (R : Ready P zs) where
  pub loss_at_lem : (t : ℕ) → 1 ≤ t → t < length zs → {p : Point} → PointAt P zs (suc t) p → loss_at zs t (P.lo +ℤ pos p.low.level) ≤ p.low.rank.value
  loss_at_lem zero h k a = absurd (omega arith)
  loss_at_lem (suc t) h k a = loss_low R t k a

  pub lost_at : (t : ℕ) → 1 ≤ t → t < length zs → {p : Point} → PointAt P zs (suc t) p → (want : ℕ) → want + unit * loss_at zs t (P.lo +ℤ pos p.low.level) ≡ value_of p
      → ((e : ℕ) → e < P.edgecount → Meets P t (table_at P zs t) p.key.count p.key.state p.low.level want e → ⊥) → ⊥
  lost_at zero h k a want w n = absurd (omega arith)
  lost_at (suc t) h k a want w n = never_lost R t k a want w n

  pub joined_at : (t : ℕ) → 1 ≤ t → t < length zs → {p : Point} → PointAt P zs (suc t) p → (want : ℕ) → want + unit * loss_at zs t (P.lo +ℤ pos p.low.level) ≡ value_of p → p.last ≤ length zs
      → {e i v c k s : ℕ} → StepFound P t (table_at P zs t) p.key.count p.key.state p.low.level want e i (lex v c) → c ≤ count_limit → k ≡ from_count P t e p.key.count → s ≡ (edge_at P e).from → joins (edge_at P e) ≡ true
      → {out : List ℤ} → StepMade P zs t p (record { key = record { count = k; state = s }; low = record { rank = record { value = v; changes = c }; level = i }; last = p.last; runs = p.runs }) out out
  joined_at zero h n a want w l f hc ec es j = absurd (omega arith)
  joined_at (suc t) h n a want w l f hc ec es j = rw (ec, es) (joined R t n a want w _ _ f hc l j)

  pub put_at_lem : (t : ℕ) → 1 ≤ t → t < length zs → {p : Point} → PointAt P zs (suc t) p → (want : ℕ) → want + unit * loss_at zs t (P.lo +ℤ pos p.low.level) ≡ value_of p → p.last ≤ length zs
      → {e i v c k s : ℕ} → StepFound P t (table_at P zs t) p.key.count p.key.state p.low.level want e i (lex v c) → c ≤ count_limit → k ≡ from_count P t e p.key.count → s ≡ (edge_at P e).from → joins (edge_at P e) ≡ false
      → {out out' : List ℤ} {r : Run} → five_of r ≡ five (M.run (suc t) p.last p.key.state (P.lo +ℤ pos p.low.level) e) → Put p.runs r out out'
      → StepMade P zs t p (record { key = record { count = k; state = s }; low = record { rank = record { value = v; changes = c }; level = i }; last = t; runs = p.runs + 1 }) out out'
  put_at_lem zero h n a want w l f hc ec es j e5 m = absurd (omega arith)
  put_at_lem (suc t) h n a want w l f hc ec es j e5 m = rw (ec, es) (put_out R t n a want w _ _ f hc l j e5 m)

-- ---- what the calls give

pub five_is : (t last s : ℕ) (lo : ℤ) (j e : ℕ) (r : Run) → mag lo < 2 ^ hbits w16 → five_of r ≡ pos (t + 1) ∷ pos last ∷ pos s ∷ (to_z w16 (of_z w16 lo) +ℤ pos j) ∷ pos e ∷ [] → five_of r ≡ five (M.run (suc t) last s (lo +ℤ pos j) e)
five_is t last s lo j e r h q =
    let f : SFits w16 lo = record { sfits = h } in
    q ∙ ap (λ (n : ℕ). pos n ∷ pos last ∷ pos s ∷ (to_z w16 (of_z w16 lo) +ℤ pos j) ∷ pos e ∷ []) (add-one t) ∙ ap (λ (z : ℤ). pos (suc t) ∷ pos last ∷ pos s ∷ (z +ℤ pos j) ∷ pos e ∷ []) (to_z-of_z f)

module _ {P : Plan} {zs : List ℤ} {t cur : ℕ} {g : Shape} {p : Point} {ws : List ℕ} {out : List ℤ} (a : StepReady P zs t cur g p ws out) where
  in_reach : t ≤ 4096
  in_reach = omega (arith, a.more, a.task.ready.few_readings)

  pub readable : {o : Option Label} → o ≡ label_on P t → Readable (used o) cur g ws
  readable e = subst (λ (x : Option Label). Readable (used x) cur g ws) (sym e) (layer_readable a.task a.layer a.place in_reach)

  pub back_ready : {o : Option Label} → o ≡ label_on P t → BackReady P o t p.key.count p.key.state p.low.level g
  back_ready e = record {
    checked = a.task.ready.plan;
    shape = a.task.shape;
    on = e;
    boundary = in_reach;
    count = a.here.count;
    index = a.here.level;
  }

  -- the loss as code computed it
  pub loss_is : (u x : ℕ) → pos u ≡ get_or zs t (pos 0) +ℤ pos 163840 → x ≡ far u (g.grid.base + p.low.level) * far u (g.grid.base + p.low.level) → x ≡ loss_at zs t (P.lo +ℤ pos p.low.level)
  loss_is u x at e = e ∙ loss_place zs t P.lo u g.grid.base at (base_place a.task) p.low.level

  pub loss_fits : (x : ℕ) → x ≡ loss_at zs t (P.lo +ℤ pos p.low.level) → x ≤ p.low.rank.value
  loss_fits x e = omega (arith, e, loss_at_lem a.task.ready t a.positive a.more a.here)

  pub want_is : (x : ℕ) → x ≡ loss_at zs t (P.lo +ℤ pos p.low.level) → lex (p.low.rank.value - x) p.low.rank.changes + unit * loss_at zs t (P.lo +ℤ pos p.low.level) ≡ value_of p
  want_is x e = omega (arith, e, loss_fits x e)

  pub reads_here : {o : Option Label} → o ≡ label_on P t → Reads (used o) cur g ws (table_at P zs t)
  reads_here e = subst (λ (x : Option Label). Reads (used x) cur g ws (table_at P zs t)) (sym e) (layer_reads a.task a.layer)

pub found_of_lem : (P : Plan) (t : ℕ) (H : Table) (k s j want : ℕ) (b : Maybe Step) → StepTo P t H k s j want b → {x : Step} → b ≡ Some x → StepFound P t H k s j want x.edge x.low.level (low_of x.low) × (x.low.rank.changes ≤ count_limit)
found_of_lem P t H k s j want b f q = subst (StepTo P t H k s j want) q f

-- the edge as code copied it
module _ (P : Plan) (e : ℕ) (x : Edge) (q : x ≡ edge_at P e) where
  pub count_of : (o : Option Label) (t k c : ℕ) → o ≡ label_on P t → c ≡ count_before o t x.kind k → c ≡ from_count P t e k
  unfolding from_count
  count_of o t k c eo ec = ec ∙ ap (λ (y : Option Label). count_before y t x.kind k) eo ∙ ap (λ (y : Edge). count_before (label_on P t) t y.kind k) q

  pub joins_of : {b v : Bool} → b ≡ joins x → b ≡ v → joins (edge_at P e) ≡ v
  joins_of eb ev = ap joins (sym q) ∙ sym eb ∙ ev
