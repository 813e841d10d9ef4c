-- Slot 0, list by list, and the slots after the first reading. Assumes nothing.
use mathlib.Core.Path.{◌≡◌, refl, sym, ◌∙◌, ap, subst}
use mathlib.Core.Logic.{inl, ⊎_elim}
use mathlib.Core.List.{List}
use Prim.Native.Nat.{ℕ, ◌+◌, ◌*◌, ◌≤◌, ◌<◌}
use native.Mathlib.Omega.{arith}
use native.Mathlib.Nat.{mul-le-mul_right}
use lib.IntN.{ℤ}
use lib.ListN.{length}
use Rattle.integers.specs.Rep.{le_or_lt}
use Rattle.plan.specs.declared.Plan.{Plan}
use Rattle.model.specs.Model.{width}
use Rattle.model.specs.Labels.{label_on, counts}
use Rattle.model.proofs.Labels.{used_most}
use Rattle.model.specs.Index.{no_cost}
use Rattle.model.specs.Held.{Table, first_table}
use Rattle.model.specs.Totals.{total_at}
use Rattle.model.proofs.Totals.{total_first}
use Rattle.quadratic.specs.Quad.{absent}
use Rattle.curve.specs.Pieces.{Made}
use Rattle.curve.specs.Curve.{Curve, curve_kept, curve_flat, near}
use Rattle.layer.specs.declared.Shape.{Shape}
use Rattle.layer.specs.Layer.{reading_most, count_most, layer_cell, layer_words, list_at, Shape-small, LayerOf}
use Rattle.layer.specs.Next.{StartReady, Stepped}
use Rattle.layer.proofs.Next.{of_shape, shape_small}
use Rattle.saved.specs.Packed.{Inside}
use Rattle.saved.proofs.Chains.{inside_refl, inside_then, inside_wider, kept_inside}
use Rattle.neighbourhood.specs.Slots.{place_of, table_limit, Ground, nothing, Emptied, StepTo}
use Rattle.neighbourhood.proofs.Slots.{ground_then, temps_fit, free_low, under_free}
use Rattle.neighbourhood.proofs.Steps.{slot_kept, stepped_inside}

-- the first q lists have nothing
pub record Blank (L q : ℕ) (ws ws' : List ℕ) : Type 0 where
  pub inside : Inside 0 (q * (4 * L)) ws ws'
  pub list : (p A B base : ℕ) → p < q → Curve A B base L ws' (p * (4 * L)) (λ (j : ℕ). no_cost)

pub blank_more : {L q : ℕ} {ws ws' ws'' : List ℕ} → Blank L q ws ws' → q * (4 * L) + 4 * L ≤ length ws' → Made (λ (j : ℕ). absent) ws' ws'' (q * (4 * L)) L → Blank L (q + 1) ws ws''
blank_more {L} {q} {ws} {ws'} {ws''} m room w = record {
  inside = inside_then (inside_wider 0 ((q + 1) * (4 * L)) (omega arith) (omega arith) m.inside) (kept_inside (omega arith) (omega arith) w.kept);
  list = λ p A B base h. ⊎_elim (λ k. last p A B base (omega arith)) (λ k. let c = m.list p A B base k in curve_kept w.kept c (near (q * (4 * L)) c (inl (omega (arith, mul-le-mul_right (4 * L) k))))) (le_or_lt q p);
}
  where
    last : (p A B base : ℕ) → p ≡ q → Curve A B base L ws'' (p * (4 * L)) (λ (j : ℕ). no_cost)
    last p A B base e = rw e (curve_flat (inl refl) room w)

pub blank_all : {g : Shape} {q : ℕ} {ws ws' : List ℕ} → q ≡ counts * g.states → Blank g.grid.levels q ws ws' → Emptied g ws ws'
unfolding list_at
blank_all {g} {q} {ws} {ws'} e m = record {
  inside = inside_wider 0 (layer_cell * (g.states * g.grid.levels)) (omega arith) (omega (arith, ap (λ (x : ℕ). x * (4 * g.grid.levels)) e)) m.inside;
  list = λ k s A B base hk hs.
      let z : (k * g.states + s) * (4 * g.grid.levels) ≡ 0 + (k * g.states + s) * (4 * g.grid.levels) = omega arith in
      subst (λ (x : ℕ). Curve A B base g.grid.levels ws' x (λ (j : ℕ). no_cost)) z (m.list (k * g.states + s) A B base (omega (arith, mul-le-mul_right g.states hk)));
}

-- slot 0 lies within the words that the table needs
slot_fits : {P : Plan} {zs : List ℤ} {most : ℕ} {g : Shape} {ws : List ℕ} → Ground P zs most g ws → layer_cell * (g.states * g.grid.levels) ≤ table_limit P most
slot_fits {P} {g = g} a = omega (arith, temps_fit a, same)
  where
    same : layer_cell * (g.states * g.grid.levels) ≡ layer_words P
    same = ap (λ (x : ℕ). layer_cell * (x * g.grid.levels)) a.task.shape.states ∙ ap (λ (x : ℕ). layer_cell * (P.states * x)) a.task.shape.levels

pub empty_ready : {P : Plan} {zs : List ℤ} {most : ℕ} {g : Shape} {ws : List ℕ} → Ground P zs most g ws → Shape-small g × (layer_cell * (g.states * g.grid.levels) ≤ length ws)
empty_ready a = (shape_small a.task, omega (arith, slot_fits a, a.room))

module _ {P : Plan} {zs : List ℤ} {most : ℕ} {g : Shape} {ws ws' : List ℕ} (a : Ground P zs most g ws) (m : Emptied g ws ws') where
  pub empty_inside : Inside 0 (table_limit P most) ws ws'
  empty_inside = inside_wider 0 (table_limit P most) (omega arith) (slot_fits a) m.inside

  abbrev now_ground : Ground P zs most g ws'
  now_ground = ground_then a empty_inside

  empty_layer : (t : ℕ) → LayerOf P t nothing ws' (place_of P 0)
  empty_layer t = record {
    list = λ k s hk hs.
        of_shape a.task.shape
        (subst (λ (x : ℕ). Curve (t * count_most) (t * reading_most) g.grid.base g.grid.levels ws' x (λ (j : ℕ). no_cost)) (place k s)
        (m.list k s _ _ g.grid.base (omega (arith, used_most (label_on P t))) (omega (arith, a.task.shape.states))));
  }
    where
      place : (k s : ℕ) → list_at 0 g.states g.grid.levels k s ≡ list_at (place_of P 0) P.states (width P) k s
      place k s =
          let z : 0 ≡ place_of P 0 = omega arith in
          ap (λ (x : ℕ). list_at 0 x g.grid.levels k s) a.task.shape.states ∙ ap (λ (x : ℕ). list_at 0 P.states x k s) a.task.shape.levels ∙ ap (λ (x : ℕ). list_at x P.states (width P) k s) z

  pub start_ready : {o f : ℕ} → o ≡ place_of P 1 → f ≡ place_of P (2 * most + 3) → StartReady P zs o f g ws'
  start_ready e k = rw (e, k) (record {
    task = a.task;
    more = omega (arith, a.task.ready.some_readings);
    under = under_free now_ground 1 (omega arith);
    room = omega (arith, temps_fit now_ground, now_ground.room);
    place = free_low now_ground;
  })

  pub first_slots : {o f : ℕ} {ws'' : List ℕ} → o ≡ place_of P 1 → f ≡ place_of P (2 * most + 3) → Stepped P 1 (first_table P zs) o f ws' ws'' → StepTo P zs most 1 0 ws ws''
  first_slots {o} {f} {ws''} e k w = record {
    slots = record { empty = λ t. slot_kept now_ground at (λ q. omega arith) (omega arith) (empty_layer t); slot = λ i h l n. first i (omega arith) };
    inside = inside_then empty_inside (stepped_inside now_ground (omega arith) at);
  }
    where
      at : Stepped P 1 (first_table P zs) (place_of P 1) (place_of P (2 * most + 3)) ws' ws''
      at = subst (λ (x : ℕ). Stepped P 1 (first_table P zs) x (place_of P (2 * most + 3)) ws' ws'') e (subst (λ (x : ℕ). Stepped P 1 (first_table P zs) o x ws' ws'') k w)

      first : (i : ℕ) → i ≡ 1 → LayerOf P 1 (total_at P zs 1 i) ws'' (place_of P (0 + i))
      first i q = rw q (subst (λ (H : Table). LayerOf P 1 H ws'' (place_of P 1)) (sym (total_first P zs)) at.layer)
