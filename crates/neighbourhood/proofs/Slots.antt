-- The slots in the workspace: where they stand, and what keeps them. Assumes nothing.
use mathlib.Core.Path.{◌≡◌, refl, sym, ◌∙◌, ap}
use mathlib.Core.Logic.{◌⊎◌, inl, inr, ⊎_elim}
use mathlib.Core.List.{List}
use mathlib.Core.Bool.{Bool, true, false, cond}
use Prim.Native.Nat.{ℕ, zero, suc, ◌+◌, ◌*◌, ◌≤◌, ◌<◌}
use native.Mathlib.Omega.{arith}
use native.Mathlib.Nat.{mul-le-mul, mul-le-mul_right}
use lib.Dec.{eqb, ltb}
use borrow.Author.Tests.{eqb-true, eqb-false, ltb-true, ltb-false, eq-eqb, ne_eqb, lt-ltb, le-ltb}
use lib.IntN.{ℤ}
use lib.ListN.{length}
use Rattle.integers.specs.Rep.{le_or_lt}
use Rattle.plan.specs.declared.Plan.{Plan}
use Rattle.model.specs.Model.{width}
use Rattle.model.specs.Labels.{label_on, counts}
use Rattle.model.proofs.Labels.{used_most}
use Rattle.model.specs.Held.{Table}
use Rattle.model.specs.Totals.{total_at}
use Rattle.model.proofs.Totals.{total_zero, total_none}
use Rattle.curve.specs.Curve.{curve_as}
use Rattle.layer.specs.declared.Shape.{Shape}
use Rattle.layer.specs.Layer.{temp_words, place_most, layer_cell, layer_words, LayerOf}
use Rattle.layer.specs.Next.{Aside}
use Rattle.saved.specs.Packed.{Inside}
use Rattle.neighbourhood.specs.Slots.{place_of, slot_of, Banks, table_limit, Ground, Slots}

-- ---- places

-- places after different numbers of layers are apart
pub apart_places : (W a b : ℕ) → (a ≡ b → ⊥) → (a * W + W ≤ b * W) ⊎ (b * W + W ≤ a * W)
apart_places W a b n =
    ⊎_elim (λ h. ⊎_elim (λ k. absurd (n (omega arith))) (λ k. inr (omega (arith, mul-le-mul_right W k))) (le_or_lt a b)) (λ h. inl (omega (arith, mul-le-mul_right W h))) (le_or_lt b a)

some_slot : (i : ℕ) → (i ≡ 0 → ⊥) → 1 ≤ i
some_slot zero n = absurd (n refl)
some_slot (suc i) n = omega arith

-- a slot is slot 0, or that of its number in the bank
slot_cases : (b i t : ℕ) → (slot_of b i t ≡ 0) ⊎ ((slot_of b i t ≡ b + i) × (1 ≤ i) × (i ≤ t))
unfolding slot_of
slot_cases b i t = go (eqb i 0) refl (ltb t i) refl
  where
    go : (x : Bool) → eqb i 0 ≡ x → (y : Bool) → ltb t i ≡ y → (cond x 0 (cond y 0 (b + i)) ≡ 0) ⊎ ((cond x 0 (cond y 0 (b + i)) ≡ b + i) × (1 ≤ i) × (i ≤ t))
    go true e y f = inl refl
    go false e true f = inl refl
    go false e false f = inr (refl, some_slot i (eqb-false i 0 e), ltb-false t i f)

pub slot_low : (b i t : ℕ) → slot_of b i t ≤ b + i
slot_low b i t = ⊎_elim (λ h. omega arith) (λ h. omega (arith, h.0)) (slot_cases b i t)

pub bank_low : {most from to : ℕ} → most ≤ 32 → Banks most from to → (from ≤ 33) × (to ≤ 33)
bank_low h = ⊎_elim (λ q. (omega (arith, q.0), omega (arith, q.1))) (λ q. (omega (arith, q.0), omega (arith, q.1)))

-- a layer with other names for its numbers
layer_as : {P : Plan} {t : ℕ} {H : Table} (H' : Table) {ws : List ℕ} {o : ℕ} → ((k s j : ℕ) → k < counts → s < P.states → j < width P → H k s j ≡ H' k s j) → LayerOf P t H ws o → LayerOf P t H' ws o
layer_as {P} {t} H' e l = record { list = λ k s hk hs. curve_as (H' k s) (λ j hj. e k s j (omega (arith, used_most (label_on P t))) hs hj) (l.list k s hk hs) }

pub ground_then : {P : Plan} {zs : List ℤ} {most : ℕ} {g : Shape} {ws ws' : List ℕ} → Ground P zs most g ws → Inside 0 (table_limit P most) ws ws' → Ground P zs most g ws'
ground_then a i = record { accepts = a.accepts; task = a.task; few = a.few; room = omega (arith, a.room, i.size) }

module _ {P : Plan} {zs : List ℤ} {most : ℕ} {g : Shape} {ws : List ℕ} (a : Ground P zs most g ws) where
  -- the place after all slots, where the temporary lists stand
  abbrev pub free : ℕ
  free = place_of P (2 * most + 3)

  pub area_low : P.states * width P ≤ 8192
  area_low = mul-le-mul a.task.ready.plan.few_states a.task.ready.plan.narrow

  wide : width P ≤ P.states * width P
  wide = omega (arith, mul-le-mul_right (width P) a.task.ready.plan.some_states)

  pub temps_fit : free + temp_words (width P) ≤ table_limit P most
  temps_fit = omega (arith, wide)

  pub free_low : free ≤ place_most
  free_low = let h : 2 * most + 3 ≤ 67 = omega (arith, a.few) in let k : layer_words P ≤ layer_cell * 8192 = omega (arith, area_low) in omega (arith, mul-le-mul h k)

  -- the place that code computes
  pub place_is : (n : ℕ) {r : ℕ} → (r ≡ n * (layer_cell * (g.states * g.grid.levels))) × (r ≤ place_most) → r ≡ place_of P n
  place_is n h = h.0 ∙ ap (λ (x : ℕ). n * (layer_cell * (x * g.grid.levels))) a.task.shape.states ∙ ap (λ (x : ℕ). n * (layer_cell * (P.states * x))) a.task.shape.levels

  pub slot_place : (b i t : ℕ) {x r : ℕ} → x ≡ slot_of b i t → (r ≡ x * (layer_cell * (g.states * g.grid.levels))) × (r ≤ place_most) → r ≡ place_of P (slot_of b i t)
  slot_place b i t {x} e h = place_is x h ∙ ap (place_of P) e

  -- a slot lies below what is free
  pub under_free : (n : ℕ) → n ≤ 2 * most + 2 → place_of P n + layer_words P ≤ free
  under_free n h = let k : suc n ≤ 2 * most + 3 = omega arith in omega (arith, mul-le-mul_right (layer_words P) k)

  pub slot_layer : {t b : ℕ} → 1 ≤ t → t ≤ length zs → Slots P zs most t b ws → (i : ℕ) → i ≤ suc most → LayerOf P t (total_at P zs t i) ws (place_of P (slot_of b i t))
  unfolding slot_of
  slot_layer {t} {b} h l m i k = go (eqb i 0) refl (ltb t i) refl
    where
      go : (x : Bool) → eqb i 0 ≡ x → (y : Bool) → ltb t i ≡ y → LayerOf P t (total_at P zs t i) ws (place_of P (cond x 0 (cond y 0 (b + i))))
      go true e y f =
          let z = eqb-true i 0 e in
          layer_as (total_at P zs t i) (λ k s j hk hs hj. sym (ap (λ (x : ℕ). total_at P zs t x k s j) z ∙ total_zero P zs t k s j)) (m.empty t)
      go false e true f =
          layer_as (total_at P zs t i) (λ k s j hk hs hj. sym (total_none P zs a.task.ready t i k s j h (omega (arith, a.task.ready.few_readings)) (ltb-true t i f) hk hs hj)) (m.empty t)
      go false e false f = m.slot i (some_slot i (eqb-false i 0 e)) (ltb-false t i f) k

  -- a slot of the bank at hand is apart from one of the other
  module _ {from to : ℕ} (banks : Banks most from to) (t i n : ℕ) (hi : i ≤ suc most) (some : 1 ≤ n) (hn : n ≤ suc most) where
    other_slot : (x : ℕ) → (x ≡ 0) ⊎ ((x ≡ from + i) × (1 ≤ i) × (i ≤ t)) → x ≡ to + n → ⊥
    other_slot x c e = ⊎_elim (λ z. omega arith) (λ z. ⊎_elim (λ q. omega (arith, z.0, z.1, q.0, q.1)) (λ q. omega (arith, z.0, z.1, q.0, q.1)) banks) c

    slot_number : slot_of from i t ≤ 2 * most + 2
    slot_number = ⊎_elim (λ q. omega (arith, slot_low from i t, q.0)) (λ q. omega (arith, slot_low from i t, q.0)) banks

    pub slot_aside : Aside P (place_of P (slot_of from i t)) (place_of P (to + n)) free
    slot_aside = record { apart = apart_places (layer_words P) (slot_of from i t) (to + n) (other_slot (slot_of from i t) (slot_cases from i t)); below = under_free (slot_of from i t) slot_number }
