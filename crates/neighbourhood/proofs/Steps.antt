-- One reading more, slot by slot. Assumes nothing.
use mathlib.Core.Path.{◌≡◌, ◌∙◌, ap, subst}
use mathlib.Core.Logic.{inl, inr, ⊎_elim}
use mathlib.Core.List.{List}
use Prim.Native.Nat.{ℕ, suc, ◌+◌, ◌-◌, ◌*◌, ◌≤◌, ◌<◌, min}
use native.Mathlib.Omega.{arith}
use lib.IntN.{ℤ}
use lib.ListN.{length}
use Rattle.integers.specs.Rep.{le_or_lt}
use Rattle.plan.specs.declared.Plan.{Plan}
use Rattle.model.specs.Held.{Table, next_from}
use Rattle.model.specs.Totals.{total_at}
use Rattle.model.proofs.Totals.{total_next}
use Rattle.layer.specs.declared.Shape.{Shape}
use Rattle.layer.specs.Layer.{layer_words, LayerOf, Sources}
use Rattle.layer.specs.Next.{StepReady, Stepped}
use Rattle.layer.proofs.Lists.{layer_same}
use Rattle.saved.specs.Packed.{Inside}
use Rattle.saved.proofs.Chains.{inside_refl, inside_then}
use Rattle.neighbourhood.specs.Slots.{place_of, slot_of, Banks, table_limit, Ground, Slots, StepTo, ForwardTo}
use Rattle.neighbourhood.proofs.Slots.{apart_places, ground_then, temps_fit, free_low, under_free, slot_layer, slot_aside}

-- the slots up to i are made in the bank after `to` layers, and the ones that they come from still stand
pub record Stepping (P : Plan) (zs : List ℤ) (most t from to i : ℕ) (ws ws' : List ℕ) : Type 0 where
  pub old : Slots P zs most t from ws'
  pub made : (n : ℕ) → 1 ≤ n → n ≤ i → LayerOf P (suc t) (total_at P zs (suc t) n) ws' (place_of P (to + n))
  pub inside : Inside 0 (table_limit P most) ws ws'

-- a layer after n others is as it was, where another one is written
pub slot_kept : {P : Plan} {zs : List ℤ} {most : ℕ} {g : Shape} {ws₀ : List ℕ} → Ground P zs most g ws₀ → {t' x n : ℕ} {H' : Table} {ws ws' : List ℕ} → Stepped P t' H' (place_of P x) (place_of P (2 * most + 3)) ws ws'
    → (n ≡ x → ⊥) → n ≤ 2 * most + 2 → {t : ℕ} {H : Table} → LayerOf P t H ws (place_of P n) → LayerOf P t H ws' (place_of P n)
slot_kept {P} a {t'} {x} {n} m e h =
    let u = under_free a n h in
    layer_same m.size (λ i p q. m.word i (⊎_elim (λ d. inl (omega arith)) (λ d. inr (omega arith)) (apart_places (layer_words P) n x e)) (inl (omega arith)))

-- no word above those that the table needs is changed
pub stepped_inside : {P : Plan} {zs : List ℤ} {most : ℕ} {g : Shape} {ws₀ : List ℕ} → Ground P zs most g ws₀ → {t x : ℕ} {H : Table} {ws ws' : List ℕ} → x ≤ 2 * most + 2
    → Stepped P t H (place_of P x) (place_of P (2 * most + 3)) ws ws' → Inside 0 (table_limit P most) ws ws'
stepped_inside {P} a {t} {x} h m =
    let u = under_free a x h in
    let v = temps_fit a in
    record { size = m.size; word = λ i. ⊎_elim (λ p. absurd (omega arith)) (λ p. m.word i (inr (omega arith)) (inr (omega arith))) }

module _ {P : Plan} {zs : List ℤ} {most : ℕ} {g : Shape} {ws : List ℕ} (a : Ground P zs most g ws) {t from to : ℕ} (some : 1 ≤ t) (more : t < length zs) (banks : Banks most from to) where
  module _ {ws' : List ℕ} {i : ℕ} (m : Stepping P zs most t from to i ws ws') (hi : i ≤ most) where
    -- stays come from the same slot, changes from the one before
    abbrev tables : ℕ → Table
    tables c = total_at P zs t (suc i - c)

    ground_now : Ground P zs most g ws'
    ground_now = ground_then a m.inside

    pub sources : Sources P t tables ws' (place_of P (slot_of from (suc i) t)) (place_of P (slot_of from i t))
    sources = record { stays = from_slot (suc i) (suc i - 0) (omega arith) (omega arith); changes = from_slot i (suc i - 1) (omega arith) (omega arith) }
      where
        from_slot : (n x : ℕ) → n ≡ x → n ≤ suc most → LayerOf P t (total_at P zs t x) ws' (place_of P (slot_of from n t))
        from_slot n x e h = subst (λ (y : ℕ). LayerOf P t (total_at P zs t y) ws' (place_of P (slot_of from n t))) e (slot_layer ground_now some (omega arith) m.old n h)

    to_low : to + suc i ≤ 2 * most + 2
    to_low = ⊎_elim (λ q. omega (arith, q.1)) (λ q. omega (arith, q.1)) banks

    pub step_ready : StepReady P zs t (place_of P (slot_of from (suc i) t)) (place_of P (slot_of from i t)) (place_of P (to + suc i)) (place_of P (2 * most + 3)) g ws'
    step_ready = record {
      task = a.task;
      more = more;
      tables = tables;
      sources = sources;
      stays = slot_aside ground_now banks t (suc i) (suc i) (omega arith) (omega arith) (omega arith);
      changes = slot_aside ground_now banks t i (suc i) (omega arith) (omega arith) (omega arith);
      under = under_free ground_now (to + suc i) to_low;
      room = omega (arith, temps_fit ground_now, ground_now.room);
      place = free_low ground_now;
    }

    module _ {ws'' : List ℕ} (w : Stepped P (suc t) (next_from P zs t tables) (place_of P (to + suc i)) (place_of P (2 * most + 3)) ws' ws'') where
      -- the slots at hand are in the other bank, those made before are others of this one
      kept : {n : ℕ} → (n ≡ to + suc i → ⊥) → n ≤ 2 * most + 2 → {t' : ℕ} {H : Table} → LayerOf P t' H ws' (place_of P n) → LayerOf P t' H ws'' (place_of P n)
      kept = slot_kept ground_now w

      at_hand : (n : ℕ) → 1 ≤ n → n ≤ suc most → (from + n ≡ to + suc i → ⊥) × (from + n ≤ 2 * most + 2)
      at_hand n some h = ⊎_elim (λ q. (λ e. omega (arith, q.0, q.1), omega (arith, q.0))) (λ q. (λ e. omega (arith, q.0, q.1), omega (arith, q.0))) banks

      next_made : LayerOf P (suc t) (total_at P zs (suc t) (suc i)) ws'' (place_of P (to + suc i))
      next_made = subst (λ (H : Table). LayerOf P (suc t) H ws'' (place_of P (to + suc i))) (total_next P zs t i some) w.layer

      pub stepping_more : Stepping P zs most t from to (suc i) ws ws''
      stepping_more = record {
        old = record {
          empty = λ t'. kept (λ e. omega arith) (omega arith) (m.old.empty t');
          slot = λ n h k l. let b = at_hand n h l in kept b.0 b.1 (m.old.slot n h k l);
        };
        made = λ n h k. ⊎_elim (λ q. last n (omega arith)) (λ q. kept (λ e. omega arith) (omega (arith, to_low)) (m.made n h (omega arith))) (le_or_lt (suc i) n);
        inside = inside_then m.inside (stepped_inside ground_now to_low w);
      }
        where
          last : (n : ℕ) → n ≡ suc i → LayerOf P (suc t) (total_at P zs (suc t) n) ws'' (place_of P (to + n))
          last n e = rw e next_made

    -- the same with the numbers that code has
    module _ {n stays changes next f : ℕ} (e : n ≡ suc i) (at-stays : stays ≡ place_of P (slot_of from n t)) (at-changes : changes ≡ place_of P (slot_of from i t)) (at_next : next ≡ place_of P (to + n)) (at-free : f ≡ place_of P (2 * most + 3)) where
      pub ready_as : StepReady P zs t stays changes next f g ws'
      ready_as = rw (at-stays, at-changes, at_next, at-free, e) step_ready

      pub more_as : {ws'' : List ℕ} → ((T : ℕ → Table) → Sources P t T ws' stays changes → Stepped P (suc t) (next_from P zs t T) next f ws' ws'') → Stepping P zs most t from to n ws ws''
      more_as {ws''} w = rw e (stepping_more (subst (λ (x : ℕ). Stepped P (suc t) (next_from P zs t tables) x (place_of P (2 * most + 3)) ws' ws'') (at_next ∙ ap (λ (x : ℕ). place_of P (to + x)) e)
          (subst (λ (x : ℕ). Stepped P (suc t) (next_from P zs t tables) next x ws' ws'') at-free (w tables (rw (at-stays, at-changes, e) sources)))))

-- ---- reading by reading

pub forward_more : {P : Plan} {zs : List ℤ} {most t n from to : ℕ} {ws ws' ws'' : List ℕ} → n ≡ suc t → StepTo P zs most t from ws ws' → StepTo P zs most (suc t) to ws' ws'' → StepTo P zs most n to ws ws''
forward_more {P} {zs} {most} {t} {n} {from} {to} {ws} {ws'} {ws''} e m w = rw e (record { slots = w.slots; inside = inside_then m.inside w.inside })

pub other_banks : {most from to : ℕ} → Banks most from to → Banks most to from
other_banks = ⊎_elim (λ q. inr (q.1, q.0)) (λ q. inl (q.1, q.0))

pub forward_all : {P : Plan} {zs : List ℤ} {most t from to : ℕ} {ws ws' ws'' : List ℕ} → t ≡ length zs → Banks most from to → Inside 0 (table_limit P most) ws ws' → StepTo P zs most t from ws' ws'' → ForwardTo P zs most from ws ws''
forward_all {P} {zs} {most} {t} {from} {to} {ws} {ws'} {ws''} e b i m = record {
  step = subst (λ (x : ℕ). StepTo P zs most x from ws ws'') e (record { slots = m.slots; inside = inside_then i m.inside });
  bank = ⊎_elim (λ q. omega (arith, q.0)) (λ q. omega (arith, q.0)) b;
}
