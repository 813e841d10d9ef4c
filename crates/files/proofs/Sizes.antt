-- How long the parts of a plan file are.
-- Assumes nothing.
use Rattle.std.specs.Prelude.{ℕ, zero, suc, ◌+◌, ◌-◌, ◌*◌, ◌≤◌, ◌<◌, ◌≡◌, refl, Bool, true, false, List, eqb, leb, length, get_or, ℤ}
use Rattle.std.proofs.Common.{arith, sym, ◌∙◌, ap, length-append, eqb-true, leb-true, leb-false}
use Rattle.std.proofs.lemmas.Bool.{eqb-false}
use Rattle.integers.specs.Pick.{pick}
use Rattle.readings.specs.Codec.{bytes_of}
use Rattle.plan.specs.Counts.{count_ok}
use Rattle.readings.proofs.Trips.{bytes_length}
use Rattle.plan.specs.Build.{first_below, plan_number, edges_number, labels_number, no_edge, no_label}
use Rattle.plan.specs.declared.Edge.{Edge}
use Rattle.plan.specs.declared.Label.{Label}
use Rattle.plan.specs.declared.Plan.{Plan}
use Rattle.plan.proofs.Below.{first_found}
use Rattle.plan.proofs.Steps.{entry_full, label_full}
use Rattle.plan.proofs.Kept.{parts}
use Rattle.files.specs.Writer.{edge_field, label_field, edges_bytes, labels_bytes, head_bytes, plan_bytes, plan_length, write_number}
use Rattle.files.specs.Sizes.{Writes}

pub edges_length : (es : List Edge) (n : ℕ) → length (edges_bytes es n) ≡ 9 * n
unfolding edges_bytes
edges_length es zero = refl
edges_length es (suc n) = length-append (edges_bytes es n) (edge_field (get_or es n no_edge)) ∙ omega (arith, edges_length es n)

pub labels_length : (ls : List Label) (n : ℕ) → length (labels_bytes ls n) ≡ 8 * n
unfolding labels_bytes
labels_length ls zero = refl
labels_length ls (suc n) = length-append (labels_bytes ls n) (label_field (get_or ls n no_label)) ∙ omega (arith, labels_length ls n)

pub head_length : (p : Plan) → length (head_bytes p) ≡ 13 + 9 * p.edgecount + 8 * p.labelcount
unfolding head_bytes bytes_of
head_length p = simp length-append (omega (arith, edges_length p.edges p.edgecount, labels_length p.labels p.labelcount))

pub plan_length_lem : (p : Plan) (zs : List ℤ) → length (plan_bytes p zs) ≡ plan_length p (length zs)
unfolding plan_bytes plan_length
plan_length_lem p zs = simp length-append (omega (arith, head_length p, bytes_length zs))

-- a plan that passes has at most 32 edges and 64 labels: the entry at a limit would be refused
first_down : (f : ℕ → ℕ) (n : ℕ) → first_below f (suc n) ≡ 0 → first_below f n ≡ 0
unfolding first_below
first_down f n e = go (eqb (first_below f n) 0) refl
  where
    go : (b : Bool) → eqb (first_below f n) 0 ≡ b → first_below f n ≡ 0
    go true q = eqb-true _ 0 q
    go false q = absurd (eqb-false _ 0 q (rw q at e))

first_front : (f : ℕ → ℕ) (m d : ℕ) → first_below f (m + d) ≡ 0 → first_below f m ≡ 0
first_front f m zero e = let q : m ≡ m + 0 = omega arith in ap (first_below f) q ∙ e
first_front f m (suc d) e = let q : suc (m + d) ≡ m + suc d = omega arith in first_front f m d (first_down f (m + d) (ap (first_below f) q ∙ e))

limit : (f : ℕ → ℕ) (m n : ℕ) → (f m ≡ 0 → ⊥) → first_below f n ≡ 0 → n ≤ m
limit f m n h e = go (leb n m) refl
  where
    go : (b : Bool) → leb n m ≡ b → n ≤ m
    go true q = leb-true n m q
    go false q =
        let l : m < n = leb-false n m q in
        let k : m + (n - m) ≡ n = omega arith in
        absurd (h (sym (first_found f l (first_front f m (n - m) (ap (first_below f) k ∙ e)) h) ∙ e))

pub counts_small : (p : Plan) → plan_number p ≡ 0 → (p.edgecount ≤ 32) × (p.labelcount ≤ 64)
unfolding edges_number labels_number
counts_small p h =
    let a = parts p h in (
      limit _ 32 p.edgecount (λ z. omega (arith, sym (entry_full p.states p.edges 32 (get_or p.edges 32 no_edge) (omega arith)) ∙ z)) a.edges,
      limit _ 64 p.labelcount (λ z. omega (arith, sym (label_full p.labels 64 (get_or p.labels 64 no_label) (omega arith)) ∙ z)) a.labels,
    )

pub write_room : (p : Plan) (n room : ℕ) → write_number p n room ≡ 0 → Writes p n room
unfolding write_number plan_length
write_room p n room e = go (eqb (plan_number p) 0) refl p.sealed refl (count_ok n) refl (leb (plan_length p n) room) refl e
  where
    go :
        (a : Bool) → eqb (plan_number p) 0 ≡ a → (b : Bool) → p.sealed ≡ b → (c : Bool) → count_ok n ≡ c → (d : Bool) → leb (plan_length p n) room ≡ d →
        ◌≡◌ {A = ℕ} (pick a (pick b (pick c (pick d 0 15) 9) 11) (plan_number p)) 0 → Writes p n room
    go false qa b qb c qc d qd h = absurd (eqb-false (plan_number p) 0 qa h)
    go true qa false qb c qc d qd h = absurd (eqb-false 11 0 refl h)
    go true qa true qb false qc d qd h = absurd (eqb-false 9 0 refl h)
    go true qa true qb true qc false qd h = absurd (eqb-false 15 0 refl h)
    go true qa true qb true qc true qd h =
        let z = eqb-true (plan_number p) 0 qa in
        let k = counts_small p z in
        record { passes = z; sealed = qb; space = record { edges = k.0; labels = k.1; counts = qc; fits = leb-true (plan_length p n) room qd } }
