-- "Opening sets all entries past the counts to 0 (kind stay); a call that adds an entry changes no other": a plan made by calls has zeros past its
-- counts. Assumes nothing.
use Prim.Native.Nat.{ℕ, zero, suc, ◌+◌, ◌≤◌}
use native.Mathlib.Omega.{arith}
use mathlib.Core.Path.{◌≡◌, refl, ◌∙◌, ap}
use mathlib.Core.List.{List}
use mathlib.Core.Logic.{⊎_elim}
use lib.IntN.{ℤ}
use lib.ListN.{get_or, set, replicate}
use lib.Seq.{get_or-set_other}
use Rattle.plan.specs.declared.Edge.{Edge}
use Rattle.plan.specs.declared.Label.{Label}
use Rattle.plan.specs.declared.Plan.{Plan}
use Rattle.plan.specs.Build.{no_edge, no_label, done, open_plan, with_edge, with_label}
use Rattle.plan.specs.Calls.{edge_at, label_at, Call, edge, label, seal, call, Made, opened, called}
use Rattle.plan.proofs.Cases.{edge_cases, label_cases, seal_cases, open_is}
use Rattle.plan.specs.Build.{Built}

pub record Zeros (p : Plan) : Type 0 where
  pub edges : (i : ℕ) → p.edgecount ≤ i → edge_at p i ≡ no_edge
  pub labels : (i : ℕ) → p.labelcount ≤ i → label_at p i ≡ no_label

all_same : {A : Type 0} (n i : ℕ) (d : A) → get_or (replicate n d) i d ≡ d
all_same zero i d = refl
all_same (suc n) zero d = refl
all_same (suc n) (suc i) d = all_same n i d

-- a store at n is not seen above n
past_store : {A : Type 0} (es : List A) (n : ℕ) (e d : A) → ((i : ℕ) → n ≤ i → get_or es i d ≡ d) → (i : ℕ) → n + 1 ≤ i → get_or (set es n e) i d ≡ d
past_store es n e d h i l = get_or-set_other es n i e d (λ q. omega (arith, q)) ∙ h i (omega arith)

call_zeros : (p : Plan) (k : Call) → Zeros p → Zeros (call p k).plan
call_zeros p (edge f t k g c) z = ⊎_elim (λ w. rw w.1 z) (λ w. rw w.is (added w.what)) (edge_cases p f t k g c)
  where
    added : (e : Edge) → Zeros (with_edge p e)
    added e = record { edges = past_store p.edges p.edgecount e no_edge z.edges; labels = z.labels }
call_zeros p (label x y c) z = ⊎_elim (λ w. rw w.1 z) (λ w. rw w.is (added (record { p = x; q = y; c = c }))) (label_cases p (record { p = x; q = y; c = c }))
  where
    added : (l : Label) → Zeros (with_label p l)
    added l = record { edges = z.edges; labels = past_store p.labels p.labelcount l no_label z.labels }
call_zeros p seal z = ⊎_elim (λ w. rw w.1 z) (λ w. rw w.1 (record { edges = z.edges; labels = z.labels })) (seal_cases p)

open_zeros : (lo hi : ℤ) (s a b : ℕ) (p : Plan) → open_plan lo hi s a b ≡ done p → Zeros p
open_zeros lo hi s a b p h = rw (← (open_is lo hi s a b p h).1) (record { edges = λ i l. all_same 32 i no_edge; labels = λ i l. all_same 64 i no_label })

pub made_zeros : {p : Plan} → Made p → Zeros p
made_zeros (opened lo hi s a b p h) = open_zeros lo hi s a b p h
made_zeros (called p q k m h) = rw (← ap (λ (x : Built). x.plan) h) (call_zeros p k (made_zeros m))
