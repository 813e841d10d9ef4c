-- What each call does: it is refused and changes nothing, or it makes the stated plan. Assumes nothing.
use Prim.Native.Nat.{ℕ}
use native.Mathlib.Omega.{arith}
use mathlib.Core.Path.{◌≡◌, refl, ◌∙◌, ap}
use mathlib.Core.Bool.{Bool, true, false}
use mathlib.Core.Logic.{◌⊎◌, inl, inr, ⊎_elim}
use lib.Dec.{ltb, eqb}
use lib.IntN.{ℤ}
use mathlib.Core.List.{List}
use lib.ListN.{length, length-set, length-replicate}
use borrow.Author.Tests.{eqb-true, ltb-false}
use Rattle.plan.specs.declared.Edge.{Edge}
use Rattle.plan.specs.declared.Label.{Label}
use Rattle.plan.specs.declared.Plan.{Plan}
use Rattle.plan.specs.Build.{no_edge, no_label, blank, refused_at, done, edge_step, label_number, open_number, open_plan, plan_number, change_number, add_edge, add_label, with_edge, with_label, seal_plan, closed, edges_number, labels_number}
use Rattle.plan.specs.Calls.{Call, edge, label, seal, call, Made, opened, called, SameEntries}
use Rattle.plan.proofs.Below.{first_none}
use Rattle.plan.proofs.Kept.{whole, plan_kept, label_kept, edges_same, labels_same}
use Rattle.plan.specs.Build.{AddEdge, Built, Done, EdgeStep, RefuseEdge, Refused}

pub record AddedEdge (p : Plan) (f t k g c : ℕ) : Type 0 where
  pub change : change_number p ≡ 0
  pub early : p.labelcount ≡ 0
  pub what : Edge
  pub step : edge_step p.states p.edges p.edgecount f t k g c ≡ AddEdge what
  pub is : add_edge p f t k g c ≡ done (with_edge p what)

pub edge_cases : (p : Plan) (f t k g c : ℕ) → ((n : ℕ) × (add_edge p f t k g c ≡ refused_at p n)) ⊎ AddedEdge p f t k g c
unfolding add_edge
edge_cases p f t k g c = go (eqb (change_number p) 0) refl
  where
    on_step : (x : EdgeStep) → edge_step p.states p.edges p.edgecount f t k g c ≡ x → eqb (change_number p) 0 ≡ true → ltb 0 p.labelcount ≡ false
        → ((n : ℕ) × (add_edge p f t k g c ≡ refused_at p n)) ⊎ AddedEdge p f t k g c
    on_step (RefuseEdge n) q a b = inl (n, rw (a, b, q))
    on_step (AddEdge e) q a b =
        inr (record { change = eqb-true _ 0 a; early = omega (arith, ltb-false 0 p.labelcount b); what = e; step = q; is = rw (a, b, q) })

    on_late : (b : Bool) → ltb 0 p.labelcount ≡ b → eqb (change_number p) 0 ≡ true → ((n : ℕ) × (add_edge p f t k g c ≡ refused_at p n)) ⊎ AddedEdge p f t k g c
    on_late true q a = inl (11, rw (a, q))
    on_late false q a = on_step (edge_step p.states p.edges p.edgecount f t k g c) refl a q

    go : (b : Bool) → eqb (change_number p) 0 ≡ b → ((n : ℕ) × (add_edge p f t k g c ≡ refused_at p n)) ⊎ AddedEdge p f t k g c
    go true q = on_late (ltb 0 p.labelcount) refl q
    go false q = inl (change_number p, rw q)

pub record AddedLabel (pl : Plan) (l : Label) : Type 0 where
  pub change : change_number pl ≡ 0
  pub number : label_number pl.labels pl.labelcount l ≡ 0
  pub is : add_label pl l.p l.q l.c ≡ done (with_label pl l)

pub label_cases : (pl : Plan) (l : Label) → ((n : ℕ) × (add_label pl l.p l.q l.c ≡ refused_at pl n)) ⊎ AddedLabel pl l
unfolding add_label
label_cases pl l = go (eqb (change_number pl) 0) refl
  where
    on_number : (b : Bool) → eqb (label_number pl.labels pl.labelcount l) 0 ≡ b → eqb (change_number pl) 0 ≡ true
        → ((n : ℕ) × (add_label pl l.p l.q l.c ≡ refused_at pl n)) ⊎ AddedLabel pl l
    on_number true q a = inr (record { change = eqb-true _ 0 a; number = eqb-true _ 0 q; is = rw (a, q) })
    on_number false q a = inl (label_number pl.labels pl.labelcount l, rw (a, q))

    go : (b : Bool) → eqb (change_number pl) 0 ≡ b → ((n : ℕ) × (add_label pl l.p l.q l.c ≡ refused_at pl n)) ⊎ AddedLabel pl l
    go true q = on_number (eqb (label_number pl.labels pl.labelcount l) 0) refl q
    go false q = inl (change_number pl, rw q)

pub seal_cases : (p : Plan) → ((n : ℕ) × (seal_plan p ≡ refused_at p n)) ⊎ ((change_number p ≡ 0) × (seal_plan p ≡ done (closed p)))
unfolding seal_plan
seal_cases p = go (eqb (change_number p) 0) refl
  where
    go : (b : Bool) → eqb (change_number p) 0 ≡ b → ((n : ℕ) × (seal_plan p ≡ refused_at p n)) ⊎ ((change_number p ≡ 0) × (seal_plan p ≡ done (closed p)))
    go true q = inr (eqb-true _ 0 q, rw q)
    go false q = inl (change_number p, rw q)

-- ---- what every plan value and every made plan has

-- the arrays' lengths
pub record Sized (p : Plan) : Type 0 where
  pub edges : length p.edges ≡ 32
  pub labels : length p.labels ≡ 64

pub record Passing (p : Plan) : Type 0 where
  pub sized : Sized p
  pub number : plan_number p ≡ 0

pub seal_kept : (p : Plan) → plan_number (closed p) ≡ plan_number p
unfolding plan_number
seal_kept p = refl

-- every call keeps it, refused or not
pub call_keeps : (p : Plan) (k : Call) → Passing p → Passing (call p k).plan
call_keeps p (edge f t k g c) a =
    ⊎_elim (λ w. rw w.1 a) (λ w. rw w.is (added w)) (edge_cases p f t k g c)
  where
    added : (w : AddedEdge p f t k g c) → Passing (with_edge p w.what)
    added w = record {
      sized = record { edges = simp length-set a.sized.edges; labels = a.sized.labels };
      number = plan_kept p f t k g c w.what a.sized.edges a.number w.early w.step;
    }
call_keeps p (label x y z) a = ⊎_elim (λ w. rw w.1 a) (λ w. rw w.is (added w)) (label_cases p (record { p = x; q = y; c = z }))
  where
    added : AddedLabel p (record { p = x; q = y; c = z }) → Passing (with_label p (record { p = x; q = y; c = z }))
    added w = record {
      sized = record { edges = a.sized.edges; labels = simp length-set a.sized.labels };
      number = label_kept p _ a.sized.labels a.number w.number;
    }
call_keeps p seal a =
    ⊎_elim (λ w. rw w.1 a) (λ w. rw w.1 (record { sized = record { edges = a.sized.edges; labels = a.sized.labels }; number = seal_kept p ∙ a.number })) (seal_cases p)

no_edges : (s : ℕ) (es : List Edge) → edges_number s es 0 ≡ 0
unfolding edges_number
no_edges s es = first_none _

no_labels : (ls : List Label) → labels_number ls 0 ≡ 0
unfolding labels_number
no_labels ls = first_none _

-- a plan just opened
pub blank_passing : (lo hi : ℤ) (s a b : ℕ) → open_number lo hi s a b ≡ 0 → Passing (blank lo hi s a b)
blank_passing lo hi s a b h = record {
  sized = record { edges = length-replicate 32 no_edge; labels = length-replicate 64 no_label };
  number = whole (blank lo hi s a b) (record { opens = h; edges = no_edges s _; labels = no_labels _ });
}

-- an opening that is not refused gives a blank plan
pub open_is : (lo hi : ℤ) (s a b : ℕ) (p : Plan) → open_plan lo hi s a b ≡ done p → (open_number lo hi s a b ≡ 0) × (blank lo hi s a b ≡ p)
unfolding open_plan
open_is lo hi s a b p h = go (eqb (open_number lo hi s a b) 0) refl
  where
    go : (t : Bool) → eqb (open_number lo hi s a b) 0 ≡ t → (open_number lo hi s a b ≡ 0) × (blank lo hi s a b ≡ p)
    go true q =
        let e : done (blank lo hi s a b) ≡ done p = rw q at h in
        (eqb-true _ 0 q, ap (λ (x : Built). x.plan) e)
    go false q =
        let e : Refused (open_number lo hi s a b) ≡ Done = ap (λ (x : Built). x.answer) (rw q at h) in
        let z : ◌≡◌ {A = ℕ} 0 1 = cc in absurd (omega arith)

open_passing : (lo hi : ℤ) (s a b : ℕ) (p : Plan) → open_plan lo hi s a b ≡ done p → Passing p
open_passing lo hi s a b p h = let (q, w) = open_is lo hi s a b p h in rw (← w) (blank_passing lo hi s a b q)

-- every made plan passes
pub made_passing : {p : Plan} → Made p → Passing p
made_passing (opened lo hi s a b p h) = open_passing lo hi s a b p h
made_passing (called p q k m h) = rw (← ap (λ (x : Built). x.plan) h) (call_keeps p k (made_passing m))

-- a number looks at the counted entries alone
pub number_same : (p q : Plan) → SameEntries p q → plan_number p ≡ plan_number q
unfolding plan_number
number_same p q s =
    rw (edges_same p.states p.edges q.edges p.edgecount s.edges, labels_same p.labels q.labels p.labelcount s.labels, s.lo, s.hi, s.states, s.start, s.end, s.edgecount, s.labelcount)

-- a plan that has the counted entries of a made one passes
pub made_passes : (p q : Plan) → Made q → SameEntries p q → plan_number p ≡ 0
made_passes p q m s = number_same p q s ∙ (made_passing m).number
