-- A plan that passes is built call by call as the plan with zeros past its counts.
-- Assumes nothing.
use Prim.Native.Nat.{ℕ, zero, suc, ◌+◌, ◌-◌, ◌<◌}
use native.Mathlib.Omega.{arith}
use native.Mathlib.Nat.{zero-add}
use mathlib.Core.Path.{◌≡◌, refl, sym, ◌∙◌, ap, ap₂}
use mathlib.Core.Bool.{Bool, true, false}
use mathlib.Core.List.{List}
use mathlib.Core.Logic.{⊎_elim}
use lib.Dec.{eqb, leb, ltb}
use lib.IntN.{ℤ, pos}
use borrow.Author.Tests.{eqb-false}
use Rattle.plan.specs.Build.{Built, EdgeStep, AddEdge, RefuseEdge, Answer, Done, Refused, pick, kind_at, kind_number, gap_of, fresh_edge, read_edge, has_edge, edge_of, edge_step, change_number, add_step, add_edge, label_number, add_label, open_number, open_plan, plan_number, blank, done, refused_at, with_edge, with_label, answer_number}
use Rattle.plan.specs.Calls.{Call, call, edge_at, label_at, edge_call, label_call, after, and_then, build_edges, build_labels}
use Rattle.plan.specs.declared.Kind.{Kind}
use Rattle.plan.specs.declared.Kind.TheVariants.{Stay, Any, Up, Down, Abs}
use Rattle.plan.specs.declared.Edge.{Edge}
use Rattle.plan.specs.declared.Label.{Label}
use Rattle.plan.specs.declared.Plan.{Plan}
use Rattle.plan.proofs.Kept.{step_read, edge_back}
use Rattle.plan.proofs.Cases.{AddedEdge, edge_cases, label_cases}
use Rattle.plan.proofs.Again.{build_number}
use Rattle.files.specs.Cleared.{edges_made, labels_made}
use Rattle.files.proofs.Back.{no_answer, open_answer}
use Rattle.std.specs.Prelude.{Option, Some, None}

same_number : {m n : ℕ} → Refused m ≡ Refused n → m ≡ n
same_number h = cc

-- ---- no call is refused with the number 0
abbrev Real : Answer → Type 0
Real (Refused n) = n ≡ 0 → ⊥
Real Done = Unit {0}

real_step : (p : Plan) (s : EdgeStep) → ((m : ℕ) → s ≡ RefuseEdge m → m ≡ 0 → ⊥) → Real (add_step p s).answer
real_step p (RefuseEdge n) h = h n refl
real_step p (AddEdge e) h = tt

step_number : (s : ℕ) (es : List Edge) (n f t k g c m : ℕ) → edge_step s es n f t k g c ≡ RefuseEdge m → m ≡ 0 → ⊥
unfolding edge_step
step_number s es n f t k g c m h = by_limit (leb 32 n) (edge_of s f t k g c) h
  where
    fresh : (b : Bool) (x : Edge) → fresh_edge b x ≡ RefuseEdge m → m ≡ 0 → ⊥
    fresh true x q z = let w : 7 ≡ m = cc in omega arith
    fresh false x q z = let w : ◌≡◌ {A = ℕ} 0 1 = cc in omega arith

    by_limit : (b : Bool) (r : Option Edge) → pick b (RefuseEdge 10) (read_edge es n f t k r) ≡ RefuseEdge m → m ≡ 0 → ⊥
    by_limit true r q z = let w : 10 ≡ m = cc in omega arith
    by_limit false None q z = let w : 6 ≡ m = cc in omega arith
    by_limit false (Some x) q z = fresh (has_edge es n f t k) x q z

real_edge : (p : Plan) (f t k g c : ℕ) → Real (add_edge p f t k g c).answer
unfolding add_edge
real_edge p f t k g c = go (eqb (change_number p) 0) refl (ltb 0 p.labelcount)
  where
    go : (a : Bool) → eqb (change_number p) 0 ≡ a → (b : Bool) → Real (pick a (pick b (refused_at p 11) (add_step p (edge_step p.states p.edges p.edgecount f t k g c))) (refused_at p (change_number p))).answer
    go false q b = eqb-false (change_number p) 0 q
    go true q true = eqb-false 11 0 refl
    go true q false = real_step p (edge_step p.states p.edges p.edgecount f t k g c) (λ m. step_number p.states p.edges p.edgecount f t k g c m)

real_label : (p : Plan) (a b c : ℕ) → Real (add_label p a b c).answer
unfolding add_label
real_label p a b c = go (eqb (change_number p) 0) refl (eqb (label_number p.labels p.labelcount (record { p = a; q = b; c = c })) 0) refl
  where
    go : (x : Bool) → eqb (change_number p) 0 ≡ x → (y : Bool) → eqb (label_number p.labels p.labelcount (record { p = a; q = b; c = c })) 0 ≡ y →
        Real (pick x (pick y (done (with_label p (record { p = a; q = b; c = c }))) (refused_at p (label_number p.labels p.labelcount (record { p = a; q = b; c = c })))) (refused_at p (change_number p))).answer
    go false q y r = eqb-false (change_number p) 0 q
    go true q true r = tt
    go true q false r = eqb-false (label_number p.labels p.labelcount (record { p = a; q = b; c = c })) 0 r

real_open : (lo hi : ℤ) (s a b : ℕ) → Real (open_plan lo hi s a b).answer
unfolding open_plan
real_open lo hi s a b = go (eqb (open_number lo hi s a b) 0) refl
  where
    go : (x : Bool) → eqb (open_number lo hi s a b) 0 ≡ x → Real (pick x (done (blank lo hi s a b)) (refused_at (blank (pos 0) (pos 0) 0 0 0) (open_number lo hi s a b))).answer
    go true q = tt
    go false q = eqb-false (open_number lo hi s a b) 0 q

real_then : (b : Built) (k : Call) → Real b.answer → Real (call b.plan k).answer → Real (and_then b k).answer
real_then b k r c = go b.answer r
  where
    go : (a : Answer) → Real a → Real (after a b.plan k).answer
    go (Refused n) q = q
    go Done q = c

module _ (p : Plan) where
  real_edges : (i : ℕ) → Real (build_edges p i).answer
  unfolding build_edges
  real_edges zero = real_open p.lo p.hi p.states p.start p.end
  real_edges (suc i) = real_then (build_edges p i) (edge_call (edge_at p i)) (real_edges i) (real_edge (build_edges p i).plan (edge_at p i).from (edge_at p i).to (kind_number (edge_at p i).kind) (gap_of (edge_at p i).kind) (edge_at p i).class)

  real_labels : (j : ℕ) → Real (build_labels p j).answer
  unfolding build_labels
  real_labels zero = real_edges p.edgecount
  real_labels (suc j) = real_then (build_labels p j) (label_call (label_at p j)) (real_labels j) (real_label (build_labels p j).plan (label_at p j).p (label_at p j).q (label_at p j).c)

  by_number : (a : Answer) → Real a → answer_number a ≡ 0 → a ≡ Done
  by_number Done r e = refl
  by_number (Refused n) r e = absurd (r e)

  -- ---- so a plan that passes is built, and every call before the last was done
  built_all : plan_number p ≡ 0 → (build_labels p p.labelcount).answer ≡ Done
  built_all h = by_number (build_labels p p.labelcount).answer (real_labels p.labelcount) (build_number p ∙ h)

  before : (b : Built) (k : Call) → (and_then b k).answer ≡ Done → b.answer ≡ Done
  before b k h = go b.answer refl h
    where
      go : (a : Answer) → b.answer ≡ a → (after a b.plan k).answer ≡ Done → a ≡ Done
      go Done e w = refl
      go (Refused n) e w = w

  labels_before : (d j : ℕ) → (build_labels p (j + d)).answer ≡ Done → (build_labels p j).answer ≡ Done
  unfolding build_labels
  labels_before zero j h = let e : j ≡ j + 0 = omega arith in ap (λ (x : ℕ). (build_labels p x).answer) e ∙ h
  labels_before (suc d) j h =
      let e : suc (j + d) ≡ j + suc d = omega arith in
      labels_before d j (before (build_labels p (j + d)) (label_call (label_at p (j + d))) (ap (λ (x : ℕ). (build_labels p x).answer) e ∙ h))

  edges_before : (d i : ℕ) → (build_edges p (i + d)).answer ≡ Done → (build_edges p i).answer ≡ Done
  unfolding build_edges
  edges_before zero i h = let e : i ≡ i + 0 = omega arith in ap (λ (x : ℕ). (build_edges p x).answer) e ∙ h
  edges_before (suc d) i h =
      let e : suc (i + d) ≡ i + suc d = omega arith in
      edges_before d i (before (build_edges p (i + d)) (edge_call (edge_at p (i + d))) (ap (λ (x : ℕ). (build_edges p x).answer) e ∙ h))

-- ---- what was built

kind_self : (κ : Kind) → kind_at (kind_number κ) (gap_of κ) ≡ Some κ
kind_self Stay = refl
kind_self Any = refl
kind_self (Up g) = refl
kind_self (Down g) = refl
kind_self (Abs g) = refl

same_kind : (κ κ' : Kind) → kind_number κ ≡ kind_number κ' → gap_of κ ≡ gap_of κ' → κ ≡ κ'
same_kind κ κ' a b = let e : Some κ ≡ Some κ' = sym (kind_self κ) ∙ ap₂ kind_at a b ∙ kind_self κ' in cc

-- an edge added from the numbers of e is e
module _ (q : Plan) (e : Edge) where
  abbrev pub add_of : Built
  add_of = add_edge q e.from e.to (kind_number e.kind) (gap_of e.kind) e.class

  edge_made : add_of.answer ≡ Done → add_of ≡ done (with_edge q e)
  edge_made a = ⊎_elim (λ w. no_answer w.0 (sym (ap (λ (x : Built). x.answer) w.1) ∙ a)) made (edge_cases q e.from e.to (kind_number e.kind) (gap_of e.kind) e.class)
    where
      made : AddedEdge q e.from e.to (kind_number e.kind) (gap_of e.kind) e.class → add_of ≡ done (with_edge q e)
      made w =
          let s = edge_back _ _ _ _ _ _ w.what (step_read _ _ _ _ _ _ _ _ w.what w.step) in
          let k : w.what.kind ≡ e.kind = same_kind w.what.kind e.kind s.2 s.3 in
          let x : w.what ≡ e = λ i. record { from = s.0 i; to = s.1 i; kind = k i; class = s.4 i } in
          w.is ∙ ap (λ (y : Edge). done (with_edge q y)) x

label_made : (q : Plan) (l : Label) → (add_label q l.p l.q l.c).answer ≡ Done → add_label q l.p l.q l.c ≡ done (with_label q l)
label_made q l a = ⊎_elim (λ w. no_answer w.0 (sym (ap (λ (x : Built). x.answer) w.1) ∙ a)) (λ w. w.is) (label_cases q l)

module _ (p : Plan) where
  edges_built : (i : ℕ) → (build_edges p i).answer ≡ Done → build_edges p i ≡ done (edges_made p i)
  unfolding build_edges edges_made
  edges_built zero h = (open_answer p.lo p.hi p.states p.start p.end h).1
  edges_built (suc i) h =
      let b = edges_built i (before p (build_edges p i) (edge_call (edge_at p i)) h) in
      let e : and_then (build_edges p i) (edge_call (edge_at p i)) ≡ add_of (edges_made p i) (edge_at p i) = ap (λ (x : Built). and_then x (edge_call (edge_at p i))) b in
      e ∙ edge_made (edges_made p i) (edge_at p i) (sym (ap (λ (x : Built). x.answer) e) ∙ h)

  labels_built : (j : ℕ) → (build_labels p j).answer ≡ Done → build_labels p j ≡ done (labels_made p j)
  unfolding build_labels labels_made
  labels_built zero h = edges_built p.edgecount h
  labels_built (suc j) h =
      let b = labels_built j (before p (build_labels p j) (label_call (label_at p j)) h) in
      let l = label_at p j in
      let e : and_then (build_labels p j) (label_call (label_at p j)) ≡ add_label (labels_made p j) l.p l.q l.c = ap (λ (x : Built). and_then x (label_call (label_at p j))) b in
      e ∙ label_made (labels_made p j) (label_at p j) (sym (ap (λ (x : Built). x.answer) e) ∙ h)

  -- the calls one by one
  module _ (h : plan_number p ≡ 0) where
    edges_done : (build_edges p p.edgecount).answer ≡ Done
    unfolding build_labels
    edges_done = labels_before p p.labelcount 0 (ap (λ (x : ℕ). (build_labels p x).answer) (zero-add p.labelcount) ∙ built_all p h)

    pub opens : open_plan p.lo p.hi p.states p.start p.end ≡ done (edges_made p 0)
    unfolding build_edges
    opens = edges_built 0 (edges_before p p.edgecount 0 (ap (λ (x : ℕ). (build_edges p x).answer) (zero-add p.edgecount) ∙ edges_done))

    pub edge_call_lem : (i : ℕ) → i < p.edgecount → add_of (edges_made p i) (edge_at p i) ≡ done (edges_made p (suc i))
    unfolding build_edges edges_made
    edge_call_lem i l =
        let d = p.edgecount - suc i in
        let e : suc i + d ≡ p.edgecount = omega arith in
        let a : (build_edges p (suc i)).answer ≡ Done = edges_before p d (suc i) (ap (λ (x : ℕ). (build_edges p x).answer) e ∙ edges_done) in
        let b = edges_built i (before p (build_edges p i) (edge_call (edge_at p i)) a) in
        let c : and_then (build_edges p i) (edge_call (edge_at p i)) ≡ add_of (edges_made p i) (edge_at p i) = ap (λ (x : Built). and_then x (edge_call (edge_at p i))) b in
        sym c ∙ edges_built (suc i) a

    pub label_call_lem : (j : ℕ) → j < p.labelcount → add_label (labels_made p j) (label_at p j).p (label_at p j).q (label_at p j).c ≡ done (labels_made p (suc j))
    unfolding build_labels labels_made
    label_call_lem j l =
        let d = p.labelcount - suc j in
        let e : suc j + d ≡ p.labelcount = omega arith in
        let a : (build_labels p (suc j)).answer ≡ Done = labels_before p d (suc j) (ap (λ (x : ℕ). (build_labels p x).answer) e ∙ built_all p h) in
        let b = labels_built j (before p (build_labels p j) (label_call (label_at p j)) a) in
        let m = label_at p j in
        let c : and_then (build_labels p j) (label_call (label_at p j)) ≡ add_label (labels_made p j) m.p m.q m.c = ap (λ (x : Built). and_then x (label_call (label_at p j))) b in
        sym c ∙ labels_built (suc j) a
