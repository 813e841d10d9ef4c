-- A plan's number is what building it call by call gives; where it is 0, the calls make a plan with its counted entries.
-- Assumes nothing.
use Prim.Native.Nat.{ℕ, zero, suc, ◌+◌, ◌-◌, ◌≤◌, ◌<◌}
use native.Mathlib.Omega.{arith}
use native.Mathlib.Numerals.{add-one}
use mathlib.Core.Path.{◌≡◌, refl, sym, ◌∙◌, ap}
use mathlib.Core.Bool.{Bool, true, false}
use mathlib.Core.List.{List}
use mathlib.Core.Logic.{◌⊎◌, inl, inr, ⊎_elim}
use lib.Dec.{leb, ltb, eqb}
use lib.ListN.{length, get_or, set, length-set}
use lib.Seq.{get_or-set_same, get_or-set_other}
use borrow.Author.Tests.{eqb-true, eqb-false, leb-true, leb-false, ne_eqb}
use Rattle.plan.specs.declared.Kind.{Kind}
use Rattle.plan.specs.declared.Kind.TheVariants.{Stay, Any, Up, Down, Abs}
use Rattle.plan.specs.declared.Edge.{Edge}
use Rattle.plan.specs.declared.Plan.{Plan}
use Rattle.plan.specs.Build.{pick, first_below, kind_of, with_kind, kind_number, gap_of, has_edge, read_edge, fresh_edge, edge_of, edge_step, edge_step_number, entry_number, edges_number, label_number, labels_number, open_number, plan_number, change_number, or_else, answer_number, no_edge, no_label, blank, done, refused_at, with_edge, with_label, add_step}
use Rattle.plan.specs.Calls.{edge_at, label_at, Call, call, Made, opened, called, edge_call, label_call, after, and_then, build_edges, build_labels, build_again, SameEntries}
use Rattle.plan.proofs.Below.{first_none, first_found}
use Rattle.plan.proofs.Steps.{entry_full, label_full, edge_decided, label_stopped, label_added, open_refused, open_done, change_none}
use Rattle.plan.proofs.Kept.{by_kind, by_edge_lem, never, step_read, step_same, label_same, Parts, parts, whole}
use Rattle.plan.proofs.Cases.{Sized, number_same}
use Rattle.std.specs.Prelude.{Option, Some, None}
use Rattle.plan.specs.Build.{AddEdge, Answer, Built, Done, EdgeStep, RefuseEdge, Refused}

-- ---- a run of calls, for edges and for labels alike

-- after a refusal nothing more happens
stuck : (b : Built) (k : Call) (n : ℕ) → b.answer ≡ Refused n → (and_then b k).answer ≡ Refused n
stuck b k n e = rw e refl

module _ (f : ℕ → ℕ) (build : ℕ → Built) (calls : ℕ → Call) (made : ℕ → Plan)
    (from : build 0 ≡ done (made 0))
    (on : (i : ℕ) → build (suc i) ≡ and_then (build i) (calls i))
    (one : (i : ℕ) → first_below f i ≡ 0 → ((f i ≡ 0) × (call (made i) (calls i) ≡ done (made (suc i)))) ⊎ ((f i ≡ 0 → ⊥) × (call (made i) (calls i) ≡ refused_at (made i) (f i)))) where
  abbrev Right : ℕ → Type 0
  Right i = ((first_below f i ≡ 0) × (build i ≡ done (made i))) ⊎ ((first_below f i ≡ 0 → ⊥) × ((build i).answer ≡ Refused (first_below f i)))

  first_next : (i : ℕ) → first_below f i ≡ 0 → first_below f (suc i) ≡ f i
  unfolding first_below
  first_next i e = rw e refl

  first_stays : (i : ℕ) → (first_below f i ≡ 0 → ⊥) → first_below f (suc i) ≡ first_below f i
  unfolding first_below
  first_stays i h = rw (ne_eqb _ 0 h) refl

  run : (i : ℕ) → Right i
  run zero = inl (first_none f, from)
  run (suc i) = ⊎_elim good bad (run i)
    where
      good : (first_below f i ≡ 0) × (build i ≡ done (made i)) → Right (suc i)
      good w =
          let e : build (suc i) ≡ call (made i) (calls i) = on i ∙ ap (λ b. and_then b (calls i)) w.1 in
          ⊎_elim
          (λ u. inl (first_next i w.0 ∙ u.0, e ∙ u.1))
          (λ u. inr ((λ z. u.0 (sym (first_next i w.0) ∙ z)), ap (λ b. b.answer) (e ∙ u.1) ∙ ap Refused (sym (first_next i w.0))))
          (one i w.0)

      bad : (first_below f i ≡ 0 → ⊥) × ((build i).answer ≡ Refused (first_below f i)) → Right (suc i)
      bad w =
          inr ((λ z. w.0 (sym (first_stays i w.0) ∙ z)), ap (λ b. b.answer) (on i) ∙ stuck (build i) (calls i) _ w.1 ∙ ap Refused (sym (first_stays i w.0)))

-- what is refused at the start stays refused
still : (build : ℕ → Built) (calls : ℕ → Call) → ((i : ℕ) → build (suc i) ≡ and_then (build i) (calls i)) → (n : ℕ) → (build 0).answer ≡ Refused n → (i : ℕ) → (build i).answer ≡ Refused n
still build calls on n e zero = e
still build calls on n e (suc i) = ap (λ b. b.answer) (on i) ∙ stuck (build i) (calls i) n (still build calls on n e i)

-- what stands before a zero is zero
first_zero : (f : ℕ → ℕ) (n : ℕ) → first_below f n ≡ 0 → (i : ℕ) → i < n → first_below f i ≡ 0 → f i ≡ 0
first_zero f n e i l z = go (eqb (f i) 0) refl
  where
    go : (b : Bool) → eqb (f i) 0 ≡ b → f i ≡ 0
    go true q = eqb-true _ 0 q
    go false q = absurd (eqb-false (f i) 0 q (sym (first_found f l z (eqb-false (f i) 0 q)) ∙ e))

first_up : (f : ℕ → ℕ) (n : ℕ) → first_below f (suc n) ≡ 0 → first_below f n ≡ 0
unfolding first_below
first_up f n e = go (eqb (first_below f n) 0) refl
  where
    go : (b : Bool) → eqb (first_below f n) 0 ≡ b → first_below f n ≡ 0
    go true q = eqb-true _ 0 q
    go false q = absurd (eqb-false _ 0 q (rw q at e))

first_low : (f : ℕ → ℕ) (k d : ℕ) → first_below f (k + d) ≡ 0 → first_below f k ≡ 0
first_low f k zero e = ap (first_below f) (omega arith) ∙ e
first_low f k (suc d) e = first_low f k d (first_up f (k + d) (ap (first_below f) (omega arith) ∙ e))

-- a count whose entries all pass is at most the limit, where the entry at the limit is refused
limit : (f : ℕ → ℕ) (m n : ℕ) → (f m ≡ 0 → ⊥) → first_below f n ≡ 0 → n ≤ m
limit f m n h e = go (leb n m) refl
  where
    go : (b : Bool) → leb n m ≡ b → n ≤ m
    go true q = leb-true n m q
    go false q = let l = leb-false n m q in absurd (h (first_zero f n e m l (first_low f m (n - m) (ap (first_below f) (omega arith) ∙ e))))

-- what a call made after an answer was made after a plan
made_then : (b : Built) (k : Call) (q : Plan) → (b ≡ done b.plan → Made b.plan) → and_then b k ≡ done q → Made q
made_then b k q m h = go b.answer refl h
  where
    go : (a : Answer) → b.answer ≡ a → after a b.plan k ≡ done q → Made q
    go Done e w = called b.plan q k (m (ap (λ (x : Answer). record { answer = x; plan = b.plan }) e)) w
    go (Refused n) e w =
        let v : Refused n ≡ Done = ap (λ (x : Built). x.answer) w in
        let z : ◌≡◌ {A = ℕ} 0 1 = cc in absurd (omega arith)

-- ---- edges

-- an edge is read back from its own numbers
kind_own : (κ κ' : Kind) → kind_of (kind_number κ) (gap_of κ) ≡ Some κ' → κ' ≡ κ
kind_own Stay κ' h = cc
kind_own Any κ' h = cc
kind_own (Up g) κ' h = ⊎_elim (λ w. never κ' w.1) (λ w. cc w.1) (by_kind (ltb 1023 g) None (Some (Up g)) κ' h)
kind_own (Down g) κ' h = ⊎_elim (λ w. never κ' w.1) (λ w. cc w.1) (by_kind (ltb 1023 g) None (Some (Down g)) κ' h)
kind_own (Abs g) κ' h = ⊎_elim (λ w. never κ' w.1) (λ w. cc w.1) (by_kind (ltb 1023 g) None (Some (Abs g)) κ' h)

module _ (s : ℕ) (e e' : Edge) where
  read_own : (r : Option Kind) → kind_of (kind_number e.kind) (gap_of e.kind) ≡ r → with_kind e.from e.to e.class r ≡ Some e' → e' ≡ e
  read_own None q h = let z : ◌≡◌ {A = ℕ} 0 1 = cc in absurd (omega arith)
  read_own (Some κ) q h =
      let w : record { from = e.from; to = e.to; kind = κ; class = e.class } ≡ e' = cc in
      let v : κ ≡ e.kind = kind_own e.kind κ q in
      sym w ∙ ap (λ (k : Kind). record { from = e.from; to = e.to; kind = k; class = e.class }) v

  edge_own : edge_of s e.from e.to (kind_number e.kind) (gap_of e.kind) e.class ≡ Some e' → e' ≡ e
  unfolding edge_of
  edge_own h = read_own (kind_of (kind_number e.kind) (gap_of e.kind)) refl (by_edge_lem (leb e.class 15) _ e' (by_edge_lem (ltb e.to s) _ e' (by_edge_lem (ltb e.from s) _ e' h)))

-- a refused edge has a number
step_number : (s : ℕ) (es : List Edge) (n f t k g c m : ℕ) → edge_step s es n f t k g c ≡ RefuseEdge m → m ≡ 0 → ⊥
unfolding edge_step
step_number s es n f t k g c m h = by_limit (leb 32 n) (edge_of s f t k g c) h
  where
    fresh : (b : Bool) (x : Edge) → fresh_edge b x ≡ RefuseEdge m → m ≡ 0 → ⊥
    fresh true x q z = let w : 7 ≡ m = cc in omega arith
    fresh false x q z = let w : ◌≡◌ {A = ℕ} 0 1 = cc in omega arith

    by_limit : (b : Bool) (r : Option Edge) → pick b (RefuseEdge 10) (read_edge es n f t k r) ≡ RefuseEdge m → m ≡ 0 → ⊥
    by_limit true r q z = let w : 10 ≡ m = cc in omega arith
    by_limit false None q z = let w : 6 ≡ m = cc in omega arith
    by_limit false (Some x) q z = fresh (has_edge es n f t k) x q z

module _ (p : Plan) where
  -- p with its first i edges and no label; with its edges and its first j labels
  abbrev edges_to : ℕ → Plan
  edges_to i = record { lo = p.lo; hi = p.hi; states = p.states; start = p.start; end = p.end; edges = p.edges; edgecount = i; labels = p.labels; labelcount = 0; sealed = false }

  abbrev labels_to : ℕ → Plan
  labels_to j = record { lo = p.lo; hi = p.hi; states = p.states; start = p.start; end = p.end; edges = p.edges; edgecount = p.edgecount; labels = p.labels; labelcount = j; sealed = false }

  -- the plans that the calls make
  unfoldable made_edges : ℕ → Plan
  made_edges zero = blank p.lo p.hi p.states p.start p.end
  made_edges (suc i) = with_edge (made_edges i) (edge_at p i)

  unfoldable made_labels : ℕ → Plan
  made_labels zero = made_edges p.edgecount
  made_labels (suc j) = with_label (made_labels j) (label_at p j)

  -- r has the counted entries of q, and is open
  record Front (q r : Plan) : Type 0 where
    same : SameEntries q r
    sized : Sized r
    unsealed : r.sealed ≡ false

  entries_next : {A : Type 0} (es fs : List A) (n i : ℕ) (d : A) → i ≡ n → i < length fs → ((j : ℕ) → j < i → get_or es j d ≡ get_or fs j d) → (j : ℕ) → j < suc i → get_or es j d ≡ get_or (set fs n (get_or es i d)) j d
  entries_next es fs n i d q l h j k = go (eqb j i) refl
    where
      go : (b : Bool) → eqb j i ≡ b → get_or es j d ≡ get_or (set fs n (get_or es i d)) j d
      go true w = rw (← q, eqb-true j i w) (sym (get_or-set_same fs i (get_or es i d) d l))
      go false w = let ne = eqb-false j i w in rw (← q) (h j (omega (arith, ne)) ∙ sym (get_or-set_other fs i j (get_or es i d) d ne))

  front : (i : ℕ) → i ≤ 32 → Front (edges_to i) (made_edges i)
  unfolding made_edges
  front zero l = record {
    same = record { lo = refl; hi = refl; states = refl; start = refl; end = refl; edgecount = refl; labelcount = refl; edges = λ i k. absurd (omega arith); labels = λ i k. absurd (omega arith) };
    sized = record { edges = refl; labels = refl };
    unsealed = refl;
  }
  front (suc i) l =
      let f = front i (omega arith) in
      record {
        same = record {
          lo = f.same.lo;
          hi = f.same.hi;
          states = f.same.states;
          start = f.same.start;
          end = f.same.end;
          edgecount = sym (add-one i) ∙ ap (λ n. n + 1) f.same.edgecount;
          labelcount = f.same.labelcount;
          edges = entries_next p.edges (made_edges i).edges (made_edges i).edgecount i no_edge f.same.edgecount (omega (arith, f.sized.edges)) f.same.edges;
          labels = λ j k. absurd (omega arith);
        };
        sized = record { edges = simp length-set f.sized.edges; labels = f.sized.labels };
        unsealed = f.unsealed;
      }

  back : p.edgecount ≤ 32 → (j : ℕ) → j ≤ 64 → Front (labels_to j) (made_labels j)
  unfolding made_labels
  back m zero l =
      let f = front p.edgecount m in
      record {
        same = record {
          lo = f.same.lo;
          hi = f.same.hi;
          states = f.same.states;
          start = f.same.start;
          end = f.same.end;
          edgecount = f.same.edgecount;
          labelcount = f.same.labelcount;
          edges = f.same.edges;
          labels = λ i k. absurd (omega arith);
        };
        sized = f.sized;
        unsealed = f.unsealed;
      }
  back m (suc j) l =
      let f = back m j (omega arith) in
      record {
        same = record {
          lo = f.same.lo;
          hi = f.same.hi;
          states = f.same.states;
          start = f.same.start;
          end = f.same.end;
          edgecount = f.same.edgecount;
          labelcount = sym (add-one j) ∙ ap (λ n. n + 1) f.same.labelcount;
          edges = f.same.edges;
          labels = entries_next p.labels (made_labels j).labels (made_labels j).labelcount j no_label f.same.labelcount (omega (arith, f.sized.labels)) f.same.labels;
        };
        sized = record { edges = f.sized.edges; labels = simp length-set f.sized.labels };
        unsealed = f.unsealed;
      }

  -- a plan with the entries of one that passes can be changed
  changes : (q r : Plan) → Front q r → Parts q → change_number r ≡ 0
  changes q r f a = sym (change_none r (plan_number r) refl (sym (number_same q r f.same) ∙ whole q a) f.unsealed)

  -- ---- the calls one by one

  abbrev own_step : ℕ → EdgeStep
  own_step i = let e = edge_at p i in edge_step p.states p.edges i e.from e.to (kind_number e.kind) (gap_of e.kind) e.class

  abbrev entry : ℕ → ℕ
  entry i = entry_number p.states p.edges i (edge_at p i)

  abbrev mark : ℕ → ℕ
  mark j = label_number p.labels j (label_at p j)

  few_edges : (i : ℕ) → first_below entry i ≡ 0 → i ≤ 32
  few_edges i = limit entry 32 i (λ z. omega (arith, sym (entry_full p.states p.edges 32 (edge_at p 32) (omega arith)) ∙ z))

  few_labels : (j : ℕ) → first_below mark j ≡ 0 → j ≤ 64
  few_labels j = limit mark 64 j (λ z. omega (arith, sym (label_full p.labels 64 (label_at p 64) (omega arith)) ∙ z))

  edge_made : (i : ℕ) → Front (edges_to i) (made_edges i) → change_number (made_edges i) ≡ 0 → call (made_edges i) (edge_call (edge_at p i)) ≡ add_step (made_edges i) (own_step i)
  edge_made i f w =
      sym
      (edge_decided (made_edges i) _ _ _ _ _ (change_number (made_edges i)) refl w (omega (arith, f.same.labelcount)) (own_step i)
      (rw (← f.same.states, ← f.same.edgecount) (step_same p.states p.edges (made_edges i).edges i f.same.edges _ _ _ _ _)))

  edge_by :
      (i : ℕ) (x : EdgeStep) → own_step i ≡ x → call (made_edges i) (edge_call (edge_at p i)) ≡ add_step (made_edges i) (own_step i) →
      ((entry i ≡ 0) × (call (made_edges i) (edge_call (edge_at p i)) ≡ done (made_edges (suc i)))) ⊎ ((entry i ≡ 0 → ⊥) × (call (made_edges i) (edge_call (edge_at p i)) ≡ refused_at (made_edges i) (entry i)))
  unfolding entry_number made_edges
  edge_by i (RefuseEdge n) q m =
      inr ((λ z. step_number _ _ _ _ _ _ _ _ n q (ap edge_step_number (sym q) ∙ z)), m ∙ ap (add_step (made_edges i)) q ∙ ap (refused_at (made_edges i)) (ap edge_step_number (sym q)))
  edge_by i (AddEdge e) q m =
      let own : e ≡ edge_at p i = edge_own p.states (edge_at p i) e (step_read p.states p.edges i _ _ _ _ _ e q) in
      inl (ap edge_step_number q, m ∙ ap (add_step (made_edges i)) q ∙ ap (λ (x : Edge). done (with_edge (made_edges i) x)) own)

  edge_one :
      open_number p.lo p.hi p.states p.start p.end ≡ 0 → (i : ℕ) → first_below entry i ≡ 0 →
      ((entry i ≡ 0) × (call (made_edges i) (edge_call (edge_at p i)) ≡ done (made_edges (suc i)))) ⊎ ((entry i ≡ 0 → ⊥) × (call (made_edges i) (edge_call (edge_at p i)) ≡ refused_at (made_edges i) (entry i)))
  unfolding edges_number labels_number
  edge_one a i h =
      let f = front i (few_edges i h) in
      edge_by i (own_step i) refl (edge_made i f (changes (edges_to i) (made_edges i) f (record { opens = a; edges = h; labels = first_none _ })))

  label_one :
      Parts (edges_to p.edgecount) → p.edgecount ≤ 32 → (j : ℕ) → first_below mark j ≡ 0 →
      ((mark j ≡ 0) × (call (made_labels j) (label_call (label_at p j)) ≡ done (made_labels (suc j)))) ⊎ ((mark j ≡ 0 → ⊥) × (call (made_labels j) (label_call (label_at p j)) ≡ refused_at (made_labels j) (mark j)))
  unfolding labels_number made_labels
  label_one a m j h =
      let f = back m j (few_labels j h) in
      let w = changes (labels_to j) (made_labels j) f (record { opens = a.opens; edges = a.edges; labels = h }) in
      let x : mark j ≡ label_number (made_labels j).labels (made_labels j).labelcount (label_at p j) = rw (← f.same.labelcount) (label_same p.labels (made_labels j).labels j f.same.labels (label_at p j)) in
      by_number (eqb (mark j) 0) refl w x
    where
      by_number : (b : Bool) → eqb (mark j) 0 ≡ b → change_number (made_labels j) ≡ 0 → mark j ≡ label_number (made_labels j).labels (made_labels j).labelcount (label_at p j) →
          ((mark j ≡ 0) × (call (made_labels j) (label_call (label_at p j)) ≡ done (made_labels (suc j)))) ⊎ ((mark j ≡ 0 → ⊥) × (call (made_labels j) (label_call (label_at p j)) ≡ refused_at (made_labels j) (mark j)))
      by_number true q w x = inl (eqb-true _ 0 q, sym (label_added (made_labels j) _ refl _ _ _ (mark j) w x (eqb-true _ 0 q)))
      by_number false q w x = inr (eqb-false _ 0 q, sym (label_stopped (made_labels j) _ refl _ _ _ (mark j) w x (eqb-false _ 0 q)))

  -- ---- all of them

  abbrev opened_at : ℕ
  opened_at = open_number p.lo p.hi p.states p.start p.end

  edges_on : (i : ℕ) → build_edges p (suc i) ≡ and_then (build_edges p i) (edge_call (edge_at p i))
  unfolding build_edges
  edges_on i = refl

  labels_on : (j : ℕ) → build_labels p (suc j) ≡ and_then (build_labels p j) (label_call (label_at p j))
  unfolding build_labels
  labels_on j = refl

  labels_from : build_labels p 0 ≡ build_edges p p.edgecount
  unfolding build_labels
  labels_from = refl

  edges_from : opened_at ≡ 0 → build_edges p 0 ≡ done (made_edges 0)
  unfolding build_edges made_edges
  edges_from h = sym (open_done _ _ _ _ _ opened_at refl h)

  edges_refused : (opened_at ≡ 0 → ⊥) → (build_edges p 0).answer ≡ Refused opened_at
  unfolding build_edges
  edges_refused h = ap (λ (x : Built). x.answer) (sym (open_refused _ _ _ _ _ opened_at refl h))

  -- the number of a plan is the one that building it gives
  pub build_number : answer_number (build_again p).answer ≡ plan_number p
  unfolding plan_number edges_number labels_number made_labels
  build_number = by_opening (eqb opened_at 0) refl
    where
      by_labels : opened_at ≡ 0 → first_below entry p.edgecount ≡ 0 → build_edges p p.edgecount ≡ done (made_edges p.edgecount) → answer_number (build_again p).answer ≡ first_below mark p.labelcount
      by_labels o e b =
          ⊎_elim (λ w. ap (λ (x : Built). answer_number x.answer) w.1 ∙ sym w.0) (λ w. ap answer_number w.1)
          (run mark (build_labels p) (λ j. label_call (label_at p j)) made_labels (labels_from ∙ b) labels_on (label_one (record { opens = o; edges = e; labels = first_none _ }) (few_edges p.edgecount e)) p.labelcount)

      by_opening : (b : Bool) → eqb opened_at 0 ≡ b → answer_number (build_again p).answer ≡ pick b (or_else (first_below entry p.edgecount) (first_below mark p.labelcount)) opened_at
      by_opening false q =
          let n = eqb-false opened_at 0 q in
          let edges = still (build_edges p) (λ i. edge_call (edge_at p i)) edges_on opened_at (edges_refused n) p.edgecount in
          ap answer_number (still (build_labels p) (λ j. label_call (label_at p j)) labels_on opened_at (ap (λ (x : Built). x.answer) labels_from ∙ edges) p.labelcount)
      by_opening true q =
          let o = eqb-true opened_at 0 q in
          ⊎_elim
          (λ w. rw w.0 (by_labels o w.0 w.1))
          (λ w. rw (ne_eqb _ 0 w.0) (ap answer_number (still (build_labels p) (λ j. label_call (label_at p j)) labels_on _ (ap (λ (x : Built). x.answer) labels_from ∙ w.1) p.labelcount)))
          (run entry (build_edges p) (λ i. edge_call (edge_at p i)) made_edges (edges_from o) edges_on (edge_one o) p.edgecount)

  -- a plan that passes has the counted entries of a made one
  edges_made_lem : (i : ℕ) (q : Plan) → build_edges p i ≡ done q → Made q
  unfolding build_edges
  edges_made_lem zero q h = opened _ _ _ _ _ q h
  edges_made_lem (suc i) q h = made_then (build_edges p i) (edge_call (edge_at p i)) q (edges_made_lem i (build_edges p i).plan) h

  labels_made_lem : (j : ℕ) (q : Plan) → build_labels p j ≡ done q → Made q
  unfolding build_labels
  labels_made_lem zero q h = edges_made_lem p.edgecount q h
  labels_made_lem (suc j) q h = made_then (build_labels p j) (label_call (label_at p j)) q (labels_made_lem j (build_labels p j).plan) h

  pub passes_made : plan_number p ≡ 0 → (q : Plan) × Made q × SameEntries p q
  unfolding edges_number labels_number made_labels
  passes_made h =
      let a = parts p h in
      let few = few_edges p.edgecount a.edges in
      let f = (back few p.labelcount (few_labels p.labelcount a.labels)).same in (
        made_labels p.labelcount,
        labels_made_lem p.labelcount _ (built a few),
        record { lo = f.lo; hi = f.hi; states = f.states; start = f.start; end = f.end; edgecount = f.edgecount; labelcount = f.labelcount; edges = f.edges; labels = f.labels },
      )
    where
      ended : {x : ℕ} {A B : Type 0} → x ≡ 0 → ((x ≡ 0) × A) ⊎ ((x ≡ 0 → ⊥) × B) → A
      ended e (inl w) = w.1
      ended e (inr w) = absurd (w.0 e)

      built : Parts p → p.edgecount ≤ 32 → build_labels p p.labelcount ≡ done (made_labels p.labelcount)
      built a few =
          let e = ended a.edges (run entry (build_edges p) (λ i. edge_call (edge_at p i)) made_edges (edges_from a.opens) edges_on (edge_one a.opens) p.edgecount) in
          ended a.labels
          (run mark (build_labels p) (λ j. label_call (label_at p j)) made_labels (labels_from ∙ e) labels_on (label_one (record { opens = a.opens; edges = a.edges; labels = first_none _ }) few) p.labelcount)
