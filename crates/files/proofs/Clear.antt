-- What the plan that comes back is: the counted entries of the plan that was written, and zeros past them.
-- Assumes nothing.
use Prim.Native.Nat.{ℕ, zero, suc, ◌+◌, ◌-◌, ◌*◌, ◌≤◌, ◌<◌}
use native.Mathlib.Omega.{arith}
use mathlib.Core.Path.{◌≡◌, refl, sym, ◌∙◌, ap}
use mathlib.Core.Bool.{true}
use mathlib.Core.List.{List, ◌++◌}
use lib.ListN.{length, get_or, set, take, drop, replicate, take-append-drop, length-drop, length-replicate, get_or-replicate}
use lib.Seq.{set_at, take-suc, append_snoc, length-take-le, ext_get_or, get_or-drop}
use lib.IntN.{ℤ}
use mir.Syntax.{w16}
use mir.Val.{SFits}
use Rattle.readings.specs.Codec.{readings_of}
use Rattle.readings.specs.Trips.{All16}
use Rattle.plan.specs.Build.{Done, plan_number, no_edge, no_label}
use Rattle.plan.specs.Calls.{Made}
use Rattle.plan.specs.declared.Plan.{Plan}
use Rattle.plan.proofs.Cases.{Sized, made_passing}
use Rattle.plan.proofs.Zeros.{Zeros, made_zeros}
use Rattle.files.specs.Cleared.{edges_made, labels_made, cleared}
use Rattle.files.specs.Reader.{plan_file, readings_part}
use Rattle.files.specs.Writer.{head_bytes, write_number}
use Rattle.files.proofs.Sizes.{counts_small, write_room}
use Rattle.files.proofs.Again.{edges_shape, labels_shape, bytes, written_then_read, readings_then_read}

-- the first i of es, and d in the rest of n places
front_next : {A : Type 0} (es l : List A) (d : A) (n i k : ℕ) → i ≡ k → i < n → i < length es → l ≡ take i es ++ replicate (n - i) d → set l k (get_or es i d) ≡ take (suc i) es ++ replicate (n - suc i) d
front_next es l d n i k q h m e =
    let r : n - i ≡ suc (n - suc i) = omega arith in
    rw (← q, e, r, set_at (take i es) d (replicate (n - suc i) d) (get_or es i d) i (length-take-le i es (omega arith)), take-suc es i d m) (sym (append_snoc (take i es) (get_or es i d) (replicate (n - suc i) d)))

-- the entries past k, all d
zeros_past : {A : Type 0} (es : List A) (n k : ℕ) (d : A) → length es ≡ n → ((i : ℕ) → k ≤ i → get_or es i d ≡ d) → drop k es ≡ replicate (n - k) d
zeros_past es n k d l h =
    ext_get_or d (drop k es) (replicate (n - k) d) (length-drop k es ∙ ap (λ (x : ℕ). x - k) l ∙ sym (length-replicate (n - k) d))
    (λ i q. get_or-drop k es i d ∙ h (k + i) (omega arith) ∙ sym (get_or-replicate (n - k) i d d (omega (arith, q, l, length-drop k es))))

module _ (p : Plan) (z : Sized p) where
  -- what the calls on the way have kept
  record Kept (q : Plan) : Type 0 where
    lo : q.lo ≡ p.lo
    hi : q.hi ≡ p.hi
    states : q.states ≡ p.states
    start : q.start ≡ p.start
    end : q.end ≡ p.end

  edges_kept : (i : ℕ) → Kept (edges_made p i)
  unfolding edges_made
  edges_kept zero = record { lo = refl; hi = refl; states = refl; start = refl; end = refl }
  edges_kept (suc i) = let k = edges_kept i in record { lo = k.lo; hi = k.hi; states = k.states; start = k.start; end = k.end }

  labels_kept : (j : ℕ) → Kept (labels_made p j)
  unfolding labels_made
  labels_kept zero = edges_kept p.edgecount
  labels_kept (suc j) = let k = labels_kept j in record { lo = k.lo; hi = k.hi; states = k.states; start = k.start; end = k.end }

  edges_are : (i : ℕ) → i ≤ 32 → (edges_made p i).edges ≡ take i p.edges ++ replicate (32 - i) no_edge
  unfolding edges_made
  edges_are zero h = refl
  edges_are (suc i) h = front_next p.edges (edges_made p i).edges no_edge 32 i (edges_made p i).edgecount (sym (edges_shape p i).edge_count) (omega arith) (omega (arith, z.edges)) (edges_are i (omega arith))

  labels_keep_edges : (j : ℕ) → (labels_made p j).edges ≡ (edges_made p p.edgecount).edges
  unfolding labels_made
  labels_keep_edges zero = refl
  labels_keep_edges (suc j) = labels_keep_edges j

  edges_no_labels : (i : ℕ) → (edges_made p i).labels ≡ replicate 64 no_label
  unfolding edges_made
  edges_no_labels zero = refl
  edges_no_labels (suc i) = edges_no_labels i

  labels_are : (j : ℕ) → j ≤ 64 → (labels_made p j).labels ≡ take j p.labels ++ replicate (64 - j) no_label
  unfolding labels_made
  labels_are zero h = edges_no_labels p.edgecount
  labels_are (suc j) h = front_next p.labels (labels_made p j).labels no_label 64 j (labels_made p j).labelcount (sym (labels_shape p j).label_count) (omega arith) (omega (arith, z.labels)) (labels_are j (omega arith))

  module _ (h : plan_number p ≡ 0) where
    -- the edges and the labels of the plan that comes back
    pub cleared_edges : (cleared p).edges ≡ take p.edgecount p.edges ++ replicate (32 - p.edgecount) no_edge
    cleared_edges = labels_keep_edges p.labelcount ∙ edges_are p.edgecount (counts_small p h).0

    pub cleared_labels : (cleared p).labels ≡ take p.labelcount p.labels ++ replicate (64 - p.labelcount) no_label
    cleared_labels = labels_are p.labelcount (counts_small p h).1

    -- a sealed plan with zeros past its counts comes back as it was
    pub cleared_own : p.sealed ≡ true → Zeros p → cleared p ≡ p
    cleared_own s y =
        let k = labels_kept p.labelcount in
        let c = labels_shape p p.labelcount in
        let es = cleared_edges ∙ ap (λ x. take p.edgecount p.edges ++ x) (sym (zeros_past p.edges 32 p.edgecount no_edge z.edges y.edges)) ∙ take-append-drop p.edgecount p.edges in
        let ls = cleared_labels ∙ ap (λ x. take p.labelcount p.labels ++ x) (sym (zeros_past p.labels 64 p.labelcount no_label z.labels y.labels)) ∙ take-append-drop p.labelcount p.labels in
        λ i. record { lo = k.lo i; hi = k.hi i; states = k.states i; start = k.start i; end = k.end i; edges = es i; edgecount = c.edge_count i; labels = ls i; labelcount = c.label_count i; sealed = sym s i }

-- write, then read: a plan made by calls comes back as it was, and its readings with it
pub made_then_read : (p : Plan) (zs : List ℤ) (out : List ℕ) → Made p → SFits w16 p.lo → SFits w16 p.hi → All16 zs → write_number p (length zs) (length out) ≡ 0
    → (plan_file (bytes p zs out) ≡ record { answer = Done; plan = p; start = length (head_bytes p) + 3; len = 2 * length zs }) × (readings_of (readings_part (bytes p zs out)) ≡ zs)
made_then_read p zs out m fl fh fz w =
    let r = write_room p (length zs) (length out) w in
    let q = cleared_own p (made_passing m).sized r.passes r.sealed (made_zeros m) in
    (written_then_read p zs out fl fh fz w ∙ ap (λ (x : Plan). record { answer = Done; plan = x; start = length (head_bytes p) + 3; len = 2 * length zs }) q, readings_then_read p zs out fl fh fz w)
