-- The bytes of a plan with one entry more.
-- Assumes nothing.
use Prim.Native.Nat.{ℕ, zero, suc, ◌+◌, ◌/◌, ◌%◌, ◌≤◌, ◌<◌}
use native.Mathlib.Omega.{arith}
use native.Mathlib.Numerals.{add-one}
use mathlib.Core.Path.{◌≡◌, refl, sym, ◌∙◌, ap, ap₂}
use mathlib.Core.Bool.{Bool, true, false}
use mathlib.Core.List.{List, [], ◌++◌, append_assoc, append-nil}
use mathlib.Core.Logic.{◌⊎◌, inl, inr}
use lib.Dec.{eqb}
use lib.ListN.{length, get_or, set}
use lib.Seq.{get_or-set_same, get_or-set_other}
use borrow.Author.Tests.{eqb-true}
use Rattle.integers.specs.Pick.{pick}
use Rattle.integers.specs.Bytes.{word_high, word_low}
use Rattle.readings.specs.Trips.{AllBytes}
use Rattle.plan.specs.Build.{Built, Done, Refused, kind_number, gap_of, no_edge, no_label, add_edge, add_label, with_edge, with_label, refused_at}
use Rattle.plan.specs.declared.Edge.{Edge}
use Rattle.plan.specs.declared.Label.{Label}
use Rattle.plan.specs.declared.Plan.{Plan}
use Rattle.plan.proofs.Steps.{step_room, label_room}
use Rattle.plan.proofs.Kept.{step_read, edge_back}
use Rattle.plan.proofs.Cases.{AddedEdge, edge_cases, AddedLabel, label_cases, Sized}
use Rattle.fields.specs.Fields.{field, word_at}
use Rattle.fields.proofs.Laws.{spell}
use Rattle.files.specs.Reader.{edge_body, label_body}
use Rattle.files.specs.Writer.{grid_field, states_field, edge_field, label_field, edges_bytes, labels_bytes, head_bytes}

-- bytes of entries before n do not see a store at n
edges_keep : (es : List Edge) (e : Edge) (m n : ℕ) → n ≤ m → edges_bytes (set es m e) n ≡ edges_bytes es n
unfolding edges_bytes
edges_keep es e m zero h = refl
edges_keep es e m (suc n) h = ap₂ (λ (l : List ℕ) (x : Edge). l ++ edge_field x) (edges_keep es e m n (omega arith)) (get_or-set_other es m n e no_edge (λ q. omega (arith, q)))

labels_keep : (ls : List Label) (l : Label) (m n : ℕ) → n ≤ m → labels_bytes (set ls m l) n ≡ labels_bytes ls n
unfolding labels_bytes
labels_keep ls l m zero h = refl
labels_keep ls l m (suc n) h = ap₂ (λ (x : List ℕ) (y : Label). x ++ label_field y) (labels_keep ls l m n (omega arith)) (get_or-set_other ls m n l no_label (λ q. omega (arith, q)))

-- one edge more, in a plan with no label; one label more
pub head_edge : (p : Plan) (e : Edge) → p.labelcount ≡ 0 → p.edgecount < length p.edges → head_bytes (with_edge p e) ≡ head_bytes p ++ edge_field e
unfolding head_bytes edges_bytes labels_bytes
head_edge p e z h =
    let n = p.edgecount in
    let g = grid_field p.lo p.hi ++ states_field p.states p.start p.end in
    let a : labels_bytes p.labels p.labelcount ≡ [] = ap (labels_bytes p.labels) z in
    let b : edges_bytes (set p.edges n e) (n + 1) ≡ edges_bytes p.edges n ++ edge_field e =
    ap (edges_bytes (set p.edges n e)) (add-one n) ∙ ap₂ (λ (l : List ℕ) (x : Edge). l ++ edge_field x) (edges_keep p.edges e n n (omega arith)) (get_or-set_same p.edges n e no_edge h) in
    ap₂ (λ (x y : List ℕ). g ++ x ++ y) b a ∙ append-nil (g ++ (edges_bytes p.edges n ++ edge_field e)) ∙ sym (append_assoc g (edges_bytes p.edges n) (edge_field e)) ∙
    ap (λ (x : List ℕ). x ++ edge_field e) (sym (append-nil (g ++ edges_bytes p.edges n)) ∙ ap (λ (x : List ℕ). g ++ edges_bytes p.edges n ++ x) (sym a))

pub head_label : (p : Plan) (l : Label) → p.labelcount < length p.labels → head_bytes (with_label p l) ≡ head_bytes p ++ label_field l
unfolding head_bytes labels_bytes
head_label p l h =
    let n = p.labelcount in
    let g = grid_field p.lo p.hi ++ states_field p.states p.start p.end ++ edges_bytes p.edges p.edgecount in
    let b : labels_bytes (set p.labels n l) (n + 1) ≡ labels_bytes p.labels n ++ label_field l =
    ap (labels_bytes (set p.labels n l)) (add-one n) ∙ ap₂ (λ (x : List ℕ) (y : Label). x ++ label_field y) (labels_keep p.labels l n n (omega arith)) (get_or-set_same p.labels n l no_label h) in
    ap (λ (x : List ℕ). g ++ x) b ∙ sym (append_assoc g (labels_bytes p.labels n) (label_field l))

no_answer : {Q : Type 0} (n : ℕ) → Refused n ≡ Done → Q
no_answer n h = let z : ◌≡◌ {A = ℕ} 0 1 = cc in absurd (omega arith)

-- an edge or a label that was added from a body has that body's bytes
module _ (b : List ℕ) (p : Plan) (f : AllBytes b) (z : Sized p) where
  edge_bytes : (e : Edge) → (e.from ≡ get_or b 0 0) × (e.to ≡ get_or b 1 0) × (kind_number e.kind ≡ get_or b 2 0) × (gap_of e.kind ≡ word_at b 3) × (e.class ≡ get_or b 5 0) → length b ≡ 6 → edge_field e ≡ field 3 b
  edge_bytes e q h =
      let gh = ap (λ (k : ℕ). k / 256) q.3 ∙ word_high (get_or b 3 0) (get_or b 4 0) (f 4) in
      let gl = ap (λ (k : ℕ). k % 256) q.3 ∙ word_low (get_or b 3 0) (get_or b 4 0) (f 4) in
      rw (q.0, q.1, q.2, gh, gl, q.4) (ap (field 3) (spell 6 b h))

  pub added_edge : (edge_body b p).answer ≡ Done → head_bytes (edge_body b p).plan ≡ head_bytes p ++ field 3 b
  unfolding edge_body
  added_edge = go (eqb (length b) 6) refl
    where
      by_case : length b ≡ 6 → ((n : ℕ) × (add_edge p (get_or b 0 0) (get_or b 1 0) (get_or b 2 0) (word_at b 3) (get_or b 5 0) ≡ refused_at p n)) ⊎ AddedEdge p (get_or b 0 0) (get_or b 1 0) (get_or b 2 0) (word_at b 3) (get_or b 5 0) →
          (add_edge p (get_or b 0 0) (get_or b 1 0) (get_or b 2 0) (word_at b 3) (get_or b 5 0)).answer ≡ Done → head_bytes (add_edge p (get_or b 0 0) (get_or b 1 0) (get_or b 2 0) (word_at b 3) (get_or b 5 0)).plan ≡ head_bytes p ++ field 3 b
      by_case h (inl w) a = no_answer w.0 (sym (ap (λ (x : Built). x.answer) w.1) ∙ a)
      by_case h (inr w) a =
          let s = edge_back _ _ _ _ _ _ w.what (step_read _ _ _ _ _ _ _ _ w.what w.step) in
          ap (λ (x : Built). head_bytes x.plan) w.is ∙ head_edge p w.what w.early (omega (arith, z.edges, step_room _ _ _ _ _ _ _ _ w.what w.step)) ∙ ap (λ (x : List ℕ). head_bytes p ++ x) (edge_bytes w.what s h)

      go : (t : Bool) → eqb (length b) 6 ≡ t → (pick t (add_edge p (get_or b 0 0) (get_or b 1 0) (get_or b 2 0) (word_at b 3) (get_or b 5 0)) (refused_at p 3)).answer ≡ Done →
          head_bytes (pick t (add_edge p (get_or b 0 0) (get_or b 1 0) (get_or b 2 0) (word_at b 3) (get_or b 5 0)) (refused_at p 3)).plan ≡ head_bytes p ++ field 3 b
      go true e a = by_case (eqb-true (length b) 6 e) (edge_cases p (get_or b 0 0) (get_or b 1 0) (get_or b 2 0) (word_at b 3) (get_or b 5 0)) a
      go false e a = no_answer 3 a

  abbrev read_label : Label
  read_label = record { p = word_at b 0; q = word_at b 2; c = get_or b 4 0 }

  label_bytes : length b ≡ 5 → label_field read_label ≡ field 4 b
  label_bytes h =
      let ph = word_high (get_or b 0 0) (get_or b 1 0) (f 1) in
      let pl = word_low (get_or b 0 0) (get_or b 1 0) (f 1) in
      let qh = word_high (get_or b 2 0) (get_or b 3 0) (f 3) in
      let ql = word_low (get_or b 2 0) (get_or b 3 0) (f 3) in
      rw (ph, pl, qh, ql) (ap (field 4) (spell 5 b h))

  pub added_label : (label_body b p).answer ≡ Done → head_bytes (label_body b p).plan ≡ head_bytes p ++ field 4 b
  unfolding label_body
  added_label = go (eqb (length b) 5) refl
    where
      by_case : length b ≡ 5 → ((n : ℕ) × (add_label p (word_at b 0) (word_at b 2) (get_or b 4 0) ≡ refused_at p n)) ⊎ AddedLabel p read_label →
          (add_label p (word_at b 0) (word_at b 2) (get_or b 4 0)).answer ≡ Done → head_bytes (add_label p (word_at b 0) (word_at b 2) (get_or b 4 0)).plan ≡ head_bytes p ++ field 4 b
      by_case h (inl w) a = no_answer w.0 (sym (ap (λ (x : Built). x.answer) w.1) ∙ a)
      by_case h (inr w) a = ap (λ (x : Built). head_bytes x.plan) w.is ∙ head_label p read_label (omega (arith, z.labels, label_room _ _ _ w.number)) ∙ ap (λ (x : List ℕ). head_bytes p ++ x) (label_bytes h)

      go : (t : Bool) → eqb (length b) 5 ≡ t → (pick t (add_label p (word_at b 0) (word_at b 2) (get_or b 4 0)) (refused_at p 3)).answer ≡ Done →
          head_bytes (pick t (add_label p (word_at b 0) (word_at b 2) (get_or b 4 0)) (refused_at p 3)).plan ≡ head_bytes p ++ field 4 b
      go true e a = by_case (eqb-true (length b) 5 e) (label_cases p read_label) a
      go false e a = no_answer 3 a
