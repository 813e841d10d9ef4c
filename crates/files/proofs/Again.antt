-- A plan that passes, written with 1 to 4,096 readings and read again, comes back.
-- Assumes nothing.
use Prim.Native.Nat.{ℕ, zero, suc, ◌+◌, ◌*◌, ◌/◌, ◌%◌, ◌≤◌, ◌<◌}
use native.Mathlib.Omega.{arith}
use native.Mathlib.Nat.{zero-add}
use native.Mathlib.Numerals.{add-one}
use mathlib.Core.Path.{◌≡◌, refl, sym, ◌∙◌, ap, ap₂}
use mathlib.Core.Bool.{Bool, true, false}
use mathlib.Core.List.{List, [], ◌∷◌, ◌++◌, append-nil, append_assoc}
use lib.ListN.{length, get_or, take, drop, length-append, length-set, length-replicate}
use lib.Seq.{take_at}
use lib.IntN.{ℤ}
use mir.Syntax.{w16}
use mir.Val.{SFits}
use borrow.Author.Tests.{eq-eqb, eqb-false}
use Rattle.integers.specs.Bytes.{word_back, signed_bits, bits16, signed16}
use Rattle.readings.specs.Codec.{readings_of, bytes_of}
use Rattle.plan.specs.Counts.{count_ok}
use Rattle.readings.specs.Trips.{All16}
use Rattle.readings.proofs.Trips.{bytes_length, decode_encode}
use Rattle.plan.specs.Build.{Built, Done, pick as choose, grid_ok, states_ok, open_number, add_edge, add_label, seal_plan, plan_number, done, no_edge, no_label, kind_number, gap_of}
use Rattle.plan.specs.Calls.{edge, label, edge_at, label_at}
use Rattle.plan.specs.declared.Edge.{Edge}
use Rattle.plan.specs.declared.Label.{Label}
use Rattle.plan.specs.declared.Plan.{Plan}
use Rattle.plan.proofs.Steps.{seal_done, change_none}
use Rattle.plan.proofs.Kept.{parts}
use Rattle.plan.proofs.Cases.{Passing, blank_passing, call_keeps}
use Rattle.fields.specs.Fields.{Body, row_of, may_stand, length_fits, count_fits, field_at, part_of, field}
use Rattle.fields.proofs.Laws.{field_read, field_part}
use Rattle.fields.specs.Put.{written}
use Rattle.files.specs.Reader.{FileRead, grid_number, level_at, open_bodies, edge_body, label_body, entry_body, finish_file, entries_from, plan_file, readings_part}
use Rattle.files.specs.Writer.{grid_field, states_field, edge_field, label_field, edges_bytes, labels_bytes, head_bytes, plan_bytes, plan_length, write_number, after_writing}
use Rattle.files.proofs.Sizes.{counts_small, head_length, plan_length_lem, write_room}
use Rattle.files.specs.Cleared.{edges_made, labels_made, cleared}
use Rattle.files.proofs.Spell.{head_edge, head_label}
use Rattle.files.proofs.Built.{add_of, opens, edge_call_lem, label_call_lem}

-- ---- the plans on the way, and their bytes

pub record Shape (q : Plan) (edges labels : ℕ) : Type 0 where
  pub edge_count : q.edgecount ≡ edges
  pub label_count : q.labelcount ≡ labels
  pub edge_room : length q.edges ≡ 32
  pub label_room : length q.labels ≡ 64
  pub unsealed : q.sealed ≡ false

module _ (p : Plan) where
  pub edges_shape : (i : ℕ) → Shape (edges_made p i) i 0
  unfolding edges_made
  edges_shape zero = record { edge_count = refl; label_count = refl; edge_room = length-replicate 32 no_edge; label_room = length-replicate 64 no_label; unsealed = refl }
  edges_shape (suc i) =
      let s = edges_shape i in
      record { edge_count = ap (λ (n : ℕ). n + 1) s.edge_count ∙ add-one i; label_count = s.label_count; edge_room = length-set (edges_made p i).edges (edges_made p i).edgecount (edge_at p i) ∙ s.edge_room; label_room = s.label_room; unsealed = s.unsealed }

  pub labels_shape : (j : ℕ) → Shape (labels_made p j) p.edgecount j
  unfolding labels_made
  labels_shape zero = edges_shape p.edgecount
  labels_shape (suc j) =
      let s = labels_shape j in
      record { edge_count = s.edge_count; label_count = ap (λ (n : ℕ). n + 1) s.label_count ∙ add-one j; edge_room = s.edge_room; label_room = length-set (labels_made p j).labels (labels_made p j).labelcount (label_at p j) ∙ s.label_room; unsealed = s.unsealed }

  abbrev opening : List ℕ
  opening = grid_field p.lo p.hi ++ states_field p.states p.start p.end

  edges_head : (i : ℕ) → i ≤ 32 → head_bytes (edges_made p i) ≡ opening ++ edges_bytes p.edges i
  unfolding edges_made head_bytes edges_bytes labels_bytes
  edges_head zero h = append-nil (opening ++ [])
  edges_head (suc i) h =
      let s = edges_shape i in
      head_edge (edges_made p i) (edge_at p i) s.label_count (omega (arith, s.edge_count, s.edge_room)) ∙ ap (λ (x : List ℕ). x ++ edge_field (edge_at p i)) (edges_head i (omega arith)) ∙
      append_assoc opening (edges_bytes p.edges i) (edge_field (edge_at p i))

  labels_head : p.edgecount ≤ 32 → (j : ℕ) → j ≤ 64 → head_bytes (labels_made p j) ≡ opening ++ edges_bytes p.edges p.edgecount ++ labels_bytes p.labels j
  unfolding labels_made labels_bytes
  labels_head m zero h = edges_head p.edgecount m ∙ sym (append-nil (opening ++ edges_bytes p.edges p.edgecount))
  labels_head m (suc j) h =
      let s = labels_shape j in
      head_label (labels_made p j) (label_at p j) (omega (arith, s.label_count, s.label_room)) ∙ ap (λ (x : List ℕ). x ++ label_field (label_at p j)) (labels_head m j (omega arith)) ∙
      append_assoc (opening ++ edges_bytes p.edges p.edgecount) (labels_bytes p.labels j) (label_field (label_at p j))

-- ---- one field of a written file

numbers_back : (q : Plan) (e : Edge) → edge_body (e.from ∷ (e.to ∷ (kind_number e.kind ∷ (gap_of e.kind / 256 ∷ (gap_of e.kind % 256 ∷ (e.class ∷ [])))))) q ≡ add_of q e
unfolding edge_body
numbers_back q e = ap (λ (g : ℕ). add_edge q e.from e.to (kind_number e.kind) g e.class) (word_back (gap_of e.kind))

label_back : (q : Plan) (l : Label) → label_body (l.p / 256 ∷ (l.p % 256 ∷ (l.q / 256 ∷ (l.q % 256 ∷ (l.c ∷ []))))) q ≡ add_label q l.p l.q l.c
unfolding label_body
label_back q l = ap₂ (λ (a b : ℕ). add_label q a b l.c) (word_back l.p) (word_back l.q)

module _ (s pre rest : List ℕ) (k : ℕ) (q r : Plan) where
  -- an edge, read at the stage of edges
  read_edge_lem : (e : Edge) → s ≡ pre ++ edge_field e ++ rest → add_of q e ≡ done r → entries_from (suc k) s q (length pre) 2 ≡ entries_from k s r (length pre + 9) 2
  unfolding entries_from may_stand length_fits count_fits row_of entry_body
  read_edge_lem e es c =
      let b = e.from ∷ (e.to ∷ (kind_number e.kind ∷ (gap_of e.kind / 256 ∷ (gap_of e.kind % 256 ∷ (e.class ∷ []))))) in
      let x : field_at s (length pre) 2 ≡ Body 3 (length pre + 3) 6 = ap (λ (y : List ℕ). field_at y (length pre) 2) es ∙ field_read pre b rest 3 2 refl refl refl in
      let y : part_of s (length pre + 3) 6 ≡ b = ap (λ (z : List ℕ). part_of z (length pre + 3) 6) es ∙ field_part pre b rest 3 2 refl refl refl in
      let n : length pre + 3 + 6 ≡ length pre + 9 = omega arith in
      rw (x, y, numbers_back q e ∙ c, n)

  -- a label, read at the stage of edges or of labels
  read_label : (l : Label) (stage : ℕ) → may_stand stage 4 ≡ true → s ≡ pre ++ label_field l ++ rest → add_label q l.p l.q l.c ≡ done r → entries_from (suc k) s q (length pre) stage ≡ entries_from k s r (length pre + 8) 3
  unfolding entries_from length_fits count_fits row_of entry_body
  read_label l stage m es c =
      let b = l.p / 256 ∷ (l.p % 256 ∷ (l.q / 256 ∷ (l.q % 256 ∷ (l.c ∷ [])))) in
      let x : field_at s (length pre) stage ≡ Body 4 (length pre + 3) 5 = ap (λ (y : List ℕ). field_at y (length pre) stage) es ∙ field_read pre b rest 4 stage m refl refl in
      let y : part_of s (length pre + 3) 5 ≡ b = ap (λ (z : List ℕ). part_of z (length pre + 3) 5) es ∙ field_part pre b rest 4 stage m refl refl in
      let n : length pre + 3 + 5 ≡ length pre + 8 = omega arith in
      rw (x, y, label_back q l ∙ c, n)

-- ---- where the entries stand in the whole

edges_cut : (es : List Edge) (d i : ℕ) → (rest : List ℕ) × (edges_bytes es (i + d) ≡ edges_bytes es i ++ rest)
unfolding edges_bytes
edges_cut es zero i = let e : i + 0 ≡ i = omega arith in ([], ap (edges_bytes es) e ∙ sym (append-nil (edges_bytes es i)))
edges_cut es (suc d) i =
    let e : i + suc d ≡ suc (i + d) = omega arith in
    let c = edges_cut es d i in
    (c.0 ++ edge_field (get_or es (i + d) no_edge), ap (edges_bytes es) e ∙ ap (λ (x : List ℕ). x ++ edge_field (get_or es (i + d) no_edge)) c.1 ∙ append_assoc (edges_bytes es i) c.0 (edge_field (get_or es (i + d) no_edge)))

labels_cut : (ls : List Label) (d j : ℕ) → (rest : List ℕ) × (labels_bytes ls (j + d) ≡ labels_bytes ls j ++ rest)
unfolding labels_bytes
labels_cut ls zero j = let e : j + 0 ≡ j = omega arith in ([], ap (labels_bytes ls) e ∙ sym (append-nil (labels_bytes ls j)))
labels_cut ls (suc d) j =
    let e : j + suc d ≡ suc (j + d) = omega arith in
    let c = labels_cut ls d j in
    (c.0 ++ label_field (get_or ls (j + d) no_label), ap (labels_bytes ls) e ∙ ap (λ (x : List ℕ). x ++ label_field (get_or ls (j + d) no_label)) c.1 ∙ append_assoc (labels_bytes ls j) c.0 (label_field (get_or ls (j + d) no_label)))

regroup : (x a f r z : List ℕ) → x ++ (a ++ f ++ r) ++ z ≡ x ++ a ++ f ++ (r ++ z)
regroup x a f r z = simp append_assoc

regroup₂ : (x a f r y z : List ℕ) → x ++ (a ++ f ++ r) ++ y ++ z ≡ x ++ a ++ f ++ (r ++ (y ++ z))
regroup₂ x a f r y z = simp append_assoc

regroup₃ : (g s e l z : List ℕ) → g ++ s ++ e ++ l ++ z ≡ g ++ (s ++ (e ++ l ++ z))
regroup₃ g s e l z = simp append_assoc

regroup₄ : (g s e l z : List ℕ) → g ++ s ++ e ++ l ++ z ≡ g ++ s ++ (e ++ l ++ z)
regroup₄ g s e l z = simp append_assoc

module _ (p : Plan) (zs : List ℤ) (h : plan_number p ≡ 0) (fl : SFits w16 p.lo) (fh : SFits w16 p.hi) (fz : All16 zs) (cz : count_ok (length zs) ≡ true) where
  abbrev file : List ℕ
  file = plan_bytes p zs

  -- what reading it gives
  abbrev pub expected : FileRead
  expected = record { answer = Done; plan = cleared p; start = length (head_bytes p) + 3; len = 2 * length zs }

  few : (p.edgecount ≤ 32) × (p.labelcount ≤ 64)
  few = counts_small p h

  made_edges_lem : (i : ℕ) → i ≤ p.edgecount → Passing (edges_made p i)
  unfolding edges_made
  made_edges_lem zero l = blank_passing p.lo p.hi p.states p.start p.end (parts p h).opens
  made_edges_lem (suc i) l =
      let e = edge_at p i in
      let c = edge_call_lem p h i (omega arith) in
      rw (ap (λ (x : Built). x.plan) (sym c)) (call_keeps (edges_made p i) (edge e.from e.to (kind_number e.kind) (gap_of e.kind) e.class) (made_edges_lem i (omega arith)))

  made_labels_lem : (j : ℕ) → j ≤ p.labelcount → Passing (labels_made p j)
  unfolding labels_made
  made_labels_lem zero l = made_edges_lem p.edgecount (omega arith)
  made_labels_lem (suc j) l =
      let c = label_call_lem p h j (omega arith) in
      rw (ap (λ (x : Built). x.plan) (sym c)) (call_keeps (labels_made p j) (label (label_at p j).p (label_at p j).q (label_at p j).c) (made_labels_lem j (omega arith)))

  -- the readings, at the end
  seals : seal_plan (labels_made p p.labelcount) ≡ done (cleared p)
  seals =
      let q = labels_made p p.labelcount in
      let ok = made_labels_lem p.labelcount (omega arith) in
      let c = change_none q (plan_number q) refl ok.number (labels_shape p p.labelcount).unsealed in
      sym (seal_done q 0 c refl)

  whole_length : length file ≡ length (head_bytes p) + 3 + 2 * length zs
  unfolding plan_bytes
  whole_length = length-append (head_bytes p) (field 5 (bytes_of zs)) ∙ omega (arith, bytes_length zs)

  read_end : (k stage : ℕ) → may_stand stage 5 ≡ true → entries_from (suc k) file (labels_made p p.labelcount) (length (head_bytes p)) stage ≡ expected
  unfolding entries_from plan_bytes length_fits count_fits finish_file
  read_end k stage m =
      let pre = head_bytes p in
      let b = bytes_of zs in
      let n = bytes_length zs in
      let even : 2 * length zs % 2 ≡ 0 = omega arith in
      let half : 2 * length zs / 2 ≡ length zs = omega arith in
      let fits : length_fits 5 (length b) ≡ true = eq-eqb (length b % 2) 0 (ap (λ (x : ℕ). x % 2) n ∙ even) in
      let counts : count_fits 5 (length b) ≡ true = ap count_ok (ap (λ (x : ℕ). x / 2) n ∙ half) ∙ cz in
      let x : field_at file (length pre) stage ≡ Body 5 (length pre + 3) (2 * length zs) =
      ap (λ (y : List ℕ). field_at y (length pre) stage) (sym (append-nil file)) ∙ field_read pre b [] 5 stage m fits counts ∙ ap (Body 5 (length pre + 3)) n in
      let e = eq-eqb (length pre + 3 + 2 * length zs) (length file) (sym whole_length) in
      rw (x, seals, e)

  -- the labels, the edges
  stands : (may_stand 2 4 ≡ true) × (may_stand 2 5 ≡ true) × (may_stand 3 4 ≡ true) × (may_stand 3 5 ≡ true)
  unfolding may_stand row_of
  stands = (refl, refl, refl, refl)

  abbrev tail : List ℕ
  tail = field 5 (bytes_of zs)

  label_parts : (j d : ℕ) → suc j + d ≡ p.labelcount → (c : (rest : List ℕ) × (labels_bytes p.labels (suc j + d) ≡ labels_bytes p.labels (suc j) ++ rest)) →
      file ≡ head_bytes (labels_made p j) ++ label_field (label_at p j) ++ (c.0 ++ tail)
  unfolding plan_bytes head_bytes labels_bytes
  label_parts j d t c =
      let x = opening p ++ edges_bytes p.edges p.edgecount in
      ap (λ (y : List ℕ). x ++ y ++ tail) (ap (labels_bytes p.labels) (sym t) ∙ c.1) ∙ regroup x (labels_bytes p.labels j) (label_field (label_at p j)) c.0 tail ∙
      ap (λ (y : List ℕ). y ++ label_field (label_at p j) ++ (c.0 ++ tail)) (sym (labels_head p few.0 j (omega (arith, few.1))))

  edge_parts : (i d : ℕ) → suc i + d ≡ p.edgecount → (c : (rest : List ℕ) × (edges_bytes p.edges (suc i + d) ≡ edges_bytes p.edges (suc i) ++ rest)) →
      file ≡ head_bytes (edges_made p i) ++ edge_field (edge_at p i) ++ (c.0 ++ (labels_bytes p.labels p.labelcount ++ tail))
  unfolding plan_bytes head_bytes edges_bytes
  edge_parts i d t c =
      let y = labels_bytes p.labels p.labelcount in
      ap (λ (z : List ℕ). opening p ++ z ++ y ++ tail) (ap (edges_bytes p.edges) (sym t) ∙ c.1) ∙ regroup₂ (opening p) (edges_bytes p.edges i) (edge_field (edge_at p i)) c.0 y tail ∙
      ap (λ (z : List ℕ). z ++ edge_field (edge_at p i) ++ (c.0 ++ (y ++ tail))) (sym (edges_head p i (omega (arith, few.0))))

  label_longer : (j : ℕ) → length (head_bytes (labels_made p j)) + 8 ≡ length (head_bytes (labels_made p (suc j)))
  label_longer j =
      let a = labels_shape p j in
      let b = labels_shape p (suc j) in
      omega (arith, head_length (labels_made p j), head_length (labels_made p (suc j)), a.edge_count, a.label_count, b.edge_count, b.label_count)

  edge_longer : (i : ℕ) → length (head_bytes (edges_made p i)) + 9 ≡ length (head_bytes (edges_made p (suc i)))
  edge_longer i =
      let a = edges_shape p i in
      let b = edges_shape p (suc i) in
      omega (arith, head_length (edges_made p i), head_length (edges_made p (suc i)), a.edge_count, a.label_count, b.edge_count, b.label_count)

  head_whole : head_bytes (labels_made p p.labelcount) ≡ head_bytes p
  unfolding head_bytes
  head_whole = labels_head p few.0 p.labelcount few.1

  walk_labels : (d j k stage : ℕ) → j + d ≡ p.labelcount → d < k → may_stand stage 4 ≡ true → may_stand stage 5 ≡ true → entries_from k file (labels_made p j) (length (head_bytes (labels_made p j))) stage ≡ expected
  walk_labels d j zero stage e l m₄ m₅ = absurd (omega arith)
  walk_labels zero j (suc k) stage e l m₄ m₅ =
      let q : j ≡ p.labelcount = omega arith in
      ap (λ (i : ℕ). entries_from (suc k) file (labels_made p i) (length (head_bytes (labels_made p i))) stage) q ∙
      ap (λ (x : List ℕ). entries_from (suc k) file (labels_made p p.labelcount) (length x) stage) head_whole ∙ read_end k stage m₅
  walk_labels (suc d) j (suc k) stage e l m₄ m₅ =
      let c = labels_cut p.labels d (suc j) in
      let t : suc j + d ≡ p.labelcount = omega arith in
      let l' : d < k = omega arith in
      read_label file (head_bytes (labels_made p j)) (c.0 ++ tail) k (labels_made p j) (labels_made p (suc j)) (label_at p j) stage m₄ (label_parts j d t c) (label_call_lem p h j (omega arith)) ∙
      ap (λ (i : ℕ). entries_from k file (labels_made p (suc j)) i 3) (label_longer j) ∙ walk_labels d (suc j) k 3 t l' stands.2 stands.3

  labels_start : labels_made p 0 ≡ edges_made p p.edgecount
  unfolding labels_made
  labels_start = refl

  walk_edges : (d i k : ℕ) → i + d ≡ p.edgecount → d + p.labelcount < k → entries_from k file (edges_made p i) (length (head_bytes (edges_made p i))) 2 ≡ expected
  walk_edges d i zero e l = absurd (omega arith)
  walk_edges zero i (suc k) e l =
      let q : i ≡ p.edgecount = omega arith in
      ap (λ (x : ℕ). entries_from (suc k) file (edges_made p x) (length (head_bytes (edges_made p x))) 2) q ∙
      ap (λ (x : Plan). entries_from (suc k) file x (length (head_bytes x)) 2) (sym labels_start) ∙ walk_labels p.labelcount 0 (suc k) 2 (zero-add p.labelcount) (omega arith) stands.0 stands.1
  walk_edges (suc d) i (suc k) e l =
      let c = edges_cut p.edges d (suc i) in
      let t : suc i + d ≡ p.edgecount = omega arith in
      let l' : d + p.labelcount < k = omega arith in
      read_edge_lem file (head_bytes (edges_made p i)) (c.0 ++ (labels_bytes p.labels p.labelcount ++ tail)) k (edges_made p i) (edges_made p (suc i)) (edge_at p i) (edge_parts i d t c) (edge_call_lem p h i (omega arith)) ∙
      ap (λ (x : ℕ). entries_from k file (edges_made p (suc i)) x 2) (edge_longer i) ∙ walk_edges d (suc i) k t l'

  -- ---- grid and states
  abbrev grid : List ℕ
  grid = bytes_of (p.lo ∷ (p.hi ∷ []))

  abbrev sets : List ℕ
  sets = p.states ∷ (p.start ∷ (p.end ∷ []))

  abbrev entries : List ℕ
  entries = edges_bytes p.edges p.edgecount ++ labels_bytes p.labels p.labelcount ++ tail

  grid_level : (level_at grid 0 ≡ p.lo) × (level_at grid 2 ≡ p.hi)
  unfolding bytes_of
  grid_level = (ap signed16 (word_back (bits16 p.lo)) ∙ signed_bits p.lo fl, ap signed16 (word_back (bits16 p.hi)) ∙ signed_bits p.hi fh)

  grid_passes : grid_ok p.lo p.hi ≡ true
  unfolding open_number
  grid_passes = go (grid_ok p.lo p.hi) (choose (states_ok p.states p.start p.end) 0 5) (parts p h).opens
    where
      go : (b : Bool) (m : ℕ) → ◌≡◌ {A = ℕ} (choose b m 4) 0 → b ≡ true
      go true m e = refl
      go false m e = absurd (eqb-false 4 0 refl e)

  grid_number_lem : grid_number grid ≡ 0
  unfolding grid_number bytes_of
  grid_number_lem = let g = grid_level in rw (g.0, g.1, grid_passes)

  bodies_open : open_bodies grid sets ≡ done (edges_made p 0)
  unfolding open_bodies bytes_of
  bodies_open = let g = grid_level in rw (g.0, g.1) (opens p h)

  file_parts : (file ≡ field 1 grid ++ (field 2 sets ++ entries)) × (file ≡ field 1 grid ++ field 2 sets ++ entries)
  unfolding plan_bytes head_bytes
  file_parts = (
    regroup₃ (field 1 grid) (field 2 sets) (edges_bytes p.edges p.edgecount) (labels_bytes p.labels p.labelcount) tail,
    regroup₄ (field 1 grid) (field 2 sets) (edges_bytes p.edges p.edgecount) (labels_bytes p.labels p.labelcount) tail,
  )

  start_length : length (head_bytes (edges_made p 0)) ≡ 13
  start_length = let a = edges_shape p 0 in omega (arith, head_length (edges_made p 0), a.edge_count, a.label_count)

  -- writing, then reading: the plan comes back with zeros past its counts, and the place of its readings
  pub write_then_read : plan_file file ≡ expected
  unfolding plan_file may_stand length_fits count_fits row_of bytes_of
  write_then_read =
      let f₁ : field_at file 0 0 ≡ Body 1 3 4 = ap (λ (y : List ℕ). field_at y 0 0) file_parts.0 ∙ field_read [] grid (field 2 sets ++ entries) 1 0 refl refl refl in
      let b₁ : part_of file 3 4 ≡ grid = ap (λ (y : List ℕ). part_of y 3 4) file_parts.0 ∙ field_part [] grid (field 2 sets ++ entries) 1 0 refl refl refl in
      let f₂ : field_at file 7 1 ≡ Body 2 10 3 = ap (λ (y : List ℕ). field_at y 7 1) file_parts.1 ∙ field_read (field 1 grid) sets entries 2 1 refl refl refl in
      let b₂ : part_of file 10 3 ≡ sets = ap (λ (y : List ℕ). part_of y 10 3) file_parts.1 ∙ field_part (field 1 grid) sets entries 2 1 refl refl refl in
      let w = walk_edges p.edgecount 0 (length file + 1) (zero-add p.edgecount) (omega (arith, whole_length, head_length p)) in
      rw (f₁, b₁, grid_number_lem, f₂, b₂, bodies_open) (ap (λ (x : ℕ). entries_from (length file + 1) file (edges_made p 0) x 2) (sym start_length) ∙ w)

  -- and so do the readings
  pub readings_back : readings_of (readings_part file) ≡ zs
  unfolding plan_bytes length_fits count_fits
  readings_back =
      let b = bytes_of zs in
      let n = bytes_length zs in
      let even : 2 * length zs % 2 ≡ 0 = omega arith in
      let half : 2 * length zs / 2 ≡ length zs = omega arith in
      let fits : length_fits 5 (length b) ≡ true = eq-eqb (length b % 2) 0 (ap (λ (x : ℕ). x % 2) n ∙ even) in
      let counts : count_fits 5 (length b) ≡ true = ap count_ok (ap (λ (x : ℕ). x / 2) n ∙ half) ∙ cz in
      ap readings_of (ap (λ (r : FileRead). part_of file r.start r.len) write_then_read ∙ ap (part_of file (length (head_bytes p) + 3)) (sym n) ∙ ap (λ (y : List ℕ). part_of y (length (head_bytes p) + 3) (length b)) (sym (append-nil file)) ∙
      field_part (head_bytes p) b [] 5 2 stands.1 fits counts) ∙ decode_encode zs fz

-- the same from buffer to buffer: what the writer left in front of out, read again
module _ (p : Plan) (zs : List ℤ) (out : List ℕ) where
  abbrev pub bytes : List ℕ
  bytes = take (plan_length p (length zs)) (after_writing p zs out)

  module _ (fl : SFits w16 p.lo) (fh : SFits w16 p.hi) (fz : All16 zs) (w : write_number p (length zs) (length out) ≡ 0) where
    bytes_are : bytes ≡ plan_bytes p zs
    unfolding written
    bytes_are = rw w (take_at (plan_bytes p zs) (drop (length (plan_bytes p zs)) out) (plan_length p (length zs)) (plan_length_lem p zs))

    pub written_then_read : plan_file bytes ≡ record { answer = Done; plan = cleared p; start = length (head_bytes p) + 3; len = 2 * length zs }
    written_then_read = let r = write_room p (length zs) (length out) w in ap plan_file bytes_are ∙ write_then_read p zs r.passes fl fh fz r.space.counts

    pub readings_then_read : readings_of (readings_part bytes) ≡ zs
    readings_then_read = let r = write_room p (length zs) (length out) w in ap (λ (s : List ℕ). readings_of (readings_part s)) bytes_are ∙ readings_back p zs r.passes fl fh fz r.space.counts
