-- Storing the fields of a plan one after another, and the numbers of its writer.
-- Assumes nothing.
use Prim.Native.Nat.{ℕ, zero, suc, ◌+◌, ◌-◌, ◌*◌, ◌/◌, ◌%◌, ◌≤◌, ◌<◌}
use native.Mathlib.Omega.{arith}
use native.Mathlib.Numerals.{add-one}
use mathlib.Core.Path.{◌≡◌, refl, sym, ◌∙◌, ap, ap₂}
use mathlib.Core.Bool.{Bool, true, false}
use mathlib.Core.List.{List, [], ◌∷◌, ◌++◌, append-nil, append_assoc}
use lib.ListN.{length, get_or, take, drop, length-append, length-drop, drop_of_length-le}
use lib.Seq.{take_all, drop-drop, length-take-le, get_or-take}
use lib.IntN.{ℤ}
use borrow.Rule.Slice.PartMut.{mid_of, put_mid}
use borrow.Author.Tests.{eqb-true, eqb-false, le-leb, lt-leb}
use Rattle.std.specs.Prelude.{eqb, leb}
use Rattle.integers.specs.Pick.{pick}
use Rattle.readings.specs.Codec.{bytes_of, encoded, encode_number}
use Rattle.plan.specs.Counts.{count_ok}
use Rattle.readings.proofs.Trips.{bytes_length}
use Rattle.plan.specs.Build.{plan_number, sealed_number, no_edge, no_label}
use Rattle.plan.specs.declared.Edge.{Edge}
use Rattle.plan.specs.declared.Label.{Label}
use Rattle.plan.specs.declared.Plan.{Plan}
use Rattle.fields.specs.Fields.{put_at, field}
use Rattle.fields.proofs.PutLaws.{put_none, put_more, put_fits, put_length}
use Rattle.files.specs.Writer.{edge_field, label_field, grid_field, states_field, edges_bytes, labels_bytes, head_bytes, plan_bytes, plan_length, Room, write_number}
use Rattle.files.proofs.Sizes.{edges_length, labels_length}

module _ (out : List ℕ) (at : ℕ) where
  pub no_edges : (es : List Edge) → at ≤ length out → out ≡ put_at out at (edges_bytes es 0)
  unfolding edges_bytes
  no_edges es h = sym (put_none out at h)

  pub no_labels : (ls : List Label) → at ≤ length out → out ≡ put_at out at (labels_bytes ls 0)
  unfolding labels_bytes
  no_labels ls h = sym (put_none out at h)

  pub edge_turn : (es : List Edge) (i : ℕ) → at + 9 * (i + 1) ≤ length out → put_at (put_at out at (edges_bytes es i)) (at + 9 * i) (edge_field (get_or es i no_edge)) ≡ put_at out at (edges_bytes es (i + 1))
  unfolding edges_bytes
  edge_turn es i h =
      let n = edges_length es i in
      ap (λ (k : ℕ). put_at (put_at out at (edges_bytes es i)) (at + k) (edge_field (get_or es i no_edge))) (sym n) ∙
      put_more out at (edges_bytes es i) (edge_field (get_or es i no_edge)) (omega arith) ∙ ap (λ (k : ℕ). put_at out at (edges_bytes es k)) (sym (add-one i))

  pub label_turn : (ls : List Label) (i : ℕ) → at + 8 * (i + 1) ≤ length out → put_at (put_at out at (labels_bytes ls i)) (at + 8 * i) (label_field (get_or ls i no_label)) ≡ put_at out at (labels_bytes ls (i + 1))
  unfolding labels_bytes
  label_turn ls i h =
      let n = labels_length ls i in
      ap (λ (k : ℕ). put_at (put_at out at (labels_bytes ls i)) (at + k) (label_field (get_or ls i no_label))) (sym n) ∙
      put_more out at (labels_bytes ls i) (label_field (get_or ls i no_label)) (omega arith) ∙ ap (λ (k : ℕ). put_at out at (labels_bytes ls k)) (sym (add-one i))

-- the first entries of a list are those of its front
edges_front : (es : List Edge) (m n : ℕ) → n ≤ m → edges_bytes (take m es) n ≡ edges_bytes es n
unfolding edges_bytes
edges_front es m zero h = refl
edges_front es m (suc n) h = ap₂ (λ (a : List ℕ) (e : Edge). a ++ edge_field e) (edges_front es m n (omega arith)) (get_or-take m es n no_edge (omega arith))

labels_front : (ls : List Label) (m n : ℕ) → n ≤ m → labels_bytes (take m ls) n ≡ labels_bytes ls n
unfolding labels_bytes
labels_front ls m zero h = refl
labels_front ls m (suc n) h = ap₂ (λ (a : List ℕ) (l : Label). a ++ label_field l) (labels_front ls m n (omega arith)) (get_or-take m ls n no_label (omega arith))

pub counted_edges : (es : List Edge) (n : ℕ) → n ≤ length es → edges_bytes (take n es) (length (take n es)) ≡ edges_bytes es n
counted_edges es n h = ap (edges_bytes (take n es)) (length-take-le n es h) ∙ edges_front es n n (omega arith)

pub counted_labels : (ls : List Label) (n : ℕ) → n ≤ length ls → labels_bytes (take n ls) (length (take n ls)) ≡ labels_bytes ls n
counted_labels ls n h = ap (labels_bytes (take n ls)) (length-take-le n ls h) ∙ labels_front ls n n (omega arith)

module _ (p : Plan) (n room : ℕ) where
  pub not_usable : (x : ℕ) → x ≡ sealed_number p → (x ≡ 0 → ⊥) → x ≡ write_number p n room
  unfolding sealed_number write_number
  not_usable x e h = go (eqb (plan_number p) 0) p.sealed e
    where
      go : (a b : Bool) → x ≡ pick a (pick b 0 11) (plan_number p) → x ≡ pick a (pick b (pick (count_ok n) (pick (leb (plan_length p n) room) 0 15) 9) 11) (plan_number p)
      go false b w = w
      go true false w = w
      go true true w = absurd (h w)

  module _ (e : 0 ≡ sealed_number p) where
    pub usable : (plan_number p ≡ 0) × (p.sealed ≡ true)
    unfolding sealed_number
    usable = go (eqb (plan_number p) 0) refl p.sealed refl e
      where
        go : (a : Bool) → eqb (plan_number p) 0 ≡ a → (b : Bool) → p.sealed ≡ b → 0 ≡ pick a (pick b 0 11) (plan_number p) → (plan_number p ≡ 0) × (p.sealed ≡ true)
        go false qa b qb w = absurd (eqb-false (plan_number p) 0 qa (sym w))
        go true qa false qb w = absurd (eqb-false 11 0 refl (sym w))
        go true qa true qb w = (eqb-true (plan_number p) 0 qa, qb)

    module _ (b : Bool) (eb : b ≡ count_ok n) where
      pub wrong_count : b ≡ false → 9 ≡ write_number p n room
      unfolding write_number
      wrong_count q = let u = usable in rw (u.0, u.1, ← eb, q)

      pub no_room : b ≡ true → room < plan_length p n → 15 ≡ write_number p n room
      unfolding write_number plan_length
      no_room q l = let u = usable in rw (u.0, u.1, ← eb, q, lt-leb (plan_length p n) room l)

      pub writes : b ≡ true → plan_length p n ≤ room → 0 ≡ write_number p n room
      unfolding write_number plan_length
      writes q l = let u = usable in rw (u.0, u.1, ← eb, q, le-leb (plan_length p n) room l)

-- the readings go into the rest of the list, behind their tag and length
tail_put : (xs : List ℕ) (a : ℕ) (bs : List ℕ) → a + length bs ≤ length xs → put_mid a (length xs - a) xs (bs ++ drop (length bs) (mid_of a (length xs - a) xs)) ≡ put_at xs a bs
tail_put xs a bs h =
    let m : mid_of a (length xs - a) xs ≡ drop a xs = take_all (length xs - a) (drop a xs) (simp length-drop (omega arith)) in
    let e : drop (length xs - a) (drop a xs) ≡ [] = drop_of_length-le (drop a xs) {i = length xs - a} (simp length-drop (omega arith)) in
    ap₂ (λ (l r : List ℕ). take a xs ++ (bs ++ drop (length bs) l ++ r)) m e ∙
    ap (λ (l : List ℕ). take a xs ++ l) (append-nil (bs ++ drop (length bs) (drop a xs)) ∙ ap (λ (l : List ℕ). bs ++ l) (drop-drop (length bs) a xs)) ∙
    sym (append_assoc (take a xs) bs (drop (a + length bs) xs)) ∙ sym (put_fits xs a bs h)

encoded_is : (zs : List ℤ) (m : List ℕ) → count_ok (length zs) ≡ true → 2 * length zs ≤ length m → encoded zs m ≡ bytes_of zs ++ drop (length (bytes_of zs)) m
unfolding encoded encode_number
encoded_is zs m c h = rw (c, le-leb (2 * length zs) (length m) h) (ap (λ (k : ℕ). bytes_of zs ++ drop k m) (sym (bytes_length zs)))

pub readings_put :
    (out : List ℕ) (at : ℕ) (zs : List ℤ) (xs ys : List ℕ) → count_ok (length zs) ≡ true → at + 3 + 2 * length zs ≤ length out →
    xs ≡ put_at out at (5 ∷ (2 * length zs / 256 ∷ (2 * length zs % 256 ∷ []))) → ys ≡ encoded zs (mid_of (at + 3) (length xs - (at + 3)) xs) →
    put_mid (at + 3) (length xs - (at + 3)) xs ys ≡ put_at out at (field 5 (bytes_of zs))
readings_put out at zs xs ys c h ex ey =
    let hd : List ℕ = 5 ∷ (2 * length zs / 256 ∷ (2 * length zs % 256 ∷ [])) in
    let b = bytes_length zs in
    let lx : length xs ≡ length out = ap length ex ∙ put_length out at hd in
    let m : mid_of (at + 3) (length xs - (at + 3)) xs ≡ drop (at + 3) xs = take_all (length xs - (at + 3)) (drop (at + 3) xs) (simp length-drop (omega arith)) in
    let lm : 2 * length zs ≤ length (mid_of (at + 3) (length xs - (at + 3)) xs) = rw m (simp length-drop (omega arith)) in
    ap (put_mid (at + 3) (length xs - (at + 3)) xs) (ey ∙ encoded_is zs (mid_of (at + 3) (length xs - (at + 3)) xs) c lm) ∙
    tail_put xs (at + 3) (bytes_of zs) (omega arith) ∙ ap (λ (l : List ℕ). put_at l (at + 3) (bytes_of zs)) ex ∙
    put_more out at hd (bytes_of zs) (omega arith) ∙ ap (λ (k : ℕ). put_at out at (5 ∷ (k / 256 ∷ (k % 256 ∷ bytes_of zs)))) (sym b)

-- the fields of a plan, stored one behind the other
pub plan_put :
    (p : Plan) (zs : List ℤ) (out x₁ x₂ x₃ x₄ x₅ : List ℕ) → Room p (length zs) (length out) → x₁ ≡ put_at out 0 (grid_field p.lo p.hi) → x₂ ≡ put_at x₁ 7 (states_field p.states p.start p.end) →
    x₃ ≡ put_at x₂ 13 (edges_bytes p.edges p.edgecount) → x₄ ≡ put_at x₃ (13 + 9 * p.edgecount) (labels_bytes p.labels p.labelcount) →
    x₅ ≡ put_at x₄ (13 + 9 * p.edgecount + 8 * p.labelcount) (field 5 (bytes_of zs)) → x₅ ≡ put_at out 0 (plan_bytes p zs)
unfolding plan_bytes head_bytes bytes_of
plan_put p zs out x₁ x₂ x₃ x₄ x₅ r e₁ e₂ e₃ e₄ e₅ =
    let g = grid_field p.lo p.hi in
    let s = states_field p.states p.start p.end in
    let es = edges_bytes p.edges p.edgecount in
    let ls = labels_bytes p.labels p.labelcount in
    let h = r.fits in
    let n = edges_length p.edges p.edgecount in
    let m = labels_length p.labels p.labelcount in
    let b = bytes_length zs in
    let k₃ : 13 + 9 * p.edgecount ≡ 0 + length (g ++ s ++ es) = omega (arith, length-append (g ++ s) es) in
    let k₄ : 13 + 9 * p.edgecount + 8 * p.labelcount ≡ 0 + length (g ++ s ++ es ++ ls) = omega (arith, length-append (g ++ s) es, length-append (g ++ s ++ es) ls) in
    let f₂ : x₂ ≡ put_at out 0 (g ++ s) = e₂ ∙ ap (λ (x : List ℕ). put_at x 7 s) e₁ ∙ put_more out 0 g s (omega arith) in
    let f₃ : x₃ ≡ put_at out 0 (g ++ s ++ es) = e₃ ∙ ap (λ (x : List ℕ). put_at x 13 es) f₂ ∙ put_more out 0 (g ++ s) es (omega arith) in
    let f₄ : x₄ ≡ put_at out 0 (g ++ s ++ es ++ ls) = e₄ ∙ ap₂ (λ (x : List ℕ) (k : ℕ). put_at x k ls) f₃ k₃ ∙ put_more out 0 (g ++ s ++ es) ls (omega (arith, length-append (g ++ s) es)) in
    e₅ ∙ ap₂ (λ (x : List ℕ) (k : ℕ). put_at x k (field 5 (bytes_of zs))) f₄ k₄ ∙ put_more out 0 (g ++ s ++ es ++ ls) (field 5 (bytes_of zs)) (omega (arith, length-append (g ++ s) es, length-append (g ++ s ++ es) ls))
