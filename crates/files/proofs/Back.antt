-- A plan file that is accepted means one plan with readings, and writing these gives the same bytes.
-- Assumes nothing.
use Prim.Native.Nat.{ℕ, zero, suc, ◌+◌, ◌*◌, ◌/◌, ◌%◌, ◌≤◌}
use native.Mathlib.Omega.{arith}
use mathlib.Core.Path.{◌≡◌, refl, sym, ◌∙◌, ap, ap₂}
use mathlib.Core.Bool.{Bool, true, false}
use mathlib.Core.List.{List, [], ◌++◌, append-nil}
use mathlib.Core.Logic.{◌⊎◌, inl, inr, ⊎_elim}
use lib.Dec.{eqb}
use lib.ListN.{length, get_or, take, drop}
use lib.Seq.{take-length}
use lib.IntN.{ℤ}
use borrow.Author.Tests.{eqb-true, eqb-false, eq-eqb, ne_eqb, le-leb}
use Rattle.integers.specs.Pick.{pick}
use Rattle.readings.specs.Codec.{readings_of, bytes_of}
use Rattle.plan.specs.Counts.{count_ok}
use Rattle.readings.specs.Trips.{AllBytes}
use Rattle.readings.proofs.Trips.{readings_length, encode_decode}
use Rattle.plan.specs.Build.{Built, Answer, Done, Refused, plan_number, open_number, open_plan, add_edge, add_label, seal_plan, blank, closed, done, refused_at}
use Rattle.plan.specs.Calls.{edge, label}
use Rattle.plan.specs.declared.Plan.{Plan}
use Rattle.plan.proofs.Steps.{open_done, open_refused}
use Rattle.plan.proofs.Cases.{Passing, seal_cases, seal_kept, call_keeps, blank_passing}
use Rattle.fields.specs.Fields.{Field, Body, Wrong, row_of, may_stand, length_fits, count_fits, field_at, field_number, part_of, word_at, field}
use Rattle.fields.specs.Laws.{FieldRead}
use Rattle.fields.proofs.Laws.{field_is, field_bytes, part_length, part_bytes, spell}
use Rattle.fields.proofs.Tags.{at_0, at_1, at_2, at_3}
use Rattle.fields.specs.Put.{written}
use Rattle.files.specs.Reader.{FileRead, refused_file, grid_number, level_at, open_bodies, edge_body, label_body, entry_body, no_plan, on_answer, at_end, finish_file, on_field, entries_from, on_states, on_grid, plan_file, readings_part}
use Rattle.files.specs.Writer.{grid_field, states_field, edges_bytes, labels_bytes, head_bytes, plan_bytes, plan_length, write_number, after_writing}
use Rattle.files.proofs.Sizes.{plan_length_lem}
use Rattle.files.proofs.Spell.{added_edge, added_label}

-- what an accepted reading r of s gives: a sealed plan that calls could have built, 1 to 4,096 readings, and their file is s
pub record Means (s : List ℕ) (r : FileRead) : Type 0 where
  pub bytes : plan_bytes r.plan (readings_of (part_of s r.start r.len)) ≡ s
  pub passes : plan_number r.plan ≡ 0
  pub sealed : r.plan.sealed ≡ true
  pub counts : count_ok (length (readings_of (part_of s r.start r.len))) ≡ true

pub no_answer : {Q : Type 0} (n : ℕ) → Refused n ≡ Done → Q
no_answer n h = let z : ◌≡◌ {A = ℕ} 0 1 = cc in absurd (omega arith)

not_refused : {Q : Type 0} (n : ℕ) → (refused_file n).answer ≡ Done → Q
unfolding refused_file
not_refused n h = no_answer n h

-- the readings of a field 05
module _ (s : List ℕ) (f : AllBytes s) (at stage t st l : ℕ) (r : FieldRead s at stage t st l) (e : t ≡ 5) where
  even : l ≡ 2 * (l / 2)
  unfolding length_fits
  even =
      let h : length_fits 5 l ≡ true = ap (λ (x : ℕ). length_fits x l) (sym e) ∙ r.fits in
      let q : l % 2 ≡ 0 = eqb-true (l % 2) 0 h in
      omega arith

  part_even : length (part_of s st l) ≡ 2 * (l / 2)
  part_even = part_length s st l r.whole ∙ even

  readings_count : count_ok (length (readings_of (part_of s st l))) ≡ true
  unfolding count_fits
  readings_count =
      let h : count_fits 5 l ≡ true = ap (λ (x : ℕ). count_fits x l) (sym e) ∙ r.counts in
      ap count_ok (readings_length (l / 2) (part_of s st l) part_even) ∙ h

  readings_bytes : bytes_of (readings_of (part_of s st l)) ≡ part_of s st l
  readings_bytes = encode_decode (l / 2) (part_of s st l) part_even (part_bytes s st l f)

  -- the plan is sealed, and the file ends
  module _ (p : Plan) (ok : Passing p) (head : take at s ≡ head_bytes p) where
    end_back : st + l ≡ length s → Means s (record { answer = Done; plan = closed p; start = st; len = l })
    unfolding plan_bytes head_bytes
    end_back q = record {
      bytes =
          ap₂ (λ (x y : List ℕ). x ++ field 5 y) (sym head) readings_bytes ∙ ap (λ (k : ℕ). take at s ++ field k (part_of s st l)) (sym e) ∙ sym (field_bytes s at stage f r) ∙
          ap (λ (k : ℕ). take k s) q ∙ take-length s;
      passes = seal_kept p ∙ ok.number;
      sealed = refl;
      counts = readings_count;
    }

    by_end : (b : Bool) → eqb (st + l) (length s) ≡ b → (pick b (record { answer = Done; plan = closed p; start = st; len = l }) (refused_file (field_number (field_at s (st + l) 4)))).answer ≡ Done →
        Means s (pick b (record { answer = Done; plan = closed p; start = st; len = l }) (refused_file (field_number (field_at s (st + l) 4))))
    by_end true q h = end_back (eqb-true (st + l) (length s) q)
    by_end false q h = not_refused (field_number (field_at s (st + l) 4)) h

    by_seal : (b : Built) → ((n : ℕ) × (b ≡ refused_at p n)) ⊎ (b ≡ done (closed p)) → (on_answer (at_end s b.plan st l) b.answer).answer ≡ Done → Means s (on_answer (at_end s b.plan st l) b.answer)
    by_seal b (inl w) a = not_refused w.0 (rw w.1 at a)
    by_seal b (inr w) a = rw w (by_end (eqb (st + l) (length s)) refl (rw w at a))

    finish_back : (finish_file s p st l).answer ≡ Done → Means s (finish_file s p st l)
    unfolding finish_file
    finish_back a = by_seal (seal_plan p) (⊎_elim (λ w. inl w) (λ w. inr w.1) (seal_cases p)) a

-- ---- edges and labels

entry_edge : (t : ℕ) (b : List ℕ) (p : Plan) → t ≡ 3 → entry_body t b p ≡ edge_body b p
unfolding entry_body
entry_edge t b p e = rw (eq-eqb t 3 e)

entry_label : (t : ℕ) (b : List ℕ) (p : Plan) → t ≡ 4 → entry_body t b p ≡ label_body b p
unfolding entry_body
entry_label t b p e = rw (ne_eqb t 3 (λ q. omega (arith, q)))

edge_passing : (b : List ℕ) (p : Plan) → Passing p → Passing (edge_body b p).plan
unfolding edge_body
edge_passing b p ok = go (eqb (length b) 6)
  where
    go : (t : Bool) → Passing (pick t (add_edge p (get_or b 0 0) (get_or b 1 0) (get_or b 2 0) (word_at b 3) (get_or b 5 0)) (refused_at p 3)).plan
    go true = call_keeps p (edge (get_or b 0 0) (get_or b 1 0) (get_or b 2 0) (word_at b 3) (get_or b 5 0)) ok
    go false = ok

label_passing : (b : List ℕ) (p : Plan) → Passing p → Passing (label_body b p).plan
unfolding label_body
label_passing b p ok = go (eqb (length b) 5)
  where
    go : (t : Bool) → Passing (pick t (add_label p (word_at b 0) (word_at b 2) (get_or b 4 0)) (refused_at p 3)).plan
    go true = call_keeps p (label (word_at b 0) (word_at b 2) (get_or b 4 0)) ok
    go false = ok

abbrev pub Stage : ℕ → Type 0
Stage stage = (stage ≡ 2) ⊎ (stage ≡ 3)

pub tags : (stage t : ℕ) → Stage stage → may_stand stage t ≡ true → (t ≡ 3) ⊎ ((t ≡ 4) ⊎ (t ≡ 5))
tags stage t (inl e) h = at_2 t (ap (λ (x : ℕ). may_stand x t) (sym e) ∙ h)
tags stage t (inr e) h = inr (at_3 t (ap (λ (x : ℕ). may_stand x t) (sym e) ∙ h))

-- one entry more: the plan passes, its bytes are the file so far, and the next stage is one of entries
pub record Entered (s : List ℕ) (to stage : ℕ) (q : Plan) : Type 0 where
  pub ok : Passing q
  pub head : take to s ≡ head_bytes q
  pub stages : Stage stage

module _ (s : List ℕ) (f : AllBytes s) (at stage t st l : ℕ) (r : FieldRead s at stage t st l) (p : Plan) (ok : Passing p) (head : take at s ≡ head_bytes p) where
  carried : take (st + l) s ≡ head_bytes p ++ field t (part_of s st l)
  carried = field_bytes s at stage f r ∙ ap (λ (x : List ℕ). x ++ field t (part_of s st l)) head

  pub entered : (t ≡ 3) ⊎ (t ≡ 4) → (entry_body t (part_of s st l) p).answer ≡ Done → Entered s (st + l) (row_of t).next (entry_body t (part_of s st l) p).plan
  unfolding row_of
  entered (inl e) a =
      let x = entry_edge t (part_of s st l) p e in
      let b : (edge_body (part_of s st l) p).answer ≡ Done = sym (ap (λ (y : Built). y.answer) x) ∙ a in
      record {
        ok = rw x (edge_passing (part_of s st l) p ok);
        head = carried ∙ ap (λ (k : ℕ). head_bytes p ++ field k (part_of s st l)) e ∙ sym (added_edge (part_of s st l) p (part_bytes s st l f) ok.sized b) ∙ ap (λ (y : Built). head_bytes y.plan) (sym x);
        stages = inl (ap (λ (k : ℕ). (row_of k).next) e);
      }
  entered (inr e) a =
      let x = entry_label t (part_of s st l) p e in
      let b : (label_body (part_of s st l) p).answer ≡ Done = sym (ap (λ (y : Built). y.answer) x) ∙ a in
      record {
        ok = rw x (label_passing (part_of s st l) p ok);
        head = carried ∙ ap (λ (k : ℕ). head_bytes p ++ field k (part_of s st l)) e ∙ sym (added_label (part_of s st l) p (part_bytes s st l f) ok.sized b) ∙ ap (λ (y : Built). head_bytes y.plan) (sym x);
        stages = inr (ap (λ (k : ℕ). (row_of k).next) e);
      }

-- the rest of a file, after a head that is the plan's
pub entries_back : (k : ℕ) (s : List ℕ) (p : Plan) (at stage : ℕ) → AllBytes s → Entered s at stage p → (entries_from k s p at stage).answer ≡ Done → Means s (entries_from k s p at stage)
unfolding entries_from
entries_back zero s p at stage f w a = not_refused 1 a
entries_back (suc k) s p at stage f w a = go (λ q to st'. entries_back k s q to st' f) (field_at s at stage) refl a
  where
    by_answer :
        (x : Answer) (next : FileRead) → (x ≡ Done → next.answer ≡ Done → Means s next) → (on_answer next x).answer ≡ Done → Means s (on_answer next x)
    by_answer (Refused n) next m h = not_refused n h
    by_answer Done next m h = m refl h

    others : {t : ℕ} → eqb t 5 ≡ false → (t ≡ 3) ⊎ ((t ≡ 4) ⊎ (t ≡ 5)) → (t ≡ 3) ⊎ (t ≡ 4)
    others q (inl e) = inl e
    others q (inr (inl e)) = inr e
    others {t} q (inr (inr e)) = absurd (eqb-false t 5 q e)

    by_tag :
        ((q : Plan) (to st' : ℕ) → Entered s to st' q → (entries_from k s q to st').answer ≡ Done → Means s (entries_from k s q to st')) →
        {t st l : ℕ} → FieldRead s at stage t st l → (b : Bool) → eqb t 5 ≡ b →
        (pick b (finish_file s p st l) (on_answer (entries_from k s (entry_body t (part_of s st l) p).plan (st + l) (row_of t).next) (entry_body t (part_of s st l) p).answer)).answer ≡ Done →
        Means s (pick b (finish_file s p st l) (on_answer (entries_from k s (entry_body t (part_of s st l) p).plan (st + l) (row_of t).next) (entry_body t (part_of s st l) p).answer))
    by_tag ih {t} {st} {l} r true q h = finish_back s f at stage t st l r (eqb-true t 5 q) p w.ok w.head h
    by_tag ih {t} {st} {l} r false q h =
        by_answer (entry_body t (part_of s st l) p).answer (entries_from k s (entry_body t (part_of s st l) p).plan (st + l) (row_of t).next)
        (λ d. ih (entry_body t (part_of s st l) p).plan (st + l) (row_of t).next (entered s f at stage t st l r p w.ok w.head (others q (tags stage t w.stages r.stands)) d)) h

    go :
        ((q : Plan) (to st' : ℕ) → Entered s to st' q → (entries_from k s q to st').answer ≡ Done → Means s (entries_from k s q to st')) →
        (x : Field) → field_at s at stage ≡ x → (on_field (entries_from k s) s p x).answer ≡ Done → Means s (on_field (entries_from k s) s p x)
    go ih (Wrong n) e h = not_refused n h
    go ih (Body t st l) e h = by_tag ih (field_is s at stage e) (eqb t 5) refl h

-- ---- the grid and the states

pub open_answer : (lo hi : ℤ) (s a b : ℕ) → (open_plan lo hi s a b).answer ≡ Done → (open_number lo hi s a b ≡ 0) × (open_plan lo hi s a b ≡ done (blank lo hi s a b))
open_answer lo hi s a b h = go (eqb (open_number lo hi s a b) 0) refl
  where
    go : (t : Bool) → eqb (open_number lo hi s a b) 0 ≡ t → (open_number lo hi s a b ≡ 0) × (open_plan lo hi s a b ≡ done (blank lo hi s a b))
    go true q = let z = eqb-true (open_number lo hi s a b) 0 q in (z, sym (open_done lo hi s a b (open_number lo hi s a b) refl z))
    go false q =
        no_answer (open_number lo hi s a b) (ap (λ (x : Built). x.answer) (open_refused lo hi s a b (open_number lo hi s a b) refl (eqb-false (open_number lo hi s a b) 0 q)) ∙ h)

module _ (g b : List ℕ) (fg : AllBytes g) where
  grid_bytes : length g ≡ 4 → grid_field (level_at g 0) (level_at g 2) ≡ field 1 g
  unfolding bytes_of readings_of
  grid_bytes h =
      let x = spell 4 g h in
      ap (field 1) (ap (λ (y : List ℕ). bytes_of (readings_of y)) x ∙ encode_decode 2 g h fg)

  states_bytes : length b ≡ 3 → states_field (get_or b 0 0) (get_or b 1 0) (get_or b 2 0) ≡ field 2 b
  states_bytes h = ap (field 2) (spell 3 b h)

  pub opened_back : (open_bodies g b).answer ≡ Done → Passing (open_bodies g b).plan × (head_bytes (open_bodies g b).plan ≡ field 1 g ++ field 2 b)
  unfolding open_bodies head_bytes edges_bytes labels_bytes
  opened_back a = go (eqb (length g) 4) refl (eqb (length b) 3) refl a
    where
      opened : (open_plan (level_at g 0) (level_at g 2) (get_or b 0 0) (get_or b 1 0) (get_or b 2 0)).answer ≡ Done → length g ≡ 4 → length b ≡ 3 →
          Passing (open_plan (level_at g 0) (level_at g 2) (get_or b 0 0) (get_or b 1 0) (get_or b 2 0)).plan × (head_bytes (open_plan (level_at g 0) (level_at g 2) (get_or b 0 0) (get_or b 1 0) (get_or b 2 0)).plan ≡ field 1 g ++ field 2 b)
      opened h lg lb =
          let o = open_answer (level_at g 0) (level_at g 2) (get_or b 0 0) (get_or b 1 0) (get_or b 2 0) h in
          let head = grid_field (level_at g 0) (level_at g 2) ++ states_field (get_or b 0 0) (get_or b 1 0) (get_or b 2 0) in (
            rw o.1 (blank_passing (level_at g 0) (level_at g 2) (get_or b 0 0) (get_or b 1 0) (get_or b 2 0) o.0),
            ap (λ (x : Built). head_bytes x.plan) o.1 ∙ append-nil (head ++ []) ∙ append-nil head ∙ ap₂ (λ (x y : List ℕ). x ++ y) (grid_bytes lg) (states_bytes lb),
          )

      go : (x : Bool) → eqb (length g) 4 ≡ x → (y : Bool) → eqb (length b) 3 ≡ y →
          (pick x (pick y (open_plan (level_at g 0) (level_at g 2) (get_or b 0 0) (get_or b 1 0) (get_or b 2 0)) (refused_at no_plan 3)) (refused_at no_plan 3)).answer ≡ Done →
          Passing (pick x (pick y (open_plan (level_at g 0) (level_at g 2) (get_or b 0 0) (get_or b 1 0) (get_or b 2 0)) (refused_at no_plan 3)) (refused_at no_plan 3)).plan ×
          (head_bytes (pick x (pick y (open_plan (level_at g 0) (level_at g 2) (get_or b 0 0) (get_or b 1 0) (get_or b 2 0)) (refused_at no_plan 3)) (refused_at no_plan 3)).plan ≡ field 1 g ++ field 2 b)
      go false qx y qy h = no_answer 3 h
      go true qx false qy h = no_answer 3 h
      go true qx true qy h = opened h (eqb-true (length g) 4 qx) (eqb-true (length b) 3 qy)

-- ---- the whole file

-- reading, then writing: an accepted file is the file of the plan and the readings that were read
pub file_back : (s : List ℕ) → AllBytes s → (plan_file s).answer ≡ Done → Means s (plan_file s)
unfolding plan_file
file_back s f a = go (field_at s 0 0) refl a
  where
    by_answer : (x : Answer) (next : FileRead) → (x ≡ Done → next.answer ≡ Done → Means s next) → (on_answer next x).answer ≡ Done → Means s (on_answer next x)
    by_answer (Refused n) next m h = not_refused n h
    by_answer Done next m h = m refl h

    by_states : {t st l : ℕ} → FieldRead s 0 0 t st l → (x : Field) → field_at s (st + l) 1 ≡ x → (on_states s (part_of s st l) x).answer ≡ Done → Means s (on_states s (part_of s st l) x)
    by_states r (Wrong n) e h = not_refused n h
    by_states {t} {st} {l} r (Body t' st' l') e h =
        let r' = field_is s (st + l) 1 e in
        let g = part_of s st l in
        let b = part_of s st' l' in
        let head : take (st' + l') s ≡ field 1 g ++ field 2 b =
        field_bytes s (st + l) 1 f r' ∙ ap₂ (λ (x y : List ℕ). x ++ y) (field_bytes s 0 0 f r ∙ ap (λ (k : ℕ). field k g) (at_0 t r.stands)) (ap (λ (k : ℕ). field k b) (at_1 t' r'.stands)) in
        by_answer (open_bodies g b).answer (entries_from (length s + 1) s (open_bodies g b).plan (st' + l') 2)
        (λ d. let o = opened_back g b (part_bytes s st l f) d in entries_back (length s + 1) s (open_bodies g b).plan (st' + l') 2 f (record { ok = o.0; head = head ∙ sym o.1; stages = inl refl })) h

    by_grid : {t st l : ℕ} → FieldRead s 0 0 t st l → (x : Bool) → (pick x (on_states s (part_of s st l) (field_at s (st + l) 1)) (refused_file (grid_number (part_of s st l)))).answer ≡ Done →
        Means s (pick x (on_states s (part_of s st l) (field_at s (st + l) 1)) (refused_file (grid_number (part_of s st l))))
    by_grid {t} {st} {l} r true h = by_states r (field_at s (st + l) 1) refl h
    by_grid {t} {st} {l} r false h = not_refused (grid_number (part_of s st l)) h

    go : (x : Field) → field_at s 0 0 ≡ x → (on_grid s x).answer ≡ Done → Means s (on_grid s x)
    go (Wrong n) e h = not_refused n h
    go (Body t st l) e h = by_grid (field_is s 0 0 e) (eqb (grid_number (part_of s st l)) 0) h

-- so the writer, given what was read and a buffer that is long enough, writes the file that was read
pub read_then_write :
    (s out : List ℕ) → AllBytes s → (plan_file s).answer ≡ Done → length s ≤ length out → after_writing (plan_file s).plan (readings_of (readings_part s)) out ≡ s ++ drop (length s) out
unfolding written write_number
read_then_write s out f a h =
    let m = file_back s f a in
    let n = sym (plan_length_lem (plan_file s).plan (readings_of (readings_part s))) ∙ ap length m.bytes in
    rw (m.passes, m.sealed, m.counts, le-leb (plan_length (plan_file s).plan (length (readings_of (readings_part s)))) (length out) (omega (arith, n)), m.bytes)
