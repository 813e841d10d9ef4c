-- Reading a plan file looks at its first 9,011 bytes only: the longest file has 9,008 bytes, and three more decide what stands behind it.
-- Assumes nothing.
use Prim.Native.Nat.{ℕ, zero, suc, ◌+◌, ◌-◌, ◌≤◌, ◌<◌}
use native.Mathlib.Omega.{arith}
use mathlib.Core.Path.{◌≡◌, refl, sym, ◌∙◌, ap, ap₂}
use mathlib.Core.Bool.{Bool, true, false}
use mathlib.Core.List.{List, ◌++◌}
use mathlib.Core.Logic.{◌⊎◌, inl, inr}
use lib.Dec.{eqb}
use lib.ListN.{length, take, length-take}
use lib.Seq.{length-take-le}
use borrow.Author.Tests.{eqb-false}
use Rattle.integers.specs.Pick.{pick}
use Rattle.readings.specs.Trips.{AllBytes}
use Rattle.plan.specs.declared.Plan.{Plan}
use Rattle.fields.specs.Fields.{Field, Body, Wrong, row_of, field_at, part_of, field}
use Rattle.fields.specs.Laws.{FieldRead}
use Rattle.fields.proofs.Laws.{field_is, field_bytes, part_bytes}
use Rattle.fields.proofs.Tags.{at_0, at_1, has_length}
use Rattle.fields.proofs.Prefix.{body_short, same_field, same_closed, same_end, same_part}
use Rattle.files.specs.Reader.{FileRead, refused_file, grid_number, open_bodies, entry_body, on_answer, finish_file, on_field, entries_from, on_opened, on_states, on_grid, plan_file}
use Rattle.files.proofs.Sizes.{counts_small, head_length}
use Rattle.files.proofs.Back.{Entered, entered, opened_back, tags}
use Rattle.plan.specs.Build.{Answer, Done, Refused}

-- how many bytes of a file a reader needs
abbrev pub file_bound : ℕ
file_bound = 9011

-- ---- more fuel than bytes changes nothing
entries_fuel : (k j : ℕ) (s : List ℕ) (p : Plan) (at stage : ℕ) → length s - at < k → length s - at < j → entries_from k s p at stage ≡ entries_from j s p at stage
unfolding entries_from
entries_fuel zero j s p at stage h i = absurd (omega arith)
entries_fuel (suc k) zero s p at stage h i = absurd (omega arith)
entries_fuel (suc k) (suc j) s p at stage h i = go (λ q to st. entries_fuel k j s q to st) (field_at s at stage) refl
  where
    go : ((q : Plan) (to st : ℕ) → length s - to < k → length s - to < j → entries_from k s q to st ≡ entries_from j s q to st) → (x : Field) → field_at s at stage ≡ x → on_field (entries_from k s) s p x ≡ on_field (entries_from j s) s p x
    go ih (Wrong n) e = refl
    go ih (Body t st l) e =
        let r = field_is s at stage e in
        ap (λ (x : FileRead). pick (eqb t 5) (finish_file s p st l) (on_answer x (entry_body t (part_of s st l) p).answer))
        (ih (entry_body t (part_of s st l) p).plan (st + l) (row_of t).next (omega (arith, r.start, r.whole)) (omega (arith, r.start, r.whole)))

module _ (s : List ℕ) (f : AllBytes s) where
  abbrev cut : List ℕ
  cut = take file_bound s

  -- where a field of entries stands
  place : (p : Plan) (at stage : ℕ) → Entered s at stage p → at ≤ length s → at ≤ 813
  place p at stage w h =
      let c = counts_small p w.ok.number in
      omega (arith, sym (length-take-le at s h) ∙ ap length w.head ∙ head_length p, c.0, c.1)

  finish_cut : (p : Plan) (st l : ℕ) → st + l + 3 ≤ file_bound → finish_file cut p st l ≡ finish_file s p st l
  unfolding finish_file
  finish_cut p st l h = rw (same_end s file_bound (st + l) h, same_closed s file_bound (st + l) h)

  entries_cut : (k : ℕ) (p : Plan) (at stage : ℕ) → Entered s at stage p → at ≤ length s → entries_from k cut p at stage ≡ entries_from k s p at stage
  unfolding entries_from
  entries_cut zero p at stage w h = refl
  entries_cut (suc k) p at stage w h =
      ap (on_field (entries_from k cut) cut p) (same_field s file_bound at stage (omega (arith, place p at stage w h))) ∙ go (λ q to st. entries_cut k q to st) (field_at s at stage) refl
    where
      others : {t : ℕ} → eqb t 5 ≡ false → (t ≡ 3) ⊎ ((t ≡ 4) ⊎ (t ≡ 5)) → (t ≡ 3) ⊎ (t ≡ 4)
      others q (inl e) = inl e
      others q (inr (inl e)) = inr e
      others {t} q (inr (inr e)) = absurd (eqb-false t 5 q e)

      by_answer : (x : Answer) (a b : FileRead) → (x ≡ Done → a ≡ b) → on_answer a x ≡ on_answer b x
      by_answer (Refused n) a b m = refl
      by_answer Done a b m = m refl

      by_tag :
          ((q : Plan) (to st : ℕ) → Entered s to st q → to ≤ length s → entries_from k cut q to st ≡ entries_from k s q to st) → {t st l : ℕ} → FieldRead s at stage t st l → (b : Bool) → eqb t 5 ≡ b → st + l + 3 ≤ file_bound →
          pick b (finish_file cut p st l) (on_answer (entries_from k cut (entry_body t (part_of s st l) p).plan (st + l) (row_of t).next) (entry_body t (part_of s st l) p).answer) ≡
          pick b (finish_file s p st l) (on_answer (entries_from k s (entry_body t (part_of s st l) p).plan (st + l) (row_of t).next) (entry_body t (part_of s st l) p).answer)
      by_tag ih {t} {st} {l} r true q n = finish_cut p st l n
      by_tag ih {t} {st} {l} r false q n =
          by_answer (entry_body t (part_of s st l) p).answer _ _
          (λ d. ih (entry_body t (part_of s st l) p).plan (st + l) (row_of t).next (entered s f at stage t st l r p w.ok w.head (others q (tags stage t w.stages r.stands)) d) r.whole)

      go : ((q : Plan) (to st : ℕ) → Entered s to st q → to ≤ length s → entries_from k cut q to st ≡ entries_from k s q to st) → (x : Field) → field_at s at stage ≡ x →
          on_field (entries_from k cut) cut p x ≡ on_field (entries_from k s) s p x
      go ih (Wrong n) e = refl
      go ih (Body t st l) e =
          let r = field_is s at stage e in
          let n : st + l + 3 ≤ file_bound = omega (arith, r.start, body_short t l r.fits r.counts, place p at stage w h) in
          ap (λ (b : List ℕ). pick (eqb t 5) (finish_file cut p st l) (on_answer (entries_from k cut (entry_body t b p).plan (st + l) (row_of t).next) (entry_body t b p).answer)) (same_part s file_bound st l (omega arith) r.whole) ∙
          by_tag ih r (eqb t 5) refl n

  -- a file and its first 9,011 bytes are read alike
  pub prefix_decides : plan_file (take file_bound s) ≡ plan_file s
  unfolding plan_file row_of
  prefix_decides = ap (on_grid cut) (same_field s file_bound 0 0 (omega arith)) ∙ go (field_at s 0 0) refl
    where
      by_answer : (x : Answer) (a b : FileRead) → (x ≡ Done → a ≡ b) → on_answer a x ≡ on_answer b x
      by_answer (Refused n) a b m = refl
      by_answer Done a b m = m refl

      opened : {t st l t' st' l' : ℕ} → FieldRead s 0 0 t st l → FieldRead s (st + l) 1 t' st' l' →
          on_opened cut (st' + l') (open_bodies (part_of s st l) (part_of s st' l')) ≡ on_opened s (st' + l') (open_bodies (part_of s st l) (part_of s st' l'))
      opened {t} {st} {l} {t'} {st'} {l'} r r' =
          let g = part_of s st l in
          let b = part_of s st' l' in
          let head : take (st' + l') s ≡ field 1 g ++ field 2 b =
          field_bytes s (st + l) 1 f r' ∙ ap₂ (λ (x y : List ℕ). x ++ y) (field_bytes s 0 0 f r ∙ ap (λ (k : ℕ). field k g) (at_0 t r.stands)) (ap (λ (k : ℕ). field k b) (at_1 t' r'.stands)) in
          let e = length-take file_bound s in
          by_answer (open_bodies g b).answer _ _
          (λ d.
          let o = opened_back g b (part_bytes s st l f) d in
          entries_fuel (length cut + 1) (length s + 1) cut (open_bodies g b).plan (st' + l') 2 (omega arith) (omega arith) ∙
          entries_cut (length s + 1) (open_bodies g b).plan (st' + l') 2 (record { ok = o.0; head = head ∙ sym o.1; stages = inl refl }) r'.whole)

      by_states : {t st l : ℕ} → FieldRead s 0 0 t st l → (x : Field) → field_at s (st + l) 1 ≡ x → on_states cut (part_of s st l) x ≡ on_states s (part_of s st l) x
      by_states r (Wrong n) e = refl
      by_states {t} {st} {l} r (Body t' st' l') e =
          let r' = field_is s (st + l) 1 e in
          let z : l ≡ 4 = has_length t 0x01 l (at_0 t r.stands) refl r.fits in
          let z' : l' ≡ 3 = has_length t' 0x02 l' (at_1 t' r'.stands) refl r'.fits in
          ap (λ (b : List ℕ). on_opened cut (st' + l') (open_bodies (part_of s st l) b)) (same_part s file_bound st' l' (omega (arith, r.start, r'.start)) r'.whole) ∙ opened r r'

      go : (x : Field) → field_at s 0 0 ≡ x → on_grid cut x ≡ on_grid s x
      go (Wrong n) e = refl
      go (Body t st l) e =
          let r = field_is s 0 0 e in
          let z : l ≡ 4 = has_length t 0x01 l (at_0 t r.stands) refl r.fits in
          ap (λ (g : List ℕ). pick (eqb (grid_number g) 0) (on_states cut g (field_at cut (st + l) 1)) (refused_file (grid_number g))) (same_part s file_bound st l (omega (arith, r.start)) r.whole) ∙
          ap (λ (x : FileRead). pick (eqb (grid_number (part_of s st l)) 0) x (refused_file (grid_number (part_of s st l))))
          (ap (on_states cut (part_of s st l)) (same_field s file_bound (st + l) 1 (omega (arith, r.start))) ∙ by_states r (field_at s (st + l) 1) refl)
