-- A field is decided by its own bytes: a file that is cut well behind it has the same one there.
-- Assumes nothing.
use Rattle.std.specs.Prelude.{ℕ, zero, suc, ◌+◌, ◌-◌, ◌/◌, ◌%◌, ◌≤◌, ◌≡◌, Bool, List, [], ◌∷◌, ltb, leb, eqb, length, get_or, take, drop}
use Rattle.std.proofs.Common.{arith, sym, ◌∙◌, length-take, take-take, lt-ltb, le-ltb, ltb-true, ltb-false, leb-true, leb-false, le-leb, eqb-true, eq-eqb, ne_eqb}
use Rattle.std.proofs.Math.Path.{refl, ap}
use Rattle.std.proofs.Math.Bool.{true, false}
use Rattle.std.proofs.Math.Seq.{get_or-take}
use Rattle.std.proofs.lemmas.Bool.{lt-leb, eqb-false}
use Rattle.integers.specs.Pick.{pick}
use Rattle.integers.specs.Bytes.{word}
use Rattle.plan.specs.Counts.{count_ok}
use Rattle.plan.specs.Counts.{count_is}
use Rattle.fields.specs.Fields.{Body, Wrong, row_of, may_stand, length_fits, count_fits, checked_field, field_at, part_of}
use Rattle.fields.proofs.Tags.{row_short, at_4}

-- the longest body
pub body_short : (t l : ℕ) → length_fits t l ≡ true → count_fits t l ≡ true → l ≤ 8192
unfolding length_fits count_fits
body_short t l h c = go (eqb t 5) refl h c
  where
    go : (b : Bool) → eqb t 5 ≡ b → pick b (eqb (l % 2) 0) (eqb l (row_of t).len) ≡ true → pick b (count_ok (l / 2)) true ≡ true → l ≤ 8192
    go true q x y = omega (arith, eqb-true (l % 2) 0 x, (count_is (l / 2) y).1)
    go false q x y = omega (arith, eqb-true l (row_of t).len x, row_short t)

module _ (s : List ℕ) (n at : ℕ) where
  abbrev cut : List ℕ
  cut = take n s

  cut_length : (length cut ≤ length s) × (length s ≤ n → length cut ≡ length s) × (n ≤ length s → length cut ≡ n)
  cut_length = let e = length-take n s in (omega arith, (λ h. omega arith), (λ h. omega arith))

  -- the header is whole in both or in neither
  same_header : at + 3 ≤ n → ltb (length cut - at) 3 ≡ ltb (length s - at) 3
  same_header h = let e = length-take n s in go (ltb (length s - at) 3) refl
    where
      go : (b : Bool) → ltb (length s - at) 3 ≡ b → ltb (length cut - at) 3 ≡ b
      go true q = let k = ltb-true (length s - at) 3 q in let e = length-take n s in lt-ltb (length cut - at) 3 (omega arith)
      go false q = let k = ltb-false (length s - at) 3 q in let e = length-take n s in le-ltb (length cut - at) 3 (omega arith)

  same_room : (l : ℕ) → at + 3 + l ≤ n → leb l (length cut - at - 3) ≡ leb l (length s - at - 3)
  same_room l h = go (leb l (length s - at - 3)) refl
    where
      go : (b : Bool) → leb l (length s - at - 3) ≡ b → leb l (length cut - at - 3) ≡ b
      go true q = let k = leb-true l (length s - at - 3) q in let e = length-take n s in le-leb l (length cut - at - 3) (omega arith)
      go false q = let k = leb-false l (length s - at - 3) q in let e = length-take n s in lt-leb l (length cut - at - 3) (omega arith)

  same_checked : (stage t l : ℕ) → at + 3 + 8192 ≤ n → checked_field stage t l (at + 3) (length cut - at - 3) ≡ checked_field stage t l (at + 3) (length s - at - 3)
  unfolding checked_field
  same_checked stage t l h = go (may_stand stage t) (length_fits t l) refl (count_fits t l) refl
    where
      go : (a b : Bool) → length_fits t l ≡ b → (c : Bool) → count_fits t l ≡ c →
          pick a (pick b (pick c (pick (leb l (length cut - at - 3)) (Body t (at + 3) l) (Wrong 1)) (Wrong 9)) (Wrong 3)) (Wrong 2) ≡
          pick a (pick b (pick c (pick (leb l (length s - at - 3)) (Body t (at + 3) l) (Wrong 1)) (Wrong 9)) (Wrong 3)) (Wrong 2)
      go false b qb c qc = refl
      go true false qb c qc = refl
      go true true qb false qc = refl
      go true true qb true qc = let k = body_short t l qb qc in ap (λ (x : Bool). pick x (Body t (at + 3) l) (Wrong 1)) (same_room l (omega arith))

  pub same_field : (stage : ℕ) → at + 3 + 8192 ≤ n → field_at cut at stage ≡ field_at s at stage
  unfolding field_at
  same_field stage h =
      rw (same_header (omega arith), get_or-take n s at 0 (omega arith), get_or-take n s (at + 1) 0 (omega arith), get_or-take n s (at + 2) 0 (omega arith), same_checked stage (get_or s at 0) (word (get_or s (at + 1) 0) (get_or s (at + 2) 0)) h)

  -- past the end of a file the header alone counts
  closed : (l : List ℕ) → field_at l at 4 ≡ pick (ltb (length l - at) 3) (Wrong 1) (Wrong 2)
  unfolding field_at checked_field
  closed l = rw (at_4 (get_or l at 0))

  pub same_closed : at + 3 ≤ n → field_at cut at 4 ≡ field_at s at 4
  same_closed h = closed cut ∙ ap (λ (b : Bool). pick b (Wrong 1) (Wrong 2)) (same_header h) ∙ sym (closed s)

  pub same_end : at + 3 ≤ n → eqb at (length cut) ≡ eqb at (length s)
  same_end h = go (eqb at (length s)) refl
    where
      go : (b : Bool) → eqb at (length s) ≡ b → eqb at (length cut) ≡ b
      go true q = let k = eqb-true at (length s) q in let e = length-take n s in eq-eqb at (length cut) (omega arith)
      go false q = let k = eqb-false at (length s) q in let e = length-take n s in ne_eqb at (length cut) (λ z. k (omega arith))

-- a part that lies in the cut file is the same there
part_cut : (st l n : ℕ) (s : List ℕ) → st + l ≤ n → take l (drop st (take n s)) ≡ take l (drop st s)
part_cut zero l n s h = take-take l n s (omega arith)
part_cut (suc st) l zero s h = absurd (omega arith)
part_cut (suc st) l (suc n) [] h = refl
part_cut (suc st) l (suc n) (x ∷ s) h = part_cut st l n s (omega arith)

pub same_part : (s : List ℕ) (n st l : ℕ) → st + l ≤ n → st + l ≤ length s → part_of (take n s) st l ≡ part_of s st l
unfolding part_of
same_part s n st l h k =
    let e = length-take n s in
    rw (le-leb (st + l) (length (take n s)) (omega arith), le-leb (st + l) (length s) k) (part_cut st l n s h)
