-- What a field that was read says of the file, and what reading a written field gives.
-- Assumes nothing.
use Rattle.std.specs.Prelude.{ℕ, zero, suc, ◌+◌, ◌-◌, ◌/◌, ◌%◌, ◌≤◌, ◌≡◌, refl, Bool, true, false, List, [], ◌∷◌, ◌++◌, ltb, leb, take, drop}
use Rattle.std.proofs.Common.{arith, add-one, add-zero, sym, ◌∙◌, append_assoc, lit<, length-append, length-drop, drop_of_length-le, take-add, take_at, drop-cons, get_or-append-add, length-take-le, get_or-drop}
use Rattle.std.proofs.Math.Path.{ap, ap₂}
use Rattle.std.proofs.Math.ListN.{length, get_or}
use Rattle.std.proofs.Math.Seq.{drop-append-add}
use borrow.Author.Tests.{le-ltb, ltb-false, leb-true, le-leb}
use Rattle.integers.specs.Pick.{pick}
use Rattle.integers.specs.Bytes.{word, word_high, word_low, word_back}
use Rattle.readings.specs.Trips.{AllBytes}
use Rattle.fields.specs.Fields.{Field, Body, Wrong, may_stand, length_fits, count_fits, checked_field, field_at, part_of, field}
use Rattle.fields.specs.Laws.{FieldRead, bytes_at}

-- a test that a body passed
passed : (b : Bool) (x : Field) (n : ℕ) {t st l : ℕ} → pick b x (Wrong n) ≡ Body t st l → (b ≡ true) × (x ≡ Body t st l)
passed true x n h = (refl, h)
passed false x n h = let z : ◌≡◌ {A = ℕ} 0 1 = cc in absurd (omega arith)

not_cut : (b : Bool) (x : Field) (n : ℕ) {t st l : ℕ} → pick b (Wrong n) x ≡ Body t st l → (b ≡ false) × (x ≡ Body t st l)
not_cut false x n h = (refl, h)
not_cut true x n h = let z : ◌≡◌ {A = ℕ} 0 1 = cc in absurd (omega arith)

header : (stage tag len start left : ℕ) {t st l : ℕ} → checked_field stage tag len start left ≡ Body t st l → (may_stand stage tag ≡ true) × (length_fits tag len ≡ true) × (count_fits tag len ≡ true) × (len ≤ left) × (tag ≡ t) × (start ≡ st) × (len ≡ l)
unfolding checked_field
header stage tag len start left {t} {st} {l} e =
    let p2 = passed (may_stand stage tag) _ 2 e in
    let p3 = passed (length_fits tag len) _ 3 p2.1 in
    let p4 = passed (count_fits tag len) _ 9 p3.1 in
    let p5 : (leb len left ≡ true) × (Body tag start len ≡ Body t st l) = passed (leb len left) (Body tag start len) 1 p4.1 in
    (p2.0, p3.0, p4.0, leb-true len left p5.0, tag_is p5.1, start_is p5.1, len_is p5.1)
  where
    tag_is : Body tag start len ≡ Body t st l → tag ≡ t
    tag_is q = cc

    start_is : Body tag start len ≡ Body t st l → start ≡ st
    start_is q = cc

    len_is : Body tag start len ≡ Body t st l → len ≡ l
    len_is q = cc

pub field_is : (s : List ℕ) (at stage : ℕ) {t st l : ℕ} → field_at s at stage ≡ Body t st l → FieldRead s at stage t st l
unfolding field_at
field_is s at stage {t} {st} {l} e =
    let p1 = not_cut (ltb (length s - at) 3) _ 1 e in
    let h = header stage (get_or s at 0) (word (get_or s (at + 1) 0) (get_or s (at + 2) 0)) (at + 3) (length s - at - 3) p1.1 in
    let left : 3 ≤ length s - at = ltb-false (length s - at) 3 p1.0 in
    record { tag = sym h.4; start = sym h.5; len = sym h.6; whole = omega (arith, h.3, h.5, h.6); stands = ap (may_stand stage) (sym h.4) ∙ h.0; fits = ap₂ length_fits (sym h.4) (sym h.6) ∙ h.1; counts = ap₂ count_fits (sym h.4) (sym h.6) ∙ h.2 }

-- a part that lies in the file
module _ (s : List ℕ) (st l : ℕ) (h : st + l ≤ length s) where
  pub part_is : part_of s st l ≡ take l (drop st s)
  unfolding part_of
  part_is = rw (le-leb (st + l) (length s) h)

  pub part_length : length (part_of s st l) ≡ l
  part_length = ap length part_is ∙ length-take-le l (drop st s) (simp length-drop (omega arith))

-- the bytes of a field that was read: with its tag and length in front of its body, it carries the file on
pub field_bytes : (s : List ℕ) (at stage : ℕ) {t st l : ℕ} → AllBytes s → FieldRead s at stage t st l → take (st + l) s ≡ take at s ++ field t (part_of s st l)
field_bytes s at stage {t} {st} {l} f r =
    let h : at + 3 ≤ length s = omega (arith, r.whole, r.start) in
    let e : st + l ≡ at + (3 + l) = omega (arith, r.start) in
    let w = ap (λ (n : ℕ). n / 256) r.len ∙ word_high (get_or s (at + 1) 0) (get_or s (at + 2) 0) (f (at + 2)) in
    let v = ap (λ (n : ℕ). n % 256) r.len ∙ word_low (get_or s (at + 1) 0) (get_or s (at + 2) 0) (f (at + 2)) in
    let n = part_length s st l r.whole in
    ap (λ (k : ℕ). take k s) e ∙ take-add at (3 + l) s ∙
    ap (λ (x : List ℕ). take at s ++ x) (ap (take (3 + l)) (three h) ∙ first_three l (drop (at + 3) s) ∙
    ap₂ (λ (x : ℕ) (y : List ℕ). x ∷ y) (sym r.tag) (ap₂ (λ (x : ℕ) (y : List ℕ). x ∷ y) (sym (ap (λ (k : ℕ). k / 256) n ∙ w)) (ap₂ (λ (x : ℕ) (y : List ℕ). x ∷ y) (sym (ap (λ (k : ℕ). k % 256) n ∙ v))
    (ap (λ (k : ℕ). take l (drop k s)) (sym r.start) ∙ sym (part_is s st l r.whole)))))
  where
    three : at + 3 ≤ length s → drop at s ≡ get_or s at 0 ∷ (get_or s (at + 1) 0 ∷ (get_or s (at + 2) 0 ∷ drop (at + 3) s))
    three h =
        let e1 : at + 1 ≡ suc at = omega arith in
        let e2 : at + 2 ≡ suc (suc at) = omega arith in
        let e3 : at + 3 ≡ suc (suc (suc at)) = omega arith in
        rw (e1, e2, e3, drop-cons s at 0 (omega arith), drop-cons s (suc at) 0 (omega arith), drop-cons s (suc (suc at)) 0 (omega arith))

    first_three : {a b c : ℕ} (k : ℕ) (xs : List ℕ) → take (3 + k) (a ∷ (b ∷ (c ∷ xs))) ≡ a ∷ (b ∷ (c ∷ take k xs))
    first_three k xs = let e : 3 + k ≡ suc (suc (suc k)) = omega arith in rw e

-- a written field, read where it stands
module _ (pre body rest : List ℕ) (t stage : ℕ) (stands : may_stand stage t ≡ true) (fits : length_fits t (length body) ≡ true) (counts : count_fits t (length body) ≡ true) where
  at_byte : (i : ℕ) → get_or (pre ++ field t body ++ rest) (length pre + i) 0 ≡ get_or (field t body ++ rest) i 0
  at_byte i = ap (λ (x : List ℕ). get_or x (length pre + i) 0) (append_assoc pre (field t body) rest) ∙ get_or-append-add pre (field t body ++ rest) i 0

  whole_length : length (pre ++ field t body ++ rest) ≡ length pre + (3 + length body) + length rest
  whole_length = simp length-append (omega arith)

  pub field_read : field_at (pre ++ field t body ++ rest) (length pre) stage ≡ Body t (length pre + 3) (length body)
  unfolding field_at checked_field
  field_read =
      let l = whole_length in
      let b0 : get_or (pre ++ field t body ++ rest) (length pre) 0 ≡ t = ap (λ (k : ℕ). get_or (pre ++ field t body ++ rest) k 0) (sym (add-zero (length pre))) ∙ at_byte 0 in
      let w : word (get_or (pre ++ field t body ++ rest) (length pre + 1) 0) (get_or (pre ++ field t body ++ rest) (length pre + 2) 0) ≡ length body = ap₂ word (at_byte 1) (at_byte 2) ∙ word_back (length body) in
      rw (le-ltb (length (pre ++ field t body ++ rest) - length pre) 3 (omega arith), b0, w, stands, fits, counts, le-leb (length body) (length (pre ++ field t body ++ rest) - length pre - 3) (omega arith))

  pub field_part : part_of (pre ++ field t body ++ rest) (length pre + 3) (length body) ≡ body
  field_part =
      part_is (pre ++ field t body ++ rest) (length pre + 3) (length body) (omega (arith, whole_length)) ∙
      ap (λ (x : List ℕ). take (length body) (drop (length pre + 3) x)) (append_assoc pre (field t body) rest) ∙
      ap (take (length body)) (drop-append-add pre (field t body ++ rest) 3) ∙
      take_at body rest (length body) refl

-- a part of bytes is bytes
pub take_bytes : (n : ℕ) (s : List ℕ) → AllBytes s → AllBytes (take n s)
take_bytes zero s f i = lit< tt
take_bytes (suc n) [] f i = lit< tt
take_bytes (suc n) (x ∷ s) f zero = f 0
take_bytes (suc n) (x ∷ s) f (suc i) = take_bytes n s (λ j. f (suc j)) i

drop_bytes : (n : ℕ) (s : List ℕ) → AllBytes s → AllBytes (drop n s)
drop_bytes n s f i = rw (get_or-drop n s i 0) (f (n + i))

pub part_bytes : (s : List ℕ) (st l : ℕ) → AllBytes s → AllBytes (part_of s st l)
unfolding part_of
part_bytes s st l f = go (leb (st + l) (length s))
  where
    go : (b : Bool) → AllBytes (pick b (take l (drop st s)) [])
    go true = take_bytes l (drop st s) (drop_bytes st s f)
    go false = λ i. lit< tt

-- ---- a list of known length, spelled out

spell_from : (n i : ℕ) (b : List ℕ) → i + n ≡ length b → bytes_at b i n ≡ drop i b
spell_from zero i b e = sym (drop_of_length-le b {i = i} (omega arith))
spell_from (suc n) i b e =
    ap (λ (l : List ℕ). get_or b i 0 ∷ l) (spell_from n (i + 1) b (omega arith) ∙ ap (λ (k : ℕ). drop k b) (add-one i)) ∙ sym (drop-cons b i 0 (omega arith))

pub spell : (n : ℕ) (b : List ℕ) → length b ≡ n → bytes_at b 0 n ≡ b
spell n b e = spell_from n 0 b (omega arith)
