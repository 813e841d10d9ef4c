-- Readings and their bytes are one to one.
-- Assumes nothing.
use Rattle.std.specs.Prelude.{ℕ, zero, suc, ◌*◌, ◌/◌, ◌%◌, ◌<◌, ◌≤◌, ◌≡◌, refl, List, [], ◌∷◌, ◌++◌, Bool, true, false, length, take, drop, leb, eqb, ℤ}
use Rattle.std.proofs.Common.{arith, ◌∙◌, ap, ap₂, take_at, le-leb, leb-true, eqb-true}
use Rattle.std.proofs.lemmas.Bool.{eqb-false}
use Rattle.integers.specs.Pick.{pick}
use Rattle.integers.specs.Bytes.{word, signed16, bits16, word_high, word_low, word_back, signed_bits, bits_signed}
use Rattle.readings.specs.Codec.{readings_of, bytes_of, decode_number, decoded, encode_number, encoded}
use Rattle.plan.specs.Counts.{count_ok}
use Rattle.readings.specs.Trips.{All16, AllBytes}

pub bytes_length : (zs : List ℤ) → length (bytes_of zs) ≡ 2 * length zs
unfolding bytes_of
bytes_length [] = refl
bytes_length (z ∷ zs) = omega (arith, bytes_length zs)

pub bytes_append : (xs ys : List ℤ) → bytes_of (xs ++ ys) ≡ bytes_of xs ++ bytes_of ys
unfolding bytes_of
bytes_append [] ys = refl
bytes_append (z ∷ xs) ys = ap (λ (l : List ℕ). bits16 z / 256 ∷ (bits16 z % 256 ∷ l)) (bytes_append xs ys)

pub readings_length : (k : ℕ) (b : List ℕ) → length b ≡ 2 * k → length (readings_of b) ≡ k
unfolding readings_of
readings_length zero [] e = refl
readings_length zero (x ∷ b) e = absurd (omega arith)
readings_length (suc k) [] e = absurd (omega arith)
readings_length (suc k) (x ∷ []) e = absurd (omega arith)
readings_length (suc k) (x ∷ (y ∷ b)) e = ap suc (readings_length k b (omega arith))

pub readings_append : (k : ℕ) (xs ys : List ℕ) → length xs ≡ 2 * k → readings_of (xs ++ ys) ≡ readings_of xs ++ readings_of ys
unfolding readings_of
readings_append zero [] ys e = refl
readings_append zero (x ∷ xs) ys e = absurd (omega arith)
readings_append (suc k) [] ys e = absurd (omega arith)
readings_append (suc k) (x ∷ []) ys e = absurd (omega arith)
readings_append (suc k) (x ∷ (y ∷ xs)) ys e = ap (λ (l : List ℤ). signed16 (word x y) ∷ l) (readings_append k xs ys (omega arith))

-- the readings of the bytes of readings
pub decode_encode : (zs : List ℤ) → All16 zs → readings_of (bytes_of zs) ≡ zs
unfolding readings_of bytes_of
decode_encode [] f = refl
decode_encode (z ∷ zs) f = ap₂ (λ (x : ℤ) (l : List ℤ). x ∷ l) (ap signed16 (word_back (bits16 z)) ∙ signed_bits z (f 0)) (decode_encode zs (λ i. f (suc i)))

-- the bytes of the readings of a body of k readings
pub encode_decode : (k : ℕ) (b : List ℕ) → length b ≡ 2 * k → AllBytes b → bytes_of (readings_of b) ≡ b
unfolding readings_of bytes_of
encode_decode zero [] e f = refl
encode_decode zero (x ∷ b) e f = absurd (omega arith)
encode_decode (suc k) [] e f = absurd (omega arith)
encode_decode (suc k) (x ∷ []) e f = absurd (omega arith)
encode_decode (suc k) (x ∷ (y ∷ b)) e f =
    let h : x < 256 = f 0 in
    let l : y < 256 = f 1 in
    let w : bits16 (signed16 (word x y)) ≡ word x y = bits_signed (word x y) (omega arith) in
    ap₂ (λ (p : ℕ) (t : List ℕ). p ∷ t) (ap (λ (n : ℕ). n / 256) w ∙ word_high x y l)
    (ap₂ (λ (p : ℕ) (t : List ℕ). p ∷ t) (ap (λ (n : ℕ). n % 256) w ∙ word_low x y l) (encode_decode k b (omega arith) (λ i. f (suc (suc i)))))

-- the tests that a number 0 has passed
both : (a b : Bool) {k m : ℕ} → (k ≡ 0 → ⊥) → (m ≡ 0 → ⊥) → pick a (pick b 0 k) m ≡ 0 → (a ≡ true) × (b ≡ true)
both true true hk hm e = (refl, refl)
both true false hk hm e = absurd (hk e)
both false b hk hm e = absurd (hm e)

encode_room : (n room : ℕ) → encode_number n room ≡ 0 → (count_ok n ≡ true) × (2 * n ≤ room)
unfolding encode_number
encode_room n room e =
    let t = both (count_ok n) (leb (2 * n) room) {k = 15} {m = 9} (eqb-false 15 0 refl) (eqb-false 9 0 refl) e in
    (t.0, leb-true (2 * n) room t.1)

-- encoded and decoded: the readings come back, in front of what the list held
pub encode_then_decode :
    (zs list : List ℤ) (out : List ℕ) → All16 zs → encode_number (length zs) (length out) ≡ 0 → length zs ≤ length list →
    decoded (take (2 * length zs) (encoded zs out)) list ≡ zs ++ drop (length zs) list
unfolding encoded decoded decode_number
encode_then_decode zs list out f e h =
    let n = length zs in
    let r = encode_room n (length out) e in
    let b : take (2 * n) (bytes_of zs ++ drop (2 * n) out) ≡ bytes_of zs = take_at (bytes_of zs) (drop (2 * n) out) (2 * n) (bytes_length zs) in
    let half : 2 * n / 2 ≡ n = omega arith in
    let even : 2 * n % 2 ≡ 0 = omega arith in
    rw (e, b, bytes_length zs, even, half, r.0, le-leb n (length list) h) (ap (λ (l : List ℤ). l ++ drop n list) (decode_encode zs f))

-- decoded and encoded: the bytes come back, in front of what was there
decode_room : (len room : ℕ) → decode_number len room ≡ 0 → (len % 2 ≡ 0) × (count_ok (len / 2) ≡ true)
unfolding decode_number
decode_room len room e = go (eqb (len % 2) 0) refl e
  where
    go : (b : Bool) → eqb (len % 2) 0 ≡ b → ◌≡◌ {A = ℕ} (pick b (pick (count_ok (len / 2)) (pick (leb (len / 2) room) 0 15) 9) 3) 0 → (len % 2 ≡ 0) × (count_ok (len / 2) ≡ true)
    go true q h = (eqb-true (len % 2) 0 q, (both (count_ok (len / 2)) (leb (len / 2) room) {k = 15} {m = 9} (eqb-false 15 0 refl) (eqb-false 9 0 refl) h).0)
    go false q h = absurd (eqb-false 3 0 refl h)

pub decode_then_encode :
    (b out : List ℕ) (list : List ℤ) → AllBytes b → decode_number (length b) (length list) ≡ 0 → length b ≤ length out →
    encoded (take (length b / 2) (decoded b list)) out ≡ b ++ drop (length b) out
unfolding encoded decoded encode_number
decode_then_encode b out list f e h =
    let r = decode_room (length b) (length list) e in
    let even : length b ≡ 2 * (length b / 2) = omega (arith, r.0) in
    let n = readings_length (length b / 2) b even in
    let t : take (length b / 2) (readings_of b ++ drop (length b / 2) list) ≡ readings_of b = take_at (readings_of b) (drop (length b / 2) list) (length b / 2) n in
    let back : 2 * (length b / 2) ≡ length b = omega (arith, r.0) in
    rw (e, t, n, r.1, back, le-leb (length b) (length out) h) (ap (λ (l : List ℕ). l ++ drop (length b) out) (encode_decode (length b / 2) b even f))
