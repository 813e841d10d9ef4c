-- One turn of the loops that decode and encode.
-- Assumes nothing.
use Prim.Native.Nat.{ℕ, zero, suc, ◌+◌, ◌*◌, ◌/◌, ◌%◌, ◌<◌, ◌≤◌}
use native.Mathlib.Omega.{arith}
use mathlib.Core.Path.{◌≡◌, refl, sym, ◌∙◌, ap}
use mathlib.Core.List.{List, [], ◌∷◌, ◌++◌, append_assoc}
use lib.ListN.{length, get_or, set, take, drop}
use lib.Seq.{take-suc, length-take-le}
use lib.IntN.{ℤ, pos}
use Rattle.std.proofs.lemmas.List.{get_or-take, get_or-drop}
use Rattle.std.specs.Simd.{first_chunks}
use Rattle.integers.specs.Bytes.{word, signed16, bits16}
use Rattle.readings.specs.Codec.{readings_of, bytes_of}
use Rattle.readings.proofs.Front.{front_more}
use Rattle.readings.proofs.Trips.{bytes_length, bytes_append, readings_length, readings_append}

pub no_readings : (out : List ℤ) → out ≡ readings_of [] ++ out
unfolding readings_of
no_readings out = refl

pub no_bytes : (out : List ℕ) → out ≡ bytes_of [] ++ out
unfolding bytes_of
no_bytes out = refl

-- byte j of pair i of a body, which is the body's byte at p
pub pair_byte : (k : ℕ) (b : List ℕ) (i j p : ℕ) → i < k → j < 2 → p ≡ 2 * i + j → get_or (get_or (first_chunks 2 k b) i []) j 0 ≡ get_or b p 0
pair_byte zero b i j p h q e = absurd (omega arith)
pair_byte (suc k) b zero j p h q e = get_or-take 2 b j 0 q ∙ ap (λ (n : ℕ). get_or b n 0) (omega (arith, e))
pair_byte (suc k) b (suc i) j p h q e = pair_byte k (drop 2 b) i j (2 * i + j) (omega arith) q refl ∙ get_or-drop 2 b (2 * i + j) 0 ∙ ap (λ (n : ℕ). get_or b n 0) (omega (arith, e))

module _ (b : List ℕ) (i : ℕ) (h : 2 * i + 2 ≤ length b) where
  two_more : take (2 * (i + 1)) b ≡ take (2 * i) b ++ (get_or b (2 * i) 0 ∷ (get_or b (2 * i + 1) 0 ∷ []))
  two_more =
      let e : 2 * (i + 1) ≡ suc (suc (2 * i)) = omega arith in
      let f : 2 * i + 1 ≡ suc (2 * i) = omega arith in
      rw (e, f, take-suc b (suc (2 * i)) 0 (omega arith), take-suc b (2 * i) 0 (omega arith), append_assoc)

  reading_more : readings_of (take (2 * (i + 1)) b) ≡ readings_of (take (2 * i) b) ++ (signed16 (word (get_or b (2 * i) 0) (get_or b (2 * i + 1) 0)) ∷ [])
  unfolding readings_of
  reading_more = ap readings_of two_more ∙ readings_append i (take (2 * i) b) (get_or b (2 * i) 0 ∷ (get_or b (2 * i + 1) 0 ∷ [])) (length-take-le (2 * i) b (omega arith))

  pub reading_turn : (out : List ℤ) → i < length out → set (readings_of (take (2 * i) b) ++ drop i out) i (signed16 (word (get_or b (2 * i) 0) (get_or b (2 * i + 1) 0))) ≡ readings_of (take (2 * (i + 1)) b) ++ drop (i + 1) out
  reading_turn out q =
      front_more (readings_of (take (2 * i) b)) (signed16 (word (get_or b (2 * i) 0) (get_or b (2 * i + 1) 0)) ∷ []) out i (readings_length i (take (2 * i) b) (length-take-le (2 * i) b (omega arith))) (omega arith) ∙
      ap (λ (l : List ℤ). l ++ drop (i + 1) out) (sym reading_more)

module _ (zs : List ℤ) (i : ℕ) (h : i < length zs) where
  bytes_more : bytes_of (take (i + 1) zs) ≡ bytes_of (take i zs) ++ (bits16 (get_or zs i (pos 0)) / 256 ∷ (bits16 (get_or zs i (pos 0)) % 256 ∷ []))
  unfolding bytes_of
  bytes_more = let e : i + 1 ≡ suc i = omega arith in ap (λ (n : ℕ). bytes_of (take n zs)) e ∙ ap bytes_of (take-suc zs i (pos 0) h) ∙ bytes_append (take i zs) (get_or zs i (pos 0) ∷ [])

  pub bytes_turn : (out : List ℕ) → 2 * i + 2 ≤ length out → set (set (bytes_of (take i zs) ++ drop (2 * i) out) (2 * i) (bits16 (get_or zs i (pos 0)) / 256)) (2 * i + 1) (bits16 (get_or zs i (pos 0)) % 256) ≡ bytes_of (take (i + 1) zs) ++ drop (2 * (i + 1)) out
  bytes_turn out q =
      let f : 2 * i + 1 ≡ suc (2 * i) = omega arith in
      let g : 2 * i + 2 ≡ 2 * (i + 1) = omega arith in
      let z = bits16 (get_or zs i (pos 0)) in
      ap (λ (n : ℕ). set (set (bytes_of (take i zs) ++ drop (2 * i) out) (2 * i) (z / 256)) n (z % 256)) f ∙
      front_more (bytes_of (take i zs)) (z / 256 ∷ (z % 256 ∷ [])) out (2 * i) (bytes_length (take i zs) ∙ ap (λ (n : ℕ). 2 * n) (length-take-le i zs (omega arith))) q ∙
      ap (λ (l : List ℕ). l ++ drop (2 * i + 2) out) (sym bytes_more) ∙ ap (λ (n : ℕ). bytes_of (take (i + 1) zs) ++ drop n out) g
