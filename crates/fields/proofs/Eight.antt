-- Eight bytes and their number are one to one.
-- Assumes nothing.
use Rattle.std.specs.Prelude.{ℕ, ◌<◌, ◌≡◌, refl, List, [], ◌∷◌, length, get_or}
use Rattle.std.proofs.Common.{arith, ◌∙◌, ap, eq-eqb}
use Rattle.integers.specs.Bytes.{word_high, word_low}
use Rattle.readings.specs.Trips.{AllBytes}
use Rattle.fields.specs.Fields.{join, number8, bytes8}
use Rattle.fields.proofs.Laws.{spell}

-- the bytes of a number come back as the number
pub number_back : (n : ℕ) → n < 18446744073709551616 → number8 (bytes8 n) ≡ n
unfolding number8 bytes8
number_back n h = omega arith

pub eight_long : (n : ℕ) → length (bytes8 n) ≡ 8
unfolding bytes8
eight_long n = refl

-- the number of bytes comes back as the bytes
joined : (a b c d e f g h : ℕ) → a < 256 → b < 256 → c < 256 → d < 256 → e < 256 → f < 256 → g < 256 → h < 256 →
    bytes8 (join (join (join (join (join (join (join (join 0 a) b) c) d) e) f) g) h) ≡ a ∷ (b ∷ (c ∷ (d ∷ (e ∷ (f ∷ (g ∷ (h ∷ [])))))))
unfolding bytes8
joined a b c d e f g h ka kb kc kd ke kf kg kh =
    let x₀ = join 0 a in
    let x₁ = join x₀ b in
    let x₂ = join x₁ c in
    let x₃ = join x₂ d in
    let x₄ = join x₃ e in
    let x₅ = join x₄ f in
    let x₆ = join x₅ g in
    let x₇ = join x₆ h in
    rw (word_high x₆ h kh, word_high x₅ g kg, word_high x₄ f kf, word_high x₃ e ke, word_high x₂ d kd, word_high x₁ c kc, word_high x₀ b kb, word_low x₆ h kh, word_low x₅ g kg, word_low x₄ f kf, word_low x₃ e ke, word_low x₂ d kd, word_low x₁ c kc, word_low x₀ b kb, word_low 0 a ka)

pub eight_back : (b : List ℕ) → length b ≡ 8 → AllBytes b → bytes8 (number8 b) ≡ b
unfolding number8
eight_back b l f =
    ap bytes8 (rw (eq-eqb (length b) 8 l)) ∙ joined (get_or b 0 0) (get_or b 1 0) (get_or b 2 0) (get_or b 3 0) (get_or b 4 0) (get_or b 5 0) (get_or b 6 0) (get_or b 7 0) (f 0) (f 1) (f 2) (f 3) (f 4) (f 5) (f 6) (f 7) ∙ spell 8 b l
