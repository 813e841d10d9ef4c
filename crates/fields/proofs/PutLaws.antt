-- Bytes that are stored one after another, and the outcome of a writer.
-- Assumes nothing.
use Rattle.std.specs.Prelude.{ℕ, ◌+◌, ◌≤◌, ◌≡◌, refl, Bool, true, false, List, [], ◌++◌, leb, length, take, drop, Result, IsErrAnd}
use Rattle.std.proofs.lemmas.Result.{err_from_is_err_and}
use Rattle.plan.specs.declared.reasons.Refusal.{Refusal}
use Rattle.plan.specs.Refusals.{refusal_number}
use Rattle.plan.proofs.Passing.{number_some}
use Rattle.std.proofs.Common.{arith, zero-add, sym, ◌∙◌, ap, ap₂, append_assoc, append-nil, length-append, length-drop, take-append-drop, take_at, drop-drop, length-take-le}
use Rattle.std.proofs.Math.Seq.{drop-append-add}
use borrow.Author.Tests.{le-leb, leb-true, ne_eqb}
use Rattle.fields.specs.Fields.{put_at}
use Rattle.fields.specs.Put.{Bytes, Refused, outcome, written, written_of}

module _ (m : ℕ) (bs out : List ℕ) where
  pub write_refused : (n len : ℕ) → m ≡ n → (n ≡ 0 → ⊥) → (Refused n ≡ outcome m len) × (out ≡ written m bs out)
  unfolding outcome written
  write_refused n len e h = (rw (e, ne_eqb n 0 h), rw (e, ne_eqb n 0 h))

  pub write_done : (l : List ℕ) (len : ℕ) → m ≡ 0 → l ≡ bs ++ drop (length bs) out → (Bytes len ≡ outcome m len) × (l ≡ written m bs out)
  unfolding outcome written
  write_done l len e h = (rw e, rw e h)

-- a refusal that a writer passes on by `?`
pub write_passed :
    (r : Result ℕ Refusal) (x : Refusal) (m : ℕ) (bs out : List ℕ) (len : ℕ) → IsErrAnd r (λ (y : Refusal). y ≡ x) → refusal_number x ≡ m → (written_of r ≡ outcome m len) × (out ≡ written m bs out)
write_passed r x m bs out len h e =
    let p = err_from_is_err_and r h in
    let w = write_refused m bs out (refusal_number x) len (sym e) (number_some x) in
    (rw (p.1, p.2) w.0, w.1)

pub put_fits : (out : List ℕ) (at : ℕ) (bs : List ℕ) → at + length bs ≤ length out → put_at out at bs ≡ take at out ++ bs ++ drop (at + length bs) out
unfolding put_at
put_fits out at bs h = rw (le-leb (at + length bs) (length out) h)

put_long : (b : Bool) (out : List ℕ) (at : ℕ) (bs : List ℕ) → leb (at + length bs) (length out) ≡ b → length (put_at out at bs) ≡ length out
unfolding put_at
put_long false out at bs e = rw e
put_long true out at bs e =
    let h = leb-true (at + length bs) (length out) e in
    let k : length (take at out) ≡ at = length-take-le at out (omega arith) in
    rw e (simp (length-append, length-drop) (omega arith))

pub put_length : (out : List ℕ) (at : ℕ) (bs : List ℕ) → length (put_at out at bs) ≡ length out
put_length out at bs = put_long (leb (at + length bs) (length out)) out at bs refl

-- nothing stored
pub put_none : (out : List ℕ) (at : ℕ) → at ≤ length out → put_at out at [] ≡ out
put_none out at h =
    let e : at + 0 ≡ at = omega arith in
    put_fits out at [] (omega arith) ∙ ap₂ (λ (a b : List ℕ). a ++ b) (append-nil (take at out)) (ap (λ (n : ℕ). drop n out) e) ∙ take-append-drop at out

-- some bytes, and more behind them
pub put_more : (out : List ℕ) (at : ℕ) (a b : List ℕ) → at + length a + length b ≤ length out → put_at (put_at out at a) (at + length a) b ≡ put_at out at (a ++ b)
put_more out at a b h =
    let k = at + length a in
    let p = take at out ++ a in
    let n : length p ≡ k = length-append (take at out) a ∙ ap (λ (m : ℕ). m + length a) (length-take-le at out (omega arith)) in
    let j : k + length b ≡ at + length (a ++ b) = omega (arith, length-append a b) in
    let x : put_at out at a ≡ p ++ drop k out = put_fits out at a (omega arith) in
    put_fits (put_at out at a) k b (omega (arith, put_length out at a)) ∙
    ap (λ (l : List ℕ). take k l ++ b ++ drop (k + length b) l) x ∙
    ap₂ (λ (l r : List ℕ). l ++ b ++ r) (take_at p (drop k out) k n) (ap (λ (m : ℕ). drop (m + length b) (p ++ drop k out)) (sym n) ∙ drop-append-add p (drop k out) (length b) ∙ drop-drop (length b) k out) ∙
    ap₂ (λ (l : List ℕ) (m : ℕ). l ++ drop m out) (append_assoc (take at out) a b) j ∙
    sym (put_fits out at (a ++ b) (omega (arith, length-append a b)))

-- stored at the front
pub put_front : (out bs : List ℕ) → length bs ≤ length out → put_at out 0 bs ≡ bs ++ drop (length bs) out
put_front out bs h = put_fits out 0 bs (omega arith) ∙ ap (λ (n : ℕ). bs ++ drop n out) (zero-add (length bs))
