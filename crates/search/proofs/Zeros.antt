-- Lists that agree from a place on. Assumes nothing.
use mathlib.Core.Path.{◌≡◌, refl, sym, ◌∙◌, ap, subst}
use mathlib.Core.List.{List, ◌++◌}
use Prim.Native.Nat.{ℕ, ◌+◌, ◌-◌, ◌≤◌, ◌<◌}
use native.Mathlib.Omega.{arith}
use native.Mathlib.Decide.{dec_lt, ℕ_discrete}
use lib.ListN.{length, get_or, set, drop, replicate, length-set, length-append, length-drop, length-replicate, get_or-replicate, get_or-append}
use lib.ListN.{get_or-eq_default}
use lib.IntN.{ℤ, pos}
use lib.Signed.{mag}
use lib.Seq.{get_or-set_same, get_or-set_other, ext_get_or, get_or-append-add, get_or-drop}

-- lists that agree from n on
pub same_drop : (n : ℕ) (l l' : List ℕ) → length l' ≡ length l → ((i : ℕ) → n ≤ i → get_or l' i 0 ≡ get_or l i 0) → drop n l' ≡ drop n l
same_drop n l l' e f =
    ext_get_or 0 (drop n l') (drop n l) (simp length-drop (omega arith)) (λ i h. get_or-drop n l' i 0 ∙ f (n + i) (omega arith) ∙ sym (get_or-drop n l i 0))
