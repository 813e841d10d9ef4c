-- `files::check_writing` meets its contract. Assumes nothing.
use Prim.Native.Nat.{ℕ, ◌<◌, ◌≤◌}
use mathlib.Core.Path.{refl, sym, ◌∙◌, subst}
use Rattle.plan.specs.Counts.{count_is}
use Rattle.plan.proofs.Passing.{passed, number_some}
use Rattle.files.proofs.Sizes.{counts_small}
use Rattle.files.proofs.Store.{not_usable, usable, wrong_count, no_room, writes}
use Rattle.files.proofs.check_writing.Goals as goal

pub returns-in_err-check_sealed : goal.returns-in_err-check_sealed
returns-in_err-check_sealed c = passed _ _ _ c.in_err-check_sealed.was c.from_residual.ensures.1 ∙ c.check_sealed.ensures ∙ not_usable c.args.plan c.args.n c.args.room _ refl (λ z. number_some _ (c.in_err-check_sealed.ensures ∙ z))

pub returns-then-not-count_ok : goal.returns-then-not-count_ok
returns-then-not-count_ok c = wrong_count _ _ _ c.in_ok-check_sealed.ensures _ c.count_ok.ensures c.if-not-count_ok.true

pub plan_length-requires : goal.plan_length-requires
plan_length-requires c =
    let h = counts_small c.args.plan (usable _ c.args.n c.args.room c.in_ok-check_sealed.ensures).0 in
    let k = count_is c.args.n (sym c.count_ok.ensures ∙ c.if-not-count_ok.false) in
    (h.0, h.1, k.1)

pub returns-then-room-plan_length : goal.returns-then-room-plan_length
returns-then-room-plan_length c = no_room _ _ _ c.in_ok-check_sealed.ensures _ c.count_ok.ensures c.if-not-count_ok.false (subst (λ (l : ℕ). c.args.room < l) c.plan_length.ensures c.if-room-plan_length.true)

pub returns : goal.returns
returns c = writes _ _ _ c.in_ok-check_sealed.ensures _ c.count_ok.ensures c.if-not-count_ok.false (subst (λ (l : ℕ). l ≤ c.args.room) c.plan_length.ensures c.if-room-plan_length.false)
