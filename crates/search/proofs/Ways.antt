-- Why the way back gives the model's runs. Assumes nothing.
use mathlib.Core.Path.{◌≡◌, refl, sym, ◌∙◌, ap, subst}
use mathlib.Core.List.{List, [], ◌∷◌, ◌++◌, append_assoc}
use Prim.Native.Nat.{ℕ, suc, ◌+◌, ◌*◌, ◌≤◌, ◌<◌}
use mathlib.Core.Logic.{⊎_elim}
use native.Mathlib.Omega.{arith}
use native.Mathlib.Nat.{mul-le-mul}
use lib.IntN.{ℤ, pos, ◌+ℤ◌}
use lib.ListN.{length, length-append}
use Rattle.plan.specs.declared.Plan.{Plan}
use Rattle.model.specs.Model.{width}
use Rattle.model.specs.Run as M
use Rattle.model.specs.Run.{five}
use Rattle.model.specs.Runs.{walk_back}
use Rattle.layer.specs.declared.Shape.{Shape}
use Rattle.layer.specs.Layer.{Layer, place_most}
use Rattle.layer.specs.Next.{Task}
use Rattle.saved.specs.declared.Walk.{Walk}
use Rattle.saved.specs.declared.Saved.{Saved}
use Rattle.saved.specs.Packed.{Inside}
use Rattle.saved.specs.Walk.{Workspace, At, Stack, Walked, Goes, limit}
use Rattle.saved.proofs.Chains.{inside_refl, inside_then}
use Rattle.runs.specs.declared.Run.{Run}
use Rattle.runs.specs.Runs.{Put, Reversed, holds_none, holds_put, holds_reversed, five_of}
use Rattle.trace.specs.declared.Point.{Point}
use Rattle.trace.specs.Trace.{PointAt, node_at, StepReady, StepMade}
use Rattle.search.specs.Way.{WayReady, WayTo, Finished}

-- ---- forward

pub still_space : {P : Plan} {zs : List ℤ} {g : Shape} {ws ws' : List ℕ} → Workspace P zs g ws → Inside 0 (limit P) ws ws' → Workspace P zs g ws'
still_space a i = record { task = a.task; some = a.some; room = omega (arith, a.room, i.size) }

pub goes : {P : Plan} {zs : List ℤ} {g : Shape} {T : List Saved} {ws ws' : List ℕ} {r : Walk} → Workspace P zs g ws → Walked P zs 1 T ws ws' r → Goes P zs g r (length zs) ws' × Stack P zs r.count T ws'
goes a w = (record { space = still_space a w.inside; at = w.at; from = omega (arith, w.time, a.some); most = omega arith }, w.stack)

-- ---- back

pub place_low : {P : Plan} {zs : List ℤ} {g : Shape} {w : Walk} {ws : List ℕ} → Task P zs g → At P zs w ws → w.cur ≤ place_most
place_low {P} a at =
    let h : P.states * width P ≤ 8 * 1024 = mul-le-mul a.ready.plan.few_states a.ready.plan.narrow in
    ⊎_elim (λ x. omega (arith, x.0)) (λ x. omega (arith, x.0)) at.places

module _ {P : Plan} {zs : List ℤ} {g : Shape} {w₀ : Walk} {p₀ : Point} {T₀ : List Saved} {ws : List ℕ} {out : List ℤ} (a : WayReady P zs g w₀ p₀ T₀ ws out) where
  module _ {t : ℕ} {p : Point} {ws' : List ℕ} {out' : List ℤ} (b : WayTo P zs t p₀ p ws ws' out out') (h : 0 < t) where
    module _ {T : List Saved} {ws'' : List ℕ} {w : Walk} (m : Walked P zs t T ws' ws'' w) where
      pub way_more : {out'' : List ℤ} {r : Point} → StepMade P zs t p r out' out'' → (u : ℕ) → suc u ≡ t → WayTo P zs u p₀ r ws ws'' out out''
      way_more {out''} {r} s u e = record {
        here = subst (λ (x : ℕ). PointAt P zs x r) (sym e) s.here;
        last = s.last;
        inside = inside_then b.inside m.inside;
        size = s.size ∙ b.size;
        done = b.done ++ s.new;
        count = omega (arith, s.count, b.count, length-append b.done s.new);
        few = omega (arith, s.count, s.few, b.few);
        way = b.way ∙ ap (λ (x : List M.Run). b.done ++ x) s.way ∙ sym (append_assoc b.done s.new _) ∙ ap (λ (x : ℕ). (b.done ++ s.new) ++ walk_back P zs r.last x (node_at P r)) (sym e);
        holds = s.holds b.done out b.count b.holds;
      }

-- ---- the first run

pub finished : {P : Plan} {p : Point} {out w out' : List ℤ} {r : Run} → five_of r ≡ five (M.run 1 p.last p.key.state (P.lo +ℤ pos p.low.level) 255) → Put p.runs r out w → Reversed (p.runs + 1) w out' → Finished P p (p.runs + 1) out out'
finished {P} {p} {out} {w} {out'} {r} e m v = record {
  count = refl;
  size = v.size ∙ m.size;
  holds = λ rs l₀ c h. holds_reversed (rs ++ (M.run 1 p.last p.key.state (P.lo +ℤ pos p.low.level) 255 ∷ [])) l₀ w out' (p.runs + 1) (omega (arith, c, length-append rs (M.run 1 p.last p.key.state (P.lo +ℤ pos p.low.level) 255 ∷ []))) (holds_put rs l₀ out w p.runs r _ c e h m) v;
}
