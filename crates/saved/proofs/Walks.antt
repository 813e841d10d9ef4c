-- Walks: what each step asks of the layers and the stack, and what it leaves of them. Assumes nothing.
use mathlib.Core.Path.{◌≡◌, refl, sym, ◌∙◌, subst}
use mathlib.Core.Logic.{inl, inr, ⊎_elim}
use mathlib.Core.List.{List}
use Prim.Native.Nat.{ℕ, suc, ◌+◌, ◌-◌, ◌*◌, ◌≤◌, ◌<◌}
use native.Mathlib.Omega.{arith}
use native.Mathlib.Nat.{mul-le-mul, mul-le-mul_right}
use native.Mathlib.Numerals.{add-one}
use lib.IntN.{ℤ}
use lib.ListN.{length, get_or, set}
use Rattle.integers.specs.Rep.{le_or_lt}
use Rattle.plan.specs.declared.Plan.{Plan}
use Rattle.model.specs.Model.{width}
use Rattle.model.specs.Labels.{label_on, used_at}
use Rattle.model.proofs.Labels.{used_most}
use Rattle.model.specs.Held.{Table, first_table, next_table}
use Rattle.model.specs.Ends.{table_at}
use Rattle.layer.specs.declared.Shape.{Shape}
use Rattle.layer.specs.Layer.{place_most, layer_cell, layer_words, LayerOf, Layer, Sources}
use Rattle.layer.proofs.Next.{table_next}
use Rattle.layer.proofs.Lists.{layer_same}
use Rattle.layer.specs.Next.{Aside, StepReady, Stepped, StartReady}
use Rattle.saved.specs.declared.Walk.{Walk}
use Rattle.saved.specs.declared.Saved.{Saved}
use Rattle.std.specs.Prelude.{Option, Some}
use Rattle.saved.specs.Packed.{Inside, Row, PackReady, Packing, Saves, UnpackReady, Unpacked}
use Rattle.saved.specs.Walk.{most_slots, free_cell, limit_cell, stack_at, limit, Places, Entry, Stack, time_of, off_of, At, Workspace, Walked, Begun, Reached, Dropped, Restarted, Stops}
use Rattle.saved.proofs.Chains.{inside_wider, inside_then}
use Rattle.saved.proofs.Stacks.{layer_row, layer_packed, packed_layer, off_low, off_high, stack_same, stack_kept, stack_pushed, stack_empty}

pub stop_row : {P : Plan} {g : Shape} {w : Walk} {t : ℕ} {T : List Saved} {ws : List ℕ} (a : Stops P g w t T ws) {n : ℕ} → n ≡ used_at P w.time * P.states
    → Row ws w.cur n g.grid.levels × (w.cur + n * (4 * g.grid.levels) ≤ place_most)
stop_row a e = rw e (a.row, a.place)

pub space_then : {P : Plan} {zs : List ℤ} {g : Shape} {ws ws' : List ℕ} → Workspace P zs g ws → length ws' ≡ length ws → Workspace P zs g ws'
space_then a e = record { task = a.task; some = a.some; room = omega (arith, a.room) }

module _ {P : Plan} {zs : List ℤ} {g : Shape} {ws : List ℕ} (a : Workspace P zs g ws) where
  -- ---- places

  wide : width P ≤ P.states * width P
  wide = omega (arith, mul-le-mul_right (width P) a.task.ready.plan.some_states)

  -- the lists of the layer after t readings lie within its place
  lists_low : (t : ℕ) → used_at P t * P.states * (4 * width P) ≤ layer_words P
  lists_low t = omega (arith, mul-le-mul_right (4 * width P) (mul-le-mul_right P.states (used_most (label_on P t))))

  small : P.states * width P ≤ 8192
  small = mul-le-mul a.task.ready.plan.few_states a.task.ready.plan.narrow

  pub stack_fits : stack_at P ≤ limit P
  stack_fits = omega (arith, wide)

  pub area_is : {x : ℕ} → x ≡ g.states * g.grid.levels → x ≡ P.states * width P
  area_is e = rw (a.task.shape.states, a.task.shape.levels) at e

  layers_low : {cur other : ℕ} → Places P cur other → (cur + layer_words P ≤ free_cell * (P.states * width P)) × (other + layer_words P ≤ free_cell * (P.states * width P))
  layers_low = ⊎_elim (λ p. (omega arith, omega arith)) (λ p. (omega arith, omega arith))

  -- no word from the stack on is touched
  above_layers : {x t o : ℕ} {H : Table} {ws' : List ℕ} → x ≡ g.states * g.grid.levels → o + layer_words P ≤ free_cell * (P.states * width P) → Stepped P t H o (free_cell * x) ws ws' → (i : ℕ) → stack_at P ≤ i → get_or ws' i 0 ≡ get_or ws i 0
  above_layers e h m i p = m.word i (inr (omega arith)) (inr (omega (arith, area_is e)))

  within : {ws' : List ℕ} → length ws' ≡ length ws → ((i : ℕ) → stack_at P ≤ i → get_or ws' i 0 ≡ get_or ws i 0) → Inside 0 (stack_at P) ws ws'
  within z f = record { size = z; word = λ i. ⊎_elim (λ p. absurd (omega arith)) (λ p. f i p) }

  pub inside_limit : {ws' : List ℕ} → Inside 0 (stack_at P) ws ws' → Inside 0 (limit P) ws ws'
  inside_limit i = inside_wider 0 (limit P) (omega arith) stack_fits i

  -- with nothing saved on the way the stack is as it was
  pub reached_walked : {n t : ℕ} {T : List Saved} {ws' : List ℕ} {r : Walk} → Stack P zs n T ws → Reached P zs t n ws ws' r → Walked P zs t T ws ws' r
  reached_walked k m = record { at = m.at; stack = stack_kept k m.count m.inside; time = m.time; inside = inside_limit m.inside }

  pub restarted_walked : {n t : ℕ} {T : List Saved} {ws' : List ℕ} {r : Walk} → Stack P zs n T ws → Restarted P zs n T ws ws' r → r.time ≡ t → Walked P zs t T ws ws' r
  restarted_walked k m e = record { at = m.at; stack = stack_kept k m.count m.inside; time = e; inside = inside_limit m.inside }

  -- ---- starting again

  pub first_places : {x : ℕ} → x ≡ g.states * g.grid.levels → Places P 0 (layer_cell * x)
  first_places e = inl (refl, omega (arith, area_is e))

  -- with no entry in the table
  pub begun : {ws' : List ℕ} {r : Walk} → Reached P zs 1 0 ws ws' r → Begun P zs ws ws' r
  begun m T z = reached_walked (stack_empty T ws z stack_fits) m

  pub restarted_first : {n : ℕ} {T : List Saved} {ws' : List ℕ} {r : Walk} → n ≡ 0 → Reached P zs 1 0 ws ws' r → Restarted P zs n T ws ws' r
  restarted_first h m = record { at = m.at; count = m.count ∙ sym h; first = λ z. m.time; loaded = λ z. absurd (omega arith); inside = m.inside }

  module _ {cur other : ℕ} (places : Places P cur other) where
    pub start_ready : {x : ℕ} → x ≡ g.states * g.grid.levels → StartReady P zs cur (free_cell * x) g ws
    start_ready e = record {
      task = a.task;
      more = omega (arith, a.some);
      under = omega (arith, area_is e, layers_low places);
      room = omega (arith, area_is e, stack_fits, a.room);
      place = omega (arith, area_is e, small);
    }

    pub started : {x : ℕ} {ws' : List ℕ} → x ≡ g.states * g.grid.levels → Stepped P 1 (first_table P zs) cur (free_cell * x) ws ws' → Reached P zs 1 0 ws ws' (record { time = 1; cur = cur; other = other; count = 0 })
    unfolding table_at
    started e m = record {
      at = record { some = omega arith; most = a.some; places = places; layer = m.layer };
      count = refl;
      time = refl;
      inside = within m.size (above_layers e (layers_low places).0 m);
    }

    module _ {n : ℕ} {T : List Saved} (k : Stack P zs n T ws) (h : 0 < n) where
      -- the number of lists in the top entry
      abbrev lists : ℕ
      lists = used_at P (time_of T (n - 1)) * P.states

      pub unpack_ready : {m : ℕ} → m ≡ lists → UnpackReady ws (off_of P T (n - 1)) cur m g.grid.levels
      unpack_ready e = rw (e, a.task.shape.levels) (record {
        end = off_of P T (suc (n - 1));
        chain = (k.entry (n - 1) (omega arith)).packed.chain;
        below = omega (arith, layers_low places, lists_low (time_of T (n - 1)), off_low k (n - 1) (omega arith));
        start = omega (arith, off_high k (n - 1) (omega arith), k.top, a.room);
        few = omega (arith, mul-le-mul (used_most (label_on P (time_of T (n - 1)))) a.task.ready.plan.few_states);
        narrow = a.task.ready.plan.narrow;
      })

      pub restarted_top : {ws' : List ℕ} {m : ℕ} → m ≡ lists → Unpacked ws ws' (off_of P T (n - 1)) cur m g.grid.levels → Restarted P zs n T ws ws' (record { time = time_of T (n - 1); cur = cur; other = other; count = n })
      restarted_top {ws'} e m = record {
        at = record { some = y.some; most = y.most; places = places; layer = packed_layer y.packed u };
        count = refl;
        first = λ z. absurd (omega arith);
        loaded = λ z. refl;
        inside = within m.inside.size (λ i p. u.inside.word i (inr (omega (arith, layers_low places, lists_low (time_of T (n - 1))))));
      }
        where
          y : Entry P zs (time_of T (n - 1)) ws (off_of P T (n - 1)) (off_of P T (suc (n - 1)))
          y = k.entry (n - 1) (omega arith)

          u : Unpacked ws ws' (off_of P T (n - 1)) cur lists (width P)
          u = rw (e, a.task.shape.levels) at m

  -- ---- one reading further

  module _ {w : Walk} (p : At P zs w ws) where
    -- stays and changes come from the same layer
    pub sources : Sources P w.time (λ c. table_at P zs w.time) ws w.cur w.cur
    sources = record { stays = p.layer; changes = p.layer }

    aside : {x : ℕ} → x ≡ g.states * g.grid.levels → Aside P w.cur w.other (free_cell * x)
    aside e = record { apart = ⊎_elim (λ q. inl (omega arith)) (λ q. inr (omega arith)) p.places; below = omega (arith, area_is e, layers_low p.places) }

    pub step_ready : {x : ℕ} → x ≡ g.states * g.grid.levels → w.time < length zs → StepReady P zs w.time w.cur w.cur w.other (free_cell * x) g ws
    step_ready e h = record {
      task = a.task;
      more = h;
      tables = λ c. table_at P zs w.time;
      sources = sources;
      stays = aside e;
      changes = aside e;
      under = omega (arith, area_is e, layers_low p.places);
      room = omega (arith, area_is e, stack_fits, a.room);
      place = omega (arith, area_is e, small);
    }

    pub stepped_on : {x : ℕ} {ws' : List ℕ} → x ≡ g.states * g.grid.levels → w.time < length zs → Stepped P (suc w.time) (next_table P zs w.time (table_at P zs w.time)) w.other (free_cell * x) ws ws'
        → Reached P zs (w.time + 1) w.count ws ws' (record { time = w.time + 1; cur = w.other; other = w.cur; count = w.count })
    stepped_on {x} {ws'} e h m = record {
      at = record {
        some = omega arith;
        most = omega arith;
        places = ⊎_elim (λ q. inr (q.1, q.0)) (λ q. inl (q.1, q.0)) p.places;
        layer = subst (λ (t : ℕ). Layer P zs t ws' w.other) (sym (add-one w.time)) (subst (λ (H : Table). LayerOf P (suc w.time) H ws' w.other) (table_next P zs w.time p.some) m.layer);
      };
      count = refl;
      time = refl;
      inside = within m.size (above_layers e (layers_low p.places).1 m);
    }

    -- ---- saving

    abbrev here : ℕ
    here = used_at P w.time * P.states

    row : Row ws w.cur here (width P)
    row = layer_row a.task.ready.plan p.layer

    module _ {T : List Saved} (k : Stack P zs w.count T ws) where
      pub stops : {t : ℕ} → w.time < t → t ≤ length zs → Stops P g w t T ws
      stops h most = record {
        checked = a.task.ready.plan;
        shape = a.task.shape;
        row = rw a.task.shape.levels row;
        place = rw a.task.shape.levels (omega (arith, layers_low p.places, lists_low w.time, small));
        size = k.size;
        few = k.few;
        top = rw (a.task.shape.states, a.task.shape.levels) k.top;
        before = h;
        most = omega (arith, a.task.ready.few_readings);
      }

      module _ {x : ℕ} (e : x ≡ g.states * g.grid.levels) where
        pub pack_ready : {n : ℕ} → n ≡ here → PackReady ws w.cur (off_of P T w.count) (limit_cell * x) n g.grid.levels
        pack_ready q = rw (q, a.task.shape.levels) (record {
          row = row;
          below = omega (arith, layers_low p.places, lists_low w.time, off_low k w.count (omega arith));
          order = omega (arith, area_is e, k.top);
          room = omega (arith, area_is e, a.room);
        })

        module _ {ws' : List ℕ} {r : Option ℕ} {n : ℕ} (all : n ≡ here) (m : Saves ws ws' w.cur (off_of P T w.count) (limit_cell * x) n g.grid.levels r) where
          saves_inside : Inside 0 (limit P) ws ws'
          saves_inside = inside_wider 0 (limit P) (omega arith) (omega (arith, area_is e)) m.inside

          -- what was there is still there
          still_layer : Layer P zs w.time ws' w.cur
          still_layer = layer_same m.inside.size (λ i u v. m.inside.word i (inl (omega (arith, layers_low p.places, off_low k w.count (omega arith))))) p.layer

          still_stack : Stack P zs w.count T ws'
          still_stack = stack_same k m.inside.size (λ i u v. m.inside.word i (inl v))

          -- without room all is as it was
          pub full_walked : {t : ℕ} → w.time ≡ t → Walked P zs t T ws ws' w
          full_walked q = record {
            at = record { some = p.some; most = p.most; places = p.places; layer = still_layer };
            stack = still_stack;
            time = q;
            inside = saves_inside;
          }

          -- packed above the stack the layer is one entry more
          pub pushed_walked : {o t : ℕ} → w.time ≡ t → r ≡ Some o → w.count < most_slots
              → Walked P zs t (set T w.count (record { time = w.time; end = o })) ws ws' (record { time = w.time; cur = w.cur; other = w.other; count = w.count + 1 })
          pushed_walked {o} q z few = record {
            at = record { some = p.some; most = p.most; places = p.places; layer = still_layer };
            stack = stack_pushed still_stack w.time o few p.some p.most (omega (arith, area_is e, (m.upto o z).0)) (layer_packed p.layer u);
            time = q;
            inside = saves_inside;
          }
            where
              u : Packing ws ws' w.cur (off_of P T w.count) o here (width P)
              u = rw (all, a.task.shape.levels) at (m.upto o z).1

-- one walk and then another
pub walked_then : {P : Plan} {zs : List ℤ} {t u : ℕ} {T T' : List Saved} {ws ws' ws'' : List ℕ} {q r : Walk} → Walked P zs t T ws ws' q → Walked P zs u T' ws' ws'' r → Walked P zs u T' ws ws'' r
walked_then a b = record { at = b.at; stack = b.stack; time = b.time; inside = inside_then a.inside b.inside }

-- ---- going back

-- it starts again no later than t
pub starts_early : {P : Plan} {zs : List ℤ} {n r t : ℕ} {T : List Saved} {ws ws' : List ℕ} {w : Walk} → Dropped T n t r → Restarted P zs r T ws ws' w → 1 ≤ t → w.time ≤ t
starts_early {r = r} d m h = ⊎_elim (λ p. omega (arith, m.loaded p, d.top p)) (λ p. omega (arith, m.first (omega arith))) (le_or_lt 1 r)
