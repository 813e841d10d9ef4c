-- `files::put_readings` meets its contract. Assumes nothing.
use native.Mathlib.Omega.{arith}
use Prim.Native.Nat.{◌*◌, ◌/◌, ◌%◌}
use mathlib.Core.Path.{◌≡◌, ◌∙◌, ap}
use lib.ListN.{length, get_or}
use Rattle.files.proofs.Store.{readings_put}
use Rattle.plan.specs.Counts.{count_is}
use Rattle.files.proofs.put_readings.Goals as goal

pub overflow_cast-zs : goal.overflow_cast-zs
overflow_cast-zs c = let k = count_is _ c.requires.0 in record { fits = omega (arith, k.1) }

pub returns : goal.returns
returns c = let k = count_is _ c.requires.0 in
    let n = 2 * length c.args.zs.now in
    let b = c.to_be_bytes.result in
    let high : get_or b 0 0 ≡ n / 256 = ap (λ l. get_or l 0 0) c.to_be_bytes.ensures ∙ omega (arith, k.1) in
    let low : get_or b 1 0 ≡ n % 256 = ap (λ l. get_or l 1 0) c.to_be_bytes.ensures in
    readings_put c.args.out.now c.args.at c.args.zs.now _ _ c.requires.0 c.requires.1 (rw (high, low) at c.put.ensures) c.encode.ensures.list
