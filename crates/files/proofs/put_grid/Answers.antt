-- `files::put_grid` meets its contract. Assumes nothing.
use Rattle.readings.specs.Codec.{bytes_of}
use Rattle.integers.specs.Bytes.{bits16}
use mir.Syntax.{w16}
use mir.ValLaws.{to_z-of_z}
use mathlib.Core.Path.{◌≡◌, ◌∙◌, ap}
use Prim.Native.Nat.{◌/◌, ◌%◌}
use Rattle.files.proofs.put_grid.Goals as goal

pub returns : goal.returns
unfolding bytes_of
returns c = let a = to_z-of_z w16 c.args.lo c.ranges.lo in
    let b = to_z-of_z w16 c.args.hi c.ranges.hi in
    let h1 : c.high16.result ≡ bits16 c.args.lo / 256 = c.high16.ensures ∙ ap (λ z. bits16 z / 256) a in
    let h2 : c.low16.result ≡ bits16 c.args.lo % 256 = c.low16.ensures ∙ ap (λ z. bits16 z % 256) a in
    let h3 : c.high16-2.result ≡ bits16 c.args.hi / 256 = c.high16-2.ensures ∙ ap (λ z. bits16 z / 256) b in
    let h4 : c.low16-2.result ≡ bits16 c.args.hi % 256 = c.low16-2.ensures ∙ ap (λ z. bits16 z % 256) b in
    rw (← h1, ← h2, ← h3, ← h4) c.put.ensures
