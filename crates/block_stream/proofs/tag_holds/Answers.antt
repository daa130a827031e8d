-- `block_stream::tag_holds` meets its contract. Assumes nothing.
use mathlib.Core.Path.{◌≡◌, ap, ap₂, ◌∙◌}
use Prim.Native.Nat.{ℕ, ◌+◌, ◌-◌}
use native.Mathlib.Omega.{arith}
use lib.ListN.{take, drop}
use Rattle.slices.specs.Same.{same}
use Rattle.block_stream.specs.Blocks.{block_tag, holds}
use Rattle.block_stream.proofs.tag_holds.Goals as goal

pub returns : goal.returns
unfolding holds
returns c =
    let f = c.args.f.now in
    let p = c.args.at in
    let n = c.args.n in
    let e : p + 36 + n - (p + 32) ≡ 4 + n = omega arith in
    let d : p + 32 - p ≡ 32 = omega arith in
    c.same.ensures
    ∙ ap₂ same (ap (λ (j : ℕ). take j (drop p f)) d)
    (c.tag_of-t.ensures ∙ ap (λ (j : ℕ). block_tag c.args.base c.args.number (take j (drop (p + 32) f))) e)
