-- `blake2b::Blake2b::finish` meets its contract. Assumes nothing.
use mathlib.Core.Path.{ap, ◌∙◌}
use mathlib.Core.Bool.{true}
use mathlib.Core.List.{List}
use Prim.Native.Nat.{ℕ}
use Rattle.blake2b.specs.Rfc7693.{compression_f, serialize}
use Rattle.blake2b.specs.State.{finished}
use Rattle.blake2b.proofs.Blake2b.finish.Goals as goal

pub returns : goal.returns
unfolding finished
returns c =
    let h = c.args.self in
    c.serialize.ensures
    ∙ ap serialize
    (c.compress-c.ensures ∙ ap (λ (b : List ℕ). compression_f h.chain b h.total true) c.last_block-last.ensures)
