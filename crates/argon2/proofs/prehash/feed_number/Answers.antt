-- `argon2::prehash::feed_number` meets its contract. Assumes nothing.
use mathlib.Core.Path.{ap, ◌∙◌}
use mathlib.Core.List.{List}
use Prim.Native.Nat.{ℕ}
use Rattle.blake2b.specs.State.{fed}
use Rattle.blake2b.specs.declared.Fed.{Fed}
use Rattle.argon2.proofs.prehash.feed_number.Goals as goal

pub returns : goal.returns
returns c =
    let b = c.args.b in
    ap (λ (f : Fed). f.next)
    (c.feed.ensures ∙ ap (λ (s : List ℕ). fed b s) c.bytes32.ensures)
