-- `argon2::prehash::feed_counted` meets its contract. Assumes nothing.
use mathlib.Core.Path.{ap, ◌∙◌}
use mathlib.Core.List.{List}
use Prim.Native.Nat.{ℕ}
use lib.ListN.{length}
use Rattle.blake2b.specs.State.{fed}
use Rattle.blake2b.specs.declared.Blake2b.{Blake2b}
use Rattle.blake2b.specs.declared.Fed.{Fed}
use Rattle.argon2_hash.proofs.Laws.Long.{le_bytes_low}
use Rattle.argon2.proofs.prehash.feed_counted.Goals as goal

pub returns : goal.returns
returns c =
    let a = c.args in
    let s = a.s.now in
    ap (λ (f : Fed). f.next)
    (c.feed.ensures
    ∙ ap (λ (h : Blake2b). fed h s)
    (c.feed_number.ensures ∙ ap (λ (l : List ℕ). (fed a.b l).next) (le_bytes_low (length s))))
