-- `argon2_hash::next_value` meets its contract. Assumes nothing.
use mathlib.Core.Path.{◌≡◌, ap, ◌∙◌}
use Prim.Native.Nat.{◌≤◌}
use native.Mathlib.Omega.{arith}
use lib.ListN.{length}
use Rattle.refusals.specs.Limits.{message_limit}
use Rattle.refusals.proofs.Laws.Limits.{message_blocks}
use Rattle.blake2b.specs.State.{fed, finished}
use Rattle.blake2b.specs.declared.Blake2b.{Blake2b}
use Rattle.blake2b.specs.declared.Fed.{Fed}
use Rattle.blake2b.proofs.Parts.{full_of_one}
use borrow.Author.Rules.{rules}
use Rattle.argon2_hash.proofs.next_value.Goals as goal

pub returns : goal.returns
returns c =
    let a = c.args in
    let n : length a.v ≡ 64 = search rules in
    let l : length a.v ≤ message_limit = omega (arith, message_blocks) in
    c.finish.ensures
    ∙ ap (λ (f : Fed). finished f.next)
    (c.feed.ensures ∙ ap (λ (h : Blake2b). fed h a.v) c.start.ensures)
    ∙ full_of_one a.nn a.v l
