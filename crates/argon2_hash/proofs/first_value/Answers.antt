-- `argon2_hash::first_value` meets its contract. Assumes nothing.
use mathlib.Core.Path.{◌≡◌, ap, ◌∙◌}
use mathlib.Core.List.{List, ◌++◌}
use Prim.Native.Nat.{ℕ, ◌+◌, ◌≤◌}
use native.Mathlib.Omega.{arith}
use lib.ListN.{length}
use Rattle.refusals.specs.Limits.{message_limit}
use Rattle.blake2b.specs.Rfc7693.{full}
use Rattle.blake2b.specs.State.{fed, finished}
use Rattle.blake2b.specs.declared.Blake2b.{Blake2b}
use Rattle.blake2b.specs.declared.Fed.{Fed}
use Rattle.blake2b.proofs.Parts.{full_of_two}
use Rattle.argon2_hash.proofs.Laws.Long.{le_bytes_low}
use borrow.Author.Rules.{rules}
use Rattle.argon2_hash.proofs.first_value.Goals as goal

pub returns : goal.returns
returns c =
    let a = c.args in
    let m = a.message.now in
    let t = c.bytes32-t.result in
    let n : length t ≡ 4 = search rules in
    let l : length t + length m ≤ message_limit = omega (arith, c.requires) in
    c.finish.ensures
    ∙ ap (λ (f : Fed). finished f.next)
    (c.feed-2.ensures
    ∙ ap (λ (f : Fed). fed f.next m)
    (c.feed.ensures ∙ ap (λ (h : Blake2b). fed h t) c.start.ensures))
    ∙ full_of_two a.nn t m l
    ∙ ap (λ (x : List ℕ). full a.nn (x ++ m)) (c.bytes32-t.ensures ∙ le_bytes_low a.size)
