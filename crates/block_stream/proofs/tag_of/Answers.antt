-- `block_stream::tag_of` meets its contract. Assumes nothing.
use mathlib.Core.Path.{◌≡◌, ap, ap₂, ◌∙◌}
use mathlib.Core.List.{List, ◌++◌}
use Prim.Native.Nat.{ℕ, ◌+◌, ◌≤◌}
use native.Mathlib.Omega.{arith}
use lib.ListN.{length}
use Rattle.refusals.specs.Limits.{file_limit}
use Rattle.refusals.proofs.Laws.Limits.{message_blocks, message_file}
use Rattle.hmac.specs.State.{fed, finished}
use Rattle.hmac.specs.Rfc2104.{hmac}
use Rattle.hmac.specs.declared.Keyed.{Keyed}
use Rattle.fips180.specs.Fips180.{sha256}
use Rattle.block_stream.specs.Blocks.{block_tag}
use Rattle.block_stream.proofs.Laws.Tags.{tag_of_two}
use borrow.Author.Rules.{rules}
use Rattle.block_stream.proofs.tag_of.Goals as goal

pub returns : goal.returns
unfolding block_tag
returns c =
    let k = c.tag_key-key.result in
    let n = c.bytes64-n.result in
    let m = c.args.m.now in
    let lk : length k ≡ 64 = search rules in
    let ln : length n ≡ 8 = search rules in
    let l : length m ≤ file_limit + 4 = c.requires in
    let first = c.feed.ensures ∙ ap (λ (t : Keyed). fed t.next n) c.start.ensures in
    let second = c.feed-2.ensures ∙ ap (λ (t : Keyed). fed t.next m) first in
    c.finish.ensures ∙ ap (λ (t : Keyed). finished t.next) second
    ∙ tag_of_two k n m (omega (arith, message_blocks)) (omega (arith, message_file))
    ∙ ap₂ (λ (x y : List ℕ). hmac sha256 x (y ++ m)) c.tag_key-key.ensures c.bytes64-n.ensures
