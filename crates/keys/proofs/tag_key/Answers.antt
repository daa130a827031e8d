-- `keys::tag_key` meets its contract. Assumes nothing.
use mathlib.Core.Path.{◌≡◌, ap, ◌∙◌}
use mathlib.Core.List.{List, ◌++◌}
use Prim.Native.Nat.{ℕ}
use native.Mathlib.Omega.{arith}
use lib.ListN.{length}
use Rattle.refusals.proofs.Laws.Limits.{message_blocks}
use Rattle.sha512.specs.State.{fed, finished}
use Rattle.sha512.specs.declared.Sha512.{Sha512}
use Rattle.sha512.specs.declared.Fed.{Fed}
use Rattle.sha512.proofs.Parts.{sha512_of_two}
use Rattle.fips180.specs.Fips180.{sha512, hash}
use Rattle.keys.specs.Kdbx4Keys.{tag_key}
use borrow.Author.Rules.{rules}
use Rattle.keys.proofs.tag_key.Goals as goal

pub returns : goal.returns
unfolding tag_key
returns c =
    let long_base : length c.args.base ≡ 64 = search rules in
    let n = c.bytes64-n.result in
    let b = c.args.base in
    let ln : length n ≡ 8 = search rules in
    let lb : length b ≡ 64 = long_base in
    let first = c.feed.ensures ∙ ap (λ (h : Sha512). fed h n) c.start.ensures in
    let second = c.feed-2.ensures ∙ ap (λ (f : Fed). fed f.next b) first in
    c.finish.ensures ∙ ap (λ (f : Fed). finished f.next) second ∙ sha512_of_two n b (omega (arith, message_blocks))
    ∙ ap (λ (x : List ℕ). hash sha512 (x ++ b)) c.bytes64-n.ensures
