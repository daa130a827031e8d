-- `keys::hash_two` meets its contract. Assumes nothing.
use mathlib.Core.Path.{◌≡◌, ap, ◌∙◌}
use native.Mathlib.Omega.{arith}
use lib.ListN.{length}
use Rattle.refusals.proofs.Laws.Limits.{message_blocks}
use Rattle.sha256.specs.State.{fed, finished}
use Rattle.sha256.specs.declared.Sha256.{Sha256}
use Rattle.sha256.specs.declared.Fed.{Fed}
use Rattle.sha256.proofs.Parts.{sha256_of_two}
use borrow.Author.Rules.{rules}
use Rattle.keys.proofs.hash_two.Goals as goal

pub returns : goal.returns
returns c =
    let long_a : length c.args.a ≡ 32 = search rules in
    let long_b : length c.args.b ≡ 32 = search rules in
    let a = c.args.a in
    let b = c.args.b in
    let la : length a ≡ 32 = long_a in
    let lb : length b ≡ 32 = long_b in
    let first = c.feed.ensures ∙ ap (λ (h : Sha256). fed h a) c.start.ensures in
    let second = c.feed-2.ensures ∙ ap (λ (f : Fed). fed f.next b) first in
    c.finish.ensures ∙ ap (λ (f : Fed). finished f.next) second ∙ sha256_of_two a b (omega (arith, message_blocks))
