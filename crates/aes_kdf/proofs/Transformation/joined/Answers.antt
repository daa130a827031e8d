-- `aes_kdf::Transformation::joined` meets its contract. Assumes nothing.
use mathlib.Core.Path.{◌≡◌, ap, ◌∙◌}
use native.Mathlib.Omega.{arith}
use lib.ListN.{length}
use Rattle.refusals.proofs.Laws.Limits.{message_blocks}
use Rattle.sha256.specs.State.{fed, finished}
use Rattle.sha256.specs.declared.Sha256.{Sha256}
use Rattle.sha256.specs.declared.Fed.{Fed}
use Rattle.sha256.proofs.Parts.{sha256_of_two}
use borrow.Author.Rules.{rules}
use Rattle.aes_kdf.proofs.Transformation.joined.Goals as goal

pub returns : goal.returns
returns c =
    let long_left : length c.args.self.left ≡ 16 = search rules in
    let long_right : length c.args.self.right ≡ 16 = search rules in
    let a = c.args.self.left in
    let b = c.args.self.right in
    let la : length a ≡ 16 = long_left in
    let lb : length b ≡ 16 = long_right in
    let first = c.feed.ensures ∙ ap (λ (h : Sha256). fed h a) c.start.ensures in
    let second = c.feed-2.ensures ∙ ap (λ (f : Fed). fed f.next b) first in
    rw (c.finish-key.ensures ∙ ap (λ (f : Fed). finished f.next) second
    ∙ sha256_of_two a b (omega (arith, message_blocks)))
