-- `hmac::Hmac::begin` meets its contract. Assumes nothing.
use mathlib.Core.Path.{◌≡◌, ap, ◌∙◌}
use native.Mathlib.Omega.{arith}
use lib.ListN.{length}
use Rattle.refusals.proofs.Laws.Limits.{message_blocks}
use Rattle.fips180.specs.Fips180.{sha256}
use Rattle.sha256.specs.State.{held, fed}
use Rattle.sha256.specs.declared.Sha256.{Sha256}
use Rattle.sha256.specs.declared.Fed.{Fed}
use Rattle.hmac.specs.State.{tag_stored}
use Rattle.hmac.proofs.Laws.{begun_is}
use borrow.Author.Rules.{rules}
use Rattle.hmac.proofs.Hmac.begin.Goals as goal

pub returns : goal.returns
returns c =
    let i = c.xor_each-ipad.result in
    let o = c.xor_each-opad.result in
    let n : length i ≡ 64 = search rules in
    let m : length o ≡ 64 = search rules in
    let inner = ap (λ (f : Fed). held f.next)
    (c.feed.ensures ∙ ap (λ (h : Sha256). fed h i) c.start.ensures) in
    let outer = ap (λ (f : Fed). held f.next)
    (c.feed-2.ensures ∙ ap (λ (h : Sha256). fed h o) c.start-2.ensures) in
    ap tag_stored (begun_is sha256 (search rules) c.args.b c.xor_each-ipad.ensures
    c.xor_each-opad.ensures (omega (arith, message_blocks)) (omega (arith, message_blocks)) inner outer)
