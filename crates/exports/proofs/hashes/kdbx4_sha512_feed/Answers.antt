-- `exports::hashes::kdbx4_sha512_feed` meets its contract. Assumes nothing.
use mathlib.Core.Path.{ap, ◌∙◌}
use Rattle.sha512.specs.declared.Sha512.{Sha512}
use Rattle.sha512.specs.declared.Fed.{Fed}
use Rattle.sha512.specs.State.{fed}
use Rattle.states.specs.Sha512State.{packed, unpacked}
use Rattle.exports.proofs.Laws.{answer-accepted, answer-refused}
use Rattle.exports.proofs.hashes.kdbx4_sha512_feed.Goals as goal

pub returns-in-Ok : goal.returns-in-Ok
returns-in-Ok c =
    let part = c.args.part.now in
    let e = c.feed-fed.ensures ∙ ap (λ (s : Sha512). fed s part) c.unpack.ensures in
    let x = answer-accepted c.args.state.now (ap (λ (x : Fed). x.outcome) e)
    (c.pack.ensures ∙ ap (λ (x : Fed). packed x.next) e) c.in-Ok.is in
    record { value = x.value; state_after = x.out_after }

pub returns : goal.returns
returns c =
    let part = c.args.part.now in
    let e = c.feed-fed.ensures ∙ ap (λ (s : Sha512). fed s part) c.unpack.ensures in
    let y = packed (fed (unpacked c.args.state.now) part).next in
    let x = answer-refused {had = c.args.state.now} y (ap (λ (x : Fed). x.outcome) e) c.number.ensures c.in_default.is in
    record { value = x.value; state_after = x.out_after }
