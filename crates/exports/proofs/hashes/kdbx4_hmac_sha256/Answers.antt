-- `exports::hashes::kdbx4_hmac_sha256` meets its contract. Assumes nothing.
use mathlib.Core.Path.{ap}
use Rattle.hmac.specs.declared.Tagged.{Tagged}
use Rattle.exports.proofs.Laws.{answer-accepted, answer-refused}
use Rattle.exports.proofs.hashes.kdbx4_hmac_sha256.Goals as goal

pub returns-in-Ok : goal.returns-in-Ok
returns-in-Ok c =
    let e = c.tag-t.ensures in
    answer-accepted _ (ap (λ (h : Tagged). h.outcome) e) (ap (λ (h : Tagged). h.tag) e) c.in-Ok.is

pub returns : goal.returns
returns c =
    let e = c.tag-t.ensures in
    answer-refused _ (ap (λ (h : Tagged). h.outcome) e) c.number.ensures c.in_default.is
