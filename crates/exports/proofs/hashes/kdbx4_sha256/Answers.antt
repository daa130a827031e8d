-- `exports::hashes::kdbx4_sha256` meets its contract. Assumes nothing.
use mathlib.Core.Path.{ap}
use Rattle.sha256.specs.declared.Hashed.{Hashed}
use Rattle.exports.proofs.Laws.{answer-accepted, answer-refused}
use Rattle.exports.proofs.hashes.kdbx4_sha256.Goals as goal

pub returns-in-Ok : goal.returns-in-Ok
returns-in-Ok c =
    let e = c.hash-h.ensures in
    answer-accepted _ (ap (λ (h : Hashed). h.outcome) e) (ap (λ (h : Hashed). h.digest) e) c.in-Ok.is

pub returns : goal.returns
returns c =
    let e = c.hash-h.ensures in
    answer-refused _ (ap (λ (h : Hashed). h.outcome) e) c.number.ensures c.in_default.is
