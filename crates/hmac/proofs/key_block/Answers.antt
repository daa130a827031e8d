-- `hmac::key_block` meets its contract. Assumes nothing.
use mathlib.Core.Path.{◌≡◌, ap, ◌∙◌}
use native.Mathlib.Omega.{arith}
use Rattle.fips180.specs.Fips180.{sha256, hash}
use Rattle.fips180.proofs.Laws.Feeds.{hashed-digest}
use Rattle.fips180.proofs.Laws.Lengths.{length-iv256}
use Rattle.sha256.specs.declared.Hashed.{Hashed}
use Rattle.hmac.proofs.Laws.{key_block_short, key_block_long}
use Rattle.hmac.proofs.key_block.Goals as goal

pub returns-then-key-le64 : goal.returns-then-key-le64
returns-then-key-le64 c =
    let k = c.args.key.now in
    key_block_short sha256 k c.if-key-le64.true c.copy.ensures

pub returns : goal.returns
returns c =
    let k = c.args.key.now in
    let e : c.hash.result.digest ≡ hash sha256 k = ap (λ (h : Hashed). h.digest) c.hash.ensures
    ∙ hashed-digest sha256 k c.requires in
    key_block_long sha256 length-iv256 k (omega arith) e c.copy-2.ensures
