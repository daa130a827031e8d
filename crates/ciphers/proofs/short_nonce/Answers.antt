-- `ciphers::short_nonce` meets its contract. Assumes nothing.
use mathlib.Core.Path.{◌≡◌, ◌∙◌}
use native.Mathlib.Omega.{arith}
use lib.ListN.{length, take, replicate}
use lib.Seq.{length-take-le}
use Rattle.slices.proofs.Laws.Over.{over_all}
use borrow.Author.Rules.{rules}
use Rattle.ciphers.proofs.short_nonce.Goals as goal

pub returns : goal.returns
returns c =
    let v = c.args.nonce in
    let l : length v ≡ 16 = search rules in
    let n : length (take 12 v) ≡ 12 = length-take-le 12 v (omega arith) in
    c.copy.ensures ∙ over_all (take 12 v) (replicate 12 0) (omega arith)
