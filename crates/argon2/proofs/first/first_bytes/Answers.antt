-- `argon2::first::first_bytes` meets its contract. Assumes nothing.
use mathlib.Core.Path.{◌≡◌, ap, ◌∙◌}
use native.Mathlib.Omega.{arith}
use lib.ListN.{length}
use Rattle.slices.proofs.Laws.Zeros.{zeros}
use Rattle.argon2_hash.specs.LongHash.{long_hash}
use Rattle.argon2_hash.proofs.Laws.Long.{filled_short}
use borrow.Author.Rules.{rules}
use Rattle.argon2.proofs.first.first_bytes.Goals as goal

pub returns : goal.returns
returns c =
    let s = c.seed_of.result in
    let l : length s ≡ 72 = search rules in
    c.fill.ensures.out_after ∙ filled_short s (zeros 1024) (omega arith)
    ∙ ap (long_hash 1024) c.seed_of.ensures
