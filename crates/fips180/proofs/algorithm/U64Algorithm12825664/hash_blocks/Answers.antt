-- `hash_blocks` of `fips180::algorithm::Algorithm` at u64 meets its contract. Assumes nothing.
use Rattle.fips180.specs.Fips180.{sha512}
use Rattle.fips180.proofs.Laws.Lent.{lending_own}
use Rattle.fips180.proofs.algorithm.U64Algorithm12825664.hash_blocks.Goals as goal

pub returns : goal.returns
unfolding Rattle.fips180.specs.Fips180.Constants.k512
returns c = rw (← lending_own sha512) c.blocks-2.ensures
