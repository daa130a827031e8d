-- `hash_blocks` of `fips180::algorithm::Algorithm` at u32 meets its contract. Assumes nothing.
use Rattle.fips180.specs.Fips180.{sha256}
use Rattle.fips180.proofs.Laws.Lent.{lending_own}
use Rattle.fips180.proofs.algorithm.U32Algorithm6412832.hash_blocks.Goals as goal

pub returns : goal.returns
unfolding Rattle.fips180.specs.Fips180.Constants.k256
returns c = rw (← lending_own sha256) c.blocks-2.ensures
