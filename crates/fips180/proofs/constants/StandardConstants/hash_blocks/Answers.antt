-- `hash_blocks` of `fips180::constants::Constants` at `Standard` meets its contract. Assumes nothing.
use Rattle.fips180.proofs.Laws.Lent.{lending_own}
use Rattle.fips180.proofs.constants.StandardConstants.hash_blocks.Goals as goal

pub returns : goal.returns
returns g c = rw (lending_own g.W.Word.sha2) c.hash_blocks.ensures
