-- `inner_stream::InnerStream::cover` meets its contract. Assumes nothing.
use mathlib.Core.Bool.{false≢true}
use Rattle.inner_stream.specs.State.{blocks_by, covered}
use Rattle.inner_stream.proofs.InnerStream.cover.Goals as goal

pub returns-in-Salsa20 : goal.returns-in-Salsa20
unfolding covered blocks_by
returns-in-Salsa20 c =
    rw c.in-Salsa20.is c.apply.ensures

pub returns-in-ChaCha20 : goal.returns-in-ChaCha20
unfolding covered blocks_by
returns-in-ChaCha20 c =
    rw c.in-ChaCha20.is c.apply-in-ChaCha20.ensures

-- a closed state is shut out
pub returns-in-Closed : goal.returns-in-Closed
returns-in-Closed c = absurd (false≢true (rw c.in-Closed.is at c.requires))
