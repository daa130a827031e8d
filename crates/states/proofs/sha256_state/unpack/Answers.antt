-- `states::sha256_state::unpack` meets its contract. Assumes nothing.
use Rattle.states.specs.Sha256State.{unpacked}
use Rattle.states.proofs.sha256_state.unpack.Goals as goal

pub returns : goal.returns
unfolding unpacked
returns c =
    let total = c.u32_at-total.ensures in
    let buffer = c.array-buffer.ensures in
    let chain = c.read_words32.ensures in
    cc (total, buffer, chain)
