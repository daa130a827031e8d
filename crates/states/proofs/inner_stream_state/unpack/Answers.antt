-- `states::inner_stream_state::unpack` meets its contract. Assumes nothing.
use Rattle.states.specs.InnerStreamState.{unpacked}
use Rattle.states.proofs.inner_stream_state.unpack.Goals as goal

pub returns : goal.returns
unfolding unpacked
returns c =
    cc (
      c.cipher_of.ensures,
      c.u64_at-position.ensures,
      c.array-nonce.ensures,
      c.array-key.ensures,
    )
