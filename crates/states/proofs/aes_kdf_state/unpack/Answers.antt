-- `states::aes_kdf_state::unpack` meets its contract. Assumes nothing.
use Rattle.states.specs.AesKdfState.{unpacked}
use Rattle.states.proofs.aes_kdf_state.unpack.Goals as goal

pub returns : goal.returns
unfolding unpacked
returns c =
    cc (
      c.mark_of.ensures,
      c.u32_at-rounds.ensures,
      c.u32_at-done.ensures,
      c.array-right.ensures,
      c.array-left.ensures,
      c.read_words32.ensures,
    )
