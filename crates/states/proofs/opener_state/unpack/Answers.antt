-- `states::opener_state::unpack` meets its contract. Assumes nothing.
use Rattle.states.specs.OpenerState.{unpacked}
use Rattle.states.proofs.opener_state.unpack.Goals as goal

pub returns : goal.returns
unfolding unpacked
returns c =
    cc (
      c.phase_of.ensures,
      c.keys_in-keys.ensures,
      c.array-held.ensures,
      c.array-prev.ensures,
      c.u64_at-taken.ensures,
      c.u64_at-at.ensures,
      c.u64_at-number.ensures,
    )
