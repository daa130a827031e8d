-- `states::opener_state::keys_in` meets its contract. Assumes nothing.
use Rattle.states.specs.OpenerState.{keys_in}
use Rattle.states.proofs.opener_state.keys_in.Goals as goal

pub returns : goal.returns
unfolding keys_in
returns c =
    let cipher = c.cipher_of.ensures in
    let base = c.array-base.ensures in
    let nonce = c.array-nonce.ensures in
    let words = c.read_words32.ensures in
    let key = c.array-key.ensures in
    cc (cipher, key, words, nonce, base)
