-- `aes::RoundKeys::expand` meets its contract. Assumes nothing.
use Rattle.aes.proofs.RoundKeys.expand.Goals as goal

pub returns : goal.returns
returns c = c.expand-words.ensures c.te-te.ensures
