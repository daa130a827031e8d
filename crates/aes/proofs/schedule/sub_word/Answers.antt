-- `aes::schedule::sub_word` meets its contract. Assumes nothing.
use Rattle.aes.proofs.schedule.sub_word.Goals as goal

pub returns : goal.returns
returns c = c.sub_column.ensures
