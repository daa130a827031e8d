-- `aes::schedule::rot_word` meets its contract. Assumes nothing.
use Rattle.aes.proofs.Laws.Schedule.{rot_word_is}
use borrow.Author.Rules.{rules}
use Rattle.aes.proofs.schedule.rot_word.Goals as goal

pub returns : goal.returns
returns c = rot_word_is c.args.w (search rules)
