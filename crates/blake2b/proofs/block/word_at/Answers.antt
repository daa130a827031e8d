-- `blake2b::block::word_at` meets its contract. Assumes nothing.
use Rattle.words.proofs.Laws.Endian.{le_8}
use Rattle.blake2b.proofs.block.word_at.Goals as goal

pub returns : goal.returns
returns c = rw le_8 (cc)
