-- `word` of `fips180::reading::Reading` at `Straight` and u64 meets its contract. Assumes nothing.
use Rattle.words.proofs.Laws.Endian.{be_8}
use Rattle.fips180.proofs.reading.StraightReadingU64.word.Goals as goal

pub returns : goal.returns
returns c = rw be_8 (cc)
