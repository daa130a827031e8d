-- `words::le::size_at` meets its contract. Assumes nothing.
use Rattle.std.proofs.Common.{le-ltb, lt-ltb}
use Rattle.words.specs.Size.{int32}
use Rattle.words.specs.Answers.{said}
use Rattle.words.proofs.Laws.Said.{said_too}
use Rattle.words.proofs.le.size_at.Goals as goal

pub returns-then-n-lt2147483648 : goal.returns-then-n-lt2147483648
unfolding int32
returns-then-n-lt2147483648 c = said_too said (rw (← c.u32_at-n.ensures, lt-ltb _ _ c.if-n-lt2147483648.true))

pub returns-else-n-lt2147483648 : goal.returns-else-n-lt2147483648
unfolding int32
returns-else-n-lt2147483648 c = said_too said (rw (← c.u32_at-n.ensures, le-ltb _ _ c.if-n-lt2147483648.false))
