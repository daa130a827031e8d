-- `open::open_lent` ends, since it calls itself for fewer words.
use Rattle.open.proofs.+open_lent.Given as goal

abbrev pub decreases-open_lent : goal.decreases-open_lent
decreases-open_lent l = l.words
