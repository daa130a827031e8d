-- `vectors::million` meets its contract, by the law of `replicate`: computing the length would take too much. Assumes
-- nothing.
use mathlib.Core.Path.{sym}
use lib.ListN.{length-replicate}
use Rattle.vectors.proofs.million.Goals as goal

pub returns : goal.returns
returns c = sym (length-replicate 1000000 c.args.b)
