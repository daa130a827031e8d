-- `vectors_argon2::long_message::rows` meets its contract, by the law of `replicate`: computing the length would take
-- too much. Assumes nothing.
use mathlib.Core.Path.{sym}
use lib.ListN.{length-replicate}
use Rattle.vectors_argon2.proofs.long_message.rows.Goals as goal

pub slice_bounds-within-end : goal.slice_bounds-within-end
slice_bounds-within-end g c = sym (length-replicate 2796187 c.args.b)
