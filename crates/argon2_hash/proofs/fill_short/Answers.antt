-- `argon2_hash::fill_short` meets its contract. Assumes nothing.
use mathlib.Core.Path.{refl}
use lib.ListN.{length}
use Rattle.argon2_hash.proofs.Laws.Long.{short_is}
use Rattle.argon2_hash.proofs.fill_short.Goals as goal

pub returns : goal.returns
returns c =
    let d = c.args.out.now in
    short_is (length d) c.args.message.now d refl c.requires.out_len_bound
    c.first_value-v.ensures c.put.ensures
