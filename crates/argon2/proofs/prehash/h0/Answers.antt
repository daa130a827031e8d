-- `argon2::prehash::h0` meets its contract. Assumes nothing.
use Rattle.argon2.proofs.Laws.Prehash.{h0_is}
use Rattle.argon2.proofs.prehash.h0.Goals as goal

pub returns : goal.returns
returns c =
    h0_is _ c.requires c.feed_figures-b0.ensures c.feed_counted-b1.ensures
    c.feed_counted-b2.ensures c.feed_counted-b3.ensures c.feed_counted.ensures
    c.finish.ensures
