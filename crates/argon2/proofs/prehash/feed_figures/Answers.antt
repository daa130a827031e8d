-- `argon2::prehash::feed_figures` meets its contract. Assumes nothing.
use Rattle.argon2.proofs.Laws.Prehash.{figures-fed}
use Rattle.argon2.proofs.prehash.feed_figures.Goals as goal

pub returns : goal.returns
returns c =
    let a = c.args in
    figures-fed a.lanes a.tag_length a.m a.passes a.kind c.start.ensures
    c.feed_number-b1.ensures c.feed_number-b2.ensures c.feed_number-b3.ensures
    c.feed_number-b4.ensures c.feed_number-b5.ensures c.feed_number.ensures
