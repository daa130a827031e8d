-- `sha512::Sha512::feed` meets its contract. Assumes nothing.
use Rattle.refusals.specs.Limits.{message_limit}
use Rattle.sha512.proofs.Sha512.feed.Goals as goal

pub returns : goal.returns
unfolding message_limit
returns c = c.feed_to.ensures
