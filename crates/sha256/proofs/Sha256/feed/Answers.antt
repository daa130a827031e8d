-- `sha256::Sha256::feed` meets its contract. Assumes nothing.
use Rattle.refusals.specs.Limits.{message_limit}
use Rattle.sha256.proofs.Sha256.feed.Goals as goal

pub returns : goal.returns
unfolding message_limit
returns c = c.feed_to.ensures
