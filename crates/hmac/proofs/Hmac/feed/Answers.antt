-- `hmac::Hmac::feed` meets its contract. Assumes nothing.
use Rattle.refusals.specs.Limits.{message_limit}
use Rattle.hmac.specs.Tagging.{feed}
use Rattle.hmac.proofs.Hmac.feed.Goals as goal

pub returns : goal.returns
unfolding feed message_limit
returns c = rw c.feed_to-f.ensures
