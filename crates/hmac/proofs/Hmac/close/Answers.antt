-- `hmac::Hmac::close` meets its contract. Assumes nothing.
use mathlib.Core.Path.{refl}
use Rattle.hmac.specs.Tagging.{closed}
use Rattle.hmac.proofs.Hmac.close.Goals as goal

pub returns : goal.returns
unfolding closed
returns c = refl
