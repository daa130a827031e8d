-- `aes_cbc::load_front` meets its contract. Assumes nothing.
use mathlib.Core.Path.{◌∙◌}
use Rattle.aes_cbc.proofs.load_front.Goals as goal

pub returns : goal.returns
returns c = c.load.ensures ∙ c.copy_from_slice.ensures.after
