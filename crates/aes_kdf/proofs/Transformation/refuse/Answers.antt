-- `aes_kdf::Transformation::refuse` meets its contract. Assumes nothing.
use mathlib.Core.Path.{refl}
use Rattle.aes_kdf.specs.AesKdf.{refused}
use Rattle.aes_kdf.proofs.Transformation.refuse.Goals as goal

pub returns : goal.returns
unfolding refused
returns c = refl
