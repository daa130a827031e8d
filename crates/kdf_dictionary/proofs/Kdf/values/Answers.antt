-- `kdf_dictionary::Kdf::values` meets its contract. Assumes nothing.
use mathlib.Core.Path.{sym, ap}
use Rattle.kdf_dictionary.specs.Answers.{kdf_values}
use Rattle.kdf_dictionary.proofs.Kdf.values.Goals as goal

pub returns-in-AesKdf : goal.returns-in-AesKdf
returns-in-AesKdf c = ap kdf_values (sym c.in-AesKdf.is)

pub returns-in-Argon2d : goal.returns-in-Argon2d
returns-in-Argon2d c = ap kdf_values (sym c.in-Argon2d.is)

pub returns-in-Argon2id : goal.returns-in-Argon2id
returns-in-Argon2id c = ap kdf_values (sym c.in-Argon2id.is)
