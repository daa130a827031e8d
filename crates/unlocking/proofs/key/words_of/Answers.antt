-- `unlocking::key::words_of` meets its contract. Assumes nothing.
use mathlib.Core.Path.{◌∙◌}
use Rattle.kdf_dictionary.specs.declared.Kdf.TheVariants as kdf
use Rattle.unlocking.proofs.Laws.Key.{kdf_asked, words-rounds, words_d, words_id}
use Rattle.unlocking.proofs.key.words_of.Goals as goal

pub returns-in-AesKdf : goal.returns-in-AesKdf
returns-in-AesKdf c = words-rounds _ _ c.in-AesKdf.is

pub argon2_words-requires : goal.argon2_words-requires
argon2_words-requires c =
    (kdf_asked c.args.f.now c.args.h c.requires (kdf.Argon2d _) c.in-Argon2d.is).figures_fit

pub returns-in-Argon2d : goal.returns-in-Argon2d
returns-in-Argon2d c = c.argon2_words.ensures ∙ words_d _ _ c.in-Argon2d.is

pub argon2_words-requires-in-Argon2id : goal.argon2_words-requires-in-Argon2id
argon2_words-requires-in-Argon2id c =
    (kdf_asked c.args.f.now c.args.h c.requires (kdf.Argon2id _) c.in-Argon2id.is).figures_fit

pub returns-in-Argon2id : goal.returns-in-Argon2id
returns-in-Argon2id c = c.argon2_words-in-Argon2id.ensures ∙ words_id _ _ c.in-Argon2id.is
