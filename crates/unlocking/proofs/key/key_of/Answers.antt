-- `unlocking::key::key_of` meets its contract. Assumes nothing.
use Rattle.kdf_dictionary.specs.declared.Kdf.TheVariants as kdf
use Rattle.unlocking.proofs.Laws.Key.{kdf_asked, kdf_seed_is, key-rounds, key_d, key_id}
use Rattle.unlocking.proofs.key.key_of.Goals as goal

pub by_rounds-key-requires : goal.by_rounds-key-requires
by_rounds-key-requires g c =
    let a = c.args in
    let e = c.in-AesKdf.is in
    record {
      seed_len = kdf_seed_is a.f.now a.h c.requires _ e;
      rounds_le_rounds_limit = (kdf_asked a.f.now a.h c.requires (kdf.AesKdf _) e).rounds_le;
    }

pub returns-in-AesKdf : goal.returns-in-AesKdf
returns-in-AesKdf g c =
    let a = c.args in
    key-rounds a.h.kdf a.composite a.f.now a.memory.now _ _ c.in-AesKdf.is
    c.by_rounds-key.ensures

pub returns-in-Argon2d : goal.returns-in-Argon2d
returns-in-Argon2d g c =
    let a = c.args in
    key_d a.h.kdf a.composite a.f.now a.memory.now _ _ _ c.in-Argon2d.is
    c.by_argon2.ensures

pub returns-in-Argon2id : goal.returns-in-Argon2id
returns-in-Argon2id g c =
    let a = c.args in
    key_id a.h.kdf a.composite a.f.now a.memory.now _ _ _ c.in-Argon2id.is
    c.by_argon2-in-Argon2id.ensures
