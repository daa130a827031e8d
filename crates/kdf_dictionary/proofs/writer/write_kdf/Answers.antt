-- `kdf_dictionary::writer::write_kdf` meets its contract. Assumes nothing.
use Prim.Native.Nat.{◌≤◌}
use native.Mathlib.Omega.{arith}
use lib.ListN.{length, length-take}
use Rattle.kdf_dictionary.specs.Kdf.{kdf_bytes}
use Rattle.kdf_dictionary.proofs.writer.write_kdf.Goals as goal

pub write_aes_kdf-requires : goal.write_aes_kdf-requires
write_aes_kdf-requires c =
    let h : length c.part-s.result.now ≤ 64 = rw (c.part-s.ensures, length-take) (omega arith) in
    h

pub write_argon2-requires : goal.write_argon2-requires
write_argon2-requires c =
    let h : length c.part-s.result.now ≤ 64 = rw (c.part-s.ensures, length-take) (omega arith) in
    h

pub write_argon2-requires-in-Argon2id : goal.write_argon2-requires-in-Argon2id
write_argon2-requires-in-Argon2id c =
    let h : length c.part-s.result.now ≤ 64 = rw (c.part-s.ensures, length-take) (omega arith) in
    h

pub returns-in-AesKdf : goal.returns-in-AesKdf
unfolding kdf_bytes
returns-in-AesKdf c =
    rw (← c.part-s.ensures, c.in-AesKdf.is) c.write_aes_kdf.ensures

pub returns-in-Argon2d : goal.returns-in-Argon2d
unfolding kdf_bytes
returns-in-Argon2d c =
    rw (← c.part-s.ensures, c.in-Argon2d.is) c.write_argon2.ensures

pub returns-in-Argon2id : goal.returns-in-Argon2id
unfolding kdf_bytes
returns-in-Argon2id c =
    rw (← c.part-s.ensures, c.in-Argon2id.is) c.write_argon2-in-Argon2id.ensures
