-- `kdf_dictionary::writer::kdf_len` meets its contract. Assumes nothing.
use Prim.Native.Nat.{◌≤◌}
use native.Mathlib.Omega.{arith}
use lib.ListN.{length, length-take}
use Rattle.kdf_dictionary.specs.Kdf.{kdf_length}
use borrow.Author.Rules.{rules}
use Rattle.kdf_dictionary.proofs.writer.kdf_len.Goals as goal

pub overflow_add-result : goal.overflow_add-result
overflow_add-result c =
    let h : length c.part-s.result.now ≤ 64 =
    rw (c.part-s.ensures, length-take) (omega arith) in
    search rules

pub overflow_add-result-in-Argon2d : goal.overflow_add-result-in-Argon2d
overflow_add-result-in-Argon2d c =
    let h : length c.part-s.result.now ≤ 64 =
    rw (c.part-s.ensures, length-take) (omega arith) in
    search rules

pub overflow_add-result-in-Argon2id : goal.overflow_add-result-in-Argon2id
overflow_add-result-in-Argon2id c =
    let h : length c.part-s.result.now ≤ 64 =
    rw (c.part-s.ensures, length-take) (omega arith) in
    search rules

pub returns-in-AesKdf : goal.returns-in-AesKdf
unfolding kdf_length
returns-in-AesKdf c =
    rw (← c.part-s.ensures, c.in-AesKdf.is)

pub returns-in-Argon2d : goal.returns-in-Argon2d
unfolding kdf_length
returns-in-Argon2d c =
    rw (← c.part-s.ensures, c.in-Argon2d.is)

pub returns-in-Argon2id : goal.returns-in-Argon2id
unfolding kdf_length
returns-in-Argon2id c =
    rw (← c.part-s.ensures, c.in-Argon2id.is)
