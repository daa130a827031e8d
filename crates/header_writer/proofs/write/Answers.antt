-- `header_writer::write` meets its contract. Assumes nothing.
use mathlib.Core.Path.{◌≡◌}
use native.Mathlib.Omega.{arith}
use Prim.Native.Nat.{◌≤◌}
use lib.ListN.{length, take, length-take}
use Rattle.kdf_dictionary.proofs.Laws.Layout.{kdf_length-le}
use Rattle.header_writer.proofs.Laws.Layout.{header-laid, dictionary-part}
use borrow.Author.Rules.{rules}
use Rattle.header_writer.proofs.write.Goals as goal

pub overflow_add-at-2 : goal.overflow_add-at-2
overflow_add-at-2 c =
    let h : length c.part-n.result.now ≤ 16 = rw (c.part-n.ensures, length-take) (omega arith) in
    let l = kdf_length-le c.args.figures c.args.salt.now in
    let g = c.kdf_len-length.ensures in
    search rules

pub overflow_add-at-3 : goal.overflow_add-at-3
overflow_add-at-3 c =
    let h : length c.part-n.result.now ≤ 16 = rw (c.part-n.ensures, length-take) (omega arith) in
    let l = kdf_length-le c.args.figures c.args.salt.now in
    let g = c.kdf_len-length.ensures in
    search rules

pub write_end-requires : goal.write_end-requires
write_end-requires c =
    let h : length c.part-n.result.now ≤ 16 = rw (c.part-n.ensures, length-take) (omega arith) in
    let l = kdf_length-le c.args.figures c.args.salt.now in
    let g = c.kdf_len-length.ensures in
    search rules

pub returns : goal.returns
returns c =
    let long_seed : length c.args.seed ≡ 32 = search rules in
    header-laid c.args.minor c.args.c c.args.seed (take 16 c.args.nonce.now) c.args.figures
    (take 64 c.args.salt.now) c.args.custom.now c.args.out.now _ _ _ _ _ _ c.kdf_len-length.result
    long_seed c.kdf_len-length.ensures c.part-n.ensures
    (dictionary-part c.args.figures c.args.salt.now _ _ _ c.kdf_len-length.ensures c.write_kdf.ensures
    c.part.ensures)
    c.write_front.ensures c.put.ensures c.put-2.ensures c.write_end.ensures
