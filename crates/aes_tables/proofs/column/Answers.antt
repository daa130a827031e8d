-- `aes_tables::column` meets its contract. Assumes nothing.
use Prim.Native.Nat.{◌/◌, ◌%◌}
use lib.ListN.{get_or}
use Rattle.aes_tables.proofs.Laws.Columns.{column_is}
use Rattle.aes_tables.proofs.column.Goals as goal

pub returns : goal.returns
returns c =
    let a = c.args in
    let t = a.t.now in
    column_is (get_or t (a.a / 0x1000000 % 256) 0) (get_or t (a.b / 0x10000 % 256) 0) (get_or t (a.c / 0x100 % 256) 0)
    (get_or t (a.d % 256) 0) a.k c.rotr8.result c.rotr8-2.result c.rotr8-3.result
    c.rotr8.ensures c.rotr8-2.ensures c.rotr8-3.ensures
