-- `aes::inv_cipher::inv_round` meets its contract. Assumes nothing.
use Rattle.aes.proofs.Laws.Rounds.{eq_inv_round_by_is}
use Rattle.aes.proofs.inv_cipher.inv_round.Goals as goal

pub returns : goal.returns
returns c =
    let a = c.args in
    eq_inv_round_by_is a.td.now a.v.now a.i a.s.a a.s.b a.s.c a.s.d
    c.column.result c.column-2.result c.column-3.result c.column-4.result
    c.column.ensures c.column-2.ensures c.column-3.ensures c.column-4.ensures
