-- `aes::cipher::add_round_key` meets its contract. Assumes nothing.
use Rattle.aes.proofs.Laws.Columns.{columns-key}
use Rattle.aes.proofs.cipher.add_round_key.Goals as goal

pub returns : goal.returns
returns c =
    let a = c.args in
    columns-key a.s.a a.s.b a.s.c a.s.d a.w.now a.i
