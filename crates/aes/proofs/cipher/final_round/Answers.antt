-- `aes::cipher::final_round` meets its contract. Assumes nothing.
use mathlib.Core.Path.{ap, ◌∙◌}
use mathlib.Core.List.{List}
use Prim.Native.Nat.{ℕ}
use Rattle.fips197.specs.Fips197.{add_round_key}
use Rattle.aes.specs.Tabled.{final_round_by}
use Rattle.aes.proofs.Laws.Rounds.{sub_by_is}
use Rattle.aes.proofs.cipher.final_round.Goals as goal

pub returns : goal.returns
unfolding final_round_by
returns c =
    let a = c.args in
    c.add_round_key.ensures
    ∙ ap (λ (s : List ℕ). add_round_key s a.w.now 14)
    (sub_by_is a.te.now a.s.a a.s.b a.s.c a.s.d
    c.sub_column.result c.sub_column-2.result c.sub_column-3.result c.sub_column-4.result
    c.sub_column.ensures c.sub_column-2.ensures c.sub_column-3.ensures c.sub_column-4.ensures)
