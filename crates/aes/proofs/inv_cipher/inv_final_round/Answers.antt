-- `aes::inv_cipher::inv_final_round` meets its contract. Assumes nothing.
use mathlib.Core.Path.{ap, ◌∙◌}
use mathlib.Core.List.{List}
use Prim.Native.Nat.{ℕ}
use Rattle.fips197.specs.Fips197.{add_round_key}
use Rattle.aes.specs.Tabled.{eq_inv_final_round_by}
use Rattle.aes.proofs.Laws.Rounds.{inv_sub_by_is}
use Rattle.aes.proofs.inv_cipher.inv_final_round.Goals as goal

pub returns : goal.returns
unfolding eq_inv_final_round_by
returns c =
    let a = c.args in
    c.add_round_key.ensures
    ∙ ap (λ (s : List ℕ). add_round_key s a.v.now 0)
    (inv_sub_by_is a.inverse.now a.s.a a.s.b a.s.c a.s.d
    c.inv_sub_column.result c.inv_sub_column-2.result c.inv_sub_column-3.result c.inv_sub_column-4.result
    c.inv_sub_column.ensures c.inv_sub_column-2.ensures c.inv_sub_column-3.ensures c.inv_sub_column-4.ensures)
