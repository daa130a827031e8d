-- `aes_tables::te` meets its contract. The invariant: the first i entries are there. Assumes nothing.
use mathlib.Core.Path.{◌≡◌}
use lib.ListN.{length, take}
use Rattle.fips197.specs.Tabulate.{tabulate}
use Rattle.gf256.specs.Gf256.{sbox}
use Rattle.aes_tables.specs.Tables.{mix_entry}
use Rattle.aes_tables.proofs.te.Given as goal

abbrev pub invariant-loop-i : goal.invariant-loop-i
invariant-loop-i l = (length l.t ≡ 256) × (take l.i l.t ≡ tabulate l.i (λ x. mix_entry (sbox x)))
