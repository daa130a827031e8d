-- `aes_tables::td` meets its contract. The invariant: the first i entries are there. Assumes nothing.
use mathlib.Core.Path.{◌≡◌}
use lib.ListN.{length, get_or, take}
use Rattle.fips197.specs.Tabulate.{tabulate}
use Rattle.aes_tables.specs.Tables.{inv_mix_entry}
use Rattle.aes_tables.proofs.td.Given as goal

abbrev pub invariant-loop-i : goal.invariant-loop-i
invariant-loop-i l = (length l.t ≡ 256) × (take l.i l.t ≡ tabulate l.i (λ x. inv_mix_entry (get_or l.inverse x 0)))
