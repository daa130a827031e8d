-- `blake2b::block::blocks` meets its contract. The invariant: what is left gives what the whole gives. Assumes nothing.
use mathlib.Core.Path.{◌≡◌}
use Prim.Native.Nat.{◌+◌, ◌*◌}
use lib.ListN.{length, drop}
use Rattle.blake2b.specs.Rfc7693.{chain, blocks_before}
use Rattle.blake2b.proofs.block.blocks.Given as goal

abbrev pub invariant-loop-i : goal.invariant-loop-i
invariant-loop-i l =
    chain (blocks_before (length (drop (128 * l.i) l.s))) l.c (l.t + 128 * l.i) (drop (128 * l.i) l.s)
    ≡ chain (blocks_before (length l.s)) l.initial.c l.t l.s
