-- `writer::blocks::write_blocks` meets its contract. The invariant: the blocks before `at` are written, and those
-- behind it are the blocks of the payload from `done` on, chained to `prev`; the pieces to come are those of the payload
-- from `done` on. Assumes nothing.
use mathlib.Core.Path.{◌≡◌}
use mathlib.Core.List.{List}
use Prim.Native.Nat.{ℕ, ◌≤◌}
use lib.ListN.{length, take, drop}
use Rattle.std.specs.Slice.Iter.{chunks_exact_rest, chunks_exact_size}
use Rattle.slices.specs.Over.{over}
use Rattle.refusals.specs.Limits.{written_block}
use Rattle.opening.specs.declared.Keys.{Keys}
use Rattle.writer.specs.Written.{blocks_of, encryption_by}
use Rattle.writer.specs.Stretches.{last_blocks}
use Rattle.writer.proofs.blocks.write_blocks.Given as goal

abbrev pub whole : Keys → List ℕ → List ℕ
whole k b = blocks_of k.base (encryption_by k.cipher k b)

abbrev pub invariant-loop-piece : goal.invariant-loop-piece
invariant-loop-piece l =
    record {
      size : l.size ≡ written_block;
      step : chunks_exact_size l.piece-iterator ≡ l.size;
      to_come : chunks_exact_rest l.piece-iterator ≡ drop l.done l.payload;
      prev_long : length l.prev ≡ 16;
      out_long : length l.out ≡ length l.initial.out;
      rest_is : drop l.at (whole l.keys l.payload) ≡ last_blocks l.keys l.prev l.number l.done (drop l.done l.payload);
      out_is : l.out ≡ over (take l.at (whole l.keys l.payload)) l.initial.out;
      at_le : l.at ≤ length (whole l.keys l.payload);
      room : length (whole l.keys l.payload) ≤ length l.initial.out;
      number_le : l.number ≤ l.at;
      done_le : l.done ≤ length l.payload;
    }
