-- `open_whole::text::copy_text` meets its contract. The invariant: the first bytes stand in their place, and what is
-- still to come is the text from the next block on, without the bytes still to skip. Assumes nothing.
use Prim.Native.Nat.{◌-◌}
use lib.ListN.{length, drop}
use Rattle.open_whole.specs.Ciphertext.{text}
use Rattle.open_whole.proofs.Laws.Fill.{Filling}
use Rattle.open_whole.proofs.text.copy_text.Given as goal

abbrev pub invariant-loop-done : goal.invariant-loop-done
invariant-loop-done l =
    Filling (drop l.skip (text l.f l.p)) (drop l.left (text l.f l.at)) l.initial.out l.out l.done

abbrev pub decreases-loop-done : goal.decreases-loop-done
decreases-loop-done l = length l.f - l.at
