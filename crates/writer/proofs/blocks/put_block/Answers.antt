-- `writer::blocks::put_block` meets its contract. Assumes nothing.
use mathlib.Core.Path.{◌≡◌, refl, ap, ◌∙◌}
use Prim.Native.Nat.{◌-◌}
use lib.ListN.{length}
use Rattle.slices.proofs.Laws.Over.{over_behind_fits}
use Rattle.writer.specs.Stretches.{prev_by}
use Rattle.writer.proofs.Laws.Stretches.{length_stretch}
use Rattle.writer.proofs.Laws.Laying.{laid_data, block-laid}
use borrow.Author.Rules.{rules}
use Rattle.writer.proofs.blocks.put_block.Goals as goal

pub returns : goal.returns
returns c =
    let a = c.args in
    let d = a.out.now in
    let b = a.piece.now in
    let n = length b in
    let x = over_behind_fits b d _ 36 (length d - 36) c.requires.piece_in_bounds refl c.copy.ensures in
    let v : length a.prev ≡ 16 = search rules in
    let l = length_stretch a.keys.cipher a.keys a.prev a.at b v c.requires.piece_len in
    let h = c.close_block.ensures in
    record {
      value = h.value ∙ ap (prev_by a.keys.cipher a.keys a.prev) (laid_data b d _ n refl c.requires.piece_in_bounds x);
      out_after = block-laid b d _ n refl c.requires.piece_in_bounds x a.keys.cipher a.keys a.prev a.at a.keys.base _ a.number l h.out_after;
    }
