-- `writer::blocks::close_block` meets its contract. Assumes nothing.
use mathlib.Core.Path.{◌≡◌, ap, ◌∙◌}
use Prim.Native.Nat.{ℕ, ◌+◌, ◌-◌}
use native.Mathlib.Omega.{arith}
use lib.ListN.{length, take, drop}
use Rattle.writer.specs.Stretches.{prev_by}
use Rattle.writer.proofs.Laws.Laying.{block_closed}
use borrow.Author.Rules.{rules}
use Rattle.writer.proofs.blocks.close_block.Goals as goal

pub returns : goal.returns
returns c =
    let a = c.args in
    let s = a.out.now in
    let n = a.n in
    let h = c.encrypt-next.ensures in
    let k : 36 + n - 36 ≡ n = omega arith in
    let v : length a.prev ≡ 16 = search rules in
    record {
      value = h.value ∙ ap (λ (j : ℕ). prev_by a.keys.cipher a.keys a.prev (take j (drop 36 s))) k;
      out_after = block_closed a.keys.cipher a.keys a.prev a.at a.keys.base s _ _ a.number n (36 + n - 36) k c.requires.n_in_bounds
          c.requires.n_le_file_limit v h.out_after c.seal.ensures;
    }
