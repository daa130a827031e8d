-- `argon2::fill_tag` meets its contract. Assumes nothing.
use mathlib.Core.Path.{◌≡◌, ap, ◌∙◌}
use Prim.Native.Nat.{ℕ}
use lib.ListN.{length, replicate}
use Rattle.argon2_fill.specs.State.{figures}
use Rattle.argon2.proofs.Laws.Memory.{tag_is}
use borrow.Author.Rules.{rules}
use Rattle.argon2.proofs.fill_tag.Goals as goal

pub returns : goal.returns
returns c =
    let a = c.args in
    let h = c.requires in
    let l : length c.last_column.result ≡ 128 = search rules in
    let n : length c.fill.new.memory ≡ length a.memory.now = search rules in
    record {
      memory_after = c.fill-3.ensures.after (λ y e. e) ∙ ap (λ (k : ℕ). replicate k 0) n;
      out_after = tag_is (figures a.f) a.h h.fits a.memory.now _ _ _ _ a.out.now _ h.le_passes h.memory_len
          c.put_first_blocks.ensures c.fill.ensures c.last_column.ensures l
          c.bytes_of-c.ensures c.fill-2.ensures.out_after;
    }
