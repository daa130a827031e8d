-- `block_stream::judge` meets its contract. Assumes nothing.
use mathlib.Core.Path.{sym, ◌∙◌}
use Prim.Native.Nat.{◌+◌, ◌≤◌, ◌<◌}
use native.Mathlib.Omega.{arith}
use lib.ListN.{length}
use borrow.Author.Tests.{le-leb, lt-leb, leb-true}
use Rattle.block_stream.specs.Blocks.{judge}
use Rattle.words.proofs.Laws.Said.{said_too}
use Rattle.block_stream.specs.Answers.{said}
use Rattle.block_stream.proofs.judge.Goals as goal

pub returns-then-f-lt36 : goal.returns-then-f-lt36
unfolding judge
returns-then-f-lt36 c =
    let l : length c.args.f.now < c.args.at + 36 = omega arith in
    said_too said (rw (sym c.file_fits.ensures ∙ c.if-file_fits.true, lt-leb _ _ l))

pub judge_size-requires : goal.judge_size-requires
judge_size-requires c =
    record {
      f_len_bound = leb-true _ _ (sym c.file_fits.ensures ∙ c.if-file_fits.true);
      at_in_bounds = omega arith;
    }

pub returns-then-at-f : goal.returns-then-at-f
unfolding judge
returns-then-at-f c =
    let l : c.args.at + 36 ≤ length c.args.f.now = omega arith in
    said_too said
    (rw (sym c.file_fits.ensures ∙ c.if-file_fits.true, le-leb _ _ l)
    c.judge_size.ensures)

pub returns-then-file_fits : goal.returns-then-file_fits
unfolding judge
returns-then-file_fits c =
    let l : length c.args.f.now < c.args.at + 36 = omega arith in
    said_too said (rw (sym c.file_fits.ensures ∙ c.if-file_fits.true, lt-leb _ _ l))

pub returns : goal.returns
unfolding judge
returns c = said_too said (rw (sym c.file_fits.ensures ∙ c.if-file_fits.false))
