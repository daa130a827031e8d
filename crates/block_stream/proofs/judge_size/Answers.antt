-- `block_stream::judge_size` meets its contract. Assumes nothing.
use mathlib.Core.Path.{sym, ◌∙◌}
use borrow.Author.Tests.{le-leb, lt-leb, eq-eqb, ne_eqb}
use Rattle.block_stream.specs.Blocks.{found, judge_size}
use Rattle.block_stream.proofs.judge_size.Goals as goal

pub returns-in-None : goal.returns-in-None
unfolding judge_size
returns-in-None c = rw (sym c.size_at.ensures.value ∙ c.in-None.is)

pub returns-then-f-at : goal.returns-then-f-at
unfolding judge_size
returns-then-f-at c =
    rw (
      sym c.size_at.ensures.value ∙ c.in-Some.is,
      lt-leb _ _ c.if-f-at.true,
    )

pub returns-then-n-eq0 : goal.returns-then-n-eq0
unfolding judge_size found
returns-then-n-eq0 c =
    rw (
      sym c.size_at.ensures.value ∙ c.in-Some.is,
      le-leb _ _ c.if-f-at.false,
      sym c.tag_holds.ensures ∙ c.if-tag_holds.true,
      eq-eqb _ _ c.if-n-eq0.true,
    )

pub returns-then-tag_holds : goal.returns-then-tag_holds
unfolding judge_size found
returns-then-tag_holds c =
    rw (
      sym c.size_at.ensures.value ∙ c.in-Some.is,
      le-leb _ _ c.if-f-at.false,
      sym c.tag_holds.ensures ∙ c.if-tag_holds.true,
      ne_eqb _ _ c.if-n-eq0.false,
    )

pub returns-in-Some : goal.returns-in-Some
unfolding judge_size
returns-in-Some c =
    rw (
      sym c.size_at.ensures.value ∙ c.in-Some.is,
      le-leb _ _ c.if-f-at.false,
      sym c.tag_holds.ensures ∙ c.if-tag_holds.false,
    )
