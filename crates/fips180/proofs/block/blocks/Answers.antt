-- `fips180::block::blocks` meets its contract. Assumes nothing.
use Rattle.std.proofs.Common.{◌≡◌, length, map, sym, ◌∙◌, arith}
use Rattle.fips180.specs.Fips180.{block_bytes}
use Rattle.fips180.specs.Lent.{lending}
use Rattle.fips180.specs.Working.{words}
use Rattle.fips180.proofs.Laws.Blocks.{hash_blocks_short, hash_blocks-turn}
use Rattle.fips180.proofs.Laws.Lent.{lent_is_blocked}
use Rattle.fips180.proofs.block.blocks.Goals as goal

pub loop-block-preserved : goal.loop-block-preserved
loop-block-preserved g c =
    let ks = map g.W.Word.number c.args.k.now in
    let p = lending ks g.W.Word.sha2 in
    let is = lent_is_blocked ks g.W.Word.sha2 g.met.W.Word.laws c.requires in
    let l = c.loop-block in
    let step = c.in-Some.ensures.steps in
    let long : length c.in-Some.block.now ≡ block_bytes p = step.1.1 ∙ l.invariant.0 ∙ is.bytes in
    let turn = hash_blocks-turn p (omega (arith, is.least)) (words g.W.Word.number l.c) c.in-Some.block.now c.next.new.self.rest.now long in
    (step.0 ∙ l.invariant.0, cc (step.1.0, c.compress-c.ensures, turn, l.invariant.1))

pub returns : goal.returns
returns g c =
    let ks = map g.W.Word.number c.args.k.now in
    let p = lending ks g.W.Word.sha2 in
    let is = lent_is_blocked ks g.W.Word.sha2 g.met.W.Word.laws c.requires in
    let l = c.loop-block in
    let short = c.in-None.ensures.steps.1.0 in
    sym (hash_blocks_short p (omega (arith, is.least)) (words g.W.Word.number l.c) l.block-iterator.rest.now
    (omega (arith, short, is.bytes, l.invariant.0)))
    ∙ l.invariant.1
