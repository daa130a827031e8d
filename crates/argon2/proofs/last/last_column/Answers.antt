-- `argon2::last::last_column` meets its contract. The invariant: the last blocks of the lanes before are joined.
-- Assumes nothing.
use mathlib.Core.Path.{◌≡◌, refl, ap, ◌∙◌}
use Prim.Native.Nat.{ℕ}
use native.Mathlib.Omega.{arith}
use lib.ListN.{length}
use lib.Seq.{length-take-le}
use Rattle.argon2_fill.specs.State.{figures}
use Rattle.argon2_fill.proofs.Laws.Blocks.{tail-length, length_fresh}
use Rattle.argon2.specs.Rfc9106.{last_column}
use Rattle.argon2.proofs.Laws.Last.{column_none, column_more}
use borrow.Author.Rules.{rules}
use Rattle.argon2.proofs.last.last_column.Goals as goal

pub loop-i-init : goal.loop-i-init
loop-i-init c = (search rules, column_none (figures c.args.f) c.args.memory.now)

pub last_start-at-requires : goal.last_start-at-requires
last_start-at-requires c =
    (c.requires.fits, (c.loop-i-test.true, c.requires.f_in_bounds))

pub xor_block-requires-clause-in_bounds : goal.xor_block-requires-clause-in_bounds
xor_block-requires-clause-in_bounds c =
    let m = c.args.memory.now in
    tail-length m _ _ c.last_start-at.ensures.1 refl

pub loop-i-preserved : goal.loop-i-preserved
loop-i-preserved c =
    let l = c.loop-i in
    let a = c.args in
    let k = length-take-le 128 _ (tail-length a.memory.now _ _ c.last_start-at.ensures.1 refl) in (
      ap length c.xor_block.ensures ∙ length_fresh l.c _ l.invariant.0 k,
      column_more (figures a.f) a.memory.now l.c _ l.i _ _ l.invariant.1 c.last_start-at.ensures.0 refl c.xor_block.ensures,
    )

pub returns : goal.returns
returns c =
    let l = c.loop-i in
    let a = c.args in
    let e : l.i ≡ a.f.lanes = omega arith in
    l.invariant.1 ∙ ap (λ (n : ℕ). last_column (figures a.f) a.memory.now n) e
