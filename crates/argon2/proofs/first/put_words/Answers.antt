-- `argon2::first::put_words` meets its contract. The invariant: the first i words are put. Assumes nothing.
use Prim.Native.Nat.{◌<◌}
use native.Mathlib.Omega.{arith}
use lib.ListN.{length}
use Rattle.argon2.proofs.Laws.First.{words_none, words_more, words_all}
use Rattle.argon2.proofs.first.put_words.Goals as goal

pub loop-i-init : goal.loop-i-init
loop-i-init c = words_none c.args.bytes c.args.out.now

pub loop-i-preserved : goal.loop-i-preserved
loop-i-preserved c =
    let l = c.loop-i in
    let a = c.args in
    let k = c.requires in
    let t : l.i < length a.out.now = omega arith in
    words_more a.bytes a.out.now l.out l.i c.u64_at.result l.invariant t c.u64_at.ensures

pub returns : goal.returns
returns c =
    let l = c.loop-i in
    let a = c.args in
    words_all a.bytes a.out.now l.out l.i 128 (omega arith) l.invariant
