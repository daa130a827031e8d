-- `stream::serialize_sum` meets its contract. The invariant: the first i sums are written. Assumes nothing.
use mathlib.Core.Path.{◌≡◌, sym, ap, ◌∙◌}
use Prim.Native.Nat.{◌*◌, ◌<◌}
use native.Mathlib.Omega.{arith}
use lib.ListN.{length, get_or, replicate}
use lib.Seq.{length-sets}
use Rattle.words.specs.Endian.{le_bytes}
use Rattle.stream.specs.Words.{sum}
use Rattle.stream.proofs.Laws.Words.{length-sum, get_or-sum, serialize_none, serialize_more, serialize_all}
use borrow.Author.Rules.{rules}
use Rattle.stream.proofs.serialize_sum.Goals as goal

pub loop-i-init : goal.loop-i-init
loop-i-init c = (search rules, serialize_none (replicate 64 0) (sum c.args.s c.args.t))

pub loop-i-preserved : goal.loop-i-preserved
loop-i-preserved c =
    let l = c.loop-i in
    let a = c.args in
    let e = c.put_word.ensures in
    let n : length a.s ≡ 16 = search rules in
    let m : length a.t ≡ 16 = search rules in
    let k = length-sum a.s a.t in
    let h : l.i < 16 = omega arith in
    let w = c.plus32.result in
    let v : w ≡ get_or (sum a.s a.t) l.i 0 =
    c.plus32.ensures ∙ sym (get_or-sum a.s a.t l.i (omega arith) (omega arith)) in (
      ap length e ∙ length-sets l.out (l.i * 4) (le_bytes 4 w) ∙ l.invariant.0,
      serialize_more l.out (sum a.s a.t) l.i w (omega arith) (omega arith) l.invariant.1 v e,
    )

pub returns : goal.returns
returns c =
    let l = c.loop-i in
    let a = c.args in
    let n : length a.s ≡ 16 = search rules in
    let m : length a.t ≡ 16 = search rules in
    let k = length-sum a.s a.t in
    serialize_all l.out (sum a.s a.t) l.i (omega arith) l.invariant.0 (omega arith) l.invariant.1
