-- `pkcs7::check` meets its contract. The invariant: no bit is wrong where the check of the bytes from i on holds.
-- Assumes nothing.
use mathlib.Core.Path.{◌≡◌, refl, sym, ap, ◌∙◌}
use mathlib.Core.Bool.{true, false}
use Prim.Native.Nat.{ℕ, ◌+◌, ◌-◌}
use native.Mathlib.Omega.{arith}
use borrow.Author.Tests.{eq-eqb, ne_eqb}
use lib.Bits.{bit_or}
use lib.Dec.{eqb}
use lib.ListN.{length, get_or, drop}
use Rattle.pkcs7.proofs.Laws.Check.{checked_from, checked_from_end, checked_from_more}
use Rattle.pkcs7.proofs.Laws.Check.{answer-zero, answer_large, answer-checked}
use Rattle.words.proofs.Laws.Said.{said_too}
use Rattle.pkcs7.specs.Answers.{said}
use borrow.Author.Rules.{rules}
use Rattle.pkcs7.proofs.check.Goals as goal

pub loop-i-init : goal.loop-i-init
loop-i-init c =
    let s = c.args.piece in
    let n : length s ≡ 16 = search rules in
    (n, sym (checked_from_end (get_or s 15 0) s n))

pub loop-i-preserved : goal.loop-i-preserved
loop-i-preserved c =
    let l = c.loop-i in
    let s = c.args.piece in
    let p = get_or s 15 0 in
    let e : l.i - 1 + 1 ≡ l.i = omega arith in
    let h = l.invariant.1 ∙ ap (λ (k : ℕ). checked_from p k (drop k s)) (sym e) in
    let bits = ap (λ (w : ℕ). eqb (bit_or l.d w) 0) c.wrong_bits-d.ensures in
    (l.invariant.0, bits ∙ checked_from_more l.d p (l.i - 1) s (omega arith) h)

pub returns-then-p-eq0 : goal.returns-then-p-eq0
returns-then-p-eq0 c = said_too said (answer-zero _ _ c.loop-i.invariant.0 refl c.if-p-eq0.true)

pub returns-then-p-gt16 : goal.returns-then-p-gt16
returns-then-p-gt16 c =
    let l = c.loop-i in
    said_too said (answer_large _ _ l.invariant.0 refl c.if-p-eq0.false c.if-p-gt16.true)

pub returns-then-d-eq0 : goal.returns-then-d-eq0
returns-then-d-eq0 c =
    let l = c.loop-i in
    let s = c.args.piece in
    let z : l.i ≡ 0 = omega arith in
    let t = sym (eq-eqb _ 0 c.if-d-eq0.true) ∙ l.invariant.1 ∙ ap (λ (k : ℕ). checked_from (get_or s 15 0) k (drop k s)) z in
    said_too said (answer-checked s _ l.invariant.0 refl c.if-p-eq0.false c.if-p-gt16.false true t)

pub returns : goal.returns
returns c =
    let l = c.loop-i in
    let s = c.args.piece in
    let z : l.i ≡ 0 = omega arith in
    let t = sym (ne_eqb _ 0 c.if-d-eq0.false) ∙ l.invariant.1 ∙ ap (λ (k : ℕ). checked_from (get_or s 15 0) k (drop k s)) z in
    said_too said (answer-checked s _ l.invariant.0 refl c.if-p-eq0.false c.if-p-gt16.false false t)
