-- `inner_header::writer::size` meets its contract. Assumes nothing.
use mathlib.Core.Path.{◌≡◌, sym, ◌∙◌}
use mathlib.Core.Bool.{Bool, true, false}
use Prim.Native.Nat.{ℕ, ◌+◌, ◌^◌, ◌<◌}
use native.Mathlib.Omega.{arith}
use lib.Dec.{leb}
use borrow.Author.Tests.{leb-true, leb-false, le-leb, lt-leb}
use Rattle.refusals.specs.Limits.{payload_limit}
use Rattle.refusals.proofs.Laws.Limits.{payload_size}
use Rattle.inner_header.specs.Writer.{sized}
use borrow.Author.Rules.{rules}
use Rattle.inner_header.proofs.writer.size.Goals as goal

-- a part that is within the limit
within : (n : ℕ) (b : Bool) → b ≡ leb n payload_limit → b ≡ true → n < 2 ^ 31
within n b e t = let k = leb-true n payload_limit (sym e ∙ t) in omega (arith, payload_size)

-- .. and one that is over it
over : (n : ℕ) (b : Bool) → b ≡ leb n payload_limit → b ≡ false → payload_limit < n
over n b e t = leb-false n payload_limit (sym e ∙ t)

pub overflow_add-n : goal.overflow_add-n
overflow_add-n c =
    let a = c.args in
    let k = within a.key c.payload_fits.result c.payload_fits.ensures c.if-payload_fits.true in
    let l = within a.run c.payload_fits-then-payload_fits.result c.payload_fits-then-payload_fits.ensures c.if-payload_fits-2.true in
    let m = within a.document c.payload_fits-then-payload_fits-2.result c.payload_fits-then-payload_fits-2.ensures c.if-payload_fits-3.true in
    search rules

pub overflow_add-n-then-payload_fits-3 : goal.overflow_add-n-then-payload_fits-3
overflow_add-n-then-payload_fits-3 c =
    let a = c.args in
    let k = within a.key c.payload_fits.result c.payload_fits.ensures c.if-payload_fits.true in
    let l = within a.run c.payload_fits-then-payload_fits.result c.payload_fits-then-payload_fits.ensures c.if-payload_fits-2.true in
    let m = within a.document c.payload_fits-then-payload_fits-2.result c.payload_fits-then-payload_fits-2.ensures c.if-payload_fits-3.true in
    search rules

pub overflow_add-n-then-payload_fits-3-2 : goal.overflow_add-n-then-payload_fits-3-2
overflow_add-n-then-payload_fits-3-2 c =
    let a = c.args in
    let k = within a.key c.payload_fits.result c.payload_fits.ensures c.if-payload_fits.true in
    let l = within a.run c.payload_fits-then-payload_fits.result c.payload_fits-then-payload_fits.ensures c.if-payload_fits-2.true in
    let m = within a.document c.payload_fits-then-payload_fits-2.result c.payload_fits-then-payload_fits-2.ensures c.if-payload_fits-3.true in
    search rules

pub returns-then-n-room : goal.returns-then-n-room
unfolding sized
returns-then-n-room c = rw (sym c.payload_fits-then-payload_fits-3.ensures ∙ c.if-payload_fits-4.true, le-leb _ _ c.if-n-room.true)

pub returns-then-payload_fits-4 : goal.returns-then-payload_fits-4
unfolding sized
returns-then-payload_fits-4 c = rw (sym c.payload_fits-then-payload_fits-3.ensures ∙ c.if-payload_fits-4.true, lt-leb _ _ c.if-n-room.false)

pub returns-then-payload_fits-3 : goal.returns-then-payload_fits-3
unfolding sized
returns-then-payload_fits-3 c = rw (sym c.payload_fits-then-payload_fits-3.ensures ∙ c.if-payload_fits-4.false)

pub returns-then-payload_fits-2 : goal.returns-then-payload_fits-2
unfolding sized
returns-then-payload_fits-2 c =
    let a = c.args in
    let k = over a.document c.payload_fits-then-payload_fits-2.result c.payload_fits-then-payload_fits-2.ensures c.if-payload_fits-3.false in
    let l : payload_limit < 19 + a.key + a.run + a.document = omega arith in
    rw (lt-leb _ _ l)

pub returns-then-payload_fits : goal.returns-then-payload_fits
unfolding sized
returns-then-payload_fits c =
    let a = c.args in
    let k = over a.run c.payload_fits-then-payload_fits.result c.payload_fits-then-payload_fits.ensures c.if-payload_fits-2.false in
    let l : payload_limit < 19 + a.key + a.run + a.document = omega arith in
    rw (lt-leb _ _ l)

pub returns : goal.returns
unfolding sized
returns c =
    let a = c.args in
    let k = over a.key c.payload_fits.result c.payload_fits.ensures c.if-payload_fits.false in
    let l : payload_limit < 19 + a.key + a.run + a.document = omega arith in
    rw (lt-leb _ _ l)
