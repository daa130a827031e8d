-- `refusals::limits::stretch_fits` meets its contract: the sum is held to the limit, without making it. Assumes nothing.
use mathlib.Core.Path.{◌≡◌, sym, ◌∙◌}
use Prim.Native.Nat.{ℕ, ◌+◌, ◌-◌, ◌≤◌, ◌<◌}
use native.Mathlib.Omega.{arith}
use lib.Dec.{leb}
use borrow.Author.Tests.{leb-true, leb-false, le-leb, lt-leb}
use Rattle.words.proofs.Laws.Cases.{by_bool}
use Rattle.refusals.specs.Limits.{stream_limit}
use Rattle.refusals.proofs.limits.stretch_fits.Goals as goal

leb-sub : (n position most : ℕ) → position ≤ most → leb n (most - position) ≡ leb (position + n) most
leb-sub n position most h =
    by_bool (leb n (most - position))
    (λ t.
    let k = leb-true n (most - position) t in
    let l : position + n ≤ most = omega arith in
    t ∙ sym (le-leb (position + n) most l))
    (λ t.
    let k = leb-false n (most - position) t in
    let l : most < position + n = omega arith in
    t ∙ sym (lt-leb (position + n) most l))

pub returns-then-position-gt-STREAM_LIMIT : goal.returns-then-position-gt-STREAM_LIMIT
unfolding stream_limit
returns-then-position-gt-STREAM_LIMIT c =
    let a = c.args in
    let h : 4_194_304 < a.position + a.n = omega arith in
    sym (lt-leb (a.position + a.n) 4_194_304 h)

pub returns : goal.returns
unfolding stream_limit
returns c =
    let a = c.args in
    leb-sub a.n a.position 4_194_304 c.if-position-gt-STREAM_LIMIT.false
