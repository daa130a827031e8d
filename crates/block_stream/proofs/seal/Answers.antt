-- `block_stream::seal` meets its contract. Assumes nothing.
use mathlib.Core.Path.{◌≡◌, refl, sym, ◌∙◌}
use mathlib.Core.List.{List}
use Prim.Native.Nat.{ℕ, ◌+◌, ◌-◌, ◌≤◌}
use native.Mathlib.Omega.{arith}
use lib.ListN.{length, take, length-take}
use borrow.Author.Tests.{leb-true, leb-false}
use Rattle.refusals.specs.Limits.{file_limit}
use Rattle.refusals.proofs.Laws.Limits.{file_size}
use Rattle.slices.proofs.Laws.Over.{over_behind_fits}
use Rattle.block_stream.proofs.Laws.Sealed.{sealed_is, sealed_short, sealed_long}
use borrow.Author.Rules.{rules}
use Rattle.block_stream.proofs.seal.Goals as goal

within : (n : ℕ) (s : List ℕ) (m : ℕ) → n ≤ m → length (take n s) ≤ m
within n s m h = omega (arith, length-take n s)

pub returns-then-out-lt36 : goal.returns-then-out-lt36
returns-then-out-lt36 c =
    sym (sealed_short c.args.base c.args.out.now c.args.number c.args.n (omega arith))

pub overflow_cast-n : goal.overflow_cast-n
overflow_cast-n c =
    let n = c.args.n in
    let l : n ≤ file_limit = leb-true _ _ (sym c.file_fits.ensures ∙ c.if-file_fits.true) in
    omega (arith, l, file_size)

pub tag_of-t-requires : goal.tag_of-t-requires
tag_of-t-requires c =
    let n = c.args.n in
    let l : n ≤ file_limit = leb-true _ _ (sym c.file_fits.ensures
    ∙ c.if-file_fits.true) in
    within (36 + n - 32) _ (file_limit + 4) (omega arith)

pub returns-then-file_fits : goal.returns-then-file_fits
returns-then-file_fits c =
    let s = c.args.out.now in
    let n = c.args.n in
    let z = c.bytes32-size.result in
    let t = c.tag_of-t.result in
    let l : n ≤ file_limit = leb-true _ _ (sym c.file_fits.ensures ∙ c.if-file_fits.true) in
    let lz : length z ≡ 4 = search rules in
    let lt : length t ≡ 32 = search rules in
    let x = over_behind_fits z s _ 32 (length s - 32) (omega arith) refl c.copy.ensures in
    c.copy-then-file_fits.ensures
    ∙ sealed_is c.args.base s _ z t c.args.number n (omega arith) l lz c.bytes32-size.ensures x lt
    c.tag_of-t.ensures

pub returns-then-n-out : goal.returns-then-n-out
returns-then-n-out c =
    let l = leb-false _ _ (sym c.file_fits.ensures ∙ c.if-file_fits.false) in
    sym (sealed_long c.args.base c.args.out.now c.args.number c.args.n (omega arith) l)

pub returns : goal.returns
returns c =
    sym (sealed_short c.args.base c.args.out.now c.args.number c.args.n (omega arith))
