-- `writer::write_sums` meets its contract. Assumes nothing.
use mathlib.Core.Path.{◌≡◌, refl, sym, ap, ◌∙◌}
use Prim.Native.Nat.{◌≤◌}
use native.Mathlib.Omega.{arith}
use lib.ListN.{length, take}
use lib.Seq.{length-take-le}
use Rattle.refusals.specs.Limits.{message_limit}
use Rattle.fips180.specs.Fips180.{sha256}
use Rattle.fips180.proofs.Laws.Feeds.{hashed-digest}
use Rattle.sha256.specs.declared.Hashed.{Hashed}
use Rattle.vault_keys.specs.VaultKeys.{header_hash}
use Rattle.vault_keys.proofs.Laws.{length-header_hash, answered_tag_within}
use Rattle.writer.proofs.Laws.Laying.{sums-laid}
use borrow.Author.Rules.{rules}
use Rattle.writer.proofs.write_sums.Goals as goal

pub slice_bounds-hash-end-2 : goal.slice_bounds-hash-end-2
slice_bounds-hash-end-2 c =
    sym (length-take-le c.args.h c.args.out.now (omega arith))

pub slice_bounds-header_tag-end-2 : goal.slice_bounds-header_tag-end-2
slice_bounds-header_tag-end-2 c =
    sym (length-take-le c.args.h c.args.out.now (omega arith))

pub returns : goal.returns
returns c =
    let d = c.args.out.now in
    let h = c.args.h in
    let m = take h d in
    let f : length m ≡ h = length-take-le h d (omega arith) in
    let l : length m ≤ message_limit = omega arith in
    let sum = c.hash.result.digest in
    let tag = c.header_tag-tag.result in
    let lt : length tag ≡ 32 = search rules in
    let es : sum ≡ header_hash m = ap (λ (x : Hashed). x.digest) c.hash.ensures ∙ hashed-digest sha256 m l in
    let ls : length sum ≡ 32 = ap length es ∙ length-header_hash m in
    sums-laid c.args.base d m _ _ sum tag h refl (omega arith) ls lt es
    (c.header_tag-tag.ensures ∙ answered_tag_within c.args.base m l)
    c.put.ensures c.put-2.ensures
