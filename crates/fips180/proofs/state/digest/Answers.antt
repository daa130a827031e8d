-- `fips180::state::digest` meets its contract. Assumes nothing.
use Rattle.std.proofs.Common.{◌≡◌, ◌*◌, ◌/◌, length, map, sym, ap, ◌∙◌, arith, rules}
use Rattle.std.proofs.Math.Nat.{zero-mul}
use Rattle.std.proofs.Math.ListN.{length-replicate}
use Rattle.std.proofs.lemmas.List.{length-map}
use Rattle.words.specs.Endian.{be_bytes}
use Rattle.fips180.specs.Fips180.{digest}
use Rattle.fips180.proofs.Laws.Numbers.{get_or-numbers}
use Rattle.fips180.proofs.Laws.Digest.{digest-turn, digest_all}
use Rattle.fips180.proofs.state.digest.Goals as goal

pub loop-i-init : goal.loop-i-init
unfolding digest
loop-i-init g c = (length-replicate g.row.R 0 ∙ c.requires, rw zero-mul)

pub loop-i-preserved : goal.loop-i-preserved
loop-i-preserved g c =
    let p = g.W.Word.sha2 in
    let n = g.W.Word.number in
    let l = c.loop-i in
    let long : length c.args.c ≡ 8 = search rules in
    let size : g.row.R / 8 ≡ p.bytes = omega (arith, c.requires) in
    let read = sym c.index-c-i.is in
    let number = ap n read ∙ get_or-numbers n c.args.c l.i c.index-c-i.result (omega arith) c.index-c-i.is in
    digest-turn p (map n c.args.c) l.room l.i (g.row.R / 8) size (length-map c.args.c n ∙ long) l.invariant.0
    (omega arith) l.invariant.1 (ap (be_bytes p.bytes) number) c.write.ensures

pub returns : goal.returns
returns g c =
    let p = g.W.Word.sha2 in
    let n = g.W.Word.number in
    let l = c.loop-i in
    let long : length c.args.c ≡ 8 = search rules in
    let end : l.i ≡ 8 = omega arith in
    digest_all p (map n c.args.c) l.room l.i (8 * p.bytes) (omega (arith, length-map c.args.c n)) (omega arith)
    (ap (λ k. k * p.bytes) end) l.invariant.1
