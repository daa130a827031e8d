-- `fips180::block::compress` meets its contract. Assumes nothing.
use Rattle.std.proofs.Common.{◌≡◌, ◌-◌, length, map, refl, ap, sym, ◌∙◌, rules}
use Rattle.std.proofs.lemmas.List.{length-map}
use Rattle.fips180.specs.Fips180.{block_words, grow, rounds, sums}
use Rattle.fips180.specs.Working.{words}
use Rattle.fips180.proofs.Laws.Eight.{sums_are}
use Rattle.fips180.proofs.Laws.Lent.{compress_lent}
use Rattle.fips180.proofs.block.compress.Goals as goal

pub returns : goal.returns
returns g c =
    let n = g.W.Word.number in
    let p = g.W.Word.sha2 in
    let s = words n c.args.h in
    let t = c.rounds-t.result in
    let ks = map n c.args.k.now in
    let block = c.args.block.now in
    let many : length c.args.k.now ≡ length ks = sym (length-map c.args.k.now n) in
    let long : length c.load.new.w ≡ length c.args.k.now = search rules in
    let scheduled : map n c.extend.new.w ≡ grow p (length ks - 16) (block_words p 16 block) =
    cc (c.extend.ensures, c.load.ensures, many) in
    let rounded : words n t ≡ rounds p ks (grow p (length ks - 16) (block_words p 16 block)) (length ks) s =
    cc (c.rounds-t.ensures, scheduled, many) in
    sums_are p.bits s (n t.a) (n t.b) (n t.c) (n t.d) (n t.e) (n t.f) (n t.g) (n t.h) refl c.plus.ensures
    c.plus-2.ensures c.plus-3.ensures c.plus-4.ensures c.plus-5.ensures c.plus-6.ensures c.plus-7.ensures
    c.plus-8.ensures
    ∙ ap (sums p.bits s) rounded
    ∙ sym (compress_lent ks p s block)
