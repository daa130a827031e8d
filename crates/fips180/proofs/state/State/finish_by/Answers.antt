-- `fips180::state::State::finish_by` meets its contract. Assumes nothing.
use Rattle.std.proofs.Common.{◌≡◌, ap, sym, ◌∙◌, length, map, arith, rules}
use Rattle.fips180.specs.Fips180.{block_bytes, digest}
use Rattle.fips180.specs.Hashing.{finish}
use Rattle.fips180.specs.Lent.{lending}
use Rattle.fips180.specs.State.{held}
use Rattle.fips180.proofs.Laws.Last as last
use Rattle.fips180.proofs.Laws.Lent.{lent_is_blocked, digest_lent}
use Rattle.fips180.proofs.state.State.finish_by.Goals as goal

pub whole_as_slice-room : goal.whole_as_slice-room
whole_as_slice-room g c = omega (arith, g.met.W.Word.laws.most, c.requires.block, c.requires.two)

pub slice_bounds-copy-count : goal.slice_bounds-copy-count
slice_bounds-copy-count g c =
    let ks = g.K.Constants.numbers c.args.k.now in
    let laws = g.met.W.Word.laws in
    let is = lent_is_blocked ks g.W.Word.sha2 laws c.requires.suits in
    let p = lending ks g.W.Word.sha2 in
    let h = held g.W.Word.number c.args.self in
    let block : g.row.B ≡ block_bytes p = c.requires.block ∙ sym laws.bytes ∙ is.bytes in
    let long : length c.args.self.buffer ≡ g.row.B = search rules in
    last.at_fits p is.least h g.row.B block long g.row.D c.requires.two c.copy.ensures

pub slice_bounds-copy-start : goal.slice_bounds-copy-start
slice_bounds-copy-start g c =
    let ks = g.K.Constants.numbers c.args.k.now in
    let laws = g.met.W.Word.laws in
    let is = lent_is_blocked ks g.W.Word.sha2 laws c.requires.suits in
    let p = lending ks g.W.Word.sha2 in
    let h = held g.W.Word.number c.args.self in
    let block : g.row.B ≡ block_bytes p = c.requires.block ∙ sym laws.bytes ∙ is.bytes in
    let long : length c.args.self.buffer ≡ g.row.B = search rules in
    last.at_fits p is.least h g.row.B block long g.row.D c.requires.two c.copy.ensures

pub slice_bounds-hash_blocks-end : goal.slice_bounds-hash_blocks-end
slice_bounds-hash_blocks-end g c =
    let ks = g.K.Constants.numbers c.args.k.now in
    let laws = g.met.W.Word.laws in
    let is = lent_is_blocked ks g.W.Word.sha2 laws c.requires.suits in
    let p = lending ks g.W.Word.sha2 in
    let h = held g.W.Word.number c.args.self in
    let block : g.row.B ≡ block_bytes p = c.requires.block ∙ sym laws.bytes ∙ is.bytes in
    let long : length c.args.self.buffer ≡ g.row.B = search rules in
    last.length_last p is.least h g.row.B block long g.row.D c.requires.two c.copy.ensures c.bytes64-bits.ensures
    c.copy-2.ensures

pub returns : goal.returns
unfolding finish
returns g c =
    let ks = g.K.Constants.numbers c.args.k.now in
    let laws = g.met.W.Word.laws in
    let is = lent_is_blocked ks g.W.Word.sha2 laws c.requires.suits in
    let p = lending ks g.W.Word.sha2 in
    let h = held g.W.Word.number c.args.self in
    let block : g.row.B ≡ block_bytes p = c.requires.block ∙ sym laws.bytes ∙ is.bytes in
    let long : length c.args.self.buffer ≡ g.row.B = search rules in
    c.digest.ensures
    ∙ sym (digest_lent ks g.W.Word.sha2 (map g.W.Word.number c.words.result))
    ∙ ap (digest p) (last.close_is p is.least h g.row.B block long g.row.D c.requires.two c.copy.ensures
    c.bytes64-bits.ensures c.copy-2.ensures (omega arith) (c.words.ensures ∙ c.hash_blocks.ensures))
