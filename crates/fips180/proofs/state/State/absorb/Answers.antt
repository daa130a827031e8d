-- `fips180::state::State::absorb` meets its contract. Assumes nothing.
use Rattle.std.proofs.Common.{◌≡◌, ◌-◌, ◌%◌, length, refl, sym, ◌∙◌, arith, rules}
use Rattle.fips180.specs.Fips180.{block_bytes}
use Rattle.fips180.specs.Lent.{lending}
use Rattle.fips180.specs.State.{held}
use Rattle.fips180.proofs.Laws.Lent.{lent_is_blocked}
use Rattle.fips180.proofs.Laws.States.{absorbed_few, absorbed_many}
use Rattle.fips180.proofs.state.State.absorb.Goals as goal

pub returns-then-n-need : goal.returns-then-n-need
returns-then-n-need g c =
    let ks = g.K.Constants.numbers c.args.k.now in
    let laws = g.met.W.Word.laws in
    let is = lent_is_blocked ks g.W.Word.sha2 laws c.requires.suits in
    let p = lending ks g.W.Word.sha2 in
    let h = held g.W.Word.number c.args.self in
    let block : g.row.B ≡ block_bytes p = c.requires.block ∙ sym laws.bytes ∙ is.bytes in
    let long : length c.args.self.buffer ≡ g.row.B = search rules in
    absorbed_few p (omega (arith, is.least)) h c.args.s.now g.row.B block long (g.row.B - c.args.self.total % g.row.B) refl
    c.copy.ensures c.if-n-need.true

pub returns : goal.returns
returns g c =
    let ks = g.K.Constants.numbers c.args.k.now in
    let laws = g.met.W.Word.laws in
    let is = lent_is_blocked ks g.W.Word.sha2 laws c.requires.suits in
    let p = lending ks g.W.Word.sha2 in
    let h = held g.W.Word.number c.args.self in
    let block : g.row.B ≡ block_bytes p = c.requires.block ∙ sym laws.bytes ∙ is.bytes in
    let long : length c.args.self.buffer ≡ g.row.B = search rules in
    absorbed_many p (omega (arith, is.least)) h c.args.s.now g.row.B block long (g.row.B - c.args.self.total % g.row.B) refl
    c.copy.ensures _ c.if-n-need.false c.hash_blocks-c.ensures c.hash_blocks-d.ensures refl c.copy-2.ensures
