-- `fips180::state::State::finish` meets its contract. Assumes nothing.
use Rattle.std.proofs.Common.{◌≡◌, ◌*◌, true, false, length, map, replicate, refl, sym, ◌∙◌, arith, rules}
use Rattle.std.proofs.lemmas.List.{length-map}
use borrow.Author.Tests.{eq-eqb, ne_eqb}
use Rattle.fips180.specs.Lent.{fits, finished}
use Rattle.fips180.specs.State.{held}
use Rattle.fips180.proofs.Laws.Lent.{fits-suits, finished_own}
use Rattle.fips180.proofs.state.State.finish.Goals as goal

pub finish_by-requires : goal.finish_by-requires
finish_by-requires g c =
    let p = g.W.Word.sha2 in
    let ks = map g.W.Word.number c.args.k.now in
    let e : fits p g.row.B (length ks) ≡ true = rw (length-map, c.told-k) (sym c.sizes_fit.ensures ∙ c.if-sizes_fit.true) in
    let is = fits-suits p g.row.B ks e in
    (search rules, (search rules, (is.0, (is.1, (c.if-this.true, omega (arith, is.0, c.if-this-2.true))))))

pub returns-then-this-2 : goal.returns-then-this-2
unfolding finished
returns-then-this-2 g c =
    let p = g.W.Word.sha2 in
    let n = g.W.Word.number in
    let h = held n c.args.self in
    let ks = map n c.args.k.now in
    let e : fits p g.row.B (length ks) ≡ true = rw (length-map, c.told-k) (sym c.sizes_fit.ensures ∙ c.if-sizes_fit.true) in
    let is = fits-suits p g.row.B ks e in
    let any : c.finish_by.result ≡ finished p g.row.B g.row.D g.row.R ks h = rw (
      e,
      eq-eqb g.row.D (2 * g.row.B) c.if-this.true,
      eq-eqb g.row.R (8 * p.bytes) (omega (arith, is.0, c.if-this-2.true)),
    ) c.finish_by.ensures in
    record { any = any; own = λ b d r k. any ∙ finished_own p g.met.W.Word.laws g.row.B ks b k g.row.D g.row.R h d r }

pub returns-else-this-2 : goal.returns-else-this-2
unfolding finished
returns-else-this-2 g c =
    let p = g.W.Word.sha2 in
    let n = g.W.Word.number in
    let h = held n c.args.self in
    let ks = map n c.args.k.now in
    let e : fits p g.row.B (length ks) ≡ true = rw (length-map, c.told-k) (sym c.sizes_fit.ensures ∙ c.if-sizes_fit.true) in
    let is = fits-suits p g.row.B ks e in
    let any : replicate g.row.R 0 ≡ finished p g.row.B g.row.D g.row.R ks h =
    rw (
      e,
      eq-eqb g.row.D (2 * g.row.B) c.if-this.true,
      ne_eqb g.row.R (8 * p.bytes) (λ r. c.if-this-2.false (omega (arith, is.0, r))),
    ) refl in
    record { any = any; own = λ b d r k. any ∙ finished_own p g.met.W.Word.laws g.row.B ks b k g.row.D g.row.R h d r }

pub returns-else-this : goal.returns-else-this
unfolding finished
returns-else-this g c =
    let p = g.W.Word.sha2 in
    let n = g.W.Word.number in
    let h = held n c.args.self in
    let ks = map n c.args.k.now in
    let e : fits p g.row.B (length ks) ≡ true = rw (length-map, c.told-k) (sym c.sizes_fit.ensures ∙ c.if-sizes_fit.true) in
    let any : replicate g.row.R 0 ≡ finished p g.row.B g.row.D g.row.R ks h =
    rw (e, ne_eqb g.row.D (2 * g.row.B) c.if-this.false) refl in
    record { any = any; own = λ b d r k. any ∙ finished_own p g.met.W.Word.laws g.row.B ks b k g.row.D g.row.R h d r }

pub returns-else-sizes_fit : goal.returns-else-sizes_fit
unfolding finished
returns-else-sizes_fit g c =
    let p = g.W.Word.sha2 in
    let n = g.W.Word.number in
    let h = held n c.args.self in
    let ks = map n c.args.k.now in
    let e : fits p g.row.B (length ks) ≡ false = rw (length-map, c.told-k) (sym c.sizes_fit.ensures ∙ c.if-sizes_fit.false) in
    let any : replicate g.row.R 0 ≡ finished p g.row.B g.row.D g.row.R ks h =
    rw e refl in
    record { any = any; own = λ b d r k. any ∙ finished_own p g.met.W.Word.laws g.row.B ks b k g.row.D g.row.R h d r }
