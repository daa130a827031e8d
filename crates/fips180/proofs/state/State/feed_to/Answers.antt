-- `fips180::state::State::feed_to` meets its contract. Assumes nothing.
use Rattle.std.proofs.Common.{◌≡◌, ◌+◌, ◌<◌, ◌≤◌, true, false, Ok, Err, length, map, refl, sym, ◌∙◌, arith, rules}
use Rattle.std.proofs.lemmas.List.{length-map}
use borrow.Author.Tests.{le-leb, lt-leb}
use Rattle.refusals.specs.declared.Refusal.TheVariants.{TooLong}
use Rattle.fips180.specs.Hashing.{feed_to}
use Rattle.fips180.specs.Lent.{fits, fed}
use Rattle.fips180.specs.State.{held, held_fed}
use Rattle.fips180.proofs.Laws.Lent.{fits-suits, fed_own}
use Rattle.fips180.proofs.state.State.feed_to.Goals as goal

pub absorb-next-requires : goal.absorb-next-requires
absorb-next-requires g c =
    let p = g.W.Word.sha2 in
    let a = c.args in
    let ks = map g.W.Word.number a.k.now in
    let e : fits p g.row.B (length ks) ≡ true =
    rw (length-map, c.told-k) (sym c.sizes_fit.ensures ∙ c.if-not-sizes_fit.false) in
    let is = fits-suits p g.row.B ks e in
    (search rules, (is.0, (is.1, omega arith)))

pub returns-then-not-sizes_fit : goal.returns-then-not-sizes_fit
unfolding fed
returns-then-not-sizes_fit g c =
    let p = g.W.Word.sha2 in
    let n = g.W.Word.number in
    let a = c.args in
    let ks = map n a.k.now in
    let e : fits p g.row.B (length ks) ≡ false =
    rw (length-map, c.told-k) (sym c.sizes_fit.ensures ∙ c.if-not-sizes_fit.true) in
    let any : held_fed n (record { outcome = Err TooLong; next = a.self }) ≡ fed p g.row.B ks a.limit (held n a.self) a.s.now =
    rw e refl in
    record { any = any; own = λ b k. any ∙ fed_own p g.met.W.Word.laws g.row.B ks b k a.limit (held n a.self) a.s.now }

pub returns-then-most-total : goal.returns-then-most-total
unfolding fed feed_to
returns-then-most-total g c =
    let p = g.W.Word.sha2 in
    let n = g.W.Word.number in
    let a = c.args in
    let ks = map n a.k.now in
    let e : fits p g.row.B (length ks) ≡ true = rw (length-map, c.told-k) (sym c.sizes_fit.ensures ∙ c.if-not-sizes_fit.false) in
    let over : a.limit < a.self.total + length a.s.now = omega arith in
    let any : held_fed n (record { outcome = Err TooLong; next = a.self }) ≡ fed p g.row.B ks a.limit (held n a.self) a.s.now =
    rw (e, lt-leb _ _ over) refl in
    record { any = any; own = λ b k. any ∙ fed_own p g.met.W.Word.laws g.row.B ks b k a.limit (held n a.self) a.s.now }

pub returns-then-most-total-2 : goal.returns-then-most-total-2
unfolding fed feed_to
returns-then-most-total-2 g c =
    let p = g.W.Word.sha2 in
    let n = g.W.Word.number in
    let a = c.args in
    let ks = map n a.k.now in
    let e : fits p g.row.B (length ks) ≡ true = rw (length-map, c.told-k) (sym c.sizes_fit.ensures ∙ c.if-not-sizes_fit.false) in
    let over : a.limit < a.self.total + length a.s.now = omega arith in
    let any : held_fed n (record { outcome = Err TooLong; next = a.self }) ≡ fed p g.row.B ks a.limit (held n a.self) a.s.now =
    rw (e, lt-leb _ _ over) refl in
    record { any = any; own = λ b k. any ∙ fed_own p g.met.W.Word.laws g.row.B ks b k a.limit (held n a.self) a.s.now }

pub returns : goal.returns
unfolding fed feed_to
returns g c =
    let p = g.W.Word.sha2 in
    let n = g.W.Word.number in
    let a = c.args in
    let ks = map n a.k.now in
    let e : fits p g.row.B (length ks) ≡ true =
    rw (length-map, c.told-k) (sym c.sizes_fit.ensures ∙ c.if-not-sizes_fit.false) in
    let few : a.self.total + length a.s.now ≤ a.limit = omega arith in
    let any : held_fed n (record { outcome = Ok tt; next = c.absorb-next.result }) ≡ fed p g.row.B ks a.limit (held n a.self) a.s.now =
    rw (e, le-leb _ _ few, c.absorb-next.ensures) refl in
    record { any = any; own = λ b k. any ∙ fed_own p g.met.W.Word.laws g.row.B ks b k a.limit (held n a.self) a.s.now }
