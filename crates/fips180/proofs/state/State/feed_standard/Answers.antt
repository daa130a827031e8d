-- `fips180::state::State::feed_standard` meets its contract. Assumes nothing.
use Rattle.std.proofs.Common.{◌+◌, ◌≤◌, ◌<◌, length, refl, arith}
use borrow.Author.Tests.{le-leb, lt-leb}
use Rattle.fips180.specs.Hashing.{feed_to}
use Rattle.fips180.proofs.Laws.Lent.{lending_own}
use Rattle.fips180.proofs.state.State.feed_standard.Goals as goal

pub returns-then-most-total : goal.returns-then-most-total
unfolding feed_to
returns-then-most-total g c =
    let a = c.args in
    let l : a.limit < a.self.total + length a.s.now = omega arith in
    rw (lt-leb _ _ l)

pub returns-then-most-total-2 : goal.returns-then-most-total-2
unfolding feed_to
returns-then-most-total-2 g c =
    let a = c.args in
    let l : a.limit < a.self.total + length a.s.now = omega arith in
    rw (lt-leb _ _ l)

pub returns : goal.returns
unfolding feed_to
returns g c =
    let a = c.args in
    let l : a.self.total + length a.s.now ≤ a.limit = omega arith in
    rw (le-leb _ _ l, c.absorb-next.ensures, lending_own g.W.Word.sha2) refl
