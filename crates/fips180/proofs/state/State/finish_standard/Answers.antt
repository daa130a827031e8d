-- `fips180::state::State::finish_standard` meets its contract. Assumes nothing.
use Rattle.fips180.proofs.Laws.Lent.{lending_own}
use Rattle.fips180.proofs.state.State.finish_standard.Goals as goal

pub returns : goal.returns
returns g c = rw (lending_own g.W.Word.sha2) at c.finish_by.ensures
