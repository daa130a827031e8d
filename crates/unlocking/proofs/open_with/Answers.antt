-- `unlocking::open_with` meets its contract. Assumes nothing.
use lib.ListN.{length}
use Rattle.unlocking.proofs.Laws.Opening.{with_is}
use Rattle.unlocking.proofs.open_with.Goals as goal

pub returns : goal.returns
returns g c =
    let a = c.args in
    let d = a.out.now in
    with_is a.h.kdf a.composite a.f.now d a.memory.now (length d) c.key_of-t.result _ _ _
    c.key_of-t.ensures.value c.key_of-t.ensures.memory_after c.open_under.ensures.value c.open_under.ensures.out_after
