-- `unlocking::key::by_argon2` meets its contract. Assumes nothing.
use Rattle.unlocking.proofs.Laws.Key.{argon2_ran}
use Rattle.unlocking.proofs.key.by_argon2.Goals as goal

pub returns : goal.returns
returns g c =
    let a = c.args in
    argon2_ran a.kind a.a a.composite a.f.now _ a.memory.now c.part.ensures _ _
    c.transform.ensures.value c.transform.ensures.memory_after
