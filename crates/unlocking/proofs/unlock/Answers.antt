-- `unlocking::unlock` meets its contract. Assumes nothing.
use mathlib.Core.Path.{ap}
use mathlib.Core.Bool.{not}
use lib.ListN.{length}
use Rattle.refusals.specs.Limits.{program_limit}
use Rattle.keys.specs.State.{credential}
use Rattle.unlocking.proofs.Laws.Opening.{within, beyond, unlocked_first, unlocked_second, unlocked_third, unlocked_within, shows_same, shows_said}
use Rattle.unlocking.proofs.unlock.Goals as goal

pub returns-then-not-is_within : goal.returns-then-not-is_within
unfolding program_limit
returns-then-not-is_within g c =
    let a = c.args in
    let p = credential a.password in
    let k = credential a.key_file in
    let d = a.out.now in
    shows_said _ _ d _ _
    (unlocked_first p k a.f.now d a.memory.now (length d)
    (beyond _ c.is_within.ensures (ap not c.if-not-is_within.true)))

pub returns-then-not-is_within-2 : goal.returns-then-not-is_within-2
unfolding program_limit
returns-then-not-is_within-2 g c =
    let a = c.args in
    let p = credential a.password in
    let k = credential a.key_file in
    let d = a.out.now in
    shows_said _ _ d _ _
    (unlocked_second p k a.f.now d a.memory.now (length d)
    (within _ c.is_within.ensures (ap not c.if-not-is_within.false))
    (beyond _ c.is_within-2.ensures (ap not c.if-not-is_within-2.true)))

pub returns-then-not-is_within-3 : goal.returns-then-not-is_within-3
unfolding program_limit
returns-then-not-is_within-3 g c =
    let a = c.args in
    let p = credential a.password in
    let k = credential a.key_file in
    let d = a.out.now in
    shows_said _ _ d _ _
    (unlocked_third p k a.f.now d a.memory.now (length d)
    (within _ c.is_within.ensures (ap not c.if-not-is_within.false))
    (within _ c.is_within-2.ensures (ap not c.if-not-is_within-2.false))
    (beyond _ c.is_within-3.ensures (ap not c.if-not-is_within-3.true)))

pub returns : goal.returns
unfolding program_limit
returns g c =
    let a = c.args in
    let p = credential a.password in
    let k = credential a.key_file in
    let d = a.out.now in
    shows_said _ _ d _ _
    (shows_same _ _ d _ _ _ c.open_as.ensures
    (unlocked_within p k a.f.now d a.memory.now (length d)
    (within _ c.is_within.ensures (ap not c.if-not-is_within.false))
    (within _ c.is_within-2.ensures (ap not c.if-not-is_within-2.false))
    (within _ c.is_within-3.ensures (ap not c.if-not-is_within-3.false))))
