-- `dictionary::table::add` meets its contract. Assumes nothing.
use native.Mathlib.Omega.{arith}
use Prim.Native.Nat.{◌+◌}
use Rattle.dictionary.specs.Order.{key_at, held, Added}
use Rattle.dictionary.proofs.Laws.Table.{located_held, located_free, length-held, held_added}
use Rattle.dictionary.proofs.table.add.Goals as goal

pub locate-requires : goal.locate-requires
locate-requires c =
    record {
      n_in_bounds = omega arith;
      base_in_bounds = omega arith;
      at_in_bounds = omega arith;
      rising = c.requires.rising;
    }

pub returns-in-Held : goal.returns-in-Held
unfolding Added
returns-in-Held c =
    let a = c.args in
    located_held (held a.s.now a.base a.n a.t.now) (key_at a.s.now (a.base + a.place))
    c.locate.result
    c.locate.ensures c.in-Held.is

pub insert-requires : goal.insert-requires
insert-requires c =
    let a = c.args in
    let f =
    located_free (held a.s.now a.base a.n a.t.now) (key_at a.s.now (a.base + a.place))
    c.in-Free.j c.locate.result
    c.locate.ensures c.in-Free.is in
    let n = length-held a.s.now a.base a.n a.t.now (omega arith) in
    let w = f.within in
    record {
      n_in_bounds = omega arith;
      j_le_n = omega arith;
    }

pub returns-in-Free : goal.returns-in-Free
returns-in-Free c =
    let a = c.args in
    let f =
    located_free (held a.s.now a.base a.n a.t.now) (key_at a.s.now (a.base + a.place))
    c.in-Free.j c.locate.result
    c.locate.ensures c.in-Free.is in
    held_added a.s.now a.base a.n a.t.now (omega arith) c.in-Free.j a.place
    c.insert.new.t
    c.requires.rising f c.insert.ensures
