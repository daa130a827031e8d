-- `keys::from_parts` meets its contract. Assumes nothing.
use native.Mathlib.Omega.{arith}
use Rattle.refusals.specs.Limits.{message_limit}
use Rattle.refusals.proofs.Laws.Limits.{message_blocks}
use Rattle.keys.specs.Kdbx4Keys.{composite_of}
use Rattle.keys.proofs.from_parts.Goals as goal

pub hash_of-requires-in-Some-None-None-2 : goal.hash_of-requires-in-Some-None-None-2
hash_of-requires-in-Some-None-None-2 c = omega (arith, message_blocks)

pub hash_of-requires-in-None-Some-None : goal.hash_of-requires-in-None-Some-None
hash_of-requires-in-None-Some-None c = omega (arith, message_blocks)

pub returns-in-Some-Some-None : goal.returns-in-Some-Some-None
unfolding composite_of
returns-in-Some-Some-None c =
    let s = c.in-Some-Some-None in
    rw (s.is-0, s.is-1, s.is-2, c.hash_two.ensures, c.hash_of.ensures, c.key_file_part.ensures)

pub returns-in-Some-None-None : goal.returns-in-Some-None-None
unfolding composite_of
returns-in-Some-None-None c =
    let s = c.in-Some-None-None in
    rw (s.is-0, s.is-1, s.is-2, c.hash_of-in-Some-None-None-2.ensures, c.hash_of-in-Some-None-None.ensures)

pub returns-in-None-Some-None : goal.returns-in-None-Some-None
unfolding composite_of
returns-in-None-Some-None c =
    let s = c.in-None-Some-None in
    rw (s.is-0, s.is-1, s.is-2, c.hash_of-in-None-Some-None.ensures, c.key_file_part-in-None-Some-None.ensures)

pub returns-in_default : goal.returns-in_default
unfolding composite_of
returns-in_default c = rw (c.in_default.is-0, c.in_default.is-1, c.in_default.is-2)

pub returns-in_default-2 : goal.returns-in_default-2
unfolding composite_of
returns-in_default-2 c = rw (c.in_default.is-0, c.in_default.is-1, c.in_default.is-2)

pub returns-in_default-3 : goal.returns-in_default-3
unfolding composite_of
returns-in_default-3 c = rw (c.in_default.is-0, c.in_default.is-1, c.in_default.is-2)

pub returns-in_default-4 : goal.returns-in_default-4
unfolding composite_of
returns-in_default-4 c = rw (c.in_default.is-0, c.in_default.is-1, c.in_default.is-2)
