-- `kdf_dictionary::is_complete` meets its contract. Assumes nothing.
use borrow.Author.Tests.{eq-eqb, ne_eqb}
use Rattle.kdf_dictionary.specs.KdfDictionary.{complete}
use Rattle.kdf_dictionary.proofs.is_complete.Goals as goal

pub returns-then-i-eq0 : goal.returns-then-i-eq0
unfolding complete
returns-then-i-eq0 c = rw (eq-eqb _ 0 c.if-i-eq0.true)

pub returns-then-i-eq0-2 : goal.returns-then-i-eq0-2
unfolding complete
returns-then-i-eq0-2 c =
    rw (
      ne_eqb _ 0 c.if-i-eq0.false,
      eq-eqb _ 0 c.if-i-eq0-2.true,
    )

pub returns-then-i-eq0-3 : goal.returns-then-i-eq0-3
unfolding complete
returns-then-i-eq0-3 c =
    rw (
      ne_eqb _ 0 c.if-i-eq0.false,
      ne_eqb _ 0 c.if-i-eq0-2.false,
      eq-eqb _ 0 c.if-i-eq0-3.true,
    )

pub returns-then-i-eq0-4 : goal.returns-then-i-eq0-4
unfolding complete
returns-then-i-eq0-4 c =
    rw (
      ne_eqb _ 0 c.if-i-eq0.false,
      ne_eqb _ 0 c.if-i-eq0-2.false,
      ne_eqb _ 0 c.if-i-eq0-3.false,
      eq-eqb _ 0 c.if-i-eq0-4.true,
    )

pub returns : goal.returns
unfolding complete
returns c =
    rw (
      ne_eqb _ 0 c.if-i-eq0.false,
      ne_eqb _ 0 c.if-i-eq0-2.false,
      ne_eqb _ 0 c.if-i-eq0-3.false,
      ne_eqb _ 0 c.if-i-eq0-4.false,
    )
