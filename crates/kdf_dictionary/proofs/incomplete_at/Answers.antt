-- `kdf_dictionary::incomplete_at` meets its contract. Assumes nothing.
use borrow.Author.Tests.{eq-eqb, ne_eqb}
use Rattle.kdf_dictionary.specs.KdfDictionary.{incomplete}
use Rattle.kdf_dictionary.proofs.incomplete_at.Goals as goal

pub returns-then-i-eq0 : goal.returns-then-i-eq0
unfolding incomplete
returns-then-i-eq0 c = rw (eq-eqb _ 0 c.if-i-eq0.true) c.fault_at.ensures

pub returns-then-i-eq0-2 : goal.returns-then-i-eq0-2
unfolding incomplete
returns-then-i-eq0-2 c = rw (ne_eqb _ 0 c.if-i-eq0.false, eq-eqb _ 0 c.if-i-eq0-2.true) c.fault_at-then-i-eq0-2.ensures

pub returns-then-i-eq0-3 : goal.returns-then-i-eq0-3
unfolding incomplete
returns-then-i-eq0-3 c = rw (ne_eqb _ 0 c.if-i-eq0.false, ne_eqb _ 0 c.if-i-eq0-2.false, eq-eqb _ 0 c.if-i-eq0-3.true) c.fault_at-then-i-eq0-3.ensures

pub returns-then-i-eq0-4 : goal.returns-then-i-eq0-4
unfolding incomplete
returns-then-i-eq0-4 c = rw (ne_eqb _ 0 c.if-i-eq0.false, ne_eqb _ 0 c.if-i-eq0-2.false, ne_eqb _ 0 c.if-i-eq0-3.false, eq-eqb _ 0 c.if-i-eq0-4.true) c.fault_at-then-i-eq0-4.ensures

pub returns : goal.returns
unfolding incomplete
returns c = rw (ne_eqb _ 0 c.if-i-eq0.false, ne_eqb _ 0 c.if-i-eq0-2.false, ne_eqb _ 0 c.if-i-eq0-3.false, ne_eqb _ 0 c.if-i-eq0-4.false) c.fault_at-2.ensures
