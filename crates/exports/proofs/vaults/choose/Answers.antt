-- `exports::vaults::choose` meets its contract. Assumes nothing.
use borrow.Author.Tests.{eq-eqb, ne_eqb}
use Rattle.exports.proofs.vaults.choose.Goals as goal

pub returns-then-kdf-eq0 : goal.returns-then-kdf-eq0
returns-then-kdf-eq0 c = let kdf = c.args.kdf in rw (eq-eqb kdf 0 c.if-kdf-eq0.true)

pub returns-then-kdf-eq1 : goal.returns-then-kdf-eq1
returns-then-kdf-eq1 c =
    let kdf = c.args.kdf in
    rw (ne_eqb kdf 0 c.if-kdf-eq0.false, eq-eqb kdf 1 c.if-kdf-eq1.true)

pub returns-then-kdf-eq2 : goal.returns-then-kdf-eq2
returns-then-kdf-eq2 c =
    let kdf = c.args.kdf in
    rw (
      ne_eqb kdf 0 c.if-kdf-eq0.false,
      ne_eqb kdf 1 c.if-kdf-eq1.false,
      eq-eqb kdf 2 c.if-kdf-eq2.true,
    )

pub returns : goal.returns
returns c =
    let kdf = c.args.kdf in
    rw (
      ne_eqb kdf 0 c.if-kdf-eq0.false,
      ne_eqb kdf 1 c.if-kdf-eq1.false,
      ne_eqb kdf 2 c.if-kdf-eq2.false,
    )
