-- `exports::derivation::kdbx4_argon2` meets its contract. Assumes nothing.
use mathlib.Core.Path.{refl}
use borrow.Author.Tests.{eq-eqb, ne_eqb}
use Rattle.argon2.specs.Run.{left}
use Rattle.exports.proofs.derivation.kdbx4_argon2.Goals as goal

pub returns-then-kdf-eq1 : goal.returns-then-kdf-eq1
returns-then-kdf-eq1 c =
    rw (eq-eqb c.args.kdf 1 c.if-kdf-eq1.true) c.run_argon2.ensures

pub returns-then-kdf-eq2 : goal.returns-then-kdf-eq2
returns-then-kdf-eq2 c =
    let kdf = c.args.kdf in
    rw (ne_eqb kdf 1 c.if-kdf-eq1.false, eq-eqb kdf 2 c.if-kdf-eq2.true) c.run_argon2-then-kdf-eq2.ensures

pub returns : goal.returns
unfolding left
returns c =
    let kdf = c.args.kdf in
    rw (ne_eqb kdf 1 c.if-kdf-eq1.false, ne_eqb kdf 2 c.if-kdf-eq2.false) (record { value = c.number.ensures; words_after = refl; out_after = refl })
