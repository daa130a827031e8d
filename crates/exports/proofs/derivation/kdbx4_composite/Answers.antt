-- `exports::derivation::kdbx4_composite` meets its contract. Assumes nothing.
use mathlib.Core.Path.{◌≡◌, refl, sym, ◌∙◌}
use Rattle.keys.specs.Kdbx4Keys.{composite}
use Rattle.exports.specs.Lent.{credential}
use Rattle.exports.proofs.derivation.kdbx4_composite.Goals as goal

pub returns-in-Ok : goal.returns-in-Ok
returns-in-Ok c =
    let a = c.args in
    let e : c.composite.result ≡ composite (credential a.has_password a.password.now)
    (credential a.has_key_file a.key_file.now) (credential a.has_pre_hash a.pre_hash.now) =
    cc (c.composite.ensures, c.given.ensures, c.given-2.ensures, c.given-3.ensures) in
    rw (sym (sym c.in-Ok.is ∙ e)) (record { value = refl; out_after = refl })

pub returns-in-Err : goal.returns-in-Err
returns-in-Err c =
    let a = c.args in
    let e : c.composite.result ≡ composite (credential a.has_password a.password.now)
    (credential a.has_key_file a.key_file.now) (credential a.has_pre_hash a.pre_hash.now) =
    cc (c.composite.ensures, c.given.ensures, c.given-2.ensures, c.given-3.ensures) in
    rw (sym (sym c.in-Err.is ∙ e)) (record { value = c.number.ensures; out_after = refl })
