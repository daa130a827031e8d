-- `exports::encryption::kdbx4_aes256_cbc_encrypt` meets its contract. Assumes nothing.
use mathlib.Core.Path.{ap, ◌∙◌}
use mathlib.Core.List.{List}
use Prim.Native.Nat.{ℕ}
use Rattle.slices.specs.Over.{over}
use Rattle.fips197.specs.Fips197.{cipher}
use Rattle.cbc.specs.Sp80038a.{encrypt}
use Rattle.exports.proofs.encryption.kdbx4_aes256_cbc_encrypt.Goals as goal

pub returns : goal.returns
returns c =
    let a = c.args in
    let d = a.out.now in
    let v = a.iv.now in
    let expand = c.expand-keys.ensures in
    c.encrypt_cbc.ensures.out_after ∙ ap (λ (w : List ℕ). over (encrypt (λ s. cipher s w) v d) d) expand
