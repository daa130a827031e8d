-- `exports::encryption::kdbx4_aes256_cbc_decrypt` meets its contract. Assumes nothing.
use mathlib.Core.Path.{ap, ◌∙◌}
use mathlib.Core.List.{List}
use Prim.Native.Nat.{ℕ}
use Rattle.slices.specs.Over.{over}
use Rattle.fips197.specs.Fips197.{inv_cipher}
use Rattle.cbc.specs.Sp80038a.{decrypt}
use Rattle.exports.proofs.encryption.kdbx4_aes256_cbc_decrypt.Goals as goal

pub returns : goal.returns
returns c =
    let a = c.args in
    let d = a.out.now in
    let v = a.iv.now in
    let expand = c.expand-keys.ensures in
    c.decrypt_cbc.ensures.out_after ∙ ap (λ (w : List ℕ). over (decrypt (λ s. inv_cipher s w) v d) d) expand
