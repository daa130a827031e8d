-- `opener::last_piece` meets its contract. Assumes nothing.
use mathlib.Core.Path.{◌≡◌, ◌∙◌}
use Prim.Native.Nat.{◌*◌, ◌/◌, ◌≤◌}
use native.Mathlib.Omega.{arith}
use lib.ListN.{length}
use Rattle.slices.proofs.Laws.Over.{over_all}
use Rattle.fips197.specs.Fips197.{inv_cipher}
use Rattle.cbc.proofs.Laws.Mode.{length-decrypt}
use Rattle.aes_cbc.specs.Aes256Cbc.{decrypt}
use Rattle.aes_cbc.proofs.RoundTrip.{inv_cipher-keeps}
use borrow.Author.Rules.{rules}
use Rattle.opener.proofs.last_piece.Goals as goal

pub returns : goal.returns
returns c =
    let long_prev : length c.args.prev ≡ 16 = search rules in
    let long_held : length c.args.held ≡ 16 = search rules in
    let a = c.args in
    let w = a.keys.words in
    let lx : length a.held ≡ 16 = long_held in
    let n : length (decrypt w a.prev a.held) ≡ 16 * (length a.held / 16) =
    length-decrypt (λ y. inv_cipher y w) (inv_cipher-keeps w) a.prev long_prev a.held in
    let l : length a.held ≤ length (decrypt w a.prev a.held) = omega (arith, n, lx) in
    c.decrypt_cbc.ensures.out_after ∙ over_all (decrypt w a.prev a.held) a.held l
