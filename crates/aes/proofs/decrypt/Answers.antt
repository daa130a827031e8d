-- `aes::decrypt` meets its contract. Assumes nothing.
use mathlib.Core.Path.{ap₂, ◌∙◌}
use Rattle.fips197.specs.Fips197.{eq_inv_cipher}
use Rattle.fips197.proofs.Laws.Equivalent.{eq_inv_cipher-dual}
use Rattle.aes_tables.proofs.Laws.Entries.{mixed-inverse}
use Rattle.aes.proofs.Laws.Tabled.{columns-block, eq_inv_cipher_by-td, dual_by-td}
use Rattle.aes.proofs.decrypt.Goals as goal

pub returns : goal.returns
returns c =
    let inverse = c.inverse-inverse.ensures in
    let td = c.td-td.ensures ∙ mixed-inverse inverse in
    let w = c.args.keys.words in
    let dual = c.dual-dual.ensures ∙ dual_by-td c.te-te.ensures td w in
    let x = c.load.result in
    c.store.ensures ∙ c.decrypt-x.ensures
    ∙ eq_inv_cipher_by-td inverse td _ _ (columns-block x.a x.b x.c x.d) ∙ ap₂ eq_inv_cipher c.load.ensures dual
    ∙ eq_inv_cipher-dual _ w
