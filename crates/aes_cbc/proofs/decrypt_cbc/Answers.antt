-- `aes_cbc::decrypt_cbc` meets its contract. Assumes nothing.
use mathlib.Core.Path.{ap, ap₂, ◌∙◌}
use mathlib.Core.List.{List}
use Prim.Native.Nat.{ℕ}
use Rattle.slices.specs.Over.{over}
use Rattle.fips197.specs.Fips197.{inv_cipher}
use Rattle.fips197.proofs.Laws.Equivalent.{eq_inv_cipher-dual}
use Rattle.aes_tables.proofs.Laws.Entries.{mixed-inverse}
use Rattle.aes.proofs.Laws.Tabled.{dual_by-td}
use Rattle.cbc.specs.Sp80038a.{previous}
use Rattle.cbc.proofs.Laws.Mode.{decrypt_same}
use Rattle.aes_cbc.specs.Aes256Cbc.{eq_decrypt}
use Rattle.aes_cbc.proofs.decrypt_cbc.Goals as goal

pub decrypt_run-before-requires : goal.decrypt_run-before-requires
decrypt_run-before-requires c =
    let inverse = c.inverse-inverse.ensures in
    (inverse, c.td-td.ensures ∙ mixed-inverse inverse)

pub returns : goal.returns
returns c =
    let a = c.args in
    let d = a.out.now in
    let w = a.keys.words in
    let run = c.decrypt_run-before.ensures in
    let td = c.td-td.ensures ∙ mixed-inverse c.inverse-inverse.ensures in
    let dual = c.dual-dual.ensures ∙ dual_by-td c.te-te.ensures td w in
    record {
      value = c.store.ensures ∙ run.result_value ∙ ap (λ (p : List ℕ). previous p d) c.load.ensures;
      out_after = run.out_after ∙ ap₂ (λ (v p : List ℕ). over (eq_decrypt v p d) d) dual c.load.ensures
          ∙ ap (λ (t : List ℕ). over t d) (decrypt_same _ (λ s. inv_cipher s w) (λ s. eq_inv_cipher-dual s w) _ d);
    }
