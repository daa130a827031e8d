-- `aes_cbc::encrypt_cbc` meets its contract. Assumes nothing.
use mathlib.Core.Path.{ap, ◌∙◌}
use mathlib.Core.List.{List}
use Prim.Native.Nat.{ℕ}
use Rattle.slices.specs.Over.{over}
use Rattle.cbc.specs.Sp80038a.{previous}
use Rattle.aes_cbc.specs.Aes256Cbc.{encrypt}
use Rattle.aes_cbc.proofs.encrypt_cbc.Goals as goal

pub returns : goal.returns
returns c =
    let a = c.args in
    let d = a.out.now in
    let w = a.keys.words in
    let run = c.encrypt_run-before.ensures in
    record {
      value = c.store.ensures ∙ run.result_value ∙ ap (λ (p : List ℕ). previous p (encrypt w p d)) c.load.ensures;
      out_after = run.out_after ∙ ap (λ (p : List ℕ). over (encrypt w p d) d) c.load.ensures;
    }
