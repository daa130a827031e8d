-- `opener::held::decrypt_run` meets its contract. Assumes nothing.
use mathlib.Core.Path.{ap, ◌∙◌}
use mathlib.Core.List.{List}
use Prim.Native.Nat.{ℕ}
use Rattle.slices.specs.Over.{over}
use Rattle.cbc.specs.Sp80038a.{previous}
use Rattle.aes_cbc.specs.Aes256Cbc.{decrypt}
use Rattle.opener.proofs.held.decrypt_run.Goals as goal

pub returns : goal.returns
returns c =
    let a = c.args in
    let run = c.fill.ensures in
    let d = c.decrypt_cbc.ensures in
    record {
      value = d.value ∙ ap (previous a.prev) run;
      out_after = d.out_after ∙ ap (λ (s : List ℕ). over (decrypt a.keys.words a.prev s) s) run;
    }
