-- `unlocking::rounds::transform` meets its contract. Assumes nothing.
use mathlib.Core.Path.{ap, ◌∙◌}
use Prim.Native.Nat.{◌+◌, ◌/◌}
use lib.ListN.{replicate}
use Rattle.aes_kdf.specs.State.{advances, finished}
use Rattle.aes_kdf.specs.declared.Started.{Started}
use Rattle.aes_kdf.specs.declared.Transformation.{Transformation}
use Rattle.aes_kdf.specs.declared.Transformed.{Transformed}
use Rattle.unlocking.proofs.Laws.Key.{key_of_fifty}
use Rattle.unlocking.proofs.rounds.transform.Goals as goal

pub returns : goal.returns
returns g c =
    let n = c.args.rounds / 50 + 1 in
    ap (λ (t : Transformed). t.key) c.finish.ensures
    ∙ ap (λ (x : Transformation). (finished x).key)
    (c.advance-t.ensures
    ∙ ap (λ (s : Started). advances (replicate 50 n) s.next) c.start.ensures)
    ∙ key_of_fifty c.args.composite c.args.seed c.args.rounds c.requires
