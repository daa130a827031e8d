-- `unlocking::key::by_rounds` meets its contract. Assumes nothing.
use mathlib.Core.Path.{ap, ◌∙◌}
use mathlib.Core.List.{List}
use Prim.Native.Nat.{ℕ}
use lib.ListN.{length, replicate}
use Rattle.slices.proofs.Laws.Over.{over_whole}
use Rattle.aes_kdf.specs.AesKdf.{transformed_key}
use Rattle.unlocking.proofs.key.by_rounds.Goals as goal

pub returns : goal.returns
returns g c =
    let a = c.args in
    let p = c.part in
    let n = ap (λ (x : List ℕ). length x) p.ensures ∙ c.requires.seed_len in
    let e = c.copy.ensures ∙ over_whole p.result.now (replicate 32 0) n ∙ p.ensures in
    c.transform.ensures ∙ ap (λ (x : List ℕ). transformed_key a.composite x a.k.rounds) e
