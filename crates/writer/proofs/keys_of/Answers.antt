-- `writer::keys_of` meets its contract. Assumes nothing.
use mathlib.Core.Path.{◌∙◌, ap₂}
use mathlib.Core.List.{List}
use Prim.Native.Nat.{ℕ}
use Rattle.vault_keys.specs.VaultKeys.{keys_with}
use Rattle.writer.proofs.keys_of.Goals as goal

pub returns : goal.returns
returns c =
    let a = c.args in
    c.keys_with.ensures
    ∙ ap₂ (λ (s n : List ℕ). keys_with a.c s n a.t) c.seed_of-s.ensures c.nonce_of-n.ensures
