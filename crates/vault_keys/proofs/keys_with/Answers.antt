-- `vault_keys::keys_with` meets its contract. Assumes nothing.
use mathlib.Core.Path.{◌∙◌, ap₂}
use mathlib.Core.List.{List}
use Prim.Native.Nat.{ℕ}
use Rattle.vault_keys.specs.VaultKeys.{keys_for, keys_with}
use Rattle.vault_keys.proofs.keys_with.Goals as goal

pub returns : goal.returns
unfolding keys_with
returns c =
    c.keys_for.ensures
    ∙ ap₂ (λ (k b : List ℕ). keys_for c.args.c k c.args.nonce b) c.cipher_key-key.ensures
    c.tag_base-base.ensures
