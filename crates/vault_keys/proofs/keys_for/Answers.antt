-- `vault_keys::keys_for` meets its contract. Assumes nothing.
use mathlib.Core.Path.{ap}
use mathlib.Core.List.{List}
use lib.ListN.{replicate}
use Prim.Native.Nat.{ℕ}
use Rattle.ciphers.specs.declared.Cipher.TheVariants.{Aes256}
use Rattle.vault_keys.specs.VaultKeys.{keys_for}
use Rattle.vault_keys.proofs.keys_for.Goals as goal

pub returns-in-Aes256 : goal.returns-in-Aes256
unfolding keys_for
returns-in-Aes256 c =
    rw c.in-Aes256.is
    (ap (λ (w : List ℕ). record {
      cipher = Aes256;
      key = replicate 32 0;
      round_keys = record { words = w };
      nonce = c.args.nonce;
      base = c.args.base;
    }) c.expand.ensures)

pub returns-in-ChaCha20 : goal.returns-in-ChaCha20
unfolding keys_for
returns-in-ChaCha20 c = rw c.in-ChaCha20.is
