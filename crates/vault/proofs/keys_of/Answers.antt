-- `vault::keys_of` meets its contract. Assumes nothing.
use mathlib.Core.Path.{◌≡◌, ap, ap₂, ◌∙◌}
use mathlib.Core.List.{List, ◌++◌, append-nil}
use Prim.Native.Nat.{ℕ, ◌-◌}
use native.Mathlib.Omega.{arith}
use lib.ListN.{length, replicate}
use Rattle.opening.specs.Steps.{padded}
use Rattle.vault_keys.specs.VaultKeys.{keys_with}
use Rattle.vault.specs.Vault.{keys_of}
use Rattle.vault.proofs.Laws.Start.{seed_is, nonce_le}
use Rattle.vault.proofs.keys_of.Goals as goal

pub padded-seed-requires : goal.padded-seed-requires
padded-seed-requires c =
    omega (arith, ap length c.part.ensures, seed_is c.args.f.now c.args.h c.requires)

pub padded-nonce-requires : goal.padded-nonce-requires
padded-nonce-requires c =
    (omega arith, rw c.part-2.ensures (nonce_le c.args.f.now c.args.h c.requires))

-- no zeros behind a slice that fills its array
filled : (s : List ℕ) (n : ℕ) → length s ≡ n → s ++ replicate (n - length s) 0 ≡ s
filled s n e = let z : n - length s ≡ 0 = omega arith in rw z (append-nil s)

pub returns : goal.returns
unfolding keys_of padded
returns c =
    let seed = ap length c.part.ensures ∙ seed_is c.args.f.now c.args.h c.requires in
    c.keys_with.ensures
    ∙ ap₂ (λ (x y : List ℕ). keys_with c.args.h.cipher x y c.args.t)
    (c.padded-seed.ensures ∙ filled c.part.result.now 32 seed ∙ c.part.ensures)
    (c.padded-nonce.ensures ∙ ap padded c.part-2.ensures)
