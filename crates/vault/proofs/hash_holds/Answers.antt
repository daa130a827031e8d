-- `vault::hash_holds` meets its contract. Assumes nothing.
use mathlib.Core.Path.{◌≡◌, ap, ap₂, ◌∙◌}
use mathlib.Core.List.{List}
use Prim.Native.Nat.{ℕ, ◌≤◌}
use native.Mathlib.Omega.{arith}
use lib.ListN.{length, take, length-take}
use borrow.Author.Tests.{le-leb}
use Rattle.slices.specs.Same.{same}
use Rattle.refusals.specs.Limits.{message_limit}
use Rattle.refusals.proofs.Laws.Limits.{message_file}
use Rattle.fips180.specs.Fips180.{sha256, hash}
use Rattle.fips180.specs.Hashing as hashing
use Rattle.sha256.specs.State.{hashed}
use Rattle.sha256.specs.declared.Hashed.{Hashed}
use Rattle.vault.specs.Vault.{hash_holds}
use Rattle.vault.proofs.hash_holds.Goals as goal

-- a message within the limit is hashed
hashed_within : (m : List ℕ) → length m ≤ message_limit → (hashed m).digest ≡ hash sha256 m
unfolding hashing.hashed
hashed_within m h = rw (le-leb (length m) message_limit h)

pub returns : goal.returns
unfolding hash_holds
returns c =
    let f = c.args.f.now in
    let m = take c.args.n f in
    let l : length m ≤ message_limit = rw length-take (omega (arith, c.requires, message_file)) in
    c.same.ensures
    ∙ ap₂ same c.part-2.ensures
    (ap (λ (r : Hashed). r.digest) c.hash.ensures ∙ ap (λ (x : List ℕ). (hashed x).digest) c.part.ensures
    ∙ hashed_within m l)
