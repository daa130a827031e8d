-- A written header with its hash and tag starts an opening.
--
-- In order: start_at_written.
-- Assumes nothing.
use mathlib.Core.Path.{◌≡◌, sym, ap, ◌∙◌}
use mathlib.Core.Bool.{true}
use mathlib.Core.List.{List, ◌++◌}
use Prim.Native.Nat.{ℕ, ◌+◌, ◌-◌, ◌≤◌}
use native.Mathlib.Omega.{arith}
use lib.ListN.{length, take, drop, length-append}
use lib.Seq.{take-append_seam, drop-append_seam, drop-append-add, take_at}
use borrow.Author.Tests.{le-ltb}
use Rattle.slices.proofs.Laws.Same.{same_refl}
use Rattle.opening.specs.declared.Keys.{Keys}
use Rattle.vault_keys.specs.VaultKeys.{header_hash, header_tag}
use Rattle.vault_keys.proofs.Laws.{length-header_hash, length-header_tag}
use Rattle.vault.specs.Vault.{hash_holds, tag_holds, start_at, begun}

-- h is the header, r what stands behind its tag
module _ (h r : List ℕ) (k : Keys) where
  abbrev file : List ℕ
  file = h ++ (header_hash h ++ (header_tag k.base h ++ r))

  front : take (length h) file ≡ h
  front = take-append_seam h (header_hash h ++ (header_tag k.base h ++ r))

  behind_header : drop (length h) file ≡ header_hash h ++ (header_tag k.base h ++ r)
  behind_header = drop-append_seam h (header_hash h ++ (header_tag k.base h ++ r))

  behind_hash : drop (length h + 32) file ≡ header_tag k.base h ++ r
  behind_hash =
      drop-append-add h (header_hash h ++ (header_tag k.base h ++ r)) 32
      ∙ ap (λ (n : ℕ). drop n (header_hash h ++ (header_tag k.base h ++ r))) (sym (length-header_hash h))
      ∙ drop-append_seam (header_hash h) (header_tag k.base h ++ r)

  hash-holds : hash_holds file (length h) ≡ true
  unfolding hash_holds
  hash-holds =
      rw (behind_header, front, take_at (header_hash h) (header_tag k.base h ++ r) 32 (length-header_hash h))
      (same_refl (header_hash h))

  tag_does_hold : tag_holds k.base file (length h) ≡ true
  unfolding tag_holds
  tag_does_hold =
      rw (behind_hash, front, take_at (header_tag k.base h) r 32 (length-header_tag k.base h))
      (same_refl (header_tag k.base h))

  long : 64 ≤ length file - length h
  long =
      let a = length-header_hash h in
      let b = length-header_tag k.base h in
      simp (length-append, a, b) (omega arith)

  pub start_at_written : start_at (h ++ (header_hash h ++ (header_tag k.base h ++ r))) (length h) k
      ≡ begun k (length h + 64)
  unfolding start_at
  start_at_written = rw (le-ltb (length file - length h) 64 long, hash-holds, tag_does_hold)
