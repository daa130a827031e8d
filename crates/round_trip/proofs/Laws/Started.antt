-- An opening starts at a written header with its hash and tag, whatever stands behind them.
--
-- In order:
--   cipher_is, nonce_is, length-nonce, nonce-block    the keys of a written file
--   start_written                                     the start accepts, and the first block stands behind the tag
-- Not here: hash and tag behind a header (Start).
-- Assumes nothing.
use mathlib.Core.Path.{◌≡◌, ap, ap₂, ◌∙◌}
use mathlib.Core.List.{List, ◌++◌, append_assoc}
use Prim.Native.Nat.{ℕ, ◌-◌, ◌≤◌}
use native.Mathlib.Omega.{arith}
use lib.ListN.{length, replicate}
use Rattle.words.specs.Block.{IsBlock}
use Rattle.words.specs.Endian.{Bytes}
use Rattle.words.proofs.Laws.Bytes.{bytes_append, bytes_replicate}
use Rattle.refusals.specs.Limits.{file_limit}
use Rattle.ciphers.specs.declared.Cipher.{Cipher}
use Rattle.ciphers.proofs.Laws.{nonce_length-le}
use Rattle.outer_header.specs.declared.Header.{Header}
use Rattle.std.specs.Prelude.{Result, Ok}
use Rattle.refusals.specs.declared.Refusal.{Refusal}
use Rattle.header_writer.specs.ReadsBack.{ReadsBack, written_header}
use Rattle.header_writer.proofs.Laws.CheckedLaws.{checked_as}
use Rattle.header_writer.proofs.RoundTrip.{header_read_back}
use Rattle.opening.specs.declared.Keys.{Keys}
use Rattle.opening.specs.Steps.{padded}
use Rattle.opening.proofs.Laws.Nonce.{length-padded}
use Rattle.vault_keys.specs.VaultKeys.{keys_with, header_hash, header_tag}
use Rattle.vault_keys.proofs.Laws.{keys_for-cipher, keys_for-nonce}
use Rattle.vault.specs.Vault.{keys_of, start_at, start_in, start, begun}
use Rattle.writer.specs.Written.{Figures, header_of, checked_of}
use Rattle.writer.specs.Stretches.{summed}
use Rattle.round_trip.specs.Opens.{file_keys, first_block_of}
use Rattle.round_trip.proofs.Laws.Start.{start_at_written}

module _ (g : Figures) (c : Cipher) (t : List ℕ) where
  abbrev k : Keys
  k = file_keys g c t

  pub cipher_is : k.cipher ≡ c
  unfolding keys_with
  cipher_is = keys_for-cipher c _ (padded g.nonce) _

  pub nonce_is : k.nonce ≡ padded g.nonce
  unfolding keys_with
  nonce_is = keys_for-nonce c _ (padded g.nonce) _

  pub length-nonce : checked_of g ≡ Ok c → length k.nonce ≡ 16
  unfolding checked_of
  length-nonce ok =
      let w = checked_as g.minor g.cipher g.seed g.nonce g.kdf g.salt g.custom c ok in
      let l : length g.nonce ≤ 16 = omega (arith, nonce_length-le c, w.nonce_long) in
      ap length nonce_is ∙ length-padded g.nonce l

  pub nonce-block : checked_of g ≡ Ok c → Bytes g.nonce → IsBlock k.nonce
  unfolding padded
  nonce-block ok b =
      record {
        size = length-nonce ok;
        bytes = rw nonce_is
            (bytes_append g.nonce (replicate (16 - length g.nonce) 0) b
            (bytes_replicate (16 - length g.nonce) 0 (omega arith)));
      }

-- r is what stands behind the tag
module _ (g : Figures) (c : Cipher) (t r : List ℕ) (ok : checked_of g ≡ Ok c)
    (fits : length (summed (file_keys g c t).base (header_of g c) ++ r) ≤ file_limit) where
  abbrev h : List ℕ
  h = header_of g c

  abbrev base : List ℕ
  base = (file_keys g c t).base

  abbrev f : List ℕ
  f = summed base h ++ r

  -- the header first
  file_is : f ≡ h ++ (header_hash h ++ (header_tag base h ++ r))
  file_is = rw (append_assoc, append_assoc)

  abbrev said : Header
  said = written_header g.minor c g.kdf (length g.salt) (length g.custom)

  -- the reader finds the header that was written
  back : ReadsBack g.minor c g.seed g.nonce g.kdf g.salt g.custom f said
  unfolding checked_of header_of
  back =
      rw file_is
      (header_read_back g.minor g.cipher g.seed g.nonce g.kdf g.salt g.custom c
      (header_hash h ++ (header_tag base h ++ r)) ok (rw (← file_is) fits))

  keys_are : keys_of t f said ≡ file_keys g c t
  unfolding keys_of
  keys_are = ap₂ (λ (x y : List ℕ). keys_with c x (padded y) t) back.seed_is back.nonce_is

  length_is : said.length ≡ length h
  unfolding header_of
  length_is = back.length_is

  pub start_written : start t (summed (file_keys g c t).base (header_of g c) ++ r)
      ≡ begun (file_keys g c t) (first_block_of g c)
  unfolding start start_in
  start_written =
      ap (λ (x : Result Header Refusal). start_in t f x) back.header_is
      ∙ ap₂ (λ (n : ℕ) (x : Keys). start_at f n x) length_is keys_are
      ∙ ap (λ (x : List ℕ). start_at x (length h) (file_keys g c t)) file_is
      ∙ start_at_written h r (file_keys g c t)
