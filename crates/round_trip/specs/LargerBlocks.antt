-- Document 02, Item 7: the writer's numbers before it and now.
--
--   "From inputs that the writer took before, a ciphertext over 16,384 bytes now gives other bytes and fewer tags;
--    any other gives the same bytes"                                                    SinceThen
--   "Stored vaults stay valid and open as before": what the writer wrote before         SinceThen.opens
--   Item 13, "Same vault, other cutting": at the one block size and at the other        SinceThen.cut_anew, cut_back
-- Before are the numbers of document 01, "Numbers of the terminal". g are the figures, t is T, b the payload, and n
-- bytes are lent.
-- Not here: that a file in blocks of any one size opens (proofs/Theorem, written_opens), and in any cutting (crate
-- recutting, same_vault).
-- Assumes nothing.
use Rattle.std.specs.Prelude.{◌≡◌, List, ℕ, ◌+◌, ◌≤◌, ◌<◌, length, Ok}
use Rattle.words.specs.Endian.{Bytes}
use Rattle.ciphers.specs.declared.Cipher.{Cipher}
use Rattle.cutting.specs.Cutting.{cut}
use Rattle.recutting.specs.Recut.{IsCutting}
use Rattle.writer.specs.Written.{
  Figures,
  Sizes,
  sizes,
  encryption_by,
  checked_of,
  file_cut,
  writing_with,
  shown_with,
  writing,
  shown,
}
use Rattle.round_trip.specs.Opens.{file_keys, first_block_of, Opens}

abbrev pub before : Sizes
before = record { payload = 4_194_304; file = 4_194_304; block = 16_384 }

abbrev pub ciphertext : Figures → Cipher → List ℕ → List ℕ → List ℕ
ciphertext g c t b = encryption_by c (file_keys g c t) b

-- the tags of a file's blocks: one for each data block, and the closing block's
abbrev pub tags : Sizes → List ℕ → ℕ
tags s text = length (cut s.block text) + 1

-- what comes of an input that the writer took before
pub record SinceThen (g : Figures) (t b : List ℕ) (n : ℕ) : Type 0 where
  pub cipher : Cipher
  pub accepted : checked_of g ≡ Ok cipher
  -- both are files of the same header and ciphertext, each cut at its size
  pub file_before : shown_with before g t b n ≡ file_cut before.block g cipher t b
  pub file_now : shown g t b n ≡ file_cut sizes.block g cipher t b
  -- it is still taken
  pub taken : writing g t b n ≡ Ok (length (shown g t b n))
  -- "any other gives the same bytes"
  pub same : length (ciphertext g cipher t b) ≤ 16_384 → shown g t b n ≡ shown_with before g t b n
  -- "a ciphertext over 16,384 bytes now gives other bytes and fewer tags"
  pub other : 16_384 < length (ciphertext g cipher t b) → (shown g t b n ≡ shown_with before g t b n → ⊥)
  pub shorter : 16_384 < length (ciphertext g cipher t b) → length (shown g t b n) < length (shown_with before g t b n)
  pub fewer : 16_384 < length (ciphertext g cipher t b)
      → tags sizes (ciphertext g cipher t b) < tags before (ciphertext g cipher t b)
  -- what was written before opens to the payload
  pub opens : Bytes b → Bytes g.nonce → Opens before.block g cipher t b (shown_with before g t b n)
  -- .. and each file is the other in another cutting (Item 13)
  pub cut_anew : IsCutting (file_keys g cipher t) (shown_with before g t b n) (first_block_of g cipher) (shown g t b n)
  pub cut_back : IsCutting (file_keys g cipher t) (shown g t b n) (first_block_of g cipher) (shown_with before g t b n)

abbrev pub LargerBlocks : Type 0
LargerBlocks = (g : Figures) (t b : List ℕ) (n m : ℕ) → writing_with before g t b n ≡ Ok m → SinceThen g t b n
