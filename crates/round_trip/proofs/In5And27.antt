-- A written file with its ciphertext of 32 bytes, cut anew into blocks of 5 and 27 bytes.
--
-- In order:
--   cuts                        5 and 27 are sizes that add up to it
--   stand, first, second        so its blocks stand in the file, with their sizes and data
--   plaintext_is                their ciphertext is the payload's, so their plaintext is the payload, padded
--   file_is                     the file's bytes
--   has_5_27                    the file opens, and has the blocks and the padding of which the worked numbers speak
-- Assumes nothing.
use mathlib.Core.Path.{◌≡◌, sym, ap, ap₂, ◌∙◌}
use mathlib.Core.List.{List, [], ◌∷◌, ◌++◌, append-nil}
use Prim.Native.Nat.{ℕ, ◌+◌, ◌%◌, ◌≤◌, ◌<◌}
use native.Mathlib.Omega.{arith}
use lib.ListN.{length, take, drop, length-drop}
use lib.Seq.{length-take-le}
use Rattle.words.specs.Endian.{Bytes}
use Rattle.refusals.specs.Limits.{file_limit, written_block}
use Rattle.refusals.proofs.Laws.Limits.{block_positive}
use Rattle.pkcs7.specs.Pkcs7.{pad, padding}
use Rattle.pkcs7.proofs.Laws.Padding.{padding-padded, padded-pad, length-pad, bytes_pad}
use Rattle.ciphers.specs.declared.Cipher.TheVariants.{Aes256}
use Rattle.aes_cbc.proofs.RoundTrip.{aes_cbc_decrypt_encrypt}
use Rattle.std.specs.Prelude.{Ok}
use Rattle.block_stream.specs.Blocks.{block_bytes, judge, data_at}
use Rattle.block_stream.specs.declared.Block.TheVariants.{Data, Closing}
use Rattle.fips180.specs.Feeds.{joined}
use Rattle.cutting.specs.Cutting.{Positive, total, pieces, blocks_from, InBlocks, block_count}
use Rattle.cutting.proofs.Laws.Pieces.{joined-pieces}
use Rattle.opening.specs.declared.Keys.{Keys}
use Rattle.opening.specs.Decryption.{decryption_by}
use Rattle.opening.specs.Worked.{ciphertext}
use Rattle.opening.proofs.Laws.Payload.{length-encrypted}
use Rattle.open_whole.specs.Ciphertext.{text}
use Rattle.recutting.specs.Opens.{BothOpen}
use Rattle.recutting.specs.Recut.{by_whole, recut, Cuts}
use Rattle.recutting.proofs.Theorem.{length-recut, recut_stands, same_vault_at}
use Rattle.writer.specs.Written.{Figures, header_of, encryption_by, file_bytes, checked_of}
use Rattle.writer.proofs.Laws.Files.{length-summed}
use Rattle.round_trip.specs.Opens.{file_keys, first_block_of, Opens}
use Rattle.round_trip.specs.Worked.{front_of, in5_and27, Has5And27}
use Rattle.round_trip.proofs.Laws.Started.{cipher_is, length-nonce, nonce-block}
use Rattle.round_trip.proofs.Theorem.{written_opens}
use Rattle.round_trip.proofs.Recut.{text_written, front_written}
use Rattle.round_trip.proofs.LargerBlocks.{length-file_cut}

module _ (g : Figures) (t b : List ℕ) (ok : checked_of g ≡ Ok Aes256) (short : length (header_of g Aes256) ≡ 207)
    (nonce_bytes : Bytes g.nonce) (payload-bytes : Bytes b) (low : 16 ≤ length b) (high : length b < 32) where
  abbrev k : Keys
  k = file_keys g Aes256 t

  abbrev p : ℕ
  p = first_block_of g Aes256

  abbrev encryption : List ℕ
  encryption = encryption_by Aes256 k b

  -- the file as it is written, and cut anew
  abbrev whole : List ℕ
  whole = file_bytes g Aes256 t b

  abbrev f : List ℕ
  f = in5_and27 g t b

  length_encryption : length encryption ≡ 32
  unfolding encryption_by
  length_encryption = length-encrypted k (length-nonce g Aes256 t ok) b ∙ omega arith

  fits : length whole ≤ file_limit
  unfolding file_limit written_block block_count
  fits =
      rw (length-file_cut g Aes256 t b written_block block_positive, length_encryption)
      (omega (arith, length-summed k.base (header_of g Aes256), short))

  opens : Opens written_block g Aes256 t b whole
  opens = written_opens written_block block_positive g Aes256 t b ok payload-bytes nonce_bytes fits

  text_is : text whole p ≡ encryption
  text_is = text_written written_block block_positive g Aes256 t b fits

  adds_up : total (5 ∷ 27 ∷ []) ≡ length (text whole p)
  unfolding total
  adds_up = sym (ap length text_is ∙ length_encryption)

  length-file : length f ≡ p + 140
  length-file =
      length-recut t whole k p opens.starts (5 ∷ 27 ∷ []) adds_up
      ∙ omega (arith, ap length text_is, length_encryption)

  cuts : Cuts k whole p (5 ∷ 27 ∷ [])
  unfolding Positive file_limit
  cuts =
      record {
        positive = (omega arith, (omega arith, tt));
        adds_up = adds_up;
        fits = omega (arith, length-file, short);
      }

  both : BothOpen t f k p b 3
  both =
      same_vault_at t whole b (by_whole (length b) (opens.whole (length b) (omega arith))) k p opens.starts
      (5 ∷ 27 ∷ []) cuts

  length_first : length (take 5 (text whole p)) ≡ 5
  length_first = length-take-le 5 (text whole p) (omega (arith, ap length text_is, length_encryption))

  length_second : length (take 27 (drop 5 (text whole p))) ≡ 27
  length_second =
      length-take-le 27 (drop 5 (text whole p))
      (omega (arith, length-drop 5 (text whole p), ap length text_is, length_encryption))

  abbrev first : List ℕ
  first = take 5 (text whole p)

  abbrev second : List ℕ
  second = take 27 (drop 5 (text whole p))

  stand : (judge k.base f 0 p ≡ Data 5)
      × ((data_at f p 5 ≡ first)
      × ((judge k.base f 1 (p + 36 + 5) ≡ Data 27)
      × ((data_at f (p + 36 + 5) 27 ≡ second)
      × ((judge k.base f 2 (p + 36 + 5 + 36 + 27) ≡ Closing) × (length f ≡ p + 36 + 5 + 36 + 27 + 36)))))
  unfolding pieces InBlocks
  stand = rw (length_first, length_second) at (recut_stands t whole k p opens.starts (5 ∷ 27 ∷ []) cuts)

  ciphertext_is : ciphertext f p ≡ encryption
  unfolding pieces joined
  ciphertext_is =
      ap₂ (λ (x y : List ℕ). x ++ y) stand.1.0 (stand.1.1.1.0 ∙ sym (append-nil second))
      ∙ joined-pieces (5 ∷ 27 ∷ []) (text whole p) adds_up ∙ text_is

  plaintext_is : decryption_by Aes256 k (ciphertext f p) ≡ pad b
  unfolding decryption_by encryption_by
  plaintext_is =
      let e : length (pad b) % 16 ≡ 0 = omega (arith, length-pad b) in
      ap (λ (x : List ℕ). decryption_by Aes256 k x) ciphertext_is
      ∙ aes_cbc_decrypt_encrypt k.round_keys.words k.nonce (nonce-block g Aes256 t ok nonce_bytes) (pad b) e
      (bytes_pad b payload-bytes)

  file_is : in5_and27 g t b
      ≡ front_of Aes256 g t
      ++ (block_bytes k.base 0 (take 5 encryption)
      ++ (block_bytes k.base 1 (take 27 (drop 5 encryption)) ++ block_bytes k.base 2 []))
  unfolding recut pieces blocks_from
  file_is =
      ap₂ (λ (x y : List ℕ). x ++ blocks_from k.base 0 (pieces (5 ∷ 27 ∷ []) y))
      (front_written written_block block_positive g Aes256 t b fits) text_is

  pub has_5_27 : Has5And27 g t b
  has_5_27 =
      record {
        bytes_are = file_is;
        opens = both;
        blocks = record {
          aes = cipher_is g Aes256 t;
          nonce_is = length-nonce g Aes256 t ok;
          within = cuts.fits;
          behind_header = omega arith;
          first = stand.0;
          second = stand.1.1.0;
        };
        closing = record { third = stand.1.1.1.1.0; nothing_behind = omega (arith, stand.1.1.1.1.1) };
        padding_is = ap padding plaintext_is ∙ padding-padded (pad b) _ (padded-pad b) ∙ omega arith;
      }
