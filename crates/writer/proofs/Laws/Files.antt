-- The file as a whole: how long it is, and its parts as code lays them.
--
-- In order:
--   header_length_salt             a salt that a KDF takes is looked at whole
--   length-summed                 a header, its hash and its tag
--   length_written_blocks         the blocks of a payload
--   header-summed                 a header laid at the front, then its hash and tag
--   length-file, keys-blocks      all of it, and its blocks
--   blocks_start, blocks_room     where its blocks go, and that they have room
--   file-laid                     the blocks behind the header, its hash and its tag
-- Assumes nothing.
use mathlib.Core.Path.{◌≡◌, sym, ap, ap₂, ◌∙◌}
use mathlib.Core.List.{List, ◌++◌, append_assoc}
use Prim.Native.Nat.{ℕ, ◌+◌, ◌-◌, ◌≤◌}
use native.Mathlib.Omega.{arith}
use lib.ListN.{length, take, drop, length-append, length-drop}
use lib.Seq.{take_all, length-take-le}
use Rattle.slices.specs.Over.{over, laid}
use Rattle.slices.proofs.Laws.Over.{length_over, take_over, over_fits, over_over, over_tail}
use Rattle.refusals.specs.Limits.{written_block}
use Rattle.refusals.proofs.Laws.Limits.{block_positive}
use Rattle.ciphers.specs.declared.Cipher.{Cipher}
use Rattle.ciphers.proofs.Laws.{nonce_length-le}
use Rattle.kdf_dictionary.specs.declared.writer.Figures.{Figures as KdfFigures}
use Rattle.header_writer.specs.Written.{header_bytes, header_length}
use Rattle.header_writer.proofs.Laws.Layout.{length-header_bytes}
use Rattle.cutting.proofs.Laws.Cut.{length-blocks}
use Rattle.opening.specs.declared.Keys.{Keys}
use Rattle.opening.specs.Steps.{padded}
use Rattle.opening.proofs.Laws.Nonce.{length-padded}
use Rattle.vault_keys.specs.VaultKeys.{keys_with, header_hash, header_tag}
use Rattle.vault_keys.proofs.Laws.{keys_with-cipher, keys_with-nonce, length-header_hash, length-header_tag}
use Rattle.writer.specs.Written.{encryption_by, blocks_of, file_with}
use Rattle.writer.specs.Stretches.{text_length, blocks_length, file_length, file_of, summed, Sized}
use Rattle.writer.proofs.Laws.Stretches.{encryption_text, length_stretch_text, length-text_of}

pub header_length_salt : (c : Cipher) (fig : KdfFigures) (salt : List ℕ) (m : ℕ) → length salt ≤ 64
    → header_length c fig (length (take 64 salt)) m ≡ header_length c fig (length salt) m
header_length_salt c fig salt m h = ap (λ (s : List ℕ). header_length c fig (length s) m) (take_all 64 salt h)

pub length-summed : (base h : List ℕ) → length (summed base h) ≡ length h + 64
length-summed base h =
    rw (length-append, length-append, length-header_hash, length-header_tag) (omega arith)

sums-split : (base h : List ℕ) → summed base h ≡ h ++ (header_hash h ++ header_tag base h)
sums-split base h = append_assoc h (header_hash h) (header_tag base h)

pub length_written_blocks : (c : Cipher) (k : Keys) (b : List ℕ) → length k.nonce ≡ 16
    → length (blocks_of k.base (encryption_by c k b)) ≡ blocks_length (text_length c (length b))
unfolding blocks_of blocks_length
length_written_blocks c k b h =
    length-blocks written_block block_positive k.base 0 (encryption_by c k b)
    ∙ ap blocks_length (ap length (encryption_text c k b) ∙ length_stretch_text c k k.nonce 0 b h ∙ length-text_of c b)

module _ (minor : ℕ) (c : Cipher) (seed nonce : List ℕ) (fig : KdfFigures) (salt custom : List ℕ)
    (z : Sized c seed nonce salt) where
  abbrev header : List ℕ
  header = header_bytes minor c seed nonce fig salt custom

  pub short_nonce : length nonce ≤ 16
  short_nonce = omega (arith, z.nonce, nonce_length-le c)

  pub length-header : length header ≡ header_length c fig (length salt) (length custom)
  length-header = length-header_bytes minor c seed nonce fig salt custom z.seed z.nonce

  -- x has the header at its front, y its hash and tag behind it
  pub header-summed : (base d x y s : List ℕ) (h : ℕ) → s ≡ seed → h ≡ header_length c fig (length salt) (length custom)
      → header_length c fig (length salt) (length custom) + 64 ≤ length d
      → x ≡ laid (header_bytes minor c s (take 16 nonce) fig (take 64 salt) custom) d
      → y ≡ over (summed base (take h x)) x
      → y ≡ over (summed base header) d
  header-summed base d x y s h es eh l ex ey =
      let lh = length-header in
      let e : header_bytes minor c s (take 16 nonce) fig (take 64 salt) custom ≡ header =
      ap (λ (a : List ℕ). header_bytes minor c a (take 16 nonce) fig (take 64 salt) custom) es
      ∙ ap₂ (λ (n l : List ℕ). header_bytes minor c seed n fig l custom) (take_all 16 nonce short_nonce)
      (take_all 64 salt z.salt_le) in
      let f : x ≡ over header d = ex ∙ ap (λ (w : List ℕ). laid w d) e ∙ over_fits header d (omega arith) in
      let m : take h x ≡ header = ap (take h) f ∙ take_over header d h (lh ∙ sym eh) in
      ey ∙ ap₂ (λ (u v : List ℕ). over (summed base u) v) m f
      ∙ ap (λ (w : List ℕ). over w (over header d)) (sums-split base header)
      ∙ over_over header (header_hash header ++ header_tag base header) d
      ∙ ap (λ (w : List ℕ). over w d) (sym (sums-split base header))

  module _ (t b : List ℕ) where
    abbrev keys : Keys
    keys = keys_with c seed (padded nonce) t

    pub keys-nonce : length keys.nonce ≡ 16
    keys-nonce = ap length (keys_with-nonce c seed (padded nonce) t) ∙ length-padded nonce short_nonce

    pub length-file : length (file_of minor c seed nonce fig salt custom t b)
        ≡ file_length c fig (length salt) (length custom) (length b)
    unfolding file_with file_length blocks_of
    length-file =
        length-append (summed keys.base header) (blocks_of keys.base (encryption_by c keys b))
        ∙ ap₂ ◌+◌ (length-summed keys.base header ∙ ap (λ (n : ℕ). n + 64) length-header)
        (length_written_blocks c keys b keys-nonce)

    -- k are the keys
    pub keys-blocks : (k : Keys) → k ≡ keys
        → length (blocks_of k.base (encryption_by k.cipher k b)) ≡ blocks_length (text_length c (length b))
    keys-blocks k ek =
        let e : k.cipher ≡ c = ap (λ (j : Keys). j.cipher) ek ∙ keys_with-cipher c seed (padded nonce) t in
        let h : length k.nonce ≡ 16 = ap (λ (j : Keys). length j.nonce) ek ∙ keys-nonce in
        ap (λ (j : Cipher). length (blocks_of k.base (encryption_by j k b))) e ∙ length_written_blocks c k b h

    -- x has the header, its hash and its tag at its front; `at` is behind them
    module _ (k : Keys) (d x : List ℕ) (at : ℕ) (ek : k ≡ keys)
        (ea : at ≡ header_length c fig (length salt) (length custom) + 64)
        (l : file_length c fig (length salt) (length custom) (length b) ≤ length d)
        (ex : x ≡ over (summed k.base header) d) where
      abbrev front : List ℕ
      front = summed k.base header

      abbrev blocks : List ℕ
      blocks = blocks_of k.base (encryption_by k.cipher k b)

      length_front : length front ≡ at
      length_front = length-summed k.base header ∙ ap (λ (n : ℕ). n + 64) length-header ∙ sym ea

      front_le : at + length blocks ≤ length d
      unfolding file_length
      front_le = omega (arith, keys-blocks k ek)

      same_long : length x ≡ length d
      same_long = ap length ex ∙ length_over front d (omega (arith, length_front, front_le))

      pub blocks_start : at ≤ length x
      blocks_start = omega (arith, front_le, same_long)

      pub blocks_room : length blocks ≤ length (take (length x - at) (drop at x))
      blocks_room =
          let e : length (take (length x - at) (drop at x)) ≡ length x - at =
          length-take-le (length x - at) (drop at x) (simp length-drop (omega arith)) in
          omega (arith, front_le, same_long)

      -- the blocks written over the rest of it
      pub file-laid : (ys : List ℕ) → ys ≡ over blocks (take (length x - at) (drop at x))
          → take at x ++ (ys ++ drop (length x - at) (drop at x))
          ≡ over (file_of minor c seed nonce fig salt custom t b) d
      unfolding file_with blocks_of
      file-laid ys ey =
          let m : length x - at ≡ length d - at = ap (λ (n : ℕ). n - at) same_long in
          let e : k.cipher ≡ c = ap (λ (j : Keys). j.cipher) ek ∙ keys_with-cipher c seed (padded nonce) t in
          over_tail front blocks d x ys at (length x - at) ex length_front (omega (arith, front_le)) m ey
          ∙ ap (λ (j : Cipher). over (front ++ blocks_of k.base (encryption_by j k b)) d) e
          ∙ ap (λ (j : Keys). over (summed j.base header ++ blocks_of j.base (encryption_by c j b)) d) ek
