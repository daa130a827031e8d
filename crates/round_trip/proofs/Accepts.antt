-- The writer takes just what documents 01 and 02 do not refuse.
--
-- In order:
--   kdf_writable, writable_kdf     a KDF's figures within their bounds pass the checks, and no others
--   length-file_bytes               how many bytes a file has
--   checked_writes                 what passes the checks is written, where it fits
--   writable_writes                THE THEOREM: what is not refused is written, and the answer is the file's length
--   writes_writable                .. and nothing else is
--   writable_opens                 so what is not refused is written and opens
--   writable_plain                 with no custom dictionary, any payload of up to 16,000,000 bytes is written, by each KDF
-- Assumes nothing.
use mathlib.Core.Path.{◌≡◌, refl, sym, ap, ◌∙◌}
use mathlib.Core.List.{List, []}
use Prim.Native.Nat.{ℕ, ◌+◌, ◌≤◌}
use native.Mathlib.Omega.{arith}
use lib.ListN.{length}
use borrow.Author.Tests.{le-leb}
use Rattle.words.specs.Endian.{Bytes}
use Rattle.words.proofs.Laws.Cases.{by_bool}
use Rattle.slices.specs.Same.{same}
use Rattle.slices.specs.Over.{over}
use Rattle.slices.proofs.Laws.Same.{same_true}
use Rattle.refusals.specs.Limits.{file_limit, payload_limit, written_block}
use Rattle.refusals.proofs.Laws.Limits.{argon2_fits_bounds, bounds_argon2_fits}
use Rattle.ciphers.specs.Ciphers.{identifier, cipher_of, nonce_length}
use Rattle.ciphers.specs.declared.Cipher.{Cipher}
use Rattle.ciphers.specs.declared.Cipher.TheVariants.{Aes256, ChaCha20}
use Rattle.std.specs.Prelude.{Some, Ok}
use Rattle.ciphers.proofs.Laws.{cipher_of-identifier, nonce_length-le}
use Rattle.kdf_dictionary.specs.Kdf.{kdf_length, IsWritable}
use Rattle.kdf_dictionary.specs.declared.writer.Figures.{Figures as KdfFigures}
use Rattle.kdf_dictionary.specs.declared.writer.Figures.TheVariants as kdf
use Rattle.header_writer.specs.Written.{custom_verdict, header_length}
use Rattle.header_writer.proofs.Laws.CheckedLaws.{checked_as, as_checked}
use Rattle.cutting.specs.Cutting.{block_count}
use Rattle.writer.specs.Written.{Figures, sizes, settled, header_of, file_cut, file_bytes, checked_of, writing, shown}
use Rattle.writer.specs.Stretches.{Sized, file_length, blocks_length, text_length}
use Rattle.writer.proofs.Laws.Checks.{checked-sized, writing_as, settled-wrote}
use Rattle.writer.proofs.Laws.Files.{length-file}
use Rattle.round_trip.specs.Opens.{WrittenOpens}
use Rattle.round_trip.specs.Writable.{KdfTaken, size_of, Fits, Writable, IsWritten}
use Rattle.round_trip.proofs.Laws.Success.{success}
use Rattle.round_trip.proofs.Theorem.{writing_opens}

kdf_writable : (fig : KdfFigures) (n : ℕ) → KdfTaken fig n → IsWritable fig n
unfolding KdfTaken IsWritable
kdf_writable (kdf.AesKdf rounds) n h = h
kdf_writable (kdf.Argon2d passes memory lanes) n h = bounds_argon2_fits n passes memory lanes h
kdf_writable (kdf.Argon2id passes memory lanes) n h = bounds_argon2_fits n passes memory lanes h

writable_kdf : (fig : KdfFigures) (n : ℕ) → IsWritable fig n → KdfTaken fig n
unfolding KdfTaken IsWritable
writable_kdf (kdf.AesKdf rounds) n h = h
writable_kdf (kdf.Argon2d passes memory lanes) n h = argon2_fits_bounds n passes memory lanes h
writable_kdf (kdf.Argon2id passes memory lanes) n h = argon2_fits_bounds n passes memory lanes h

-- an identifier that names a cipher is the cipher's
named_identifier : (id : List ℕ) (c : Cipher) → cipher_of id ≡ Some c → id ≡ identifier c
unfolding cipher_of
named_identifier id c =
    by_bool (same id (identifier Aes256))
    (λ a. rw a (λ e. let z : Aes256 ≡ c = cc e in same_true id (identifier Aes256) a ∙ ap identifier z))
    (λ a.
    by_bool (same id (identifier ChaCha20))
    (λ b. rw (a, b) (λ e. let z : ChaCha20 ≡ c = cc e in same_true id (identifier ChaCha20) b ∙ ap identifier z))
    (λ b. rw (a, b) (λ e. let z : ◌≡◌ {A = ℕ} 0 1 = cc e in absurd (omega arith))))

-- figures that pass the header's checks
module _ (g : Figures) (c : Cipher) (t b : List ℕ) (e : checked_of g ≡ Ok c) where
  sized : Sized c g.seed g.nonce g.salt
  unfolding checked_of
  sized = checked-sized g.minor g.cipher g.seed g.nonce g.kdf g.salt g.custom c e

  pub length-file_bytes : length (file_bytes g c t b) ≡ size_of g c b
  unfolding file_cut header_of
  length-file_bytes =
      length-file g.minor c g.seed g.nonce g.kdf g.salt g.custom sized t b

checked_writable : (g : Figures) (c : Cipher) (b : List ℕ) (n : ℕ) → Writable g c b n → checked_of g ≡ Ok c
unfolding checked_of
checked_writable g c b n w =
    as_checked g.minor g.cipher g.seed g.nonce g.kdf g.salt g.custom c
    (record {
      minor_le = w.minor_le;
      cipher_is = ap cipher_of w.cipher_is ∙ cipher_of-identifier c;
      seed_long = w.seed_long;
      nonce_long = w.nonce_long;
      writable = kdf_writable g.kdf (length g.salt) w.kdf_taken;
      custom_sound = w.custom_sound;
    })

-- figures that pass the header's checks are written, where payload and file are within their limits and there is room
pub checked_writes : (g : Figures) (c : Cipher) (t b : List ℕ) (n : ℕ) → checked_of g ≡ Ok c → Fits g c b n
    → writing g t b n ≡ Ok (size_of g c b)
checked_writes g c t b n e f =
    sym (writing_as g c t b n e)
    ∙ ap (λ (x : ℕ). settled sizes (length b) x n) (length-file_bytes g c t b e)
    ∙ sym (settled-wrote (length b) (size_of g c b) n (le-leb (length b) payload_limit f.payload_le)
    (le-leb (size_of g c b) file_limit f.file_le) f.room)

-- THE THEOREM
pub writable_writes : (g : Figures) (c : Cipher) (t b : List ℕ) (n : ℕ) → Writable g c b n
    → writing g t b n ≡ Ok (size_of g c b)
writable_writes g c t b n w =
    checked_writes g c t b n (checked_writable g c b n w) w.fits

-- .. and the other way round
pub writes_writable : (g : Figures) (t b : List ℕ) (n m : ℕ) → writing g t b n ≡ Ok m → IsWritten g b n m
unfolding checked_of
writes_writable g t b n m h =
    let w = success sizes g t b n m h in
    let c : Cipher = w.cipher in
    let k = checked_as g.minor g.cipher g.seed g.nonce g.kdf g.salt g.custom c w.accepted in
    let l = length-file_bytes g c t b w.accepted in
    record {
      cipher = c;
      writable = record {
        minor_le = k.minor_le;
        cipher_is = named_identifier g.cipher c k.cipher_is;
        seed_long = k.seed_long;
        nonce_long = k.nonce_long;
        kdf_taken = writable_kdf g.kdf (length g.salt) k.writable;
        custom_sound = k.custom_sound;
        fits = record { payload_le = w.payload_le; file_le = rw l at w.file_le; room = rw l at w.room };
      };
      count_is = sym w.count ∙ l;
    }

pub writable_opens : (g : Figures) (c : Cipher) (t b before : List ℕ) → Bytes b → Bytes g.nonce
    → Writable g c b (length before)
    → WrittenOpens g t b before (over (shown g t b (length before)) before) (size_of g c b)
writable_opens g c t b before p q w =
    writing_opens g t b before (over (shown g t b (length before)) before) (size_of g c b) p q
    (writable_writes g c t b (length before) w) refl

-- a KDF's dictionary has 171 bytes at most
kdf_length-le : (fig : KdfFigures) (n : ℕ) → KdfTaken fig n → kdf_length fig n ≤ 171
unfolding KdfTaken kdf_length
kdf_length-le (kdf.AesKdf rounds) n h = let e = h.0 in omega arith
kdf_length-le (kdf.Argon2d passes memory lanes) n h = omega (arith, h.salt_most)
kdf_length-le (kdf.Argon2id passes memory lanes) n h = omega (arith, h.salt_most)

text_length-le : (c : Cipher) (n : ℕ) → text_length c n ≤ n + 16
unfolding text_length
text_length-le Aes256 n = omega arith
text_length-le ChaCha20 n = omega arith

blocks_length-le : (n : ℕ) → n ≤ 16_000_016 → blocks_length n ≤ 16_010_000
unfolding blocks_length block_count written_block
blocks_length-le n h = omega arith

size_plain : (c : Cipher) (fig : KdfFigures) (l n : ℕ) → KdfTaken fig l → n ≤ 16_000_000
    → file_length c fig l 0 n ≤ file_limit
unfolding file_length header_length file_limit
size_plain c fig l n k h =
    let a = kdf_length-le fig l k in
    let d = nonce_length-le c in
    let t = text_length-le c n in
    let e = blocks_length-le (text_length c n) (omega arith) in
    omega arith

verdict_none : custom_verdict [] ≡ Ok tt
unfolding custom_verdict
verdict_none = refl

pub writable_plain : (minor : ℕ) (c : Cipher) (seed nonce : List ℕ) (fig : KdfFigures) (salt b : List ℕ) → minor ≤ 1
    → length seed ≡ 32 → length nonce ≡ nonce_length c → KdfTaken fig (length salt) → length b ≤ 16_000_000
    → Writable
    (record { minor = minor; cipher = identifier c; seed = seed; nonce = nonce; kdf = fig; salt = salt; custom = [] })
    c b file_limit
unfolding payload_limit
writable_plain minor c seed nonce fig salt b m s o k l =
    record {
      minor_le = m;
      cipher_is = refl;
      seed_long = s;
      nonce_long = o;
      kdf_taken = k;
      custom_sound = verdict_none;
      fits = record {
        payload_le = omega arith;
        file_le = size_plain c fig (length salt) (length b) k l;
        room = size_plain c fig (length salt) (length b) k l;
      };
    }
