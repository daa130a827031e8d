-- What the writer's checks say, and what follows from them.
--
-- In order:
--   checked-sized                       seed, nonce and salt have their sizes
--   writing-refused, shown-refused      where a header's figures are refused
--   writing_as, shown_as                where they are not: the limits and the room decide
--   settled-payload, settled-file, settled_room, settled-wrote
-- Assumes nothing.
use mathlib.Core.Path.{◌≡◌, refl, sym, ap, ◌∙◌}
use mathlib.Core.Bool.{true, false}
use mathlib.Core.List.{List, []}
use Prim.Native.Nat.{ℕ, ◌≤◌, ◌<◌}
use native.Mathlib.Omega.{arith}
use lib.Dec.{leb}
use lib.ListN.{length}
use borrow.Author.Tests.{lt-ltb, le-ltb}
use Rattle.refusals.specs.declared.Refusal.{Refusal}
use Rattle.refusals.specs.declared.Refusal.TheVariants.{TooLong, NoRoom}
use Rattle.refusals.specs.Numbers.{Written}
use Rattle.refusals.specs.Limits.{file_limit, payload_limit, written_block}
use Rattle.refusals.proofs.Laws.Limits.{argon2_fits_bounds}
use Rattle.ciphers.specs.declared.Cipher.{Cipher}
use Rattle.kdf_dictionary.specs.Kdf.{IsWritable}
use Rattle.kdf_dictionary.specs.declared.writer.Figures.{Figures as KdfFigures}
use Rattle.kdf_dictionary.specs.declared.writer.Figures.TheVariants as kdf
use Rattle.header_writer.specs.Written.{checked}
use Rattle.std.specs.Prelude.{Result, Ok, Err}
use Rattle.header_writer.proofs.Laws.CheckedLaws.{checked_as}
use Rattle.writer.specs.Written.{Figures, file_bytes, sizes, settled, writing, writing_by, writing_with, checked_of, shown, shown_by, shown_with}
use Rattle.writer.specs.Stretches.{Sized, bytes_of}

-- what a KDF takes has a seed or salt of at most 64 bytes
writable_le : (fig : KdfFigures) (n : ℕ) → IsWritable fig n → n ≤ 64
unfolding IsWritable
writable_le (kdf.AesKdf rounds) n h = let e = h.0 in omega arith
writable_le (kdf.Argon2d passes memory lanes) n h = (argon2_fits_bounds n passes memory lanes h).salt_most
writable_le (kdf.Argon2id passes memory lanes) n h = (argon2_fits_bounds n passes memory lanes h).salt_most

pub checked-sized : (minor : ℕ) (id seed nonce : List ℕ) (fig : KdfFigures) (salt custom : List ℕ) (c : Cipher)
    → checked minor id seed nonce fig salt custom ≡ Ok c
    → Sized c seed nonce salt
checked-sized minor id seed nonce fig salt custom c e =
    let k = checked_as minor id seed nonce fig salt custom c e in
    record {
      seed = k.seed_long;
      nonce = k.nonce_long;
      salt_le = writable_le fig (length salt) k.writable;
    }

pub writing-refused : (g : Figures) (t b : List ℕ) (n : ℕ) (r : Refusal) → checked_of g ≡ Err r
    → Err r ≡ writing g t b n
unfolding writing_with writing_by
writing-refused g t b n r e = rw e

pub shown-refused : (g : Figures) (t b : List ℕ) (n : ℕ) (r : Refusal) → checked_of g ≡ Err r → [] ≡ shown g t b n
unfolding shown_with shown_by
shown-refused g t b n r e = rw e

pub writing_as : (g : Figures) (c : Cipher) (t b : List ℕ) (n : ℕ) → checked_of g ≡ Ok c
    → settled sizes (length b) (length (file_bytes g c t b)) n ≡ writing g t b n
unfolding writing_with writing_by
writing_as g c t b n e = rw e

shown_by_as : (g : Figures) (c : Cipher) (t b : List ℕ) (w : Written)
    → bytes_of w (file_bytes g c t b) ≡ shown_by written_block (Ok c) w g t b
unfolding shown_by bytes_of
shown_by_as g c t b (Ok n) = refl
shown_by_as g c t b (Err r) = refl

pub shown_as : (g : Figures) (c : Cipher) (t b : List ℕ) (n : ℕ) (w : Written) → checked_of g ≡ Ok c → w ≡ writing g t b n
    → bytes_of w (file_bytes g c t b) ≡ shown g t b n
unfolding shown_with
shown_as g c t b n w e f =
    shown_by_as g c t b w ∙ ap (λ (v : Written). shown_by written_block (Ok c) v g t b) f
    ∙ ap (λ (x : Result Cipher Refusal). shown_by written_block x (writing g t b n) g t b) (sym e)

pub settled-payload : (b f n : ℕ) → leb b payload_limit ≡ false → Err TooLong ≡ settled sizes b f n
unfolding settled
settled-payload b f n e = rw e

pub settled-file : (b f n : ℕ) → leb b payload_limit ≡ true → leb f file_limit ≡ false
    → Err TooLong ≡ settled sizes b f n
unfolding settled
settled-file b f n e h = rw (e, h)

pub settled_room : (b f n : ℕ) → leb b payload_limit ≡ true → leb f file_limit ≡ true → n < f
    → Err NoRoom ≡ settled sizes b f n
unfolding settled
settled_room b f n e h l = rw (e, h, lt-ltb n f l)

pub settled-wrote : (b f n : ℕ) → leb b payload_limit ≡ true → leb f file_limit ≡ true → f ≤ n
    → Ok f ≡ settled sizes b f n
unfolding settled
settled-wrote b f n e h l = rw (e, h, le-ltb n f l)
