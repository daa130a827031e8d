-- The worked numbers of document 01, and of Items 3, 6, 7 and 8 of document 02, as one table.
--
-- In order: lengths of files and of KDF dictionaries; plain_writes, what the writer writes of plain figures; counts of
-- blocks; steps; rounds; worked (the table).
-- Assumes nothing.
use mathlib.Core.Path.{◌≡◌, refl, sym, ap, ap₂, ◌∙◌}
use mathlib.Core.Logic.{◌≢◌}
use mathlib.Core.List.{List, [], ◌∷◌, ◌++◌}
use Prim.Native.Nat.{ℕ, ◌+◌, ◌*◌, ◌/◌, ◌≤◌, ◌<◌}
use native.Mathlib.Omega.{arith}
use lib.ListN.{length, take, drop, length-drop, take-append-drop}
use lib.Seq.{length-take-le}
use Rattle.refusals.specs.declared.Refusal.TheVariants.{CutShort, TooManyRounds}
use Rattle.refusals.specs.Limits.{file_limit, payload_limit, rounds_limit, written_block}
use Rattle.refusals.proofs.Laws.Limits.{block-pieces}
use Rattle.ciphers.specs.Ciphers.{cipher_of, nonce_length}
use Rattle.ciphers.specs.declared.Cipher.{Cipher}
use Rattle.ciphers.specs.declared.Cipher.TheVariants.{Aes256, ChaCha20}
use Rattle.ciphers.proofs.Laws.{cipher_of-identifier}
use Rattle.aes_kdf.specs.AesKdf as aes_kdf
use Rattle.kdf_dictionary.specs.Kdf.{kdf_bytes, kdf_length}
use Rattle.kdf_dictionary.specs.declared.writer.Figures.{Figures as KdfFigures}
use Rattle.kdf_dictionary.specs.declared.writer.Figures.TheVariants as figures
use Rattle.kdf_dictionary.proofs.Laws.Layout.{length-kdf_bytes}
use Rattle.stream.proofs.Laws.Apply.{length-apply}
use Rattle.fields.specs.Fields.{bytes_at}
use Rattle.std.specs.Prelude.{Err, Ok}
use Rattle.outer_header.proofs.Examples.{header_short, custom_negative, custom_long, rounds_most, rounds_more}
use Rattle.header_writer.specs.Written.{custom_verdict, header_length}
use Rattle.header_writer.proofs.Worked.{length-kdf, length_aes, length_chacha}
use Rattle.block_stream.specs.Blocks.{block_bytes}
use Rattle.cutting.specs.Cutting.{cut_in, blocks_from, block_count}
use Rattle.opening.specs.declared.Keys.{Keys}
use Rattle.opening.specs.declared.Phase.TheVariants.{Ended}
use Rattle.opening.specs.Decryption.{handed}
use Rattle.opening.specs.Agreement.{handed_over, plain_after}
use Rattle.opening.proofs.Laws.Payload.{length-encrypted}
use Rattle.opening.proofs.Worked as steps
use Rattle.vault.specs.Vault.{start, begun}
use Rattle.vault.proofs.Theorem as opens
use Rattle.writer.specs.Written.{
  Figures,
  sizes,
  header_of,
  encryption_by,
  blocks_of,
  file_with,
  file_cut,
  file_bytes,
  checked_of,
  writing,
}
use Rattle.writer.specs.Stretches.{text_length, blocks_length, file_length}
use Rattle.writer.proofs.Laws.Blocks.{blocks_full, blocks_last}
use Rattle.writer.proofs.Laws.Checks.{writing-refused}
use Rattle.round_trip.specs.Opens.{file_keys}
use Rattle.round_trip.specs.FewRounds.{Asks}
use Rattle.round_trip.specs.Worked.{
  Plain,
  Writes,
  tag_base_of,
  text_of,
  front_of,
  in_no_block,
  in_one_block,
  in_two_blocks,
  WorkedNumbers,
}
use Rattle.round_trip.specs.Writable.{size_of, Fits}
use Rattle.round_trip.proofs.Laws.Started.{length-nonce}
use Rattle.round_trip.proofs.Laws.Success.{shown-wrote}
use Rattle.round_trip.proofs.Laws.Begun.{kdf_begins, begins_refuses, begins_accepts}
use Rattle.round_trip.proofs.Laws.Fields.{header_field}
use Rattle.round_trip.proofs.In5And27.{has_5_27}
use Rattle.round_trip.proofs.FewRounds.{few_rounds, checked_many}
use Rattle.round_trip.proofs.Accepts.{checked_writes}

-- a file of AES-KDF without custom data
abbrev plain_length : Cipher → ℕ → ℕ
plain_length c n = file_length c (figures.AesKdf 0) 32 0 n

-- how many rounds does not matter
file_length-rounds : (c : Cipher) (rounds l m n : ℕ)
    → file_length c (figures.AesKdf rounds) l m n ≡ file_length c (figures.AesKdf 0) l m n
unfolding file_length header_length kdf_length
file_length-rounds c rounds l m n = refl

no_custom_sound : (g : Figures) → g.custom ≡ [] → custom_verdict g.custom ≡ Ok tt
unfolding custom_verdict
no_custom_sound g e = rw e

module _ (c : Cipher) (g : Figures) (p : Plain c g) where
  asks : Asks c p.rounds g
  asks =
      record {
        minor_le = p.minor_le;
        cipher_is = ap cipher_of p.cipher_is ∙ cipher_of-identifier c;
        seed_long = p.seed_long;
        nonce_long = p.nonce_long;
        with_aes_kdf = p.with_aes_kdf;
        kdf_seed_long = p.kdf_seed_long;
      }

  checked : checked_of g ≡ Ok c
  checked =
      few_rounds.writer_passes c p.rounds g asks p.rounds_enough p.rounds_within
      (no_custom_sound g p.no_custom)

  size_is : (b : List ℕ) → size_of g c b ≡ plain_length c (length b)
  size_is b =
      ap₂ (λ (f : KdfFigures) (l : ℕ). file_length c f l (length g.custom) (length b)) p.with_aes_kdf p.kdf_seed_long
      ∙ ap (λ (m : ℕ). file_length c (figures.AesKdf p.rounds) 32 m (length b)) (ap length p.no_custom)
      ∙ file_length-rounds c p.rounds 32 0 (length b)

  -- what the writer writes of a payload whose file has m bytes
  plain_writes : (t b : List ℕ) (n m : ℕ) (f : List ℕ) → plain_length c (length b) ≡ m → length b ≤ 16_000_000
      → m ≤ 16_000_000
      → m ≤ n
      → file_bytes g c t b ≡ f
      → Writes g t b n m f
  unfolding payload_limit file_limit
  plain_writes t b n m f e l o r i =
      let s : size_of g c b ≡ m = size_is b ∙ e in
      let w : writing g t b n ≡ Ok m =
      checked_writes g c t b n checked (record { payload_le = omega arith; file_le = omega arith; room = omega arith })
      ∙ ap Ok s in
      record { answers = w; shows = shown-wrote sizes g c t b n m checked w ∙ i }

file_0 : plain_length Aes256 0 ≡ 359
unfolding file_length header_length kdf_length nonce_length block_count blocks_length text_length written_block
file_0 = refl

file_0_chacha : plain_length ChaCha20 0 ≡ 303
unfolding file_length header_length kdf_length nonce_length block_count blocks_length text_length written_block
file_0_chacha = refl

file_1_chacha : plain_length ChaCha20 1 ≡ 340
unfolding file_length header_length kdf_length nonce_length block_count blocks_length text_length written_block
file_1_chacha = refl

file_16384 : plain_length Aes256 16_384 ≡ 16_743
unfolding file_length header_length kdf_length nonce_length block_count blocks_length text_length written_block
file_16384 = refl

file_1048576 : plain_length Aes256 1_048_576 ≡ 1_048_971
unfolding file_length header_length kdf_length nonce_length block_count blocks_length text_length written_block
file_1048576 = refl

file_16384_chacha : plain_length ChaCha20 16_384 ≡ 16_723
unfolding file_length header_length kdf_length nonce_length block_count blocks_length text_length written_block
file_16384_chacha = refl

file_16383 : plain_length Aes256 16_383 ≡ 16_727
unfolding file_length header_length kdf_length nonce_length block_count blocks_length text_length written_block
file_16383 = refl

file_1048575 : plain_length Aes256 1_048_575 ≡ 1_048_919
unfolding file_length header_length kdf_length nonce_length block_count blocks_length text_length written_block
file_1048575 = refl

-- Argon2's dictionaries
length_argon2d : (salt : List ℕ) (passes memory lanes : ℕ)
    → length (kdf_bytes (figures.Argon2d passes memory lanes) salt) ≡ 107 + length salt
unfolding kdf_length
length_argon2d salt passes memory lanes = length-kdf_bytes (figures.Argon2d passes memory lanes) salt

length-argon2id : (salt : List ℕ) (passes memory lanes : ℕ)
    → length (kdf_bytes (figures.Argon2id passes memory lanes) salt) ≡ 107 + length salt
unfolding kdf_length
length-argon2id salt passes memory lanes = length-kdf_bytes (figures.Argon2id passes memory lanes) salt

-- a ciphertext that fits one block, and one that is a block and sixteen bytes
one_block : (base t : List ℕ) → (length t ≡ 0 → ⊥) → length t ≤ written_block
    → blocks_of base t ≡ block_bytes base 0 t ++ block_bytes base 1 []
unfolding blocks_of
one_block base t n h = blocks_last base 0 t n h

two_blocks : (base t : List ℕ) → length t ≡ written_block + 16 → 16 ≤ written_block
    → blocks_of base t
    ≡ block_bytes base 0 (take written_block t) ++ (block_bytes base 1 (drop written_block t) ++ block_bytes base 2 [])
unfolding blocks_of
two_blocks base t e h =
    let a : length (take written_block t) ≡ written_block = length-take-le written_block t (omega arith) in
    let d : length (drop written_block t) ≡ 16 = length-drop written_block t ∙ omega arith in
    ap (λ (x : List ℕ). blocks_of base x) (sym (take-append-drop written_block t))
    ∙ blocks_full base 0 (take written_block t) (drop written_block t) a
    ∙ ap (λ (x : List ℕ). block_bytes base 0 (take written_block t) ++ x)
    (blocks_last base 1 (drop written_block t) (λ z. omega arith) (omega arith))

length-text : (k : Keys) → length k.nonce ≡ 16 → (b : List ℕ)
    → length (encryption_by Aes256 k b) ≡ 16 * (length b / 16 + 1)
unfolding encryption_by
length-text k h b = length-encrypted k h b

length_stream : (k : Keys) (b : List ℕ) → length (encryption_by ChaCha20 k b) ≡ length b
unfolding encryption_by
length_stream k b = length-apply _ 0 b

block_is : written_block ≡ 1_048_576
unfolding written_block
block_is = refl

-- the file is its front and its blocks
file_front : (c : Cipher) (g : Figures) (t b : List ℕ)
    → file_bytes g c t b ≡ front_of c g t ++ blocks_of (tag_base_of c g t) (text_of c g t b)
unfolding file_cut file_with blocks_of
file_front c g t b = refl

module _ (g : Figures) (p : Plain Aes256 g) (t b : List ℕ) where
  length_aes_text : length (text_of Aes256 g t b) ≡ 16 * (length b / 16 + 1)
  length_aes_text = length-text (file_keys g Aes256 t) (length-nonce g Aes256 t (checked Aes256 g p)) b

  -- a payload that is less than a block, and one that fills it
  one_aes : (n m : ℕ) → plain_length Aes256 (length b) ≡ m → length b < written_block → m ≤ 16_000_000 → m ≤ n
      → Writes g t b n m (in_one_block Aes256 g t b)
  one_aes n m e l f r =
      let a = length_aes_text in
      plain_writes Aes256 g p t b n m (in_one_block Aes256 g t b) e (omega (arith, block_is)) f r
      (file_front Aes256 g t b
      ∙ ap (λ (x : List ℕ). front_of Aes256 g t ++ x)
      (one_block (tag_base_of Aes256 g t) (text_of Aes256 g t b) (λ z. omega arith) (omega (arith, block-pieces))))

  two_aes : (n m : ℕ) → plain_length Aes256 (length b) ≡ m → length b ≡ written_block → m ≤ 16_000_000 → m ≤ n
      → Writes g t b n m (in_two_blocks Aes256 g t b)
  two_aes n m e l f r =
      let a = length_aes_text in
      plain_writes Aes256 g p t b n m (in_two_blocks Aes256 g t b) e (omega (arith, block_is)) f r
      (file_front Aes256 g t b
      ∙ ap (λ (x : List ℕ). front_of Aes256 g t ++ x)
      (two_blocks (tag_base_of Aes256 g t) (text_of Aes256 g t b) (omega (arith, block_is)) (omega (arith, block_is))))

module _ (g : Figures) (p : Plain ChaCha20 g) (t b : List ℕ) where
  one_chacha : (n m : ℕ) → plain_length ChaCha20 (length b) ≡ m → 0 < length b → length b ≤ written_block
      → m ≤ 16_000_000
      → m ≤ n
      → Writes g t b n m (in_one_block ChaCha20 g t b)
  one_chacha n m e some l f r =
      let a = length_stream (file_keys g ChaCha20 t) b in
      plain_writes ChaCha20 g p t b n m (in_one_block ChaCha20 g t b) e (omega (arith, block_is)) f r
      (file_front ChaCha20 g t b
      ∙ ap (λ (x : List ℕ). front_of ChaCha20 g t ++ x)
      (one_block (tag_base_of ChaCha20 g t) (text_of ChaCha20 g t b) (λ z. omega arith) (omega arith)))

-- no ciphertext, no data block
no_block : (base s : List ℕ) → length s ≡ 0 → blocks_of base s ≡ block_bytes base 0 []
unfolding blocks_of blocks_from cut_in
no_block base [] e = refl
no_block base (x ∷ s) e = absurd (omega arith)

none_chacha : (g : Figures) (t : List ℕ) → file_bytes g ChaCha20 t [] ≡ in_no_block ChaCha20 g t
none_chacha g t =
    file_front ChaCha20 g t []
    ∙ ap (λ (x : List ℕ). front_of ChaCha20 g t ++ x)
    (no_block (tag_base_of ChaCha20 g t) (text_of ChaCha20 g t []) (length_stream (file_keys g ChaCha20 t) []))

-- what a list of steps has handed over of AES, after c bytes of ciphertext
handed_over_lem : (t f : List ℕ) (k : Keys) (p : ℕ) → start t f ≡ begun k p → k.cipher ≡ Aes256 → (rooms : List ℕ)
    → (plain_after k f p rooms).phase ≢ Ended → (c : ℕ) → length (plain_after k f p rooms).text ≡ c
    → length (handed_over k f p rooms) ≡ handed Aes256 c
handed_over_lem t f k p s z rooms e c l =
    ((opens.agrees t f).after_start k p s rooms).as_many e ∙ ap₂ (λ (x : Cipher) (n : ℕ). handed x n) z l

-- figures of AES-KDF that pass, where payload and file fit
asks_writes : (c : Cipher) (rounds : ℕ) (g : Figures) → Asks c rounds g → 6_000 ≤ rounds → rounds ≤ 4_000_000
    → custom_verdict g.custom ≡ Ok tt
    → (t b : List ℕ) (n : ℕ) → Fits g c b n
    → writing g t b n ≡ Ok (size_of g c b)
asks_writes c rounds g a l u v t b n f = checked_writes g c t b n (few_rounds.writer_passes c rounds g a l u v) f

-- 4,000,000 rounds, and one more
most_is : rounds_limit ≡ 4_000_000
unfolding rounds_limit
most_is = refl

started_most : (composite seed : List ℕ) → (aes_kdf.start composite seed 4_000_000).outcome ≡ Ok tt
unfolding aes_kdf.start rounds_limit
started_most composite seed = refl

started_more : (composite seed : List ℕ)
    → aes_kdf.start composite seed 4_000_001
    ≡ record { outcome = Err (TooManyRounds 0); next = aes_kdf.refused }
unfolding aes_kdf.start rounds_limit
started_more composite seed = refl

header_207 : (g : Figures) → Plain Aes256 g → length (header_of g Aes256) ≡ 207
unfolding header_of nonce_length
header_207 g p =
    rw (p.with_aes_kdf, p.no_custom)
    (length_aes g.minor g.seed g.nonce g.salt p.rounds p.seed_long p.kdf_seed_long p.nonce_long)

-- THE TABLE
pub worked : WorkedNumbers
worked =
    record {
      header_aes = λ minor seed nonce kdf_seed rounds hs hk hn. length_aes minor seed nonce kdf_seed rounds hs hk hn;
      header_chacha = λ minor seed nonce kdf_seed rounds hs hk hn. length_chacha minor seed nonce kdf_seed rounds hs hk hn;
      kdf_dictionary_is = λ kdf_seed rounds hk. length-kdf 0 kdf_seed [] kdf_seed rounds hk hk;
      argon2d_dictionary = λ salt passes memory lanes. length_argon2d salt passes memory lanes;
      argon2id_dictionary = λ salt passes memory lanes. length-argon2id salt passes memory lanes;
      empty_aes = λ g p t n r. one_aes g p t [] n 359 file_0 (omega (arith, block_is)) (omega arith) r;
      empty_chacha = λ g p t n r.
          plain_writes ChaCha20 g p t [] n 303 (in_no_block ChaCha20 g t) file_0_chacha (omega arith) (omega arith) r
          (none_chacha g t);
      one_chacha = λ g p t b e n r.
          one_chacha g p t b n 340 (ap (plain_length ChaCha20) e ∙ file_1_chacha) (omega arith) (omega (arith, block_is))
          (omega arith) r;
      one_block_aes = λ g p t b e n r.
          one_aes g p t b n 16_727 (ap (plain_length Aes256) e ∙ file_16383) (omega (arith, block_is)) (omega arith) r;
      now_one_block_aes = λ g p t b e n r.
          one_aes g p t b n 16_743 (ap (plain_length Aes256) e ∙ file_16384) (omega (arith, block_is)) (omega arith) r;
      full_block_aes = λ g p t b e n r.
          one_aes g p t b n 1_048_919 (ap (plain_length Aes256) e ∙ file_1048575) (omega (arith, block_is)) (omega arith)
          r;
      two_blocks_aes = λ g p t b e n r.
          two_aes g p t b n 1_048_971 (ap (plain_length Aes256) e ∙ file_1048576) (omega (arith, block_is)) (omega arith)
          r;
      one_block_chacha = λ g p t b e n r.
          one_chacha g p t b n 16_723 (ap (plain_length ChaCha20) e ∙ file_16384_chacha) (omega arith)
          (omega (arith, block_is)) (omega arith) r;
      handed_16 = λ t f k p s z rooms e l. handed_over_lem t f k p s z rooms e 16 l ∙ steps.handed_16;
      handed_17 = λ t f k p s z rooms e l. handed_over_lem t f k p s z rooms e 17 l ∙ steps.handed_17;
      steps_5_27 = λ k f p h n m l. steps.steps_5_27 k f p h n m l;
      padding_1 = λ k f p h c e n m r l o. steps.closing_padding_1 k f p h c e n m r l o;
      padding_16 = λ k f p h c e n m r l. steps.closing_padding_16 k f p h c e n m r l;
      has_5_27 = λ g p nb t b bb l h. has_5_27 g t b (checked Aes256 g p) (header_207 g p) nb bb l h;
      custom_negative = λ s at c.
          header_field s c.fields at _ c.front c.before (omega (arith, c.present))
          (custom_negative c.fields s at c.first c.present c.id_is c.size_is);
      custom_long = λ s at c.
          header_field s c.fields at _ c.front c.before (omega (arith, c.present))
          (custom_long c.fields s at c.first c.present c.id_is c.size_is c.front.fits);
      read_most = λ s i c.
          begins_accepts 4_000_000 s i _
          (kdf_begins 4_000_000 s i
          ∙ rounds_most (bytes_at s i.fields.kdf) i.fields.kdf _ _ i.has_rounds.seed_long
          i.has_rounds.rounds_given i.has_rounds.rounds_are)
          c;
      read_more = λ s i.
          begins_refuses 4_000_001 s i _
          (kdf_begins 4_000_001 s i
          ∙ rounds_more (bytes_at s i.fields.kdf) i.fields.kdf _ _ i.has_rounds.seed_long
          i.has_rounds.rounds_given i.has_rounds.rounds_are);
      written_most = λ c g a v t b n f. asks_writes c 4_000_000 g a (omega arith) (omega arith) v t b n f;
      written_more = λ c g a t b n.
          sym (writing-refused g t b n (TooManyRounds 0) (checked_many c 4_000_001 g a (omega (arith, most_is))));
      started_most = λ composite seed. started_most composite seed;
      started_more = λ composite seed. started_more composite seed;
      read_6000 = λ c g a v rest f. few_rounds.reader_passes c 6_000 g a (omega arith) (omega arith) v rest f;
      read_5999 = λ c g a rest f. few_rounds.former_refused c 5_999 g a (omega arith) rest f;
      written_6000 = λ c g a v t b n f. asks_writes c 6_000 g a (omega arith) (omega arith) v t b n f;
      written_5999 = λ c g a t b n. few_rounds.writer_refuses c 5_999 g a (omega arith) t b n;
      eleven = λ s e. header_short s (omega arith) ∙ ap (λ (n : ℕ). Err (CutShort n)) e;
    }
