-- Document 02, Item 3: fewer than 6,000 rounds are refused with 20, by the reader and by the writer.
--
-- In order:
--   least_is, most_is              the bounds
--   checked_few, checked_many, checked_enough    the writer's checks decide by the rounds
--   read_few, read_enough          .. and what the reader says to such a header
--   begins_few                     .. and to any other that passes the checks before
--   reader_least, writer_least     what is accepted, and what is written
--   few_rounds                     the sentence
-- Assumes nothing.
use mathlib.Core.Path.{◌≡◌, refl, sym, ap, ◌∙◌}
use mathlib.Core.List.{List, ◌++◌}
use Prim.Native.Nat.{ℕ, ◌≤◌, ◌<◌}
use native.Mathlib.Omega.{arith}
use lib.ListN.{length}
use borrow.Author.Tests.{le-leb, lt-leb, eq-eqb}
use Rattle.refusals.specs.declared.Refusal.TheVariants.{TooManyRounds, TooFewRounds}
use Rattle.refusals.specs.Limits.{file_limit, rounds_least, rounds_limit}
use Rattle.refusals.proofs.Laws.Limits.{rounds_some}
use Rattle.ciphers.specs.declared.Cipher.{Cipher}
use Rattle.kdf_dictionary.specs.Kdf.{IsWritable}
use Rattle.kdf_dictionary.specs.KdfDictionary.{aes_kdf_in, kdf_of}
use Rattle.kdf_dictionary.specs.declared.AesKdf.{AesKdf}
use Rattle.kdf_dictionary.specs.declared.Kdf.TheVariants as kdf
use Rattle.std.specs.Prelude.{Err, Ok}
use Rattle.kdf_dictionary.specs.declared.writer.Figures.{Figures as KdfFigures}
use Rattle.kdf_dictionary.specs.declared.writer.Figures.TheVariants as figures
use Rattle.kdf_dictionary.proofs.Laws.Asks.{IsAsked}
use Rattle.outer_header.specs.Kdbx4Header.{header}
use Rattle.outer_header.specs.declared.Header.{Header}
use Rattle.outer_header.proofs.Laws.Accepted.{header_stands}
use Rattle.header_writer.specs.Written.{custom_verdict, header_bytes, checked_custom, salt_sized, checked_figures, checked_sizes, checked_cipher, checked}
use Rattle.header_writer.specs.ReadsBack.{rounds_item, written_header}
use Rattle.header_writer.proofs.Laws.CheckedLaws.{checked_as}
use Rattle.header_writer.proofs.RoundTrip.{header_read_back, header_few}
use Rattle.opening.specs.Decryption.{refused}
use Rattle.vault.specs.Vault.{start_refused, start_in, start, opened_by, opened_in}
use Rattle.writer.specs.Written.{Figures, sizes, header_of, checked_of, writing}
use Rattle.writer.proofs.Laws.Checks.{writing-refused, shown-refused}
use Rattle.round_trip.specs.FewRounds.{Begins, rounds_at, Asks, FewRounds}
use Rattle.round_trip.proofs.Laws.Begun.{kdf_begins, begins_refuses}
use Rattle.round_trip.proofs.Laws.Success.{success}

least_is : rounds_least ≡ 6_000
unfolding rounds_least
least_is = refl

most_is : rounds_limit ≡ 4_000_000
unfolding rounds_limit
most_is = refl

module _ (c : Cipher) (rounds : ℕ) (g : Figures) (a : Asks c rounds g) where
  -- every check up to the rounds'
  checked_asks : checked_of g ≡ checked_figures c (figures.AesKdf rounds) g.salt g.custom
  unfolding checked_of checked checked_cipher checked_sizes salt_sized
  checked_asks =
      rw (
        le-leb g.minor 1 a.minor_le,
        a.cipher_is,
        eq-eqb (length g.seed) 32 a.seed_long,
        eq-eqb (length g.nonce) _ a.nonce_long,
        a.with_aes_kdf,
        eq-eqb (length g.salt) 32 a.kdf_seed_long,
      )

  checked_few : rounds < rounds_least → checked_of g ≡ Err (TooFewRounds 0)
  unfolding checked_figures
  checked_few few =
      let within : rounds ≤ rounds_limit = omega (arith, rounds_some) in
      checked_asks ∙ rw (le-leb rounds rounds_limit within, lt-leb rounds_least rounds few)

  pub checked_many : rounds_limit < rounds → checked_of g ≡ Err (TooManyRounds 0)
  unfolding checked_figures
  checked_many many = checked_asks ∙ rw (lt-leb rounds rounds_limit many)

  checked_enough : rounds_least ≤ rounds → rounds ≤ rounds_limit → custom_verdict g.custom ≡ (Ok tt) → checked_of g ≡ Ok c
  unfolding checked_figures checked_custom
  checked_enough enough within sound =
      checked_asks ∙ rw (le-leb rounds rounds_limit within, le-leb rounds_least rounds enough, sound)

  header_is : header_of g c ≡ header_bytes g.minor c g.seed g.nonce (figures.AesKdf rounds) g.salt g.custom
  unfolding header_of
  header_is = rw a.with_aes_kdf

  read_few : rounds < rounds_least → (rest : List ℕ) → length (header_of g c ++ rest) ≤ file_limit
      → header (header_of g c ++ rest) ≡ Err (TooFewRounds (rounds_item c))
  read_few few rest =
      rw header_is (λ f. header_few g.minor c g.seed g.nonce rounds g.salt g.custom rest a.minor_le
      a.seed_long a.nonce_long a.kdf_seed_long few f)

  read_enough : rounds_least ≤ rounds → rounds ≤ rounds_limit → custom_verdict g.custom ≡ Ok tt
      → (rest : List ℕ) → length (header_of g c ++ rest) ≤ file_limit
      → header (header_of g c ++ rest)
      ≡ Ok (written_header g.minor c (figures.AesKdf rounds) 32 (length g.custom))
  unfolding checked_of
  read_enough enough within sound rest =
      let e = sym (ap (λ (k : KdfFigures). checked g.minor g.cipher g.seed g.nonce k g.salt g.custom)
      a.with_aes_kdf) ∙ checked_enough enough within sound in
      rw header_is (λ f. (header_read_back g.minor g.cipher g.seed g.nonce (figures.AesKdf rounds) g.salt
      g.custom c rest e f).header_is
      ∙ ap (λ (l : ℕ). Ok (written_header g.minor c (figures.AesKdf rounds) l (length g.custom)))
      a.kdf_seed_long)

-- a file that begins with a header of few rounds
module _ (rounds : ℕ) (s : List ℕ) (i : Begins rounds s) (few : rounds < rounds_least) where
  kdf_few : kdf_of s i.fields.kdf ≡ Err (TooFewRounds (rounds_at rounds s i))
  unfolding aes_kdf_in
  kdf_few =
      let k = i.has_rounds in
      let within : rounds ≤ rounds_limit = omega (arith, rounds_some) in
      kdf_begins rounds s i
      ∙ rw (
        eq-eqb _ 32 k.seed_long,
        k.rounds_given,
        k.rounds_are,
        le-leb rounds rounds_limit within,
        lt-leb rounds_least rounds few,
      )

  begins_few : header s ≡ Err (TooFewRounds (rounds_at rounds s i))
  begins_few = begins_refuses rounds s i (TooFewRounds (rounds_at rounds s i)) kdf_few

  start_few : (t : List ℕ) → start t s ≡ start_refused (TooFewRounds (rounds_at rounds s i))
  unfolding start start_in
  start_few t = rw begins_few

  whole_few : (t : List ℕ) (n : ℕ) → opened_in t s n ≡ refused (TooFewRounds (rounds_at rounds s i))
  unfolding opened_in opened_by
  whole_few t n = rw (start_few t)

-- an accepted header's rounds
reader_least : (s : List ℕ) (h : Header) (k : AesKdf) → header s ≡ Ok h → h.kdf ≡ kdf.AesKdf k
    → rounds_least ≤ k.rounds
reader_least s h k e i =
    let a : IsAsked h.kdf_dictionary (kdf.AesKdf k) = rw i at (header_stands s h e).kdf_stands in
    a.rounds_ge

-- written rounds
writer_least : (g : Figures) (t b : List ℕ) (n m rounds : ℕ) → g.kdf ≡ figures.AesKdf rounds
    → writing g t b n ≡ Ok m
    → rounds_least ≤ rounds
unfolding checked_of IsWritable
writer_least g t b n m rounds i e =
    let w = success sizes g t b n m e in
    let k = checked_as g.minor g.cipher g.seed g.nonce g.kdf g.salt g.custom w.cipher w.accepted in
    let v : IsWritable (figures.AesKdf rounds) (length g.salt) = rw i at k.writable in
    v.2

-- THE SENTENCE. Bounds go through `omega`: another one is refused where it does not suffice, and not because it is
-- written otherwise.
pub few_rounds : FewRounds
few_rounds =
    record {
      reader_takes = λ s h k e i. omega (arith, least_is, reader_least s h k e i);
      writer_takes = λ g t b n m rounds i e. omega (arith, least_is, writer_least g t b n m rounds i e);
      reader_refuses = λ rounds s i l. begins_few rounds s i (omega (arith, least_is, l));
      start_refuses = λ rounds s i l t. start_few rounds s i (omega (arith, least_is, l)) t;
      whole_refuses = λ rounds s i l t n. whole_few rounds s i (omega (arith, least_is, l)) t n;
      writer_refuses = λ c rounds g a l t b n.
          sym (writing-refused g t b n (TooFewRounds 0) (checked_few c rounds g a (omega (arith, least_is, l))));
      nothing_shown = λ c rounds g a l t b n.
          sym (shown-refused g t b n (TooFewRounds 0) (checked_few c rounds g a (omega (arith, least_is, l))));
      former_refused = λ c rounds g a l rest f. read_few c rounds g a (omega (arith, least_is, l)) rest f;
      writer_passes = λ c rounds g a l u v.
          checked_enough c rounds g a (omega (arith, least_is, l)) (omega (arith, most_is, u)) v;
      reader_passes = λ c rounds g a l u v rest f.
          read_enough c rounds g a (omega (arith, least_is, l)) (omega (arith, most_is, u)) v rest f;
    }
