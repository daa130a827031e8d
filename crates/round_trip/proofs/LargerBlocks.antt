-- Document 02, Item 7: what comes of inputs that the writer took before.
--
-- In order:
--   length-file_cut                a file in blocks of z bytes
--   cut-le, cut-lt, cut_same      in larger blocks it is no longer, it is shorter, it is the same
--   still_taken                   whoever keeps to sizes no larger is taken with larger ones
--   larger_blocks                 the sentence; its two files are each other's cuttings (Item 13)
-- Assumes nothing.
use mathlib.Core.Path.{◌≡◌, sym, ap, ◌∙◌}
use mathlib.Core.List.{List, ◌++◌}
use Prim.Native.Nat.{ℕ, ◌+◌, ◌≤◌, ◌<◌}
use native.Mathlib.Omega.{arith}
use lib.ListN.{length, length-append}
use borrow.Author.Tests.{le-leb, le-ltb}
use Rattle.refusals.specs.Limits.{file_limit, written_block}
use Rattle.refusals.proofs.Laws.Limits.{block_positive, payload_raised, file_raised, block_raised}
use Rattle.ciphers.specs.declared.Cipher.{Cipher}
use Rattle.std.specs.Prelude.{Ok}
use Rattle.cutting.specs.Cutting.{cut, blocks_from, cut_length}
use Rattle.cutting.proofs.Laws.Cut.{length_cut, length-blocks, cut_alike, count_le, count_lt}
use Rattle.writer.specs.Written.{
  Figures,
  Sizes,
  sizes,
  settled,
  header_of,
  file_with,
  file_cut,
  checked_of,
  writing_by,
  writing_with,
  shown_with,
  shown,
}
use Rattle.writer.specs.Stretches.{summed}
use Rattle.round_trip.specs.Opens.{file_keys}
use Rattle.round_trip.specs.LargerBlocks.{before, ciphertext, LargerBlocks}
use Rattle.round_trip.proofs.Laws.Success.{success, shown-wrote}
use Rattle.round_trip.proofs.Theorem.{written_opens}
use Rattle.round_trip.proofs.Recut.{written_cutting}

module _ (g : Figures) (c : Cipher) (t b : List ℕ) where
  abbrev text : List ℕ
  text = ciphertext g c t b

  abbrev front : List ℕ
  front = summed (file_keys g c t).base (header_of g c)

  pub length-file_cut : (z : ℕ) → 0 < z → length (file_cut z g c t b) ≡ length front + cut_length z (length text)
  unfolding file_cut file_with
  length-file_cut z some =
      length-append front (blocks_from (file_keys g c t).base 0 (cut z text))
      ∙ ap (λ (n : ℕ). length front + n) (length-blocks z some (file_keys g c t).base 0 text)

  cut-le : (z w : ℕ) → 0 < z → z ≤ w → length (file_cut w g c t b) ≤ length (file_cut z g c t b)
  cut-le z w some l =
      let o : 0 < w = omega arith in
      omega (arith, length-file_cut z some, length-file_cut w o, count_le z w (length text) some l)

  cut-lt : (z w : ℕ) → 0 < z → z + z ≤ w → z < length text → length (file_cut w g c t b) < length (file_cut z g c t b)
  cut-lt z w some l h =
      let o : 0 < w = omega arith in
      omega (arith, length-file_cut z some, length-file_cut w o, count_lt z w (length text) some l h)

  cut_same : (z w : ℕ) → 0 < z → z ≤ w → length text ≤ z → file_cut w g c t b ≡ file_cut z g c t b
  unfolding file_cut file_with
  cut_same z w some l h =
      let o : 0 < w = omega arith in
      ap (λ (ds : List (List ℕ)). front ++ blocks_from (file_keys g c t).base 0 ds)
      (cut_alike z w some o text h (omega arith))

  -- sizes r that are no less than the sizes s
  still_taken : (s r : Sizes) → s.payload ≤ r.payload → s.file ≤ r.file → 0 < s.block → s.block ≤ r.block
      → checked_of g ≡ Ok c → (n : ℕ) → length b ≤ s.payload → length (file_cut s.block g c t b) ≤ s.file
      → length (file_cut s.block g c t b) ≤ n
      → writing_with r g t b n ≡ Ok (length (file_cut r.block g c t b))
  unfolding writing_with writing_by settled
  still_taken s r hp hf some hb e n lp lf ln =
      let l = cut-le s.block r.block some hb in
      let p : length b ≤ r.payload = omega arith in
      let f : length (file_cut r.block g c t b) ≤ r.file = omega arith in
      let m : length (file_cut r.block g c t b) ≤ n = omega arith in
      rw (
        e,
        le-leb (length b) r.payload p,
        le-leb (length (file_cut r.block g c t b)) r.file f,
        le-ltb n (length (file_cut r.block g c t b)) m,
      )

-- THE SENTENCE. What a field supposes of the ciphertext's length goes through `omega`: another bound is refused where it
-- does not suffice, and not because it is written otherwise.
pub larger_blocks : LargerBlocks
larger_blocks g t b n m h =
    let w = success before g t b n m h in
    let c = w.cipher in
    let some : 0 < 16_384 = omega arith in
    let le : 16_384 ≤ written_block = omega (arith, block_raised) in
    let text = ciphertext g c t b in
    let fits : length (file_cut 16_384 g c t b) ≤ file_limit = omega (arith, w.file_le, file_raised) in
    let fits-now : length (file_cut written_block g c t b) ≤ file_limit =
    omega (arith, fits, cut-le g c t b 16_384 written_block some le) in
    let y =
    still_taken g c t b before sizes payload_raised file_raised some le w.accepted n w.payload_le w.file_le
    w.room in
    let now = shown-wrote sizes g c t b n _ w.accepted y in
    let less : 16_384 < length text → length (shown g t b n) < length (shown_with before g t b n) = λ o.
    rw (now, w.bytes) (cut-lt g c t b 16_384 written_block some block_raised o) in
    record {
      cipher = c;
      accepted = w.accepted;
      file_before = w.bytes;
      file_now = now;
      taken = rw now y;
      same = λ l. now ∙ cut_same g c t b 16_384 written_block some le (omega (arith, l)) ∙ sym w.bytes;
      other = λ o e. omega (arith, less (omega (arith, o)), ap length e);
      shorter = λ o. less (omega (arith, o));
      fewer = λ o.
          omega (
            arith,
            length_cut 16_384 some text,
            length_cut written_block block_positive text,
            count_lt 16_384 written_block (length text) some block_raised (omega (arith, o)),
          );
      opens = λ p q.
          rw w.bytes (written_opens 16_384 some g c t b w.accepted p q fits);
      cut_anew = rw (now, w.bytes) (written_cutting 16_384 some g c t b fits written_block block_positive fits-now);
      cut_back = rw (now, w.bytes) (written_cutting written_block block_positive g c t b fits-now 16_384 some fits);
    }
