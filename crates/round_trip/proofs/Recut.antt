-- What we write, in other cuttings (document 02, Item 13).
--
-- In order:
--   text_written, front_written    the ciphertext in a written file is the payload's encryption, behind the front
--   recut_written                  a file in blocks of z bytes, cut at w, is the file in blocks of w bytes
--   written_cutting                .. so each of the two is the other in another cutting
--   back_to_written                whatever our file was cut into, cut at our size it is our file again, byte for byte
-- Assumes nothing.
use mathlib.Core.Path.{◌≡◌, ap, ap₂, ◌∙◌}
use mathlib.Core.List.{List, ◌++◌}
use Prim.Native.Nat.{ℕ, ◌≤◌, ◌<◌}
use lib.ListN.{length, take}
use lib.Seq.{take_at, drop_at}
use Rattle.refusals.specs.Limits.{file_limit, written_block}
use Rattle.refusals.proofs.Laws.Limits.{block_positive}
use Rattle.ciphers.specs.declared.Cipher.{Cipher}
use Rattle.std.specs.Prelude.{Ok}
use Rattle.cutting.specs.Cutting.{pieces, cut, blocks_from, sizes_at, InBlocks}
use Rattle.cutting.proofs.Laws.Blocks.{blocks_stand}
use Rattle.cutting.proofs.Laws.Cut.{joined-cut, cut_nonempty, pieces_at, total_at, positive_at}
use Rattle.opening.specs.declared.Keys.{Keys}
use Rattle.open_whole.specs.Ciphertext.{text}
use Rattle.recutting.specs.Recut.{recut, recut_at, Cuts, IsCutting}
use Rattle.recutting.proofs.Laws.Text.{text-blocks}
use Rattle.recutting.proofs.Theorem.{recut_at-recut}
use Rattle.writer.specs.Written.{Figures, encryption_by, header_of, file_with, file_cut, file_bytes, checked_of}
use Rattle.writer.specs.Stretches.{summed}
use Rattle.writer.proofs.Laws.Files.{length-summed}
use Rattle.round_trip.specs.Opens.{file_keys, first_block_of}
use Rattle.round_trip.proofs.Laws.Started.{start_written}

-- the file in blocks of z bytes
module _ (z : ℕ) (some : 0 < z) (g : Figures) (c : Cipher) (t b : List ℕ)
    (fits : length (file_cut z g c t b) ≤ file_limit) where
  abbrev k : Keys
  k = file_keys g c t

  abbrev f : List ℕ
  f = file_cut z g c t b

  abbrev p : ℕ
  p = first_block_of g c

  abbrev encryption : List ℕ
  encryption = encryption_by c k b

  abbrev front : List ℕ
  front = summed k.base (header_of g c)

  length_front : length front ≡ p
  length_front = length-summed k.base (header_of g c)

  stand : InBlocks k.base f 0 p (cut z encryption)
  unfolding file_cut file_with
  stand =
      blocks_stand k.base f fits (cut z encryption) 0 p
      (drop_at front (blocks_from k.base 0 (cut z encryption)) p length_front) (cut_nonempty z some encryption)

  pub text_written : text (file_cut z g c t b) (first_block_of g c) ≡ encryption_by c (file_keys g c t) b
  text_written = text-blocks k.base f (cut z encryption) 0 p stand ∙ joined-cut z some encryption

  pub front_written : take (first_block_of g c) (file_cut z g c t b) ≡ summed (file_keys g c t).base (header_of g c)
  unfolding file_cut file_with
  front_written = take_at front (blocks_from k.base 0 (cut z encryption)) p length_front

  recut_written : (w : ℕ) → 0 < w
      → recut_at w (file_keys g c t) (file_cut z g c t b) (first_block_of g c) ≡ file_cut w g c t b
  unfolding recut file_cut file_with
  recut_written w positive =
      ap₂ (λ (s d : List ℕ). s ++ blocks_from k.base 0 (pieces (sizes_at w d) d)) front_written text_written
      ∙ ap (λ (ds : List (List ℕ)). front ++ blocks_from k.base 0 ds) (pieces_at w positive encryption)

  pub written_cutting : (w : ℕ) → 0 < w → length (file_cut w g c t b) ≤ file_limit
      → IsCutting (file_keys g c t) (file_cut z g c t b) (first_block_of g c) (file_cut w g c t b)
  written_cutting w positive l =
      let e = recut_written w positive in
      record {
        sizes = sizes_at w (text f p);
        cuts = record {
          positive = positive_at w positive (text f p);
          adds_up = total_at w positive (text f p);
          fits = rw e l;
        };
        same_file = e;
      }

pub back_to_written : (g : Figures) (c : Cipher) (t b : List ℕ) → checked_of g ≡ Ok c
    → length (file_bytes g c t b) ≤ file_limit
    → (ns : List ℕ) → Cuts (file_keys g c t) (file_bytes g c t b) (first_block_of g c) ns
    → recut_at written_block (file_keys g c t) (recut (file_keys g c t) (file_bytes g c t b) (first_block_of g c) ns)
    (first_block_of g c)
    ≡ file_bytes g c t b
unfolding file_cut file_with
back_to_written g c t b ok fits ns cuts =
    let k : Keys = file_keys g c t in
    let r : List ℕ = blocks_from k.base 0 (cut written_block (encryption_by c k b)) in
    recut_at-recut t (file_bytes g c t b) k (first_block_of g c) (start_written g c t r ok fits) ns cuts written_block
    ∙ recut_written written_block block_positive g c t b fits written_block block_positive
