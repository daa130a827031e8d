-- An accepted file is itself such a cutting, at its own sizes: so accepted files with one front and one ciphertext are
-- each other's cuttings, and no accepted file is left out of what a cutting can give.
--
-- In order:
--   block_bytes_lem                a block that passes has the bytes that a block is written with
--   stand_blocks               so blocks that stand in a file are the blocks of their data
--   stand_nonempty             .. none of which is empty
--   own_cutting                an accepted file is a cutting of its own ciphertext
--   other_file                 .. and of any other file's that has its front and its ciphertext
-- A file is bytes here, as every file is that the code is lent.
-- Assumes nothing.
use mathlib.Core.Path.{◌≡◌, sym, ap, ap₂, ◌∙◌}
use mathlib.Core.List.{List, [], ◌∷◌, ◌++◌, append_assoc, append-nil}
use Prim.Native.Nat.{ℕ, suc, ◌+◌, ◌≤◌}
use native.Mathlib.Omega.{arith}
use lib.ListN.{length, take, drop, take-append-drop, drop_of_length-le}
use lib.Seq.{take-add, drop-drop}
use Rattle.words.specs.Endian.{Bytes, le_bytes}
use Rattle.words.proofs.Laws.Endian.{le_bytes-le}
use Rattle.slices.proofs.Laws.Same.{same_true}
use Rattle.block_stream.specs.Blocks.{block_tag, block_bytes, holds, data_at}
use Rattle.fips180.specs.Feeds.{joined}
use Rattle.cutting.specs.Cutting.{pieces, blocks_from, lengths, NonEmpty, InBlocks}
use Rattle.cutting.proofs.Laws.Pieces.{pieces-lengths, total-lengths, lengths_positive}
use Rattle.opening.specs.declared.Keys.{Keys}
use Rattle.opening.proofs.Laws.Judge.{Passed, length-data_at, judge_data, judge_closing, judge_some}
use Rattle.opening.proofs.Laws.Cutting.{opened-blocks}
use Rattle.open_whole.specs.Ciphertext.{text}
use Rattle.vault.specs.Vault.{start, begun}
use Rattle.vault.proofs.Laws.Start.{begun_stands}
use Rattle.recutting.specs.Recut.{Accepted, recut, IsCutting}
use Rattle.recutting.proofs.Laws.Text.{text-blocks}
use Rattle.recutting.proofs.Opens.{accepted_whole}
use Rattle.recutting.proofs.Theorem.{recut_same}

module _ (base f : List ℕ) (byte : Bytes f) (i p n : ℕ) (h : Passed base f i p n) where
  abbrev d : List ℕ
  d = data_at f p n

  size_bytes : take 4 (drop (p + 32) f) ≡ le_bytes 4 (length d)
  size_bytes =
      let l : p + 32 + 4 ≤ length f = omega (arith, h.present) in
      sym (le_bytes-le 4 f (p + 32) byte l) ∙ ap (le_bytes 4) (h.size_is ∙ sym (length-data_at h))

  -- the size and the data
  stretch_is : take (4 + n) (drop (p + 32) f) ≡ le_bytes 4 (length d) ++ d
  stretch_is =
      let q : p + 32 + 4 ≡ p + 36 = omega arith in
      take-add 4 n (drop (p + 32) f)
      ∙ ap₂ (λ (x y : List ℕ). x ++ take n y) size_bytes (drop-drop 4 (p + 32) f ∙ ap (λ (x : ℕ). drop x f) q)

  tag_is : take 32 (drop p f) ≡ block_tag base i (le_bytes 4 (length d) ++ d)
  unfolding holds
  tag_is = same_true _ _ h.tag_does_hold ∙ ap (block_tag base i) stretch_is

  block_bytes_lem : drop p f ≡ block_bytes base i d ++ drop (p + 36 + n) f
  unfolding block_bytes
  block_bytes_lem =
      let s : List ℕ = le_bytes 4 (length d) ++ d in
      let q : p + 32 + (4 + n) ≡ p + 36 + n = omega arith in
      let r : drop (p + 32) f ≡ s ++ drop (p + 36 + n) f =
      sym (take-append-drop (4 + n) (drop (p + 32) f))
      ∙ ap₂ (λ (x y : List ℕ). x ++ y) stretch_is (drop-drop (4 + n) (p + 32) f ∙ ap (λ (x : ℕ). drop x f) q) in
      sym (take-append-drop 32 (drop p f))
      ∙ ap₂ (λ (x y : List ℕ). x ++ y) tag_is (drop-drop 32 p f ∙ r)
      ∙ sym (append_assoc (block_tag base i s) s (drop (p + 36 + n) f))

stand_blocks : (base f : List ℕ) → Bytes f → (ds : List (List ℕ)) (i p : ℕ) → InBlocks base f i p ds
    → drop p f ≡ blocks_from base i ds
unfolding InBlocks blocks_from
stand_blocks base f byte [] i p h =
    let l : length f ≤ p + 36 + 0 = omega (arith, h.1) in
    block_bytes_lem base f byte i p 0 (judge_closing base f i p h.0)
    ∙ ap (λ (r : List ℕ). block_bytes base i [] ++ r) (drop_of_length-le f l)
    ∙ append-nil (block_bytes base i [])
stand_blocks base f byte (d ∷ ds) i p h =
    block_bytes_lem base f byte i p (length d) (judge_data base f i p (length d) h.0)
    ∙ ap₂ (λ (x y : List ℕ). block_bytes base i x ++ y) h.1.0
    (stand_blocks base f byte ds (suc i) (p + 36 + length d) h.1.1)

stand_nonempty : (base f : List ℕ) (ds : List (List ℕ)) (i p : ℕ) → InBlocks base f i p ds → NonEmpty ds
unfolding InBlocks NonEmpty
stand_nonempty base f [] i p h = tt
stand_nonempty base f (d ∷ ds) i p h =
    (omega (arith, judge_some base f i p (length d) h.0), stand_nonempty base f ds (suc i) (p + 36 + length d) h.1.1)

module _ (t g b : List ℕ) (accepted : Accepted t g b) (byte : Bytes g) (k : Keys) (p : ℕ) (e : start t g ≡ begun k p)
  where
    pub own_cutting : IsCutting k g p g
    unfolding recut
    own_cutting =
        let h = opened-blocks k g b p (accepted_whole t g b accepted k p e) in
        let ds = h.data_are in
        let x : text g p ≡ joined ds = text-blocks k.base g ds 0 p h.stand in
        let y : pieces (lengths ds) (text g p) ≡ ds = ap (pieces (lengths ds)) x ∙ pieces-lengths ds in
        let s : recut k g p (lengths ds) ≡ g =
        ap (λ (ms : List (List ℕ)). take p g ++ blocks_from k.base 0 ms) y
        ∙ ap (λ (r : List ℕ). take p g ++ r) (sym (stand_blocks k.base g byte ds 0 p h.stand))
        ∙ take-append-drop p g in
        record {
          sizes = lengths ds;
          cuts = record {
            positive = lengths_positive ds (stand_nonempty k.base g ds 0 p h.stand);
            adds_up = total-lengths ds ∙ ap length (sym x);
            fits = rw s (begun_stands t g k p e).limit;
          };
          same_file = s;
        }

    -- so g is a cutting of any file f that has its front and its ciphertext
    pub other_file : (f : List ℕ) → take p f ≡ take p g → text f p ≡ text g p → IsCutting k f p g
    other_file f front same =
        let w = own_cutting in
        let s : recut k f p w.sizes ≡ g = recut_same k f g p front same w.sizes ∙ w.same_file in
        record {
          sizes = w.sizes;
          cuts = record {
            positive = w.cuts.positive;
            adds_up = w.cuts.adds_up ∙ ap length (sym same);
            fits = rw s (begun_stands t g k p e).limit;
          };
          same_file = s;
        }
