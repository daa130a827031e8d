-- The last bytes of a payload: a data block, where anything is left to encrypt, and the closing block.
--
-- In order: last_text (how long the text is), last_small, last_none, last_some, last_room (how much room they take).
-- Not here: the full blocks before (Blocks).
-- Assumes nothing.
use mathlib.Core.Path.{◌≡◌, sym, ap, ◌∙◌}
use mathlib.Core.List.{List, [], ◌++◌}
use Prim.Native.Nat.{ℕ, suc, ◌+◌, ◌≤◌, ◌<◌}
use native.Mathlib.Omega.{arith}
use lib.ListN.{length, length-append}
use Rattle.slices.specs.Over.{over}
use Rattle.refusals.specs.Limits.{file_limit, written_block}
use Rattle.refusals.proofs.Laws.Limits.{block-file}
use Rattle.block_stream.specs.Blocks.{block_bytes, sealed}
use Rattle.block_stream.proofs.Laws.Sealed.{sealed-fits}
use Rattle.block_stream.proofs.Laws.Judged.{length-block_bytes}
use Rattle.opening.specs.declared.Keys.{Keys}
use Rattle.writer.specs.Stretches.{stretch_by, text_of, text_length, last_blocks}
use Rattle.writer.proofs.Laws.Stretches.{length-text_of, text_length-block, length_stretch_text}
use Rattle.writer.proofs.Laws.Blocks.{blocks_none, blocks_last}

-- the bytes b from position p on, block i, with n bytes of text, to be written over d
module _ (k : Keys) (v : List ℕ) (i p : ℕ) (b d : List ℕ) (n : ℕ) (en : n ≡ text_length k.cipher (length b))
    (lv : length v ≡ 16) (lb : length b < written_block) (ld : length (last_blocks k v i p b) ≤ length d) where
  abbrev text : List ℕ
  text = text_of k.cipher b

  abbrev crypt : List ℕ
  crypt = stretch_by k.cipher k v p text

  pub last_text : length text ≡ n
  last_text = length-text_of k.cipher b ∙ sym en

  length_crypt : length crypt ≡ n
  length_crypt = length_stretch_text k.cipher k v p b lv ∙ last_text

  within : n ≤ written_block
  within = omega (arith, text_length-block k.cipher (length b) lb)

  pub last_small : n ≤ file_limit
  last_small = omega (arith, within, block-file)

  pub last_none : n ≡ 0 → sealed k.base i 0 d ≡ over (last_blocks k v i p b) d
  last_none z =
      let e : last_blocks k v i p b ≡ block_bytes k.base i [] = blocks_none k.base i crypt (length_crypt ∙ z) in
      let l : 36 + 0 ≤ length d = omega (arith, ap length e, length-block_bytes k.base [] i) in
      let m : 0 ≤ file_limit = omega arith in
      sealed-fits k.base d i 0 l m ∙ ap (λ (w : List ℕ). over w d) (sym e)

  pub last_some : (n ≡ 0 → ⊥)
      → block_bytes k.base i crypt ++ block_bytes k.base (i + 1) [] ≡ last_blocks k v i p b
  last_some z =
      let j : i + 1 ≡ suc i = omega arith in
      let h : length crypt ≤ written_block = omega (arith, within, length_crypt) in
      ap (λ (x : ℕ). block_bytes k.base i crypt ++ block_bytes k.base x []) j
      ∙ sym (blocks_last k.base i crypt (λ e. z (sym length_crypt ∙ e)) h)

  pub last_length : length (block_bytes k.base i crypt) ≡ 36 + n
  last_length = omega (arith, length-block_bytes k.base crypt i, length_crypt)

  pub last_room : (n ≡ 0 → ⊥) → 36 + n + 36 ≤ length d
  last_room z =
      let c = block_bytes k.base (i + 1) [] in
      let e = sym (length-append (block_bytes k.base i crypt) c) ∙ ap length (last_some z) in
      omega (arith, e, last_length, length-block_bytes k.base [] (i + 1))
