-- The checks of all blocks in one pass: the walk of opening's Whole, with a count in the place of the ciphertext.
--
--   survey m base f i p c    from block i at p on, behind c bytes of ciphertext: refused, or how many there are in all
--   settled                  an opening by its survey: the refusal, or what the ciphertext gives
-- Not here: 16 and 17.
-- Assumes nothing.
use Rattle.std.specs.Prelude.{cond, List, ℕ, zero, suc, ◌+◌, ltb, length, Result, Ok, Err}
use Rattle.refusals.specs.declared.Refusal.TheVariants.{CutShort, TrailingBytes}
use Rattle.block_stream.specs.Blocks.{judge}
use Rattle.block_stream.specs.declared.Block.{Block}
use Rattle.block_stream.specs.declared.Block.TheVariants as block
use Rattle.opening.specs.Decryption.{Opened, refused}
use Rattle.refusals.specs.declared.Refusal.{Refusal}

-- at the closing block: bytes behind it (15)
unfoldable pub survey_close : List ℕ → ℕ → ℕ → Result ℕ Refusal
survey_close f p c = cond (ltb (p + 36) (length f)) (Err TrailingBytes) (Ok c)

unfoldable pub survey_in : Block → (ℕ → Result ℕ Refusal) → Result ℕ Refusal → Result ℕ Refusal
survey_in (block.Refused r) more end = Err r
survey_in (block.Data n) more end = more n
survey_in block.Closing more end = end

unfoldable pub survey : ℕ → List ℕ → List ℕ → ℕ → ℕ → ℕ → Result ℕ Refusal
survey zero base f i p c = Err (CutShort 0)
survey (suc m) base f i p c =
    survey_in (judge base f i p) (λ (n : ℕ). survey m base f (suc i) (p + 36 + n) (c + n)) (survey_close f p c)

unfoldable pub settled : Result ℕ Refusal → Opened → Opened
settled (Err r) o = refused r
settled (Ok c) o = o
