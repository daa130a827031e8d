-- What a block's answer says (document 01, "Refusal numbers": "0 is success. A refusal returns its number with zero in
-- every other answer").
--
--   said    the size of the block's data: 0 of the closing block
-- Not here: what the answer is (Blocks).
-- Assumes nothing.
use Rattle.std.specs.Prelude.{[], ◌∷◌}
use Rattle.refusals.specs.Numbers.{Said, success, refused}
use Rattle.block_stream.specs.declared.Block.{Block}
use Rattle.block_stream.specs.declared.Block.TheVariants as block

abbrev pub said : Block → Said
said (block.Data n) = success (n ∷ [])
said block.Closing = success (0 ∷ [])
said (block.Refused r) = refused 1 r
