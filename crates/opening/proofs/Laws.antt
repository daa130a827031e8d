-- Laws of opening, most of them for the theorem of demand 3.
--
-- In order:
--   Nonce       a nonce in sixteen bytes
--   Replies     tests that refuse, and the two outcomes of a hand-over
--   Judge       what a block's checks say of the file
--   Pieces      the ciphers over a ciphertext that is cut in two
--   Strip       padding stripped from the last piece
--   Given       what a ciphertext has handed over, and what is due
--   Payload     what was encrypted opens to itself
--   Blocks      one step of the code's ciphers
--   Standing    a step of the code is the plain opener's
--   Taken       the blocks taken are the file's first
--   Filled      no more blocks than bytes of ciphertext
--   Progress    what was handed over, and where the whole opener stands meanwhile
--   Refusals    what a step's refusal says
--   Runs        lists of steps
--   Walk        the whole opener's count never ends a walk
--   Cutting     the openers over a file in blocks of any sizes
--   Kept        what each answer leaves in any state
pub mod Nonce
pub mod Replies
pub mod Judge
pub mod Pieces
pub mod Strip
pub mod Given
pub mod Payload
pub mod Blocks
pub mod Standing
pub mod Taken
pub mod Filled
pub mod Progress
pub mod Refusals
pub mod Runs
pub mod Walk
pub mod Cutting
pub mod Kept
