-- What proofs know of the limits: these laws, and not their digits. A limit that changes has only this file to answer
-- to.
--
-- In order:
--   message_file, message_password, message_key_file, message_stream_key, message_blocks
--   file_size, payload_size, rounds-word, rounds_some, stream_word, stream_some
--   block-pieces, block_positive, block_size, block-file
--   payload_raised, file_raised, block_raised
--   argon2_fits_bounds, bounds_argon2_fits
-- Assumes nothing.
use mathlib.Core.Path.{◌≡◌, refl}
use mathlib.Core.Bool.{true}
use Prim.Native.Nat.{ℕ, ◌+◌, ◌*◌, ◌%◌, ◌^◌, ◌≤◌, ◌<◌}
use native.Mathlib.Omega.{arith}
use borrow.Author.Tests.{leb-true, le-leb}
use Rattle.words.proofs.Laws.Cases.{and_true}
use Rattle.refusals.specs.Limits.{file_limit, payload_limit, password_limit, key_file_limit, message_limit, rounds_limit, rounds_least, stream_limit, written_block, within, argon2_fits, Argon2Bounds}

-- a whole file, with a block's number and size before it, is a message
pub message_file : file_limit + 12 ≤ message_limit
unfolding message_limit file_limit
message_file = omega arith

-- a password or a key file is a message
pub message_password : password_limit ≤ message_limit
unfolding message_limit password_limit
message_password = omega arith

pub message_key_file : key_file_limit ≤ message_limit
unfolding message_limit key_file_limit
message_key_file = omega arith

-- an inner stream's key is a message
pub message_stream_key : stream_limit ≤ message_limit
unfolding message_limit stream_limit
message_stream_key = omega arith

-- some blocks are a message: the keys' own hashes have no more
pub message_blocks : 512 ≤ message_limit
unfolding message_limit
message_blocks = omega arith

-- a file's or payload's length is a size that is not negative
pub file_size : file_limit < 2 ^ 31
unfolding file_limit
file_size = omega arith

pub payload_size : payload_limit < 2 ^ 31
unfolding payload_limit
payload_size = omega arith

-- the rounds are a 32-bit number
pub rounds-word : rounds_limit < 2 ^ 32
unfolding rounds_limit
rounds-word = omega arith

-- some rounds are enough and not too many, so that none are both too few and too many
pub rounds_some : rounds_least ≤ rounds_limit
unfolding rounds_least rounds_limit
rounds_some = omega arith

-- where a stretch of the inner stream ends is a 64-bit number
pub stream_word : stream_limit < 2 ^ 64
unfolding stream_limit
stream_word = omega arith

-- the stream has some bytes
pub stream_some : 64 ≤ stream_limit
unfolding stream_limit
stream_some = omega arith

-- a written block is some whole pieces of the cipher
pub block-pieces : written_block % 16 ≡ 0
unfolding written_block
block-pieces = refl

pub block_positive : 0 < written_block
unfolding written_block
block_positive = omega arith

pub block_size : written_block < 2 ^ 31
unfolding written_block
block_size = omega arith

-- a block is no larger than a file
pub block-file : written_block ≤ file_limit
unfolding written_block file_limit
block-file = omega arith

-- no less than document 01 has them, and the block at least twice as much (document 02, Item 7)
pub payload_raised : 4_194_304 ≤ payload_limit
unfolding payload_limit
payload_raised = omega arith

pub file_raised : 4_194_304 ≤ file_limit
unfolding file_limit
file_raised = omega arith

pub block_raised : 16_384 + 16_384 ≤ written_block
unfolding written_block
block_raised = omega arith

-- Argon2's figures fit just where they are within their bounds
within_true : (n least most : ℕ) → within n least most ≡ true → (least ≤ n) × (n ≤ most)
within_true n least most e =
    let b = and_true _ _ e in
    (leb-true least n b.0, leb-true n most b.1)

pub argon2_fits_bounds : (salt passes memory lanes : ℕ) → argon2_fits salt passes memory lanes ≡ true
    → Argon2Bounds salt passes memory lanes
unfolding argon2_fits
argon2_fits_bounds salt passes memory lanes e =
    let s = and_true (within salt 8 64) _ e in
    let i = and_true (within passes 1 64) _ s.1 in
    let m = and_true (within memory 8_192 67_108_864) _ i.1 in
    let p = and_true (within lanes 1 16) _ m.1 in
    record {
      salt_least = (within_true salt 8 64 s.0).0;
      salt_most = (within_true salt 8 64 s.0).1;
      passes_least = (within_true passes 1 64 i.0).0;
      passes_most = (within_true passes 1 64 i.0).1;
      memory_least = leb-true (8_192 * lanes) memory p.1;
      memory_most = (within_true memory 8_192 67_108_864 m.0).1;
      lanes_least = (within_true lanes 1 16 p.0).0;
      lanes_most = (within_true lanes 1 16 p.0).1;
    }

pub bounds_argon2_fits : (salt passes memory lanes : ℕ) → Argon2Bounds salt passes memory lanes
    → argon2_fits salt passes memory lanes ≡ true
unfolding argon2_fits
bounds_argon2_fits salt passes memory lanes b =
    let least : 8_192 ≤ memory = omega (arith, b.memory_least, b.lanes_least) in
    rw (
      le-leb 8 salt b.salt_least,
      le-leb salt 64 b.salt_most,
      le-leb 1 passes b.passes_least,
      le-leb passes 64 b.passes_most,
      le-leb 8_192 memory least,
      le-leb memory 67_108_864 b.memory_most,
      le-leb 1 lanes b.lanes_least,
      le-leb lanes 16 b.lanes_most,
      le-leb (8_192 * lanes) memory b.memory_least,
    )
