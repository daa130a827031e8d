-- The tables from which the code makes rounds, and what a look-up in any table gives.
--
--   mix_entry, te                         SubBytes() with MixColumns() (5.1.1, 5.1.3): the products of a byte
--   inverse                               the inverse S-box (5.3.2)
--   inv_mix_entry, mixed, td              InvSubBytes() with InvMixColumns() (5.3.2, 5.3.3)
--   entry_byte, column_byte               what four bytes of a column make by a table: one byte, in row r
--   IsColumn, column_word                 a column of a round, with a word of the round key and without
--   sub_column, inv_sub_column            a column of the last round
-- A table is any list of numbers; a place behind its end counts as zero.
-- Not here: the publication (crate fips197).
-- Assumes nothing.
use Rattle.std.specs.Prelude.{List, ℕ, zero, suc, get_or}
use Rattle.std.specs.Int.Bits.{bit_xor}
use Rattle.gf256.specs.Gf256.{sum4, gmul, sbox, inv_sbox}
use Rattle.fips197.specs.Tabulate.{tabulate}
use Rattle.fips197.specs.Fips197.{word, byte_of}
use Rattle.fips197.specs.HasBytes.{HasBytes}

-- what a byte of value s in the S-box adds to its column, as the row 0 byte
unfoldable pub mix_entry : ℕ → ℕ
mix_entry s = word (gmul 0x02 s) s s (gmul 0x03 s)

unfoldable pub te : List ℕ
te = tabulate 256 (λ x. mix_entry (sbox x))

unfoldable pub inverse : List ℕ
inverse = tabulate 256 inv_sbox

-- what a byte of value b in the inverse S-box adds to its column, as the row 0 byte
unfoldable pub inv_mix_entry : ℕ → ℕ
inv_mix_entry b = word (gmul 0x0e b) (gmul 0x09 b) (gmul 0x0d b) (gmul 0x0b b)

-- the same for each entry of a table
unfoldable pub mixed : List ℕ → List ℕ
mixed t = tabulate 256 (λ x. inv_mix_entry (get_or t x 0))

unfoldable pub td : List ℕ
td = mixed inverse

-- byte r of the entry for the byte x
abbrev pub entry_byte : List ℕ → ℕ → ℕ → ℕ
entry_byte t x r = byte_of (get_or t x 0) r

-- byte r of the column that the bytes x₀ to x₃ make: x₁ stands in row 1, so that its entry is moved down by one row,
-- that of x₂ by two, that of x₃ by three
abbrev pub column_byte : List ℕ → ℕ → ℕ → ℕ → ℕ → ℕ → ℕ
column_byte t zero x₀ x₁ x₂ x₃ = sum4 (entry_byte t x₀ 0) (entry_byte t x₁ 3) (entry_byte t x₂ 2) (entry_byte t x₃ 1)
column_byte t (suc zero) x₀ x₁ x₂ x₃ = sum4 (entry_byte t x₀ 1) (entry_byte t x₁ 0) (entry_byte t x₂ 3) (entry_byte t x₃ 2)
column_byte t (suc (suc zero)) x₀ x₁ x₂ x₃ =
    sum4 (entry_byte t x₀ 2) (entry_byte t x₁ 1) (entry_byte t x₂ 0) (entry_byte t x₃ 3)
column_byte t (suc (suc (suc r))) x₀ x₁ x₂ x₃ =
    sum4 (entry_byte t x₀ 3) (entry_byte t x₁ 2) (entry_byte t x₂ 1) (entry_byte t x₃ 0)

-- the column of byte 0 of a, byte 1 of b, byte 2 of c and byte 3 of d, with k added
abbrev pub IsColumn : List ℕ → ℕ → ℕ → ℕ → ℕ → ℕ → ℕ → Type 0
IsColumn t a b c d k w =
    HasBytes w
    (bit_xor (column_byte t 0 (byte_of a 0) (byte_of b 1) (byte_of c 2) (byte_of d 3)) (byte_of k 0))
    (bit_xor (column_byte t 1 (byte_of a 0) (byte_of b 1) (byte_of c 2) (byte_of d 3)) (byte_of k 1))
    (bit_xor (column_byte t 2 (byte_of a 0) (byte_of b 1) (byte_of c 2) (byte_of d 3)) (byte_of k 2))
    (bit_xor (column_byte t 3 (byte_of a 0) (byte_of b 1) (byte_of c 2) (byte_of d 3)) (byte_of k 3))

-- the column of the bytes of z
unfoldable pub column_word : List ℕ → ℕ → ℕ
column_word t z =
    word
    (column_byte t 0 (byte_of z 0) (byte_of z 1) (byte_of z 2) (byte_of z 3))
    (column_byte t 1 (byte_of z 0) (byte_of z 1) (byte_of z 2) (byte_of z 3))
    (column_byte t 2 (byte_of z 0) (byte_of z 1) (byte_of z 2) (byte_of z 3))
    (column_byte t 3 (byte_of z 0) (byte_of z 1) (byte_of z 2) (byte_of z 3))

-- byte 1 of each entry
unfoldable pub sub_column : List ℕ → ℕ → ℕ → ℕ → ℕ → ℕ
sub_column t a b c d =
    word (entry_byte t (byte_of a 0) 1) (entry_byte t (byte_of b 1) 1) (entry_byte t (byte_of c 2) 1)
    (entry_byte t (byte_of d 3) 1)

-- each entry itself: a table of bytes
unfoldable pub inv_sub_column : List ℕ → ℕ → ℕ → ℕ → ℕ → ℕ
inv_sub_column t a b c d =
    word (get_or t (byte_of a 0) 0) (get_or t (byte_of b 1) 0) (get_or t (byte_of c 2) 0) (get_or t (byte_of d 3) 0)
