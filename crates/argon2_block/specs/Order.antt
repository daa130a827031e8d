-- The steps by which the code does P on the columns, and a block turned. The proofs show that they are RFC 9106's
-- columns and rows (Rfc9106). Assumes nothing.
use Rattle.std.specs.Prelude.{ℕ, zero, suc, ◌+◌, ◌*◌, List, slice_index, slice_set}
use Rattle.argon2_block.specs.Rfc9106.{gb_on}

-- GB on n times four words, from four places on
unfoldable pub gbs : ℕ → List ℕ → ℕ → ℕ → ℕ → ℕ → List ℕ
gbs zero s i j k l = s
gbs (suc n) s i j k l = gb_on (gbs n s i j k l) (i + n) (j + n) (k + n) (l + n)

-- four words moved by one place, the first to the last
abbrev pub cycle : List ℕ → ℕ → ℕ → ℕ → ℕ → List ℕ
cycle s i j k l = slice_set (slice_set (slice_set (slice_set s i (slice_index s j)) j (slice_index s k)) k (slice_index s l)) l (slice_index s i)

-- n times four words, two places apart
unfoldable pub cycles : ℕ → List ℕ → ℕ → ℕ → ℕ → ℕ → List ℕ
cycles zero s i j k l = s
cycles (suc n) s i j k l = cycle (cycles n s i j k l) (i + n * 2) (j + n * 2) (k + n * 2) (l + n * 2)

-- two registers exchanged
abbrev pub exchange : List ℕ → ℕ → ℕ → List ℕ
exchange s i j =
    slice_set (slice_set (slice_set (slice_set s i (slice_index s j)) (i + 1) (slice_index s (j + 1))) j (slice_index s i)) (j + 1) (slice_index s (i + 1))

-- the first i registers of row n exchanged with those of column n
unfoldable pub turn_row : ℕ → List ℕ → ℕ → List ℕ
turn_row zero s n = s
turn_row (suc i) s n = exchange (turn_row i s n) (n * 16 + i * 2) (i * 16 + n * 2)

-- the first n rows and columns exchanged
unfoldable pub turn : ℕ → List ℕ → List ℕ
turn zero s = s
turn (suc n) s = turn_row n (turn n s) n
