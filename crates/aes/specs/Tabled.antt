-- The cipher, the equivalent inverse cipher and the dual key schedule, by any tables: what the code makes of the tables
-- that are lent to it.
--
--   mixed_by, sub_by, inv_sub_by                      a state through a table
--   round_by, rounds_by, final_round_by, cipher_by    Cipher(), by a table t in the place of te
--   eq_inv_round_by, eq_inv_rounds_by, eq_inv_final_round_by, eq_inv_cipher_by    EqInvCipher(), by u and t for inverse and td
--   dual_word_by, dual_by                             KeyExpansionEIC() of a key schedule, by t and u for te and td
-- By te, inverse and td they are FIPS 197's (proofs, Laws.Tabled: cipher_by-te, eq_inv_cipher_by-td, dual_by-td).
-- Not here: the tables and their entries (crate aes_tables).
-- Assumes nothing.
use Rattle.std.specs.Prelude.{cond, List, ℕ, zero, suc, ◌*◌, ◌+◌, ◌-◌, ltb, get_or}
use Rattle.fips197.specs.Tabulate.{tabulate}
use Rattle.fips197.specs.Fips197.{nr, at, state, word, byte_of, shift_rows, inv_shift_rows, add_round_key}
use Rattle.aes_tables.specs.Tables.{entry_byte, column_byte, column_word, sub_column}

-- each column of s, by the entries of its four bytes
abbrev pub mixed_by : List ℕ → List ℕ → List ℕ
mixed_by t s = state (λ r c. column_byte t r (at s 0 c) (at s 1 c) (at s 2 c) (at s 3 c))

-- byte 1 of the entry of each byte
abbrev pub sub_by : List ℕ → List ℕ → List ℕ
sub_by t s = state (λ r c. entry_byte t (at s r c) 1)

-- the word of the four entries of each column: the entries themselves, where they are bytes
abbrev pub inv_sub_by : List ℕ → List ℕ → List ℕ
inv_sub_by u s =
    state
    (λ r c. byte_of (word (get_or u (at s 0 c) 0) (get_or u (at s 1 c) 0) (get_or u (at s 2 c) 0) (get_or u (at s 3 c) 0)) r)

-- 5.1: round i
unfoldable pub round_by : List ℕ → List ℕ → List ℕ → ℕ → List ℕ
round_by t s w i = add_round_key (mixed_by t (shift_rows s)) w i

unfoldable pub rounds_by : List ℕ → List ℕ → List ℕ → ℕ → List ℕ
rounds_by t s w zero = s
rounds_by t s w (suc n) = round_by t (rounds_by t s w n) w (suc n)

unfoldable pub final_round_by : List ℕ → List ℕ → List ℕ → List ℕ
final_round_by t s w = add_round_key (shift_rows (sub_by t s)) w nr

unfoldable pub cipher_by : List ℕ → List ℕ → List ℕ → List ℕ
cipher_by t s w = final_round_by t (rounds_by t (add_round_key s w 0) w (nr - 1)) w

-- 5.3.5: round i
unfoldable pub eq_inv_round_by : List ℕ → List ℕ → List ℕ → ℕ → List ℕ
eq_inv_round_by t s v i = add_round_key (mixed_by t (inv_shift_rows s)) v i

unfoldable pub eq_inv_rounds_by : List ℕ → List ℕ → List ℕ → ℕ → List ℕ
eq_inv_rounds_by t s v zero = s
eq_inv_rounds_by t s v (suc n) = eq_inv_round_by t (eq_inv_rounds_by t s v n) v (nr - 1 - n)

unfoldable pub eq_inv_final_round_by : List ℕ → List ℕ → List ℕ → List ℕ
eq_inv_final_round_by u s v = add_round_key (inv_sub_by u (inv_shift_rows s)) v 0

unfoldable pub eq_inv_cipher_by : List ℕ → List ℕ → List ℕ → List ℕ → List ℕ
eq_inv_cipher_by u t s v = eq_inv_final_round_by u (eq_inv_rounds_by t (add_round_key s v nr) v (nr - 1)) v

-- 5.3.5: word i of the dual key schedule
unfoldable pub dual_word_by : List ℕ → List ℕ → ℕ → ℕ → ℕ
dual_word_by t u i x = cond (ltb i 4) x (cond (ltb i (4 * nr)) (column_word u (sub_column t x x x x)) x)

unfoldable pub dual_by : List ℕ → List ℕ → List ℕ → List ℕ
dual_by t u w = tabulate (4 * (nr + 1)) (λ i. dual_word_by t u i (get_or w i 0))
