-- FIPS 197, 5.1 and 5.3: each transformation of the state is undone by its inverse, and each gives blocks.
--
-- In order:
--   add_round_key-add_round_key, add_round_key-block  5.1.4, 5.3.4
--   sub, inv_sub                                      SubBytes() with ShiftRows(), and their inverses
--   inv_sub-sub, sub-inv_sub, sub-block, inv_sub-block
--   inv_mix_columns-mix_columns, mix_columns-inv_mix_columns, mix_columns-block, inv_mix_columns-block  5.1.3, 5.3.3
-- Not here: a column of bytes (Mix); the rounds (Inverse).
-- Assumes nothing.
use mathlib.Core.Path.{◌≡◌, refl, ◌∙◌}
use mathlib.Core.List.{List}
use Prim.Native.Nat.{ℕ, zero, suc, ◌+◌, ◌*◌, ◌-◌, ◌%◌, ◌<◌}
use native.Mathlib.Omega.{arith}
use lib.Bits.{bit_xor, xor_lt}
use lib.ListN.{length, get_or}
use Rattle.words.proofs.Laws.Xor.{xor_undo}
use Rattle.words.specs.Block.{IsBlock}
use Rattle.gf256.specs.Gf256.{sbox, inv_sbox}
use Rattle.gf256.proofs.Laws.Sbox.{sbox-lt, inv_sbox-lt, inv_sbox-sbox, sbox-inv_sbox}
use Rattle.fips197.specs.Fips197.{
  at,
  byte_of,
  sub_bytes,
  shift_rows,
  mix_byte,
  mix_columns,
  add_round_key,
  inv_shift_rows,
  inv_sub_bytes,
  inv_mix_byte,
  inv_mix_columns,
}
use Rattle.fips197.proofs.Laws.Words.{byte_of-lt}
use Rattle.fips197.proofs.Laws.States.{state_own, state_same, state-block}
use Rattle.fips197.proofs.Laws.Mix.{row, after, Undoes, mix_byte-lt, inv_mix_byte-lt, inv_mix_byte-mix_byte, mix_byte-inv_mix_byte}

-- 5.3.4: AddRoundKey() is its own inverse
pub add_round_key-add_round_key : (s w : List ℕ) (i : ℕ) → length s ≡ 16 → add_round_key (add_round_key s w i) w i ≡ s
add_round_key-add_round_key s w i e =
    state_same (λ r c. bit_xor (bit_xor (at s r c) (byte_of (get_or w (4 * i + c) 0) r)) (byte_of (get_or w (4 * i + c) 0) r)) (at s)
    (λ r c hr hc. xor_undo (at s r c) (byte_of (get_or w (4 * i + c) 0) r))
    ∙ state_own s e

pub add_round_key-block : (s w : List ℕ) (i : ℕ) → IsBlock s → IsBlock (add_round_key s w i)
add_round_key-block s w i p =
    state-block (λ r c. bit_xor (at s r c) (byte_of (get_or w (4 * i + c) 0) r))
    (λ r c hr hc. xor_lt 8 (at s r c) (byte_of (get_or w (4 * i + c) 0) r) (p.bytes (r + 4 * c)) (byte_of-lt (get_or w (4 * i + c) 0) r))

-- 5.1.1, 5.1.2: SubBytes() and ShiftRows(); 5.3.1, 5.3.2: their inverses
abbrev pub sub : List ℕ → List ℕ
sub s = shift_rows (sub_bytes s)

abbrev pub inv_sub : List ℕ → List ℕ
inv_sub s = inv_sub_bytes (inv_shift_rows s)

pub inv_sub-sub : (s : List ℕ) → IsBlock s → inv_sub (sub s) ≡ s
inv_sub-sub s p =
    state_same (λ r c. inv_sbox (sbox (at s r c))) (at s) (λ r c hr hc. inv_sbox-sbox (at s r c) (p.bytes (r + 4 * c)))
    ∙ state_own s p.size

pub sub-inv_sub : (s : List ℕ) → IsBlock s → sub (inv_sub s) ≡ s
sub-inv_sub s p =
    state_same (λ r c. sbox (inv_sbox (at s r c))) (at s) (λ r c hr hc. sbox-inv_sbox (at s r c) (p.bytes (r + 4 * c)))
    ∙ state_own s p.size

pub sub-block : (s : List ℕ) → IsBlock s → IsBlock (sub s)
sub-block s p =
    state-block (λ r c. sbox (at s r ((c + r) % 4))) (λ r c hr hc. sbox-lt (at s r ((c + r) % 4)) (p.bytes (r + 4 * ((c + r) % 4))))

pub inv_sub-block : (s : List ℕ) → IsBlock s → IsBlock (inv_sub s)
inv_sub-block s p =
    state-block (λ r c. inv_sbox (at s r ((c + 4 - r) % 4)))
    (λ r c hr hc. inv_sbox-lt (at s r ((c + 4 - r) % 4)) (p.bytes (r + 4 * ((c + 4 - r) % 4))))

-- row r of column c
row_at : (s : List ℕ) (r c : ℕ) → r < 4 → row r (at s 0 c) (at s 1 c) (at s 2 c) (at s 3 c) ≡ at s r c
row_at s zero c h = refl
row_at s (suc zero) c h = refl
row_at s (suc (suc zero)) c h = refl
row_at s (suc (suc (suc zero))) c h = refl
row_at s (suc (suc (suc (suc r)))) c h = absurd (omega arith)

-- a state through two matrices, of which the second undoes the first
module _ (u m : ℕ → ℕ → ℕ → ℕ → ℕ → ℕ) (undoes : (r : ℕ) → r < 4 → Undoes u m r) (s : List ℕ) (p : IsBlock s) where
  column : (r c : ℕ) → r < 4 → c < 4 → after (u r) m (at s 0 c) (at s 1 c) (at s 2 c) (at s 3 c) ≡ at s r c
  column r c hr hc =
      undoes r hr (at s 0 c) (at s 1 c) (at s 2 c) (at s 3 c) (p.bytes (0 + 4 * c)) (p.bytes (1 + 4 * c)) (p.bytes (2 + 4 * c))
      (p.bytes (3 + 4 * c))
      ∙ row_at s r c hr

pub inv_mix_columns-mix_columns : (s : List ℕ) → IsBlock s → inv_mix_columns (mix_columns s) ≡ s
inv_mix_columns-mix_columns s p =
    state_same (λ r c. after (inv_mix_byte r) mix_byte (at s 0 c) (at s 1 c) (at s 2 c) (at s 3 c)) (at s)
    (column inv_mix_byte mix_byte inv_mix_byte-mix_byte s p)
    ∙ state_own s p.size

pub mix_columns-inv_mix_columns : (s : List ℕ) → IsBlock s → mix_columns (inv_mix_columns s) ≡ s
mix_columns-inv_mix_columns s p =
    state_same (λ r c. after (mix_byte r) inv_mix_byte (at s 0 c) (at s 1 c) (at s 2 c) (at s 3 c)) (at s)
    (column mix_byte inv_mix_byte mix_byte-inv_mix_byte s p)
    ∙ state_own s p.size

pub mix_columns-block : (s : List ℕ) → IsBlock s → IsBlock (mix_columns s)
mix_columns-block s p =
    state-block (λ r c. mix_byte r (at s 0 c) (at s 1 c) (at s 2 c) (at s 3 c))
    (λ r c hr hc. mix_byte-lt r (at s 0 c) (at s 1 c) (at s 2 c) (at s 3 c) (p.bytes (0 + 4 * c)) (p.bytes (1 + 4 * c)) (p.bytes (2 + 4 * c))
    (p.bytes (3 + 4 * c)))

pub inv_mix_columns-block : (s : List ℕ) → IsBlock (inv_mix_columns s)
inv_mix_columns-block s =
    state-block (λ r c. inv_mix_byte r (at s 0 c) (at s 1 c) (at s 2 c) (at s 3 c))
    (λ r c hr hc. inv_mix_byte-lt r (at s 0 c) (at s 1 c) (at s 2 c) (at s 3 c))
