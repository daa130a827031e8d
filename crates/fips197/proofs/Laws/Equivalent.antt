-- FIPS 197, 5.3.5: EqInvCipher() on the dual key schedule is InvCipher() on the key schedule.
--
-- In order:
--   inv_mix_of, inv_mix_word_bytes                       a word mixed
--   dual_word_first, dual_word-mixed, dual_word_last     the words of the dual key schedule
--   inv_mix_columns-add_round_key                        a round key mixed beforehand
--   eq_inv_cipher-dual, length-eq_inv_cipher             the theorem
--   eq_inv_rounds-block                                  blocks
-- Assumes nothing.
use mathlib.Core.Path.{◌≡◌, refl, sym, ◌∙◌, ap}
use mathlib.Core.List.{List}
use Prim.Native.Nat.{ℕ, zero, suc, ◌+◌, ◌*◌, ◌-◌, ◌<◌, ◌≤◌}
use native.Mathlib.Omega.{arith}
use lib.Bits.{bit_xor}
use lib.ListN.{length, get_or}
use borrow.Author.Tests.{lt-ltb, le-ltb}
use Rattle.words.specs.Block.{IsBlock}
use Rattle.fips197.specs.Fips197.{
  at,
  byte_of,
  add_round_key,
  inv_shift_rows,
  inv_sub_bytes,
  inv_mix_byte,
  inv_mix_columns,
  inv_round,
  inv_rounds,
  inv_final_round,
  inv_cipher,
  eq_inv_round,
  eq_inv_rounds,
  eq_inv_final_round,
  eq_inv_cipher,
  inv_mix_word,
  dual_word,
  dual,
}
use Rattle.fips197.specs.HasBytes.{HasBytes}
use Rattle.fips197.proofs.Laws.Tabulate.{get_d_tabulate}
use Rattle.fips197.proofs.Laws.Words.{bytes_word}
use Rattle.fips197.proofs.Laws.States.{state_same}
use Rattle.fips197.proofs.Laws.Mix.{inv_mix_byte-lt, inv_mix_byte_linear}
use Rattle.fips197.proofs.Laws.Transformations.{add_round_key-block, inv_mix_columns-block}

-- byte r of the column that a word is, mixed
abbrev pub inv_mix_of : ℕ → ℕ → ℕ
inv_mix_of w r = inv_mix_byte r (byte_of w 0) (byte_of w 1) (byte_of w 2) (byte_of w 3)

pub inv_mix_word_bytes : (w : ℕ) → HasBytes (inv_mix_word w) (inv_mix_of w 0) (inv_mix_of w 1) (inv_mix_of w 2) (inv_mix_of w 3)
unfolding inv_mix_word
inv_mix_word_bytes w =
    bytes_word (inv_mix_byte-lt 0 (byte_of w 0) (byte_of w 1) (byte_of w 2) (byte_of w 3))
    (inv_mix_byte-lt 1 (byte_of w 0) (byte_of w 1) (byte_of w 2) (byte_of w 3))
    (inv_mix_byte-lt 2 (byte_of w 0) (byte_of w 1) (byte_of w 2) (byte_of w 3))
    (inv_mix_byte-lt 3 (byte_of w 0) (byte_of w 1) (byte_of w 2) (byte_of w 3))

inv_mix_word_byte : (w r : ℕ) → r < 4 → byte_of (inv_mix_word w) r ≡ inv_mix_of w r
inv_mix_word_byte w zero h = (inv_mix_word_bytes w).at0
inv_mix_word_byte w (suc zero) h = (inv_mix_word_bytes w).at1
inv_mix_word_byte w (suc (suc zero)) h = (inv_mix_word_bytes w).at2
inv_mix_word_byte w (suc (suc (suc zero))) h = (inv_mix_word_bytes w).at3
inv_mix_word_byte w (suc (suc (suc (suc r)))) h = absurd (omega arith)

-- 5.3.5: the rules for word i
pub dual_word_first : (i x : ℕ) → i < 4 → dual_word i x ≡ x
unfolding dual_word
dual_word_first i x h = rw (lt-ltb i 4 h)

pub dual_word-mixed : (i x : ℕ) → 4 ≤ i → i < 56 → dual_word i x ≡ inv_mix_word x
unfolding dual_word
dual_word-mixed i x h l = rw (le-ltb i 4 h, lt-ltb i 56 l)

pub dual_word_last : (i x : ℕ) → 56 ≤ i → dual_word i x ≡ x
unfolding dual_word
dual_word_last i x h =
    let k : 4 ≤ i = omega arith in
    rw (le-ltb i 4 k, le-ltb i 56 h)

get_or-dual : (w : List ℕ) (i : ℕ) → i < 60 → get_or (dual w) i 0 ≡ dual_word i (get_or w i 0)
unfolding dual
get_or-dual w i h = get_d_tabulate 60 (λ i. dual_word i (get_or w i 0)) i h

-- a round key mixed beforehand
pub inv_mix_columns-add_round_key : (t w : List ℕ) (i : ℕ) → 1 ≤ i → i < 14
    → add_round_key (inv_mix_columns t) (dual w) i ≡ inv_mix_columns (add_round_key t w i)
inv_mix_columns-add_round_key t w i h l =
    state_same
    (λ r c. bit_xor (inv_mix_byte r (at t 0 c) (at t 1 c) (at t 2 c) (at t 3 c)) (byte_of (get_or (dual w) (4 * i + c) 0) r))
    (λ r c. inv_mix_byte r (bit_xor (at t 0 c) (byte_of (get_or w (4 * i + c) 0) 0)) (bit_xor (at t 1 c) (byte_of (get_or w (4 * i + c) 0) 1))
    (bit_xor (at t 2 c) (byte_of (get_or w (4 * i + c) 0) 2)) (bit_xor (at t 3 c) (byte_of (get_or w (4 * i + c) 0) 3)))
    (λ r c hr hc. let k = get_or w (4 * i + c) 0 in
    let e = get_or-dual w (4 * i + c) (omega arith) ∙ dual_word-mixed (4 * i + c) (get_or w (4 * i + c) 0) (omega arith) (omega arith) in
    ap (bit_xor (inv_mix_byte r (at t 0 c) (at t 1 c) (at t 2 c) (at t 3 c))) (ap (λ (x : ℕ). byte_of x r) e ∙ inv_mix_word_byte k r hr)
    ∙ sym ((inv_mix_byte_linear r).sum (at t 0 c) (at t 1 c) (at t 2 c) (at t 3 c) (byte_of k 0) (byte_of k 1) (byte_of k 2) (byte_of k 3)))

eq_inv_round-dual : (s w : List ℕ) (i : ℕ) → 1 ≤ i → i < 14 → eq_inv_round s (dual w) i ≡ inv_round s w i
unfolding eq_inv_round inv_round
eq_inv_round-dual s w i h l = inv_mix_columns-add_round_key (inv_shift_rows (inv_sub_bytes s)) w i h l

eq_inv_rounds-dual : (s w : List ℕ) (n : ℕ) → n ≤ 13 → eq_inv_rounds s (dual w) n ≡ inv_rounds s w n
unfolding eq_inv_rounds inv_rounds
eq_inv_rounds-dual s w zero h = refl
eq_inv_rounds-dual s w (suc n) h =
    ap (λ (t : List ℕ). eq_inv_round t (dual w) (13 - n)) (eq_inv_rounds-dual s w n (omega arith))
    ∙ eq_inv_round-dual (inv_rounds s w n) w (13 - n) (omega arith) (omega arith)

-- the first and the last round key
add_round_key_same : (s v w : List ℕ) (i : ℕ) → ((c : ℕ) → c < 4 → get_or v (4 * i + c) 0 ≡ get_or w (4 * i + c) 0)
    → add_round_key s v i ≡ add_round_key s w i
add_round_key_same s v w i h =
    state_same (λ r c. bit_xor (at s r c) (byte_of (get_or v (4 * i + c) 0) r)) (λ r c. bit_xor (at s r c) (byte_of (get_or w (4 * i + c) 0) r))
    (λ r c hr hc. ap (λ (x : ℕ). bit_xor (at s r c) (byte_of x r)) (h c hc))

add_round_key_first : (s w : List ℕ) → add_round_key s (dual w) 0 ≡ add_round_key s w 0
add_round_key_first s w =
    add_round_key_same s (dual w) w 0 (λ c h. get_or-dual w (4 * 0 + c) (omega arith) ∙ dual_word_first (4 * 0 + c) (get_or w (4 * 0 + c) 0) (omega arith))

add_round_key_last : (s w : List ℕ) → add_round_key s (dual w) 14 ≡ add_round_key s w 14
add_round_key_last s w =
    add_round_key_same s (dual w) w 14 (λ c h. get_or-dual w (4 * 14 + c) (omega arith) ∙ dual_word_last (4 * 14 + c) (get_or w (4 * 14 + c) 0) (omega arith))

-- 5.3.5
pub eq_inv_cipher-dual : (s w : List ℕ) → eq_inv_cipher s (dual w) ≡ inv_cipher s w
unfolding eq_inv_cipher eq_inv_final_round inv_cipher inv_final_round
eq_inv_cipher-dual s w =
    ap (λ (t : List ℕ). eq_inv_final_round (eq_inv_rounds t (dual w) 13) (dual w)) (add_round_key_last s w)
    ∙ ap (λ (t : List ℕ). eq_inv_final_round t (dual w)) (eq_inv_rounds-dual (add_round_key s w 14) w 13 (omega arith))
    ∙ add_round_key_first (inv_shift_rows (inv_sub_bytes (inv_rounds (add_round_key s w 14) w 13))) w

pub length-eq_inv_cipher : (s v : List ℕ) → length (eq_inv_cipher s v) ≡ 16
unfolding eq_inv_cipher eq_inv_final_round
length-eq_inv_cipher s v = refl

pub eq_inv_rounds-block : (s v : List ℕ) (n : ℕ) → IsBlock s → IsBlock (eq_inv_rounds s v n)
unfolding eq_inv_rounds eq_inv_round
eq_inv_rounds-block s v zero p = p
eq_inv_rounds-block s v (suc n) p =
    add_round_key-block (inv_mix_columns (inv_shift_rows (inv_sub_bytes (eq_inv_rounds s v n)))) v (13 - n)
    (inv_mix_columns-block (inv_shift_rows (inv_sub_bytes (eq_inv_rounds s v n))))
