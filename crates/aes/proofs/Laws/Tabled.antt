-- By the tables te, inverse and td, the cipher, the equivalent inverse cipher and the dual key schedule are those of
-- FIPS 197.
--
-- In order:
--   columns-block                    the columns of a block are bytes
--   cipher_by-te, repeated_by_te     Cipher() (5.1), once and n times
--   eq_inv_cipher_by-td              EqInvCipher() (5.3.5)
--   dual_word_by_first, dual_word_by-mixed, dual_word_by_last    the words of the dual key schedule, by any tables
--   dual_by-td                       KeyExpansionEIC() of a key schedule (5.3.5)
-- Not here: entries of the tables (aes_tables, Laws.Columns).
-- Assumes nothing.
use mathlib.Core.Path.{◌≡◌, refl, ◌∙◌, ap}
use mathlib.Core.List.{List, [], ◌∷◌}
use Prim.Native.Nat.{ℕ, zero, suc, ◌+◌, ◌*◌, ◌-◌, ◌%◌, ◌≤◌, ◌<◌}
use native.Mathlib.Omega.{arith}
use lib.ListN.{get_or}
use borrow.Author.Tests.{lt-ltb, le-ltb}
use Rattle.words.specs.Block.{IsBlock}
use Rattle.gf256.specs.Gf256.{sbox, inv_sbox}
use Rattle.fips197.specs.Fips197.{
  at,
  word,
  byte_of,
  sub_bytes,
  shift_rows,
  mix_byte,
  mix_columns,
  add_round_key,
  round,
  rounds,
  final_round,
  cipher,
  inv_shift_rows,
  inv_sub_bytes,
  inv_mix_byte,
  inv_mix_columns,
  eq_inv_round,
  eq_inv_rounds,
  eq_inv_final_round,
  eq_inv_cipher,
  inv_mix_word,
  dual_word,
  dual,
}
use Rattle.fips197.specs.HasBytes.{HasBytes}
use Rattle.fips197.proofs.Laws.Words.{byte_of-lt}
use Rattle.fips197.proofs.Laws.States.{state_same, state-block}
use Rattle.fips197.proofs.Laws.Tabulate.{length-tabulate, get_d_tabulate, tabulate_is}
use Rattle.fips197.proofs.Laws.Transformations.{add_round_key-block}
use Rattle.fips197.proofs.Laws.Inverse.{rounds-block, cipher-block}
use Rattle.fips197.proofs.Laws.Equivalent.{eq_inv_rounds-block}
use Rattle.aes_tables.specs.Tables.{te, inverse, td, entry_byte, column_byte, column_word, sub_column}
use Rattle.aes_tables.proofs.Laws.Columns.{
  column_byte-te,
  column_byte-td,
  te-sbox,
  entries_inverse,
  sub_word_is,
  inv_mix_word_is,
}
use Rattle.aes.specs.Columns.{state_of}
use Rattle.aes.specs.Repeated.{repeated}
use Rattle.aes.specs.Tabled.{
  mixed_by,
  sub_by,
  inv_sub_by,
  round_by,
  rounds_by,
  final_round_by,
  cipher_by,
  eq_inv_round_by,
  eq_inv_rounds_by,
  eq_inv_final_round_by,
  eq_inv_cipher_by,
  dual_word_by,
  dual_by,
}

pub columns-block : (a b c d : ℕ) → IsBlock (state_of a b c d)
columns-block a b c d =
    state-block (λ r k. byte_of (get_or (a ∷ b ∷ c ∷ d ∷ []) k 0) r)
    (λ r k hr hk. byte_of-lt (get_or (a ∷ b ∷ c ∷ d ∷ []) k 0) r)

module _ {t : List ℕ} (e : t ≡ te) where
  mixed_by-te : (s : List ℕ) → IsBlock s → mixed_by t (shift_rows s) ≡ mix_columns (shift_rows (sub_bytes s))
  mixed_by-te s p =
      state_same
      (λ r c. column_byte t r (at s 0 ((c + 0) % 4)) (at s 1 ((c + 1) % 4)) (at s 2 ((c + 2) % 4))
      (at s 3 ((c + 3) % 4)))
      (λ r c. mix_byte r (sbox (at s 0 ((c + 0) % 4))) (sbox (at s 1 ((c + 1) % 4))) (sbox (at s 2 ((c + 2) % 4)))
      (sbox (at s 3 ((c + 3) % 4))))
      (λ r c hr hc. column_byte-te e r _ _ _ _ (p.bytes (0 + 4 * ((c + 0) % 4))) (p.bytes (1 + 4 * ((c + 1) % 4)))
      (p.bytes (2 + 4 * ((c + 2) % 4))) (p.bytes (3 + 4 * ((c + 3) % 4))))

  sub_by-te : (s : List ℕ) → IsBlock s → sub_by t s ≡ sub_bytes s
  sub_by-te s p =
      state_same (λ r c. entry_byte t (at s r c) 1) (λ r c. sbox (at s r c))
      (λ r c hr hc. te-sbox e (at s r c) (p.bytes (r + 4 * c)))

  module _ (w : List ℕ) where
    round_by-te : (s : List ℕ) (i : ℕ) → IsBlock s → round_by t s w i ≡ round s w i
    unfolding round_by round
    round_by-te s i p = ap (λ (x : List ℕ). add_round_key x w i) (mixed_by-te s p)

    rounds_by-te : (s : List ℕ) (n : ℕ) → IsBlock s → rounds_by t s w n ≡ rounds s w n
    unfolding rounds_by rounds
    rounds_by-te s zero p = refl
    rounds_by-te s (suc n) p =
        ap (λ (x : List ℕ). round_by t x w (suc n)) (rounds_by-te s n p)
        ∙ round_by-te (rounds s w n) (suc n) (rounds-block w s n p)

    pub cipher_by-te : (s : List ℕ) → IsBlock s → cipher_by t s w ≡ cipher s w
    unfolding cipher_by final_round_by cipher final_round
    cipher_by-te s p =
        let q = add_round_key-block s w 0 p in
        ap (λ (x : List ℕ). add_round_key (shift_rows (sub_by t x)) w 14) (rounds_by-te (add_round_key s w 0) 13 q)
        ∙ ap (λ (x : List ℕ). add_round_key (shift_rows x) w 14)
        (sub_by-te (rounds (add_round_key s w 0) w 13) (rounds-block w (add_round_key s w 0) 13 q))

    repeated-block : (n : ℕ) (s : List ℕ) → IsBlock s → IsBlock (repeated (λ x. cipher x w) n s)
    unfolding repeated
    repeated-block zero s p = p
    repeated-block (suc n) s p = cipher-block w (repeated (λ x. cipher x w) n s) (repeated-block n s p)

    pub repeated_by_te : (n : ℕ) (s : List ℕ) → IsBlock s
        → repeated (λ x. cipher_by t x w) n s ≡ repeated (λ x. cipher x w) n s
    unfolding repeated
    repeated_by_te zero s p = refl
    repeated_by_te (suc n) s p =
        ap (λ (x : List ℕ). cipher_by t x w) (repeated_by_te n s p)
        ∙ cipher_by-te (repeated (λ x. cipher x w) n s) (repeated-block n s p)

module _ {t : List ℕ} (e : t ≡ td) where
  mixed_by-td : (s : List ℕ) → IsBlock s → mixed_by t (inv_shift_rows s) ≡ inv_mix_columns (inv_shift_rows (inv_sub_bytes s))
  mixed_by-td s p =
      state_same
      (λ r c. column_byte t r (at s 0 ((c + 4 - 0) % 4)) (at s 1 ((c + 4 - 1) % 4)) (at s 2 ((c + 4 - 2) % 4))
      (at s 3 ((c + 4 - 3) % 4)))
      (λ r c. inv_mix_byte r (inv_sbox (at s 0 ((c + 4 - 0) % 4))) (inv_sbox (at s 1 ((c + 4 - 1) % 4)))
      (inv_sbox (at s 2 ((c + 4 - 2) % 4))) (inv_sbox (at s 3 ((c + 4 - 3) % 4))))
      (λ r c hr hc. column_byte-td e r _ _ _ _ (p.bytes (0 + 4 * ((c + 4 - 0) % 4)))
      (p.bytes (1 + 4 * ((c + 4 - 1) % 4))) (p.bytes (2 + 4 * ((c + 4 - 2) % 4))) (p.bytes (3 + 4 * ((c + 4 - 3) % 4))))

  module _ (v : List ℕ) where
    eq_inv_round_by-td : (s : List ℕ) (i : ℕ) → IsBlock s → eq_inv_round_by t s v i ≡ eq_inv_round s v i
    unfolding eq_inv_round_by eq_inv_round
    eq_inv_round_by-td s i p = ap (λ (x : List ℕ). add_round_key x v i) (mixed_by-td s p)

    eq_inv_rounds_by-td : (s : List ℕ) (n : ℕ) → IsBlock s → eq_inv_rounds_by t s v n ≡ eq_inv_rounds s v n
    unfolding eq_inv_rounds_by eq_inv_rounds
    eq_inv_rounds_by-td s zero p = refl
    eq_inv_rounds_by-td s (suc n) p =
        ap (λ (x : List ℕ). eq_inv_round_by t x v (13 - n)) (eq_inv_rounds_by-td s n p)
        ∙ eq_inv_round_by-td (eq_inv_rounds s v n) (13 - n) (eq_inv_rounds-block s v n p)

-- byte r of a word by its bytes
byte_of_is : {w : ℕ} (f : ℕ → ℕ) → HasBytes w (f 0) (f 1) (f 2) (f 3) → (r : ℕ) → r < 4 → byte_of w r ≡ f r
byte_of_is f p zero h = p.at0
byte_of_is f p (suc zero) h = p.at1
byte_of_is f p (suc (suc zero)) h = p.at2
byte_of_is f p (suc (suc (suc zero))) h = p.at3
byte_of_is f p (suc (suc (suc (suc r)))) h = absurd (omega arith)

inv_sub_by-inverse : {u : List ℕ} → u ≡ inverse → (s : List ℕ) → IsBlock s
    → inv_sub_by u (inv_shift_rows s) ≡ inv_shift_rows (inv_sub_bytes s)
inv_sub_by-inverse {u} e s p =
    state_same
    (λ r c. byte_of (word (get_or u (at s 0 ((c + 4 - 0) % 4)) 0) (get_or u (at s 1 ((c + 4 - 1) % 4)) 0)
    (get_or u (at s 2 ((c + 4 - 2) % 4)) 0) (get_or u (at s 3 ((c + 4 - 3) % 4)) 0)) r)
    (λ r c. inv_sbox (at s r ((c + 4 - r) % 4)))
    (λ r c hr hc. byte_of_is (λ (q : ℕ). inv_sbox (at s q ((c + 4 - q) % 4)))
    (entries_inverse e _ _ _ _ (p.bytes (0 + 4 * ((c + 4 - 0) % 4))) (p.bytes (1 + 4 * ((c + 4 - 1) % 4)))
    (p.bytes (2 + 4 * ((c + 4 - 2) % 4))) (p.bytes (3 + 4 * ((c + 4 - 3) % 4)))) r hr)

pub eq_inv_cipher_by-td : {u t : List ℕ} → u ≡ inverse → t ≡ td → (v s : List ℕ) → IsBlock s
    → eq_inv_cipher_by u t s v ≡ eq_inv_cipher s v
unfolding eq_inv_cipher_by eq_inv_final_round_by eq_inv_cipher eq_inv_final_round
eq_inv_cipher_by-td {u} d e v s p =
    let q = add_round_key-block s v 14 p in
    ap (λ (x : List ℕ). add_round_key (inv_sub_by u (inv_shift_rows x)) v 0) (eq_inv_rounds_by-td e v (add_round_key s v 14) 13 q)
    ∙ ap (λ (x : List ℕ). add_round_key x v 0)
    (inv_sub_by-inverse d (eq_inv_rounds (add_round_key s v 14) v 13) (eq_inv_rounds-block (add_round_key s v 14) v 13 q))

module _ (t u : List ℕ) (i x : ℕ) where
  pub dual_word_by_first : i < 4 → dual_word_by t u i x ≡ x
  unfolding dual_word_by
  dual_word_by_first h = rw (lt-ltb i 4 h)

  pub dual_word_by-mixed : 4 ≤ i → i < 56 → dual_word_by t u i x ≡ column_word u (sub_column t x x x x)
  unfolding dual_word_by
  dual_word_by-mixed h l = rw (le-ltb i 4 h, lt-ltb i 56 l)

  pub dual_word_by_last : 56 ≤ i → dual_word_by t u i x ≡ x
  unfolding dual_word_by
  dual_word_by_last h =
      let k : 4 ≤ i = omega arith in
      rw (le-ltb i 4 k, le-ltb i 56 h)

module _ {t u : List ℕ} (e : t ≡ te) (f : u ≡ td) where
  dual_word_by-td : (i x : ℕ) → dual_word_by t u i x ≡ dual_word i x
  unfolding dual_word_by dual_word
  dual_word_by-td i x =
      let z : ℕ = sub_column t x x x x in
      let m : column_word u z ≡ inv_mix_word x = inv_mix_word_is f x z (sub_word_is e x) in
      rw m

  pub dual_by-td : (w : List ℕ) → dual_by t u w ≡ dual w
  unfolding dual_by dual
  dual_by-td w =
      tabulate_is 60 (λ i. dual_word i (get_or w i 0)) (dual_by t u w)
      (length-tabulate 60 (λ i. dual_word_by t u i (get_or w i 0)))
      (λ k l. get_d_tabulate 60 (λ i. dual_word_by t u i (get_or w i 0)) k l ∙ dual_word_by-td k (get_or w k 0))
