-- FIPS 197, 5.3: InvCipher() undoes Cipher(), and Cipher() it, on every block and under every key schedule.
--
-- In order:
--   rounds-block, cipher-block, inv_cipher-block    blocks
--   inv_cipher-cipher, cipher-inv_cipher     the theorem
--   length-cipher, length-inv_cipher         on lists that are no blocks too
-- Not here: the transformations of a round (Transformations).
-- Assumes nothing.
use mathlib.Core.Path.{◌≡◌, refl, ◌∙◌, ap, ap₂}
use mathlib.Core.List.{List}
use Prim.Native.Nat.{ℕ, zero, suc, ◌+◌, ◌-◌}
use native.Mathlib.Omega.{arith}
use lib.ListN.{length}
use Rattle.words.specs.Block.{IsBlock}
use Rattle.fips197.specs.Fips197.{
  mix_columns,
  add_round_key,
  round,
  rounds,
  final_round,
  cipher,
  inv_mix_columns,
  inv_round,
  inv_rounds,
  inv_final_round,
  inv_cipher,
}
use Rattle.fips197.proofs.Laws.Transformations.{
  add_round_key-add_round_key,
  add_round_key-block,
  sub,
  inv_sub,
  inv_sub-sub,
  sub-inv_sub,
  sub-block,
  inv_sub-block,
  inv_mix_columns-mix_columns,
  mix_columns-inv_mix_columns,
  mix_columns-block,
  inv_mix_columns-block,
}

module _ (w : List ℕ) where
  round-block : (s : List ℕ) (i : ℕ) → IsBlock s → IsBlock (round s w i)
  unfolding round
  round-block s i p = add_round_key-block (mix_columns (sub s)) w i (mix_columns-block (sub s) (sub-block s p))

  pub rounds-block : (s : List ℕ) (n : ℕ) → IsBlock s → IsBlock (rounds s w n)
  unfolding rounds
  rounds-block s zero p = p
  rounds-block s (suc n) p = round-block (rounds s w n) (suc n) (rounds-block s n p)

  inv_round-block : (s : List ℕ) (i : ℕ) → IsBlock (inv_round s w i)
  unfolding inv_round
  inv_round-block s i = inv_mix_columns-block (add_round_key (inv_sub s) w i)

  inv_rounds-block : (s : List ℕ) (n : ℕ) → IsBlock s → IsBlock (inv_rounds s w n)
  unfolding inv_rounds
  inv_rounds-block s zero p = p
  inv_rounds-block s (suc n) p = inv_round-block (inv_rounds s w n) _

  pub cipher-block : (s : List ℕ) → IsBlock s → IsBlock (cipher s w)
  unfolding cipher final_round
  cipher-block s p =
      let last = rounds-block (add_round_key s w 0) 13 (add_round_key-block s w 0 p) in
      add_round_key-block (sub (rounds (add_round_key s w 0) w 13)) w 14 (sub-block (rounds (add_round_key s w 0) w 13) last)

  pub inv_cipher-block : (s : List ℕ) → IsBlock s → IsBlock (inv_cipher s w)
  unfolding inv_cipher inv_final_round
  inv_cipher-block s p =
      let last = inv_rounds-block (add_round_key s w 14) 13 (add_round_key-block s w 14 p) in
      add_round_key-block (inv_sub (inv_rounds (add_round_key s w 14) w 13)) w 0 (inv_sub-block (inv_rounds (add_round_key s w 14) w 13) last)

  -- a round undone, between the two halves of a round
  inv_round-round : (s : List ℕ) (i : ℕ) → IsBlock s → inv_round (sub (round s w i)) w i ≡ sub s
  unfolding inv_round round
  inv_round-round s i p =
      ap (λ (t : List ℕ). inv_mix_columns (add_round_key t w i)) (inv_sub-sub (round s w i) (round-block s i p))
      ∙ ap inv_mix_columns (add_round_key-add_round_key (mix_columns (sub s)) w i refl)
      ∙ inv_mix_columns-mix_columns (sub s) (sub-block s p)

  round-inv_round : (s : List ℕ) (i : ℕ) → IsBlock s → round (inv_sub (inv_round s w i)) w i ≡ inv_sub s
  unfolding round inv_round
  round-inv_round s i p =
      ap (λ (t : List ℕ). add_round_key (mix_columns t) w i) (sub-inv_sub (inv_round s w i) (inv_round-block s i))
      ∙ ap (λ (t : List ℕ). add_round_key t w i)
      (mix_columns-inv_mix_columns (add_round_key (inv_sub s) w i) (add_round_key-block (inv_sub s) w i (inv_sub-block s p)))
      ∙ add_round_key-add_round_key (inv_sub s) w i refl

  -- n rounds of thirteen undone: m are left
  inv_rounds-rounds : (s : List ℕ) (n m : ℕ) → IsBlock s → n + m ≡ 13 → inv_rounds (sub (rounds s w 13)) w n ≡ sub (rounds s w m)
  unfolding inv_rounds rounds
  inv_rounds-rounds s zero m p e = ap (λ (k : ℕ). sub (rounds s w k)) (let z : 13 ≡ m = omega arith in z)
  inv_rounds-rounds s (suc n) m p e =
      ap₂ (λ (t : List ℕ) (k : ℕ). inv_round t w k) (inv_rounds-rounds s n (suc m) p (omega arith))
      (let z : 13 - n ≡ suc m = omega arith in z)
      ∙ inv_round-round (rounds s w m) (suc m) (rounds-block s m p)

  rounds-inv_rounds : (s : List ℕ) (n m : ℕ) → IsBlock s → n + m ≡ 13 → rounds (inv_sub (inv_rounds s w 13)) w n ≡ inv_sub (inv_rounds s w m)
  unfolding inv_rounds rounds
  rounds-inv_rounds s zero m p e = ap (λ (k : ℕ). inv_sub (inv_rounds s w k)) (let z : 13 ≡ m = omega arith in z)
  rounds-inv_rounds s (suc n) m p e =
      ap (λ (t : List ℕ). round t w (suc n)) (rounds-inv_rounds s n (suc m) p (omega arith))
      ∙ ap (λ (k : ℕ). round (inv_sub (inv_round (inv_rounds s w m) w k)) w (suc n)) (let z : 13 - m ≡ suc n = omega arith in z)
      ∙ round-inv_round (inv_rounds s w m) (suc n) (inv_rounds-block s m p)

  -- 5.3
  pub inv_cipher-cipher : (s : List ℕ) → IsBlock s → inv_cipher (cipher s w) w ≡ s
  unfolding cipher inv_cipher final_round inv_final_round rounds
  inv_cipher-cipher s p =
      let start = add_round_key-block s w 0 p in
      ap (λ (t : List ℕ). inv_final_round (inv_rounds t w 13) w) (add_round_key-add_round_key (sub (rounds (add_round_key s w 0) w 13)) w 14 refl)
      ∙ ap (λ (t : List ℕ). inv_final_round t w) (inv_rounds-rounds (add_round_key s w 0) 13 0 start refl)
      ∙ ap (λ (t : List ℕ). add_round_key t w 0) (inv_sub-sub (add_round_key s w 0) start)
      ∙ add_round_key-add_round_key s w 0 p.size

  pub cipher-inv_cipher : (s : List ℕ) → IsBlock s → cipher (inv_cipher s w) w ≡ s
  unfolding cipher inv_cipher final_round inv_final_round inv_rounds
  cipher-inv_cipher s p =
      let start = add_round_key-block s w 14 p in
      ap (λ (t : List ℕ). final_round (rounds t w 13) w) (add_round_key-add_round_key (inv_sub (inv_rounds (add_round_key s w 14) w 13)) w 0 refl)
      ∙ ap (λ (t : List ℕ). final_round t w) (rounds-inv_rounds (add_round_key s w 14) 13 0 start refl)
      ∙ ap (λ (t : List ℕ). add_round_key t w 14) (sub-inv_sub (add_round_key s w 14) start)
      ∙ add_round_key-add_round_key s w 14 p.size

  pub length-cipher : (s : List ℕ) → length (cipher s w) ≡ 16
  unfolding cipher final_round
  length-cipher s = refl

  pub length-inv_cipher : (s : List ℕ) → length (inv_cipher s w) ≡ 16
  unfolding inv_cipher inv_final_round
  length-inv_cipher s = refl
