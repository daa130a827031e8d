-- The padding of section 5.1, over the width of a word: it makes whole blocks, with as few zeros as can be.
--
-- In order:
--   last_end, last_end_most               where the last block ends, counted from the first pending byte
--   zero_bytes_end                       the zeros and the length reach up to there
--   zero_bytes_fit, zero_bytes_least      the equation of 5.1: a solution, and the smallest
--   pad_whole                           a padded message is whole blocks
--   be_bytes_high, padding_is            the padding with its length in eight bytes
-- Not here: how code lays the padding behind the pending bytes (Last), blocks (Blocks), states (Feeding).
-- Assumes nothing.
use mathlib.Core.Path.{◌≡◌, refl, sym, ap, ◌∙◌}
use mathlib.Core.List.{List, ◌∷◌, ◌++◌, append_assoc}
use Prim.Native.Nat.{ℕ, zero, suc, ◌+◌, ◌-◌, ◌*◌, ◌/◌, ◌%◌, ◌^◌, ◌≤◌, ◌<◌}
use native.Mathlib.Nat.{
  mod-lt,
  mod-add-mod,
  mod-eq_of_lt,
  mod-eq-sub-mod,
  div-eq_of_lt,
  div-eq-sub-div,
  mul_comm,
  pow-le-pow_right,
  add-mod_right,
  mul-mod_left,
}
use native.Mathlib.Omega.{arith}
use lib.Dec.{ltb}
use lib.ListN.{length, length-append, length-replicate, replicate-append-replicate}
use borrow.Author.Tests.{ltb-true, ltb-false}
use Rattle.words.specs.Endian.{be_bytes}
use Rattle.words.proofs.Laws.Cases.{by_bool}
use Rattle.words.proofs.Laws.Endian.{length-be_bytes}
use Rattle.slices.proofs.Laws.Zeros.{zeros}
use Rattle.fips180.specs.Fips180.{Sha2, block_bytes, zero_bytes, padding, pad}

-- n bytes of message leave n % block_bytes pending; the byte 80 and two words of length fit behind them in this block,
-- or else in the next
abbrev pub last_end : Sha2 → ℕ → ℕ
last_end p n = (n % block_bytes p + 2 * p.bytes) / block_bytes p * block_bytes p + block_bytes p

-- the numbers alone: b bytes in a word, r of them pending
module _ (b r : ℕ) (few : r < 16 * b) where
  abbrev zeros_of : ℕ
  zeros_of = (2 * (16 * b) - (2 * b + 1) - r) % (16 * b)

  abbrev end_of : ℕ
  end_of = (r + 2 * b) / (16 * b) * (16 * b) + 16 * b

  -- either the length fits in this block, or it takes one more
  by_room : {P : Type 0} → (r < 14 * b → zeros_of ≡ 14 * b - 1 - r → end_of ≡ 16 * b → P)
      → (14 * b ≤ r → zeros_of ≡ 30 * b - 1 - r → end_of ≡ 32 * b → P)
      → P
  by_room one two =
      let pos : 0 < 16 * b = omega arith in
      by_bool (ltb r (14 * b))
      (λ t. let h : r < 14 * b = ltb-true _ _ t in
      let over : 16 * b ≤ 2 * (16 * b) - (2 * b + 1) - r = omega arith in
      let under : 2 * (16 * b) - (2 * b + 1) - r - 16 * b < 16 * b = omega arith in
      let fits : r + 2 * b < 16 * b = omega arith in
      let z = mod-eq-sub-mod over ∙ mod-eq_of_lt under in
      let e = div-eq_of_lt fits in
      one h (z ∙ omega arith) (rw e (omega arith)))
      (λ t. let h : 14 * b ≤ r = ltb-false _ _ t in
      let under : 2 * (16 * b) - (2 * b + 1) - r < 16 * b = omega arith in
      let over : 16 * b ≤ r + 2 * b = omega arith in
      let fits : r + 2 * b - 16 * b < 16 * b = omega arith in
      let z = mod-eq_of_lt under in
      let e = div-eq-sub-div pos over ∙ ap (λ (n : ℕ). n + 1) (div-eq_of_lt fits) in
      two h (z ∙ omega arith) (rw e (omega arith)))

  zeros_end : r + 1 + zeros_of + 2 * b ≡ end_of
  zeros_end = by_room (λ h z e. omega arith) (λ h z e. omega arith)

  end_most : end_of ≤ 2 * (16 * b)
  end_most = by_room (λ h z e. omega arith) (λ h z e. omega arith)

  zeros_fit : (r + 1 + zeros_of) % (16 * b) ≡ 14 * b
  zeros_fit =
      by_room
      (λ h z e. let f : r + 1 + zeros_of ≡ 14 * b = omega arith in
      let under : 14 * b < 16 * b = omega arith in
      rw f (mod-eq_of_lt under))
      (λ h z e. let f : r + 1 + zeros_of ≡ 30 * b = omega arith in
      let over : 16 * b ≤ 30 * b = omega arith in
      let g : 30 * b - 16 * b ≡ 14 * b = omega arith in
      let under : 14 * b < 16 * b = omega arith in
      rw (f, mod-eq-sub-mod over, g) (mod-eq_of_lt under))

  -- any other solution is no smaller
  zeros_least : (k : ℕ) → (r + 1 + k) % (16 * b) ≡ 14 * b → zeros_of ≤ k
  zeros_least k f =
      by_bool (ltb k zeros_of)
      (λ t. let l : k < zeros_of = ltb-true _ _ t in
      by_room
      (λ h z e. let under : r + 1 + k < 16 * b = omega arith in
      let g = mod-eq_of_lt under in
      omega arith)
      (λ h z e. by_bool (ltb (r + 1 + k) (16 * b))
      (λ u. let under : r + 1 + k < 16 * b = ltb-true _ _ u in
      let g = mod-eq_of_lt under in
      omega arith)
      (λ u. let over : 16 * b ≤ r + 1 + k = ltb-false _ _ u in
      let under : r + 1 + k - 16 * b < 16 * b = omega arith in
      let g = mod-eq-sub-mod over ∙ mod-eq_of_lt under in
      omega arith)))
      (λ t. ltb-false _ _ t)

module _ (p : Sha2) (pos : 0 < block_bytes p) where
  pub last_end_most : (n : ℕ) → last_end p n ≤ 2 * block_bytes p
  last_end_most n = end_most p.bytes (n % block_bytes p) (mod-lt n pos)

  pub zero_bytes_end : (n : ℕ) → n % block_bytes p + 1 + zero_bytes p n + 2 * p.bytes ≡ last_end p n
  unfolding zero_bytes
  zero_bytes_end n = zeros_end p.bytes (n % block_bytes p) (mod-lt n pos)

  -- k more bytes behind n, and behind those of them that are pending
  mod_behind : (n k : ℕ) → (n + 1 + k) % block_bytes p ≡ (n % block_bytes p + 1 + k) % block_bytes p
  mod_behind n k =
      let e : n + 1 + k ≡ n + (1 + k) = omega arith in
      let f : n % block_bytes p + 1 + k ≡ n % block_bytes p + (1 + k) = omega arith in
      rw (e, f) (sym (mod-add-mod n (block_bytes p) (1 + k)))

  -- "l + 1 + k ≡ 448 mod 512" (896 mod 1024): with the length in two words they are whole blocks
  pub zero_bytes_fit : (n : ℕ) → (n + 1 + zero_bytes p n) % block_bytes p ≡ 14 * p.bytes
  unfolding zero_bytes
  zero_bytes_fit n = mod_behind n _ ∙ zeros_fit p.bytes (n % block_bytes p) (mod-lt n pos)

  -- "the smallest": any other solution is no smaller
  pub zero_bytes_least : (n k : ℕ) → (n + 1 + k) % block_bytes p ≡ 14 * p.bytes → zero_bytes p n ≤ k
  unfolding zero_bytes
  zero_bytes_least n k f = zeros_least p.bytes (n % block_bytes p) (mod-lt n pos) k (sym (mod_behind n k) ∙ f)

  pub pad_whole : (m : List ℕ) → length (pad p m) % block_bytes p ≡ 0
  unfolding pad padding
  pad_whole m =
      let z : ℕ = zero_bytes p (length m) in
      let e : length (pad p m) ≡ length m + 1 + (z + 2 * p.bytes) =
      simp (length-append, length-replicate, length-be_bytes) (omega arith) in
      let f : length m % block_bytes p + 1 + (z + 2 * p.bytes) ≡ last_end p (length m) =
      omega (arith, zero_bytes_end (length m)) in
      rw (e, mod_behind (length m) (z + 2 * p.bytes), f, add-mod_right) (mul-mod_left _ _)

-- the bytes above the eighth of a number of eight bytes are zeros
be_bytes_high : (k x : ℕ) → x < 256 ^ 8 → be_bytes (k + 8) x ≡ zeros k ++ be_bytes 8 x
unfolding be_bytes
be_bytes_high zero x h = refl
be_bytes_high (suc k) x h =
    let d : suc k + 8 ≡ suc (k + 8) = omega arith in
    let j : 8 ≤ k + 8 = omega arith in
    let l : 256 ^ 8 ≤ 256 ^ (k + 8) = pow-le-pow_right {n = 256} (omega arith) j in
    let e : x / 256 ^ (k + 8) ≡ 0 = div-eq_of_lt (omega arith) in
    rw (d, e, be_bytes_high k x h)

-- the padding of a message of n bytes, its length in eight bytes: zeros up to there, whichever of them are the length's
pub padding_is : (p : Sha2) → 4 ≤ p.bytes → (n : ℕ) → n < 2 ^ 32
    → padding p n ≡ 0x80 ∷ (zeros (last_end p n - 8 - n % block_bytes p - 1) ++ be_bytes 8 (n * 8))
unfolding padding
padding_is p wide n l =
    let k : ℕ = 2 * p.bytes - 8 in
    let w : 2 * p.bytes ≡ k + 8 = omega arith in
    let x : 8 * n < 256 ^ 8 = omega arith in
    let z : zero_bytes p n + k ≡ last_end p n - 8 - n % block_bytes p - 1 =
    omega (arith, zero_bytes_end p (omega arith) n) in
    let b = ap (λ (i : ℕ). be_bytes i (8 * n)) w ∙ be_bytes_high k (8 * n) x in
    rw (b, ← append_assoc, replicate-append-replicate, z, mul_comm 8 n)
