-- The entries of the tables te, td and inverse.
--
-- In order:
--   mix_entry_bytes, inv_mix_entry_bytes            the bytes of an entry
--   te_entry, inverse_entry, td_entry, mixed-inverse    the tables' entries
--   mix_entry_is, inv_mix_entry_is, times2_is       as the code computes them
--   inverse_more, inverse_all                       a loop that writes each place at its value: one turn, and its end
-- Assumes nothing.
use mathlib.Core.Path.{◌≡◌, refl, sym, ◌∙◌, ap, ap₂}
use mathlib.Core.List.{List}
use Prim.Native.Nat.{ℕ, ◌+◌, ◌*◌, ◌/◌, ◌%◌, ◌<◌}
use native.Mathlib.Omega.{arith}
use lib.Bits.{bit_xor}
use lib.ListN.{get_or, set, length, length-set}
use lib.Seq.{get_or-set_same, get_or-set_other}
use borrow.Author.Count.{below_more}
use Rattle.gf256.specs.Gf256.{x_times, gmul, sbox, inv_sbox}
use Rattle.gf256.proofs.Laws.Field.{gmul-lt, gmul_2, gmul_3, gmul_9, gmul_11, gmul_13, gmul_14}
use Rattle.gf256.proofs.Laws.Sbox.{sbox-lt, sbox_inj, inv_sbox-lt, sbox-inv_sbox}
use Rattle.fips197.specs.Fips197.{word}
use Rattle.fips197.specs.HasBytes.{HasBytes}
use Rattle.fips197.proofs.Laws.Words.{bytes_word}
use Rattle.fips197.proofs.Laws.Tabulate.{get_d_tabulate, tabulate_is}
use Rattle.aes_tables.specs.Tables.{mix_entry, te, inverse, inv_mix_entry, mixed, td}

pub mix_entry_bytes : (s : ℕ) → s < 256 → HasBytes (mix_entry s) (gmul 2 s) s s (gmul 3 s)
unfolding mix_entry
mix_entry_bytes s h = bytes_word (gmul-lt 2 s (omega arith)) h h (gmul-lt 3 s (omega arith))

pub inv_mix_entry_bytes : (b : ℕ) → HasBytes (inv_mix_entry b) (gmul 14 b) (gmul 9 b) (gmul 13 b) (gmul 11 b)
unfolding inv_mix_entry
inv_mix_entry_bytes b =
    bytes_word (gmul-lt 14 b (omega arith)) (gmul-lt 9 b (omega arith)) (gmul-lt 13 b (omega arith)) (gmul-lt 11 b (omega arith))

pub te_entry : {t : List ℕ} → t ≡ te → (x : ℕ) → x < 256 → HasBytes (get_or t x 0) (gmul 2 (sbox x)) (sbox x) (sbox x) (gmul 3 (sbox x))
unfolding te
te_entry e x h = rw (e, get_d_tabulate 256 (λ x. mix_entry (sbox x)) x h) (mix_entry_bytes (sbox x) (sbox-lt x h))

pub inverse_entry : {t : List ℕ} → t ≡ inverse → (x : ℕ) → x < 256 → get_or t x 0 ≡ inv_sbox x
unfolding inverse
inverse_entry e x h = rw e (get_d_tabulate 256 inv_sbox x h)

pub td_entry : {t : List ℕ} → t ≡ td → (x : ℕ) → x < 256
    → HasBytes (get_or t x 0) (gmul 14 (inv_sbox x)) (gmul 9 (inv_sbox x)) (gmul 13 (inv_sbox x)) (gmul 11 (inv_sbox x))
unfolding td mixed
td_entry e x h =
    rw (e, get_d_tabulate 256 (λ x. inv_mix_entry (get_or inverse x 0)) x h, inverse_entry refl x h) (inv_mix_entry_bytes (inv_sbox x))

-- the table built from the inverse S-box
pub mixed-inverse : {t : List ℕ} → t ≡ inverse → mixed t ≡ td
unfolding td
mixed-inverse e = ap mixed e

-- the product with {02}, without a sum that could wrap
pub times2_is : (b : ℕ) → b < 256 → bit_xor (b % 128 * 2) (b / 128 * 27) ≡ gmul 2 b
unfolding x_times
times2_is b h =
    let e : b % 128 * 2 ≡ b * 2 % 256 = omega arith in
    ap (λ (x : ℕ). bit_xor x (b / 128 * 27)) e ∙ sym (gmul_2 b h)

pub mix_entry_is : (s d : ℕ) → s < 256 → d ≡ gmul 2 s → word d s s (bit_xor d s) ≡ mix_entry s
unfolding mix_entry
mix_entry_is s d h e = ap₂ (λ (x y : ℕ). word x s s y) e (ap (λ (x : ℕ). bit_xor x s) e ∙ gmul_3 s h)

pub inv_mix_entry_is : (b b2 b4 b8 : ℕ) → b < 256 → b2 ≡ gmul 2 b → b4 ≡ gmul 2 b2 → b8 ≡ gmul 2 b4
    → word (bit_xor (bit_xor b8 b4) b2) (bit_xor b8 b) (bit_xor (bit_xor b8 b4) b) (bit_xor (bit_xor b8 b) b2) ≡ inv_mix_entry b
unfolding inv_mix_entry
inv_mix_entry_is b b2 b4 b8 h e2 e4 e8 = rw (e8, e4, e2, gmul_14 b h, gmul_13 b h, gmul_11 b h, gmul_9 b h)

-- the places of the numbers below n stand at their values
pub record Placed (t : List ℕ) (n : ℕ) : Type 0 where
  pub long : length t ≡ 256
  pub placed : (k : ℕ) → k < n → get_or t (sbox k) 0 ≡ k

pub inverse_more : (t : List ℕ) (i y : ℕ) → i < 256 → y ≡ sbox i → Placed t i → Placed (set t y i) (i + 1)
inverse_more t i y h e p =
    let l : y < length t = omega (arith, p.long, sbox-lt i h) in
    record {
      long = length-set t y i ∙ p.long;
      placed =
          below_more (λ (k : ℕ). get_or (set t y i) (sbox k) 0 ≡ k) i
          (λ k m. get_or-set_other t y (sbox k) i 0
          (λ (q : sbox k ≡ y). let u : k ≡ i = sbox_inj k i (omega arith) h (q ∙ e) in let z : ⊥ = omega arith in z)
          ∙ p.placed k m)
          (rw (← e) (get_or-set_same t y i 0 l));
    }

pub inverse_all : (t : List ℕ) (i : ℕ) → i ≡ 256 → Placed t i → t ≡ inverse
unfolding inverse
inverse_all t i e p =
    tabulate_is 256 inv_sbox t p.long
    (λ k l. let m : inv_sbox k < i = omega (arith, inv_sbox-lt k l) in
    ap (λ (n : ℕ). get_or t n 0) (sym (sbox-inv_sbox k l)) ∙ p.placed (inv_sbox k) m)
