-- FIPS 197, 5.2: the key schedule of a key has sixty words, each below 2^32.
--
-- In order: length-key_expansion, below_key_expansion.
-- Assumes nothing.
use mathlib.Core.Path.{◌≡◌, ◌∙◌}
use mathlib.Core.List.{List, [], ◌∷◌}
use Prim.Native.Nat.{ℕ, zero, suc, ◌+◌, ◌-◌, ◌*◌, ◌/◌, ◌%◌, ◌^◌, ◌<◌}
use native.Mathlib.Omega.{arith}
use lib.Bits.{xor_lt}
use lib.Dec.{eqb}
use lib.ListN.{length, get_or, length-append}
use Rattle.words.specs.Endian.{Bytes, be}
use Rattle.words.proofs.Laws.Cases.{by_bool}
use Rattle.words.proofs.Laws.Endian.{be-lt}
use Rattle.gf256.specs.Gf256.{x_times}
use Rattle.gf256.proofs.Laws.Sbox.{sbox-lt}
use Rattle.fips197.specs.Tabulate.{tabulate}
use Rattle.fips197.specs.Fips197.{word, byte_of, rot_word, sub_word, x_pow, rcon, temp, next_word, expanded, key_expansion}
use Rattle.fips197.proofs.Laws.Tabulate.{length-tabulate}
use Rattle.fips197.proofs.Laws.Words.{byte_of-lt}
use Rattle.calls.proofs.Laws.Below.{Below, below_nil, below_cons, below_append}

length-expanded : (key : List ℕ) (n : ℕ) → length (expanded key n) ≡ 8 + n
unfolding expanded
length-expanded key zero = length-tabulate 8 (λ i. be 4 key (4 * i))
length-expanded key (suc n) =
    length-append (expanded key n) (next_word (expanded key n) ∷ []) ∙ omega (arith, length-expanded key n)

pub length-key_expansion : (key : List ℕ) → length (key_expansion key) ≡ 60
unfolding key_expansion
length-key_expansion key = length-expanded key 52

word_lt : {a b c d : ℕ} → a < 256 → b < 256 → c < 256 → d < 256 → word a b c d < 2 ^ 32
word_lt p q r s = omega arith

rot_word-lt : (w : ℕ) → rot_word w < 2 ^ 32
unfolding rot_word
rot_word-lt w = word_lt (byte_of-lt w 1) (byte_of-lt w 2) (byte_of-lt w 3) (byte_of-lt w 0)

sub_word-lt : (w : ℕ) → sub_word w < 2 ^ 32
unfolding sub_word
sub_word-lt w =
    word_lt (sbox-lt (byte_of w 0) (byte_of-lt w 0)) (sbox-lt (byte_of w 1) (byte_of-lt w 1))
    (sbox-lt (byte_of w 2) (byte_of-lt w 2)) (sbox-lt (byte_of w 3) (byte_of-lt w 3))

x_times-lt : (b : ℕ) → b < 256 → x_times b < 256
unfolding x_times
x_times-lt b h = xor_lt 8 (b * 2 % 256) (b / 128 * 0x1b) (omega arith) (omega arith)

x_pow-lt : (n : ℕ) → x_pow n < 256
unfolding x_pow
x_pow-lt zero = omega arith
x_pow-lt (suc n) = x_times-lt (x_pow n) (x_pow-lt n)

rcon-lt : (j : ℕ) → rcon j < 2 ^ 32
unfolding rcon
rcon-lt zero = omega arith
rcon-lt (suc j) = omega (arith, x_pow-lt j)

temp-lt : (i p : ℕ) → p < 2 ^ 32 → temp i p < 2 ^ 32
unfolding temp
temp-lt i p h =
    by_bool (eqb (i % 8) 0)
    (λ a. rw a (xor_lt 32 (sub_word (rot_word p)) (rcon (i / 8)) (sub_word-lt (rot_word p)) (rcon-lt (i / 8))))
    (λ a. by_bool (eqb (i % 8) 4) (λ b. rw (a, b) (sub_word-lt p)) (λ b. rw (a, b) h))

next_word-lt : (w : List ℕ) → Below (2 ^ 32) w → next_word w < 2 ^ 32
unfolding next_word
next_word-lt w h =
    let n : ℕ = length w in
    xor_lt 32 (get_or w (n - 8) 0) (temp n (get_or w (n - 1) 0)) (h (n - 8)) (temp-lt n (get_or w (n - 1) 0) (h (n - 1)))

below_tabulate : (m n : ℕ) (f : ℕ → ℕ) → 0 < m → ((k : ℕ) → f k < m) → Below m (tabulate n f)
unfolding tabulate
below_tabulate m zero f p h = below_nil m p
below_tabulate m (suc n) f p h =
    below_append m (tabulate n f) (f n ∷ []) (below_tabulate m n f p h) (below_cons m (f n) [] (h n) (below_nil m p))

below_expanded : (key : List ℕ) → Bytes key → (n : ℕ) → Below (2 ^ 32) (expanded key n)
unfolding expanded
below_expanded key b zero =
    below_tabulate (2 ^ 32) 8 (λ i. be 4 key (4 * i)) (omega arith) (λ i. be-lt 4 key (4 * i) b)
below_expanded key b (suc n) =
    let h = below_expanded key b n in
    let w : List ℕ = expanded key n in
    below_append (2 ^ 32) w (next_word w ∷ []) h
    (below_cons (2 ^ 32) (next_word w) [] (next_word-lt w h) (below_nil (2 ^ 32) (omega arith)))

pub below_key_expansion : (key : List ℕ) → Bytes key → Below (2 ^ 32) (key_expansion key)
unfolding key_expansion
below_key_expansion key b = below_expanded key b 52
