-- A column of a round, and a word of a key schedule, by look-ups in a table.
--
-- In order:
--   rotr8_bytes, bytes_turned, column_is    as the code computes a column, in any table
--   column_word_is                          a word as a column, in any table
--   column_byte-te, column_byte-td          a byte of a round's column, where the table is the right one
--   te-sbox, sub_column_bytes               a column of the last round
--   entries_inverse                         .. of the inverse cipher, where the table is the right one
--   sub_word_is, inv_mix_word_is            a word of the key schedule and of its dual, likewise
-- Assumes nothing.
use mathlib.Core.Path.{◌≡◌, sym, ◌∙◌, ap}
use mathlib.Core.List.{List}
use Prim.Native.Nat.{ℕ, zero, suc, ◌+◌, ◌*◌, ◌/◌, ◌%◌, ◌^◌, ◌<◌}
use native.Mathlib.Omega.{arith}
use lib.Bits.{bit_xor, xor_zero_r}
use lib.ListN.{get_or}
use lib.Pow.{shr-shr}
use Rattle.words.proofs.Laws.Xor.{xor_assoc}
use Rattle.gf256.specs.Gf256.{sum4, sbox, inv_sbox}
use Rattle.gf256.proofs.Laws.Sums.{sum4_ap}
use Rattle.gf256.proofs.Laws.Sbox.{sbox-lt, inv_sbox-lt, inv_sbox-sbox}
use Rattle.fips197.specs.Fips197.{word, byte_of, mix_byte, sub_word, inv_mix_byte, inv_mix_word}
use Rattle.fips197.specs.HasBytes.{HasBytes}
use Rattle.fips197.proofs.Laws.Words.{byte_of-lt, bytes_own, bytes_word, word_bytes, bytes_is, bytes_xor}
use Rattle.aes_tables.specs.Tables.{te, inverse, td, entry_byte, column_byte, IsColumn, column_word, sub_column}
use Rattle.aes_tables.proofs.Laws.Entries.{te_entry, inverse_entry, td_entry}

pub rotr8_bytes : (w : ℕ) → w < 2 ^ 32 → HasBytes (w % 256 * 0x1000000 + w / 256) (byte_of w 3) (byte_of w 0) (byte_of w 1) (byte_of w 2)
rotr8_bytes w h =
    let e : w % 256 * 0x1000000 + w / 256 ≡ word (byte_of w 3) (byte_of w 0) (byte_of w 1) (byte_of w 2) =
    omega (arith, shr-shr w 8 8, shr-shr w 16 8) in
    rw e (bytes_word (byte_of-lt w 3) (byte_of-lt w 0) (byte_of-lt w 1) (byte_of-lt w 2))

-- the bytes of a word that is turned
bytes_turned : {w v a₀ a₁ a₂ a₃ : ℕ} → HasBytes w a₀ a₁ a₂ a₃ → HasBytes v (byte_of w 3) (byte_of w 0) (byte_of w 1) (byte_of w 2)
    → HasBytes v a₃ a₀ a₁ a₂
bytes_turned p q = bytes_is q p.at3 p.at0 p.at1 p.at2

xor-sum4 : (a b c d : ℕ) → bit_xor a (bit_xor b (bit_xor c d)) ≡ sum4 a b c d
xor-sum4 a b c d = sym (xor_assoc a b (bit_xor c d)) ∙ sym (xor_assoc (bit_xor a b) c d)

-- u, v and w are turned one after the other
pub column_is : (e f g h k u v w : ℕ) → HasBytes u (byte_of h 3) (byte_of h 0) (byte_of h 1) (byte_of h 2)
    → HasBytes v (byte_of (bit_xor g u) 3) (byte_of (bit_xor g u) 0) (byte_of (bit_xor g u) 1) (byte_of (bit_xor g u) 2)
    → HasBytes w (byte_of (bit_xor f v) 3) (byte_of (bit_xor f v) 0) (byte_of (bit_xor f v) 1) (byte_of (bit_xor f v) 2)
    → HasBytes (bit_xor (bit_xor e w) k)
    (bit_xor (sum4 (byte_of e 0) (byte_of f 3) (byte_of g 2) (byte_of h 1)) (byte_of k 0))
    (bit_xor (sum4 (byte_of e 1) (byte_of f 0) (byte_of g 3) (byte_of h 2)) (byte_of k 1))
    (bit_xor (sum4 (byte_of e 2) (byte_of f 1) (byte_of g 0) (byte_of h 3)) (byte_of k 2))
    (bit_xor (sum4 (byte_of e 3) (byte_of f 2) (byte_of g 1) (byte_of h 0)) (byte_of k 3))
column_is e f g h k u v w p q r =
    let third = bytes_xor (bytes_own g) p in
    let second = bytes_xor (bytes_own f) (bytes_turned third q) in
    let first = bytes_xor (bytes_own e) (bytes_turned second r) in
    bytes_xor
    (bytes_is first
    (xor-sum4 (byte_of e 0) (byte_of f 3) (byte_of g 2) (byte_of h 1))
    (xor-sum4 (byte_of e 1) (byte_of f 0) (byte_of g 3) (byte_of h 2))
    (xor-sum4 (byte_of e 2) (byte_of f 1) (byte_of g 0) (byte_of h 3))
    (xor-sum4 (byte_of e 3) (byte_of f 2) (byte_of g 1) (byte_of h 0)))
    (bytes_own k)

-- a word is its bytes
word_is : {w a b c d : ℕ} → w < 2 ^ 32 → HasBytes w a b c d → w ≡ word a b c d
word_is {w} h p = sym (word_bytes w h) ∙ rw (p.at0, p.at1, p.at2, p.at3)

pub column_word_is : (t : List ℕ) (z r : ℕ) → r < 2 ^ 32 → IsColumn t z z z z 0 r → r ≡ column_word t z
unfolding column_word
column_word_is t z r h p = word_is h (bytes_is p (xor_zero_r _) (xor_zero_r _) (xor_zero_r _) (xor_zero_r _))

-- SubBytes() and MixColumns(), by the entries of te
pub column_byte-te : {t : List ℕ} → t ≡ te → (r x₀ x₁ x₂ x₃ : ℕ) → x₀ < 256 → x₁ < 256 → x₂ < 256 → x₃ < 256
    → column_byte t r x₀ x₁ x₂ x₃ ≡ mix_byte r (sbox x₀) (sbox x₁) (sbox x₂) (sbox x₃)
column_byte-te e zero x₀ x₁ x₂ x₃ h₀ h₁ h₂ h₃ =
    sum4_ap (te_entry e x₀ h₀).at0 (te_entry e x₁ h₁).at3 (te_entry e x₂ h₂).at2 (te_entry e x₃ h₃).at1
column_byte-te e (suc zero) x₀ x₁ x₂ x₃ h₀ h₁ h₂ h₃ =
    sum4_ap (te_entry e x₀ h₀).at1 (te_entry e x₁ h₁).at0 (te_entry e x₂ h₂).at3 (te_entry e x₃ h₃).at2
column_byte-te e (suc (suc zero)) x₀ x₁ x₂ x₃ h₀ h₁ h₂ h₃ =
    sum4_ap (te_entry e x₀ h₀).at2 (te_entry e x₁ h₁).at1 (te_entry e x₂ h₂).at0 (te_entry e x₃ h₃).at3
column_byte-te e (suc (suc (suc r))) x₀ x₁ x₂ x₃ h₀ h₁ h₂ h₃ =
    sum4_ap (te_entry e x₀ h₀).at3 (te_entry e x₁ h₁).at2 (te_entry e x₂ h₂).at1 (te_entry e x₃ h₃).at0

-- InvSubBytes() and InvMixColumns(), by the entries of td
pub column_byte-td : {t : List ℕ} → t ≡ td → (r x₀ x₁ x₂ x₃ : ℕ) → x₀ < 256 → x₁ < 256 → x₂ < 256 → x₃ < 256
    → column_byte t r x₀ x₁ x₂ x₃ ≡ inv_mix_byte r (inv_sbox x₀) (inv_sbox x₁) (inv_sbox x₂) (inv_sbox x₃)
column_byte-td e zero x₀ x₁ x₂ x₃ h₀ h₁ h₂ h₃ =
    sum4_ap (td_entry e x₀ h₀).at0 (td_entry e x₁ h₁).at3 (td_entry e x₂ h₂).at2 (td_entry e x₃ h₃).at1
column_byte-td e (suc zero) x₀ x₁ x₂ x₃ h₀ h₁ h₂ h₃ =
    sum4_ap (td_entry e x₀ h₀).at1 (td_entry e x₁ h₁).at0 (td_entry e x₂ h₂).at3 (td_entry e x₃ h₃).at2
column_byte-td e (suc (suc zero)) x₀ x₁ x₂ x₃ h₀ h₁ h₂ h₃ =
    sum4_ap (td_entry e x₀ h₀).at2 (td_entry e x₁ h₁).at1 (td_entry e x₂ h₂).at0 (td_entry e x₃ h₃).at3
column_byte-td e (suc (suc (suc r))) x₀ x₁ x₂ x₃ h₀ h₁ h₂ h₃ =
    sum4_ap (td_entry e x₀ h₀).at3 (td_entry e x₁ h₁).at2 (td_entry e x₂ h₂).at1 (td_entry e x₃ h₃).at0

-- byte 1 of an entry of te is the S-box
pub te-sbox : {t : List ℕ} → t ≡ te → (x : ℕ) → x < 256 → entry_byte t x 1 ≡ sbox x
te-sbox e x h = (te_entry e x h).at1

pub sub_column_bytes : (t : List ℕ) (a b c d : ℕ)
    → HasBytes (sub_column t a b c d) (entry_byte t (byte_of a 0) 1) (entry_byte t (byte_of b 1) 1)
    (entry_byte t (byte_of c 2) 1) (entry_byte t (byte_of d 3) 1)
unfolding sub_column
sub_column_bytes t a b c d =
    bytes_word (byte_of-lt (get_or t (byte_of a 0) 0) 1) (byte_of-lt (get_or t (byte_of b 1) 0) 1)
    (byte_of-lt (get_or t (byte_of c 2) 0) 1) (byte_of-lt (get_or t (byte_of d 3) 0) 1)

-- the word of four entries has them for its bytes
pub entries_inverse : {t : List ℕ} → t ≡ inverse → (x₀ x₁ x₂ x₃ : ℕ) → x₀ < 256 → x₁ < 256 → x₂ < 256 → x₃ < 256
    → HasBytes (word (get_or t x₀ 0) (get_or t x₁ 0) (get_or t x₂ 0) (get_or t x₃ 0)) (inv_sbox x₀) (inv_sbox x₁)
    (inv_sbox x₂) (inv_sbox x₃)
entries_inverse e x₀ x₁ x₂ x₃ h₀ h₁ h₂ h₃ =
    rw (inverse_entry e x₀ h₀, inverse_entry e x₁ h₁, inverse_entry e x₂ h₂, inverse_entry e x₃ h₃)
    (bytes_word (inv_sbox-lt x₀ h₀) (inv_sbox-lt x₁ h₁) (inv_sbox-lt x₂ h₂) (inv_sbox-lt x₃ h₃))

pub sub_word_is : {t : List ℕ} → t ≡ te → (w : ℕ) → sub_column t w w w w ≡ sub_word w
unfolding sub_column sub_word
sub_word_is e w =
    rw (
      te-sbox e (byte_of w 0) (byte_of-lt w 0),
      te-sbox e (byte_of w 1) (byte_of-lt w 1),
      te-sbox e (byte_of w 2) (byte_of-lt w 2),
      te-sbox e (byte_of w 3) (byte_of-lt w 3),
    )

undone : (z w r : ℕ) → byte_of z r ≡ sbox (byte_of w r) → inv_sbox (byte_of z r) ≡ byte_of w r
undone z w r e = ap inv_sbox e ∙ inv_sbox-sbox (byte_of w r) (byte_of-lt w r)

-- a byte of a word's column
column_byte_of : {t : List ℕ} → t ≡ td → (z r : ℕ)
    → column_byte t r (byte_of z 0) (byte_of z 1) (byte_of z 2) (byte_of z 3)
    ≡ inv_mix_byte r (inv_sbox (byte_of z 0)) (inv_sbox (byte_of z 1)) (inv_sbox (byte_of z 2)) (inv_sbox (byte_of z 3))
column_byte_of e z r =
    column_byte-td e r (byte_of z 0) (byte_of z 1) (byte_of z 2) (byte_of z 3) (byte_of-lt z 0) (byte_of-lt z 1)
    (byte_of-lt z 2) (byte_of-lt z 3)

-- the table td at the S-box's values has the products of the bytes themselves
pub inv_mix_word_is : {t : List ℕ} → t ≡ td → (w z : ℕ) → z ≡ sub_word w → column_word t z ≡ inv_mix_word w
unfolding sub_word column_word inv_mix_word
inv_mix_word_is e' w z e =
    let S =
    bytes_word (sbox-lt (byte_of w 0) (byte_of-lt w 0)) (sbox-lt (byte_of w 1) (byte_of-lt w 1)) (sbox-lt (byte_of w 2) (byte_of-lt w 2))
    (sbox-lt (byte_of w 3) (byte_of-lt w 3)) in
    let b₀ : inv_sbox (byte_of z 0) ≡ byte_of w 0 = undone z w 0 (ap (λ (x : ℕ). byte_of x 0) e ∙ S.at0) in
    let b₁ : inv_sbox (byte_of z 1) ≡ byte_of w 1 = undone z w 1 (ap (λ (x : ℕ). byte_of x 1) e ∙ S.at1) in
    let b₂ : inv_sbox (byte_of z 2) ≡ byte_of w 2 = undone z w 2 (ap (λ (x : ℕ). byte_of x 2) e ∙ S.at2) in
    let b₃ : inv_sbox (byte_of z 3) ≡ byte_of w 3 = undone z w 3 (ap (λ (x : ℕ). byte_of x 3) e ∙ S.at3) in
    let q = column_byte_of e' z in
    rw (q 0, q 1, q 2, q 3, b₀, b₁, b₂, b₃)
