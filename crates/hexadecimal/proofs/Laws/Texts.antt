-- Digits and bytes of any length.
--
-- In order:
--   every_not                                a text that fails a test at one place fails it
--   length-encode, length-decode
--   get_or_encode_high, get_or_encode_low        a byte's two digits by index
--   get_or-decode                              two digits' byte by index
--   all_upper-encode, all_digits-encode        what is written is digits, in upper case
--   decode-encode                            decoding undoes encoding, of any bytes
--   encode-decode                            encoding undoes decoding, of any even number of upper-case digits
--   decode-upper_case, all_digits-upper_case    both cases of a digit are read alike
-- Not here: one digit (Digits).
-- Assumes nothing.
use mathlib.Core.Path.{◌≡◌, refl, ap₂}
use mathlib.Core.Bool.{Bool, true, false, ◌&&◌, and-false}
use mathlib.Core.List.{List, [], ◌∷◌, flat_map, map}
use Prim.Native.Nat.{ℕ, zero, suc, ◌+◌, ◌*◌, ◌/◌, ◌%◌, ◌<◌}
use native.Mathlib.Omega.{arith}
use lib.ListN.{length, get_or}
use Rattle.words.specs.Endian.{Bytes}
use Rattle.words.proofs.Laws.Cases.{and_true}
use Rattle.hexadecimal.specs.Rfc4648.{digit, is_upper_digit, is_digit, value, upper_case, every, all_digits, all_upper, byte_digits, encode, decode}
use Rattle.hexadecimal.proofs.Laws.Digits.{value-lt, value-digit, is_upper_digit-digit, is_digit_upper, digit_value, value-upper_case, is_digit-upper_case}

pub every_not : (test : ℕ → Bool) (t : List ℕ) (i : ℕ) → i < length t → test (get_or t i 0) ≡ false → every test t ≡ false
unfolding every
every_not test [] i h e = absurd (omega arith)
every_not test (c ∷ t) zero h e = rw e
every_not test (c ∷ t) (suc i) h e = rw (every_not test t i (omega arith) e, and-false)

pub length-encode : (s : List ℕ) → length (encode s) ≡ 2 * length s
unfolding encode flat_map byte_digits
length-encode [] = refl
length-encode (b ∷ s) = let e = length-encode s in omega arith

pub length-decode : (t : List ℕ) → length (decode t) ≡ length t / 2
unfolding decode
length-decode [] = refl
length-decode (h ∷ []) = refl
length-decode (h ∷ l ∷ t) = let e = length-decode t in omega arith

pub get_or_encode_high : (s : List ℕ) (i : ℕ) → i < length s → get_or (encode s) (2 * i) 0 ≡ digit (get_or s i 0 / 16)
unfolding encode flat_map byte_digits
get_or_encode_high [] i h = absurd (omega arith)
get_or_encode_high (b ∷ s) zero h = refl
get_or_encode_high (b ∷ s) (suc i) h =
    let e : 2 * suc i ≡ suc (suc (2 * i)) = omega arith in
    rw e (get_or_encode_high s i (omega arith))

pub get_or_encode_low : (s : List ℕ) (i : ℕ) → i < length s → get_or (encode s) (2 * i + 1) 0 ≡ digit (get_or s i 0 % 16)
unfolding encode flat_map byte_digits
get_or_encode_low [] i h = absurd (omega arith)
get_or_encode_low (b ∷ s) zero h = refl
get_or_encode_low (b ∷ s) (suc i) h =
    let e : 2 * suc i + 1 ≡ suc (suc (2 * i + 1)) = omega arith in
    rw e (get_or_encode_low s i (omega arith))

pub get_or-decode : (t : List ℕ) (i : ℕ) → i < length t / 2
    → get_or (decode t) i 0 ≡ 16 * value (get_or t (2 * i) 0) + value (get_or t (2 * i + 1) 0)
unfolding decode
get_or-decode [] i k = absurd (omega arith)
get_or-decode (h ∷ []) i k = absurd (omega arith)
get_or-decode (h ∷ l ∷ t) zero k = refl
get_or-decode (h ∷ l ∷ t) (suc i) k =
    let e : 2 * suc i ≡ suc (suc (2 * i)) = omega arith in
    let d : 2 * suc i + 1 ≡ suc (suc (2 * i + 1)) = omega arith in
    rw (d, e) (get_or-decode t i (omega arith))

pub all_upper-encode : (s : List ℕ) → Bytes s → all_upper (encode s) ≡ true
unfolding every encode flat_map byte_digits
all_upper-encode [] p = refl
all_upper-encode (b ∷ s) p =
    let k = p 0 in
    rw (
      is_upper_digit-digit (b / 16) (omega arith),
      is_upper_digit-digit (b % 16) (omega arith),
    ) (all_upper-encode s (λ i. p (suc i)))

every_implies : (p q : ℕ → Bool) → ((c : ℕ) → p c ≡ true → q c ≡ true) → (t : List ℕ) → every p t ≡ true
    → every q t ≡ true
unfolding every
every_implies p q f [] e = refl
every_implies p q f (c ∷ t) e =
    let b = and_true (p c) (every p t) e in
    rw (f c b.0, every_implies p q f t b.1)

pub all_digits-encode : (s : List ℕ) → Bytes s → all_digits (encode s) ≡ true
all_digits-encode s p = every_implies is_upper_digit is_digit is_digit_upper (encode s) (all_upper-encode s p)

pub decode-encode : (s : List ℕ) → Bytes s → decode (encode s) ≡ s
unfolding decode encode flat_map byte_digits
decode-encode [] p = refl
decode-encode (b ∷ s) p =
    let k = p 0 in
    ap₂ ◌∷◌
    (rw (value-digit (b / 16) (omega arith), value-digit (b % 16) (omega arith)) (omega arith))
    (decode-encode s (λ i. p (suc i)))

pub encode-decode : (t : List ℕ) → length t % 2 ≡ 0 → all_upper t ≡ true → encode (decode t) ≡ t
unfolding every decode encode flat_map byte_digits
encode-decode [] e w = refl
encode-decode (h ∷ []) e w = absurd (omega arith)
encode-decode (h ∷ l ∷ t) e w =
    let a = and_true (is_upper_digit h) (is_upper_digit l && every is_upper_digit t) w in
    let b = and_true (is_upper_digit l) (every is_upper_digit t) a.1 in
    let k = value-lt l in
    let q : (16 * value h + value l) / 16 ≡ value h = omega arith in
    let r : (16 * value h + value l) % 16 ≡ value l = omega arith in
    ap₂ ◌∷◌ (rw q (digit_value h a.0))
    (ap₂ ◌∷◌ (rw r (digit_value l b.0)) (encode-decode t (omega arith) b.1))

pub decode-upper_case : (t : List ℕ) → decode (map upper_case t) ≡ decode t
unfolding decode
decode-upper_case [] = refl
decode-upper_case (h ∷ []) = refl
decode-upper_case (h ∷ l ∷ t) = rw (value-upper_case h, value-upper_case l, decode-upper_case t)

pub all_digits-upper_case : (t : List ℕ) → all_digits (map upper_case t) ≡ all_digits t
unfolding every
all_digits-upper_case [] = refl
all_digits-upper_case (c ∷ t) = rw (is_digit-upper_case c, all_digits-upper_case t)
