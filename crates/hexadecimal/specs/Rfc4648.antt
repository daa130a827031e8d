-- RFC 4648 (October 2006), section 8, "Base 16 Encoding": bytes as hexadecimal digits, and digits as bytes.
--
--   Table 5, "The Base 16 Alphabet"               digit, is_digit, value
--   two digits a byte, the upper four bits first  byte_digits, encode, decode
-- It is "the standard case-insensitive hex encoding": what is written is in upper case, and digits of both cases are
-- read. Characters are their codes in ASCII.
-- Left out: the other bases.
-- Differs: decoding is total. A character that is no digit counts as 0, and a last one that has no other beside it is
-- left out; whether all are digits is `all_digits`.
-- Assumes nothing.
use Rattle.std.specs.Prelude.{Bool, true, cond, ◌&&◌, ◌||◌, ℕ, ◌+◌, ◌-◌, ◌*◌, ◌/◌, ◌%◌, leb, ltb}
use mathlib.Core.List.{List, [], ◌∷◌, flat_map}

-- the digit of a value below 16
unfoldable pub digit : ℕ → ℕ
digit n = cond (ltb n 10) (0x30 + n) (0x41 + (n - 10))

-- between two characters, both included
abbrev pub between : ℕ → ℕ → ℕ → Bool
between first last c = leb first c && leb c last

-- 0 to 9, A to F, a to f
abbrev pub is_decimal : ℕ → Bool
is_decimal c = between 0x30 0x39 c

abbrev pub is_upper_letter : ℕ → Bool
is_upper_letter c = between 0x41 0x46 c

abbrev pub is_lower_letter : ℕ → Bool
is_lower_letter c = between 0x61 0x66 c

-- a digit as it is written, in upper case
unfoldable pub is_upper_digit : ℕ → Bool
is_upper_digit c = is_decimal c || is_upper_letter c

-- a digit in either case
unfoldable pub is_digit : ℕ → Bool
is_digit c = is_decimal c || is_upper_letter c || is_lower_letter c

-- the value of a digit, and 0 of any other character
unfoldable pub value : ℕ → ℕ
value c =
    cond (is_decimal c) (c - 0x30)
    (cond (is_upper_letter c) (c - 0x41 + 10)
    (cond (is_lower_letter c) (c - 0x61 + 10)
    0))

-- a letter of a digit in upper case, any other character as it is
unfoldable pub upper_case : ℕ → ℕ
upper_case c = cond (is_lower_letter c) (c - 0x20) c

-- every character passes a test
unfoldable pub every : (ℕ → Bool) → List ℕ → Bool
every test [] = true
every test (c ∷ t) = test c && every test t

abbrev pub all_digits : List ℕ → Bool
all_digits t = every is_digit t

abbrev pub all_upper : List ℕ → Bool
all_upper t = every is_upper_digit t

unfoldable pub byte_digits : ℕ → List ℕ
byte_digits b = digit (b / 16) ∷ digit (b % 16) ∷ []

unfoldable pub encode : List ℕ → List ℕ
encode s = flat_map byte_digits s

unfoldable pub decode : List ℕ → List ℕ
decode [] = []
decode (h ∷ []) = []
decode (h ∷ l ∷ t) = (16 * value h + value l) ∷ decode t
