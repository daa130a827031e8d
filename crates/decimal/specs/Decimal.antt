-- A number in decimal, as text of ASCII: document 02, Item 8 ("in decimal") and Item 12 ("no zeros in front").
--
--   digit        the last digit
--   decimal_in    the digits, the last k at most, none in front of the first that counts
--   decimal      .. of a number of 64 bits, which has at most twenty
--   is_digit      a character is a digit
--   all_digits    .. every one of a text is
--   is_decimal    a text is a number in decimal
--   value_from    the number whose digits are those of n and then the text's
--   value        the number that a text stands for
-- Assumes nothing.
use Rattle.std.specs.Prelude.{Bool, true, false, cond, not, ◌&&◌, List, [], ◌∷◌, ◌++◌, ℕ, zero, suc, ◌+◌, ◌-◌, ◌*◌, ◌/◌, ◌%◌, leb, ltb, eqb}

unfoldable pub digit : ℕ → ℕ
digit n = 0x30 + n % 10

unfoldable pub decimal_in : ℕ → ℕ → List ℕ
decimal_in zero n = []
decimal_in (suc k) n = cond (ltb n 10) (digit n ∷ []) (decimal_in k (n / 10) ++ (digit n ∷ []))

unfoldable pub decimal : ℕ → List ℕ
decimal n = decimal_in 20 n

-- 0 to 9
unfoldable pub is_digit : ℕ → Bool
is_digit x = leb 0x30 x && leb x 0x39

unfoldable pub all_digits : List ℕ → Bool
all_digits [] = true
all_digits (x ∷ w) = is_digit x && all_digits w

-- at least one character, digits alone, and no zero in front of another digit
unfoldable pub is_decimal : List ℕ → Bool
is_decimal [] = false
is_decimal (x ∷ []) = is_digit x
is_decimal (x ∷ y ∷ w) = is_digit x && not (eqb x 0x30) && all_digits (y ∷ w)

-- each digit makes those in front of it count ten times as much
unfoldable pub value_from : ℕ → List ℕ → ℕ
value_from n [] = n
value_from n (x ∷ w) = value_from (10 * n + (x - 0x30)) w

unfoldable pub value : List ℕ → ℕ
value w = value_from 0 w
