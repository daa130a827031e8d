-- Worked numbers.
--
-- In order: none (0), item (133, Item 3's place), all (the greatest of 64 bits), item_value (133 read), item_is and
-- none_is (133 and 0 are in decimal), not_zero_in_front and not_empty ("0133" and a text of no character are not).
-- Assumes nothing.
use mathlib.Core.Path.{◌≡◌, refl}
use mathlib.Core.Bool.{true, false}
use mathlib.Core.List.{[], ◌∷◌}
use Rattle.decimal.specs.Decimal.{digit, decimal_in, decimal, is_digit, all_digits, is_decimal, value_from, value}

pub none : decimal 0 ≡ 0x30 ∷ []
unfolding digit decimal_in decimal
none = refl

pub item : decimal 133 ≡ 0x31 ∷ 0x33 ∷ 0x33 ∷ []
unfolding digit decimal_in decimal
item = refl

pub all : decimal 18_446_744_073_709_551_615
    ≡ 0x31 ∷ 0x38 ∷ 0x34 ∷ 0x34 ∷ 0x36 ∷ 0x37 ∷ 0x34 ∷ 0x34 ∷ 0x30 ∷ 0x37
    ∷ 0x33 ∷ 0x37 ∷ 0x30 ∷ 0x39 ∷ 0x35 ∷ 0x35 ∷ 0x31 ∷ 0x36 ∷ 0x31 ∷ 0x35 ∷ []
unfolding digit decimal_in decimal
all = refl

pub item_value : value (0x31 ∷ 0x33 ∷ 0x33 ∷ []) ≡ 133
unfolding value_from value
item_value = refl

pub item_is : is_decimal (0x31 ∷ 0x33 ∷ 0x33 ∷ []) ≡ true
unfolding is_digit all_digits is_decimal
item_is = refl

pub none_is : is_decimal (0x30 ∷ []) ≡ true
unfolding is_digit is_decimal
none_is = refl

pub not_zero_in_front : is_decimal (0x30 ∷ 0x31 ∷ 0x33 ∷ 0x33 ∷ []) ≡ false
unfolding is_digit all_digits is_decimal
not_zero_in_front = refl

pub not_empty : is_decimal [] ≡ false
unfolding is_decimal
not_empty = refl
