-- An answer that is the definition's says what the definition's says: a promise gives both. Assumes nothing.
use Rattle.std.proofs.Common.{◌≡◌, ap}

pub said_too : {A B : Type 0} (said : A → B) {x y : A} → x ≡ y
    → record { value : x ≡ y; result_value : said x ≡ said y }
said_too said e = record { value = e; result_value = ap said e }
