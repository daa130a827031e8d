-- A key transformation under way as 281 bytes: the mark, the 60 round keys in four bytes each, the left half, the right
-- half, the rounds done and the rounds asked for in four bytes each.
--
-- The mark is 1 of accepted rounds and 3 of refused ones; a byte other than 1 is read as refused.
-- Assumes nothing.
use Rattle.std.specs.Prelude.{◌≡◌, cond, List, [], ◌∷◌, ◌++◌, ℕ, ◌^◌, ◌<◌, eqb, length, get_or, take, drop}
use Rattle.words.specs.Endian.{le, le_bytes}
use Rattle.aes_kdf.specs.declared.Mark.{Mark}
use Rattle.aes_kdf.specs.declared.Mark.TheVariants.{Accepted, Refused}
use Rattle.aes_kdf.specs.declared.Transformation.{Transformation}
use Rattle.states.specs.Words.{word_bytes, words_at, Words}

abbrev pub byte_of : Mark → ℕ
byte_of Accepted = 1
byte_of Refused = 3

abbrev pub mark_of : ℕ → Mark
mark_of b = cond (eqb b 1) Accepted Refused

unfoldable pub packed : Transformation → List ℕ
packed t =
    (byte_of t.mark ∷ []) ++ word_bytes 4 t.keys.words ++ t.left ++ t.right ++ le_bytes 4 t.done
    ++ le_bytes 4 t.rounds

unfoldable pub unpacked : List ℕ → Transformation
unpacked b =
    record {
      mark = mark_of (get_or b 0 0);
      keys = record { words = words_at 4 60 b 1 };
      left = take 16 (drop 241 b);
      right = take 16 (drop 257 b);
      done = le 4 b 273;
      rounds = le 4 b 277;
    }

-- the arrays have their lengths, and the numbers are within their types
pub record Typed (t : Transformation) : Type 0 where
  pub long_keys : length t.keys.words ≡ 60
  pub words_keys : Words 4 t.keys.words
  pub long_left : length t.left ≡ 16
  pub long_right : length t.right ≡ 16
  pub lt_done : t.done < 2 ^ 32
  pub lt_rounds : t.rounds < 2 ^ 32
