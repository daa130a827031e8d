-- The soft limit of the stack in the text of /proc/self/limits, whose line is
--
--   Max stack size            8388608              unlimited            bytes
--
--   begins       whether a text begins with a word
--   behind       what stands behind the first place of a word; nothing where there is none
--   unspaced     .. from the first byte on that is no space
--   decimal      the number that digits continue
--   allows       whether the limit is at least so many bytes
-- A text without the words, or with others than digits or `unlimited` behind them, has the limit 0.
-- Assumes nothing.
use Rattle.std.specs.Prelude.{Bool, cond, ◌&&◌, ◌||◌, List, [], ◌∷◌, ℕ, ◌+◌, ◌-◌, ◌*◌, eqb, leb, length, take, drop}
use Rattle.slices.specs.Same.{same}
use Rattle.explanations.specs.Sentences.{ascii}

abbrev pub begins : List ℕ → List ℕ → Bool
begins w s = same (take (length w) s) w

unfoldable pub behind : List ℕ → List ℕ → List ℕ
behind w [] = []
behind w (x ∷ s) = cond (begins w (x ∷ s)) (drop (length w) (x ∷ s)) (behind w s)

unfoldable pub unspaced : List ℕ → List ℕ
unspaced [] = []
unspaced (x ∷ s) = cond (eqb x 0x20) (unspaced s) (x ∷ s)

-- 0 to 9
abbrev pub is_digit : ℕ → Bool
is_digit x = leb 0x30 x && leb x 0x39

unfoldable pub decimal : ℕ → List ℕ → ℕ
decimal n [] = n
decimal n (x ∷ s) = cond (is_digit x) (decimal (n * 10 + (x - 0x30)) s) n

-- the text from the soft limit on
abbrev pub limit : List ℕ → List ℕ
limit s = unspaced (behind (ascii "Max stack size") s)

unfoldable pub allows : ℕ → List ℕ → Bool
allows n s = begins (ascii "unlimited") (limit s) || leb n (decimal 0 (limit s))
