-- RFC 5652 (September 2009), Cryptographic Message Syntax: 6.3, the padding of PKCS #7, for k = 16.
--
--   6.3  "k-(lth mod k) octets all having value k-(lth mod k)"     padding_length, padding_string, pad
--   6.3  "can be removed unambiguously since all input is padded"  Padded, padding, strip
-- A byte is a number below 256.
-- Left out: other block lengths.
-- Differs: the RFC leaves open what is done with bytes that end in no padding; here `padding` is 0 and `strip` none.
-- Assumes nothing.
use Rattle.std.specs.Prelude.{◌≡◌, Bool, true, cond, ◌&&◌, List, [], ◌∷◌, ◌++◌, ℕ, ◌-◌, ◌%◌, ◌≤◌, eqb, ltb, length, get_or, take, drop, replicate}
use Rattle.std.proofs.Math.Option.{Option, none, some}

-- 6.3: k - (lth mod k)
abbrev pub padding_length : ℕ → ℕ
padding_length lth = 16 - lth % 16

-- 6.3: so many octets, all having that value
abbrev pub padding_string : ℕ → List ℕ
padding_string lth = replicate (padding_length lth) (padding_length lth)

-- 6.3: an input, padded at the trailing end
unfoldable pub pad : List ℕ → List ℕ
pad m = m ++ padding_string (length m)

-- 6.3: s ends in a padding of p bytes
pub record Padded (s : List ℕ) (p : ℕ) : Type 0 where
  pub low : 1 ≤ p
  pub high : p ≤ 16
  pub fits : p ≤ length s
  pub tail : drop (length s - p) s ≡ replicate p p

-- every element is p
unfoldable pub all_are : ℕ → List ℕ → Bool
all_are p [] = true
all_are p (x ∷ xs) = eqb x p && all_are p xs

-- p where s ends in a padding of p bytes, else 0
unfoldable pub padding_by : ℕ → List ℕ → ℕ
padding_by p s =
    cond (eqb p 0) 0 (cond (ltb 16 p) 0 (cond (ltb (length s) p) 0 (cond (all_are p (drop (length s - p) s)) p 0)))

-- the length of the padding in which s ends, which its last byte tells; 0 where there is none
unfoldable pub padding : List ℕ → ℕ
padding s = padding_by (get_or s (length s - 1) 0) s

-- s with its padding removed; none where there is none
unfoldable pub strip : List ℕ → Option (List ℕ)
strip s = cond (eqb (padding s) 0) none (some (take (length s - padding s) s))
