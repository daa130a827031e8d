-- RFC 9106 (September 2021), Argon2, 3.3: the variable-length hash function H'.
--
--   2     LE32(a)      words' Endian: le_bytes 4
--   3.2   H^(x)(A)     BLAKE2b with x bytes of digest (blake2b's Rfc7693)
--   3.3   H'^T(A)      wholes, value, firsts, longer, long_hash
-- What `fill` makes of a lent slice is here too: filled, fill_outcome.
-- Differs: T is any number, where the RFC has 1 to 2^32 - 1; LE32(T) has its low 32 bits.
-- Assumes nothing.
use Rattle.std.specs.Prelude.{cond, List, [], ◌++◌, ℕ, zero, suc, ◌+◌, ◌-◌, ◌*◌, ◌/◌, leb, length, take, Ok, Err}
use Rattle.words.specs.Endian.{le_bytes}
use Rattle.refusals.specs.declared.Refusal.TheVariants.{TooLong}
use Rattle.refusals.specs.Numbers.{Outcome}
use Rattle.refusals.specs.Limits.{message_limit}
use Rattle.blake2b.specs.Rfc7693.{blake2b}

-- 3.3: "r = ceil(T/32)-2"
abbrev pub wholes : ℕ → ℕ
wholes t = (t + 31) / 32 - 2

-- 3.3: V_(i + 1): "V_1 = H^(64)(LE32(T)||A); V_2 = H^(64)(V_1); .."
unfoldable pub value : ℕ → List ℕ → ℕ → List ℕ
value t a zero = blake2b 64 (le_bytes 4 t ++ a)
value t a (suc i) = blake2b 64 (value t a i)

-- 3.3: W_1 || .. || W_n, W_i being "the first 32 bytes of V_i"
unfoldable pub firsts : ℕ → List ℕ → ℕ → List ℕ
firsts t a zero = []
firsts t a (suc n) = firsts t a n ++ take 32 (value t a n)

-- 3.3: W_1 || .. || W_r || V_(r + 1), where "V_{r+1} = H^(T-32*r)(V_{r})"
unfoldable pub longer : ℕ → List ℕ → List ℕ
longer t a = firsts t a (wholes t) ++ blake2b (t - 32 * wholes t) (value t a (wholes t - 1))

-- 3.3: H'^T(A): "if T <= 64" one hash
unfoldable pub long_hash : ℕ → List ℕ → List ℕ
long_hash t a = cond (leb t 64) (blake2b t (le_bytes 4 t ++ a)) (longer t a)

-- a lent slice d with H' of its length of the message a: as it was where the message is too long for a hash
unfoldable pub filled : List ℕ → List ℕ → List ℕ
filled a d = cond (leb (4 + length a) message_limit) (long_hash (length d) a) d

unfoldable pub fill_outcome : List ℕ → Outcome
fill_outcome a = cond (leb (4 + length a) message_limit) (Ok tt) (Err TooLong)
