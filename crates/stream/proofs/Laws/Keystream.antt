-- The bytes of a key stream.
--
-- In order:
--   length-keystream, keystream-add    how many, and cut in two
--   get_or-keystream                   one of them
--   keystream-block                    those within one block
-- Not here: the stream applied to bytes (Apply).
-- Assumes nothing.
use mathlib.Core.Path.{◌≡◌, refl, sym, ap, ◌∙◌}
use mathlib.Core.List.{List, ◌∷◌, ◌++◌}
use Prim.Native.Nat.{ℕ, zero, suc, ◌+◌, ◌/◌, ◌%◌, ◌≤◌, ◌<◌}
use native.Mathlib.Nat.{add-zero, zero-add, suc-add}
use native.Mathlib.Omega.{arith}
use lib.ListN.{length, get_or, take, drop, length-drop}
use lib.Seq.{ext_get_or, get_or-take, get_or-drop, length-take-le}
use Rattle.stream.specs.Stream.{byte_at, keystream}

pub length-keystream : (f : ℕ → List ℕ) (p n : ℕ) → length (keystream f p n) ≡ n
unfolding keystream
length-keystream f p zero = refl
length-keystream f p (suc n) = ap suc (length-keystream f (p + 1) n)

pub keystream-add : (f : ℕ → List ℕ) (p m n : ℕ) → keystream f p (m + n) ≡ keystream f p m ++ keystream f (p + m) n
unfolding keystream
keystream-add f p zero n = rw (zero-add, add-zero)
keystream-add f p (suc m) n =
    let e : p + suc m ≡ p + 1 + m = omega arith in
    rw (suc-add, e) (ap (λ (l : List ℕ). byte_at f p ∷ l) (keystream-add f (p + 1) m n))

pub get_or-keystream : (f : ℕ → List ℕ) (p n i : ℕ) → i < n → get_or (keystream f p n) i 0 ≡ byte_at f (p + i)
unfolding keystream
get_or-keystream f p zero i h = absurd (omega arith)
get_or-keystream f p (suc n) zero h = rw add-zero
get_or-keystream f p (suc n) (suc i) h =
    let k : i < n = omega arith in
    let e : p + suc i ≡ p + 1 + i = omega arith in
    rw e (get_or-keystream f (p + 1) n i k)

-- a byte of the block that covers a position
byte_at-block : (f : ℕ → List ℕ) (p i : ℕ) → p % 64 + i < 64 → byte_at f (p + i) ≡ get_or (f (p / 64)) (p % 64 + i) 0
unfolding byte_at
byte_at-block f p i h =
    let d : (p + i) / 64 ≡ p / 64 = omega arith in
    let m : (p + i) % 64 ≡ p % 64 + i = omega arith in
    rw (d, m)

-- no further than the block that covers the position reaches, the stream is that block
pub keystream-block : (f : ℕ → List ℕ) (p n : ℕ) → length (f (p / 64)) ≡ 64 → p % 64 + n ≤ 64
    → keystream f p n ≡ take n (drop (p % 64) (f (p / 64)))
keystream-block f p n l h =
    let b : List ℕ = drop (p % 64) (f (p / 64)) in
    let k : n ≤ length b = simp length-drop (omega arith) in
    let m : length (take n b) ≡ n = length-take-le n b k in
    ext_get_or 0 (keystream f p n) (take n b) (length-keystream f p n ∙ sym m)
    (λ i j.
    let g : length (keystream f p n) ≡ n = length-keystream f p n in
    let u : i < n = omega arith in
    let t : get_or (take n b) i 0 ≡ get_or (f (p / 64)) (p % 64 + i) 0 =
    get_or-take n b i 0 u ∙ get_or-drop (p % 64) (f (p / 64)) i 0 in
    get_or-keystream f p n i u ∙ byte_at-block f p i (omega arith) ∙ sym t)
