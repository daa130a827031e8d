-- A stretch of a slice: its bytes, and where they lie. A slice's place in memory is a block and an offset (denote.Ref),
-- so a stretch that lies elsewhere is another one, though its bytes may be the same.
--
-- In order: behind (so many bytes behind a place), Stretch.
-- Assumes nothing.
use Rattle.std.specs.Prelude.{◌≡◌, List, ℕ, ◌+◌, min, length, take, drop}
use Rattle.std.specs.Borrow.{Bor}

-- so many bytes behind a place, in its block
abbrev pub behind : ℕ → ℕ × ℕ → ℕ × ℕ
behind n p = (p.0, n + p.1)

-- r is the stretch of s from `start` on, `len` bytes or as many as there are; one behind the end lies at the end
pub record Stretch (s : Bor (List ℕ)) (start len : ℕ) (r : Bor (List ℕ)) : Type 0 where
  pub bytes : r.now ≡ take len (drop start s.now)
  pub place : r.ref_ptr ≡ behind (min start (length s.now)) s.ref_ptr
