-- A list of stretches, each applied to the state that the one before it left: document 02, Item 1, "The state carries
-- over from one password to the next".
--
--   Stretch    its bytes, and how many are lent for it
--   after      the state behind them
--   handed     what they hand over, joined
--   taken      the bytes of those that are accepted, joined
--   joined     the bytes of all
--   Accepted   none of them is refused
-- Assumes nothing.
use Rattle.std.specs.Prelude.{◌≡◌, List, [], ◌∷◌, ◌++◌, ℕ, ◌≤◌, length, Ok}
use Rattle.inner_stream.specs.InnerStream.{due}
use Rattle.inner_stream.specs.State as state
use Rattle.inner_stream.specs.declared.InnerStream.{InnerStream}

pub record Stretch : Type 0 where
  pub bytes : List ℕ
  pub room : ℕ

-- the state behind one
abbrev pub next : InnerStream → Stretch → InnerStream
next s x = (state.applied s x.bytes x.room).next

unfoldable pub after : InnerStream → List Stretch → InnerStream
after s [] = s
after s (x ∷ xs) = after (next s x) xs

unfoldable pub handed : InnerStream → List Stretch → List ℕ
handed s [] = []
handed s (x ∷ xs) = state.handed s x.bytes x.room ++ handed (next s x) xs

unfoldable pub taken : InnerStream → List Stretch → List ℕ
taken s [] = []
taken s (x ∷ xs) = due (state.applied s x.bytes x.room).written x.bytes ++ taken (next s x) xs

unfoldable pub joined : List Stretch → List ℕ
joined [] = []
joined (x ∷ xs) = x.bytes ++ joined xs

unfoldable pub Accepted : InnerStream → List Stretch → Type 0
Accepted s [] = 0 ≤ 0
Accepted s (x ∷ xs) = ((state.applied s x.bytes x.room).written ≡ Ok (length x.bytes)) × Accepted (next s x) xs
