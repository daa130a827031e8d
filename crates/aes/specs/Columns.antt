-- How the struct Columns stands for a block. Assumes nothing.
use Rattle.std.specs.Prelude.{List, [], ◌∷◌, ℕ, get_or}
use Rattle.fips197.specs.Fips197.{state, byte_of}
use Rattle.aes.specs.declared.block.Columns.{Columns}

-- the state whose columns are four words
abbrev pub state_of : ℕ → ℕ → ℕ → ℕ → List ℕ
state_of a b c d = state (λ r k. byte_of (get_or (a ∷ b ∷ c ∷ d ∷ []) k 0) r)

abbrev pub columns : Columns → List ℕ
columns x = state_of x.a x.b x.c x.d
