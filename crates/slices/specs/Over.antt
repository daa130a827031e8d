-- What stands in a lent slice after a writing. Assumes nothing.
use Rattle.std.specs.Prelude.{List, ◌++◌, ℕ, length, take, drop}

-- d with w written over its front
unfoldable pub over : List ℕ → List ℕ → List ℕ
over w d = w ++ drop (length w) d

-- .. as much of it as there is room for
abbrev pub laid : List ℕ → List ℕ → List ℕ
laid w d = over (take (length d) w) d

-- d with w laid from the place `at` on
unfoldable pub put_at : ℕ → List ℕ → List ℕ → List ℕ
put_at at w d = take at d ++ laid w (drop at d)
