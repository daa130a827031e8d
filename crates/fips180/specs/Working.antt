-- How the working variables stand for the standard's list of eight words. Assumes nothing.
use Rattle.std.specs.Prelude.{List, [], ◌∷◌, ℕ}
use Rattle.fips180.specs.declared.rounds.Working.{Working}

-- the eight working variables as the standard lists them, each by its number
abbrev pub words : {W : Type 0} → (W → ℕ) → Working W → List ℕ
words n s = n s.a ∷ n s.b ∷ n s.c ∷ n s.d ∷ n s.e ∷ n s.f ∷ n s.g ∷ n s.h ∷ []
