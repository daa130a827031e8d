-- How figures and positions passed by value stand for RFC 9106's, and what the functions inside ask of them.
--
--   figures, position    the structs as the definitions' records
--   Fits                 lanes and segments that a filling takes
--   Placed, Open         a place in the memory, and one whose block is not a given one
--   Begun                a segment from a position on
--   Room                 the memory has every block
--   Addressed            the addresses lent are those of the position, where they are looked at
--   filled               what a filling leaves: figures that do not fit, or too little memory, leave it as it was
-- Assumes nothing.
use Rattle.std.specs.Prelude.{◌≡◌, Bool, true, cond, ◌&&◌, List, ℕ, ◌+◌, ◌*◌, ◌≤◌, ◌<◌, eqb, ltb, leb, length}
use Rattle.argon2_fill.specs.Rfc9106 as rfc9106
use Rattle.argon2_fill.specs.declared.Figures.{Figures}
use Rattle.argon2_fill.specs.declared.Position.{Position}

abbrev pub figures : Figures → rfc9106.Figures
figures f = record { lanes = f.lanes; segment = f.segment; passes = f.passes; kind = f.kind }

abbrev pub position : Position → rfc9106.Position
position p = record { pass = p.pass; slice = p.slice; lane = p.lane; index = p.index }

pub record Fits (f : rfc9106.Figures) : Type 0 where
  pub some : 1 ≤ f.lanes
  pub few : f.lanes ≤ 16
  pub long : 2 ≤ f.segment
  pub short : f.segment ≤ 16384

pub record Placed (f : rfc9106.Figures) (p : rfc9106.Position) : Type 0 where
  pub fits : Fits f
  pub slice : p.slice < 4
  pub lane : p.lane < f.lanes
  pub index : p.index < f.segment

-- the first two blocks of the first segment are given
pub record Open (f : rfc9106.Figures) (p : rfc9106.Position) : Type 0 where
  pub placed : Placed f p
  pub free : 2 ≤ p.index + 2 * (p.pass + p.slice)

-- a segment from a position on, which may be its end
pub record Begun (f : rfc9106.Figures) (p : rfc9106.Position) : Type 0 where
  pub fits : Fits f
  pub slice : p.slice < 4
  pub lane : p.lane < f.lanes
  pub index : p.index ≤ f.segment
  pub free : 2 ≤ p.index + 2 * (p.pass + p.slice)

abbrev pub Room : rfc9106.Figures → List ℕ → Type 0
Room f m = rfc9106.blocks f * 128 ≤ length m

-- where Argon2id looks at addresses
abbrev pub looks : rfc9106.Figures → rfc9106.Position → Bool
looks f p = eqb f.kind 2 && (eqb p.pass 0 && ltb p.slice 2)

abbrev pub Addressed : rfc9106.Figures → rfc9106.Position → List ℕ → Type 0
Addressed f p a = looks f p ≡ true → a ≡ rfc9106.addresses f p (rfc9106.counter_of p)

-- figures that a filling takes, in so many words of memory
abbrev pub accepts : rfc9106.Figures → ℕ → Bool
accepts f n =
    ltb 0 f.lanes && (leb f.lanes 16
    && (leb 2 f.segment && (leb f.segment 16384 && leb (rfc9106.blocks f * 128) n)))

unfoldable pub filled : rfc9106.Figures → List ℕ → List ℕ
filled f m = cond (accepts f (length m)) (rfc9106.fill (rfc9106.chooser f) f m) m
