-- The word that is looked at is the chooser's of the type.
--
-- In order:
--   chooser-looks, chooser_else     an address where the type looks at addresses, else the word of the block before
--   chooser_argon2d, chooser-argon2id    the chooser of each type
--   addresses_same                  one block of addresses serves 128 positions
-- Assumes nothing.
use mathlib.Core.Path.{◌≡◌, refl, ap, ◌∙◌}
use mathlib.Core.Bool.{Bool, true, false, cond, ◌&&◌}
use mathlib.Core.List.{List}
use Prim.Native.Nat.{ℕ, ◌+◌, ◌/◌}
use lib.Dec.{eqb, ltb}
use Rattle.argon2_fill.specs.Rfc9106.{Figures, Position, at, address_input, addresses, dependent, independent, argon2id, chooser}
use Rattle.argon2_fill.specs.State.{looks, Addressed}

cond_and : (a b : Bool) (x y : ℕ) → cond a (cond b x y) y ≡ cond (a && b) x y
cond_and true b x y = refl
cond_and false b x y = refl

chooser-cond : (f : Figures) (m : List ℕ) (p : Position)
    → chooser f m p ≡ cond (looks f p) (independent f p) (dependent f m p)
chooser-cond f m p = cond_and (eqb f.kind 2) (eqb p.pass 0 && ltb p.slice 2) (independent f p) (dependent f m p)

pub chooser-looks : (f : Figures) (m : List ℕ) (p : Position) → looks f p ≡ true → chooser f m p ≡ independent f p
chooser-looks f m p e =
    chooser-cond f m p ∙ ap (λ (b : Bool). cond b (independent f p) (dependent f m p)) e

pub chooser_else : (f : Figures) (m : List ℕ) (p : Position) → looks f p ≡ false → chooser f m p ≡ dependent f m p
chooser_else f m p e =
    chooser-cond f m p ∙ ap (λ (b : Bool). cond b (independent f p) (dependent f m p)) e

pub chooser_argon2d : (f : Figures) → f.kind ≡ 0 → chooser f ≡ dependent f
chooser_argon2d f e = λ i m p. cond (eqb (e i) 2) (argon2id f m p) (dependent f m p)

pub chooser-argon2id : (f : Figures) → f.kind ≡ 2 → chooser f ≡ argon2id f
chooser-argon2id f e = λ i m p. cond (eqb (e i) 2) (argon2id f m p) (dependent f m p)

pub addresses_same : (f : Figures) (p : Position) (j : ℕ) (a : List ℕ) → p.index / 128 ≡ j / 128 → Addressed f p a
    → Addressed f (at p j) a
unfolding addresses address_input
addresses_same f p j a e h t = h t ∙ ap (λ (n : ℕ). addresses f p (n + 1)) e
