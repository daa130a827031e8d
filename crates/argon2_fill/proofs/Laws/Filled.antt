-- What a filling leaves.
--
-- In order:
--   accepts-fits, accepts_room       accepted figures fit, and the memory has every block
--   filled_is, filled-not            all blocks filled, or all as it was
--   length-filled                    as long as it was
--   filled_argon2d, filled-argon2id  the filling of each type, by its own chooser
-- Assumes nothing.
use mathlib.Core.Path.{◌≡◌, ap, ◌∙◌}
use mathlib.Core.Bool.{Bool, true, false, ◌&&◌}
use mathlib.Core.List.{List}
use Prim.Native.Nat.{ℕ, ◌*◌, ◌≤◌}
use lib.Dec.{ltb, leb}
use lib.ListN.{length}
use borrow.Author.Tests.{ltb-true, leb-true}
use Rattle.words.proofs.Laws.Cases.{by_bool, and_true}
use Rattle.argon2_fill.specs.Rfc9106.{Figures, blocks, fill, dependent, argon2id, chooser}
use Rattle.argon2_fill.specs.State.{Fits, accepts, filled}
use Rattle.argon2_fill.proofs.Laws.Chooser.{chooser_argon2d, chooser-argon2id}
use Rattle.argon2_fill.proofs.Laws.Segments.{length-passes}

module _ (f : Figures) (n : ℕ) (t : accepts f n ≡ true) where
  abbrev c₁ : Bool
  c₁ = leb (blocks f * 128) n

  abbrev c₂ : Bool
  c₂ = leb f.segment 16384 && c₁

  abbrev c₃ : Bool
  c₃ = leb 2 f.segment && c₂

  abbrev c₄ : Bool
  c₄ = leb f.lanes 16 && c₃

  t₄ : c₄ ≡ true
  t₄ = (and_true (ltb 0 f.lanes) c₄ t).1

  t₃ : c₃ ≡ true
  t₃ = (and_true (leb f.lanes 16) c₃ t₄).1

  t₂ : c₂ ≡ true
  t₂ = (and_true (leb 2 f.segment) c₂ t₃).1

  pub accepts-fits : Fits f
  accepts-fits =
      record {
        some = ltb-true 0 f.lanes (and_true (ltb 0 f.lanes) c₄ t).0;
        few = leb-true f.lanes 16 (and_true (leb f.lanes 16) c₃ t₄).0;
        long = leb-true 2 f.segment (and_true (leb 2 f.segment) c₂ t₃).0;
        short = leb-true f.segment 16384 (and_true (leb f.segment 16384) c₁ t₂).0;
      }

  pub accepts_room : blocks f * 128 ≤ n
  accepts_room = leb-true (blocks f * 128) n (and_true (leb f.segment 16384) c₁ t₂).1

pub filled_is : (f : Figures) (m : List ℕ) → accepts f (length m) ≡ true → filled f m ≡ fill (chooser f) f m
unfolding filled
filled_is f m t = rw t

pub filled-not : (f : Figures) (m : List ℕ) → accepts f (length m) ≡ false → filled f m ≡ m
unfolding filled
filled-not f m t = rw t

pub length-filled : (f : Figures) (m : List ℕ) → length (filled f m) ≡ length m
unfolding fill
length-filled f m =
    by_bool (accepts f (length m))
    (λ t. ap length (filled_is f m t) ∙ length-passes (chooser f) f f.passes m)
    (λ t. ap length (filled-not f m t))

pub filled_argon2d : (f : Figures) (m : List ℕ) → accepts f (length m) ≡ true → f.kind ≡ 0
    → filled f m ≡ fill (dependent f) f m
filled_argon2d f m t e = filled_is f m t ∙ ap (λ (c : _). fill c f m) (chooser_argon2d f e)

pub filled-argon2id : (f : Figures) (m : List ℕ) → accepts f (length m) ≡ true → f.kind ≡ 2
    → filled f m ≡ fill (argon2id f) f m
filled-argon2id f m t e = filled_is f m t ∙ ap (λ (c : _). fill c f m) (chooser-argon2id f e)
