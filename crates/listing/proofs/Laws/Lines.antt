-- Lines of hexadecimal.
--
-- In order:
--   length-hex_line, length-hex_lines    how long
--   hex_line_ends                       the line feed behind the digits of a frame
-- Not here: the digits (crate hexadecimal, Laws.Texts).
-- Assumes nothing.
use mathlib.Core.Path.{◌≡◌, refl, sym, ap, ap₂, ◌∙◌}
use mathlib.Core.List.{List, [], ◌∷◌, flat_map, flatten}
use Prim.Native.Nat.{ℕ, ◌+◌, ◌*◌, ◌/◌, ◌<◌}
use native.Mathlib.Omega.{arith}
use lib.ListN.{length, set, take, length-append}
use lib.Seq.{take_all, take_at, get_or_at}
use Rattle.slices.specs.Over.{over}
use Rattle.slices.proofs.Laws.Over.{over_more}
use Rattle.hexadecimal.specs.Rfc4648.{encode}
use Rattle.hexadecimal.proofs.Laws.Texts.{length-encode}
use Rattle.listing.specs.Listing.{hex_line, hex_lines}

pub length-hex_line : (f : List ℕ) → length (hex_line f) ≡ 2 * length f + 1
unfolding hex_line
length-hex_line f = simp (length-append, length-encode)

pub length-hex_lines : (fs : List (List ℕ)) → length (hex_lines fs) ≡ 2 * length (flatten fs) + length fs
unfolding hex_lines flat_map flatten
length-hex_lines [] = refl
length-hex_lines (f ∷ fs) =
    let e = length-hex_lines fs in
    let l = length-hex_line f in
    let a = length-append (hex_line f) (hex_lines fs) in
    let b = length-append f (flatten fs) in
    omega arith

-- the digits of a frame stand over the front of d, as far as there is room; and the line feed behind them
pub hex_line_ends : (f d x : List ℕ) → 2 * length f < length d → x ≡ over (encode (take (length d / 2) f)) d
    → set x (2 * length f) 0x0A ≡ over (hex_line f) d
unfolding hex_line
hex_line_ends f d x room e =
    let l = length-encode f in
    let n = length-hex_line f in
    let w = take_all (length d / 2) f (omega arith) in
    let t = take_at (encode f) (0x0A ∷ []) (2 * length f) l in
    let g = get_or_at (encode f) 0x0A [] 0 (2 * length f) l in
    ap₂ (λ (y : List ℕ) (b : ℕ). set y (2 * length f) b)
    (e ∙ ap (λ (y : List ℕ). over (encode y) d) w ∙ ap (λ (y : List ℕ). over y d) (sym t)) (sym g)
    ∙ over_more (hex_line f) d (2 * length f) (omega arith) room
    ∙ ap (λ (y : List ℕ). over y d) (take_all (2 * length f + 1) (hex_line f) (omega arith))
