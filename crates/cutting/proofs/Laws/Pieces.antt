-- A list in pieces.
--
-- In order:
--   length-nil                        a list of no length is empty
--   joined-pieces                     pieces of sizes that add up to a list are the list again
--   pieces_some                       of positive sizes none is empty
--   length-pieces                     they are as many as the sizes
--   pieces-lengths, total-lengths, lengths_positive, length-lengths
--                                     any pieces at all are such, by their own sizes
-- Assumes nothing.
use mathlib.Core.Path.{◌≡◌, refl, sym, ap, ap₂, ◌∙◌}
use mathlib.Core.List.{List, [], ◌∷◌, ◌++◌}
use Prim.Native.Nat.{ℕ, suc, ◌+◌, ◌≤◌}
use native.Mathlib.Omega.{arith}
use lib.ListN.{length, take, drop, length-append, length-drop, take-append-drop}
use lib.Seq.{length-take-le, take-append_seam, drop-append_seam}
use Rattle.fips180.specs.Feeds.{joined}
use Rattle.cutting.specs.Cutting.{Positive, total, pieces, lengths, NonEmpty}

pub length-nil : (t : List ℕ) → length t ≡ 0 → t ≡ []
length-nil [] h = refl
length-nil (x ∷ t) h = absurd (omega arith)

pub joined-pieces : (ns t : List ℕ) → total ns ≡ length t → joined (pieces ns t) ≡ t
unfolding total pieces joined
joined-pieces [] t e = sym (length-nil t (sym e))
joined-pieces (n ∷ ns) t e =
    let r : total ns ≡ length (drop n t) = omega (arith, length-drop n t) in
    ap (λ (x : List ℕ). take n t ++ x) (joined-pieces ns (drop n t) r) ∙ take-append-drop n t

pub pieces_some : (ns t : List ℕ) → Positive ns → total ns ≤ length t → NonEmpty (pieces ns t)
unfolding Positive total pieces NonEmpty
pieces_some [] t h e = tt
pieces_some (n ∷ ns) t h e =
    let l : length (take n t) ≡ n = length-take-le n t (omega arith) in
    let r : total ns ≤ length (drop n t) = omega (arith, length-drop n t) in
    (omega (arith, l, h.0), pieces_some ns (drop n t) h.1 r)

pub length-pieces : (ns t : List ℕ) → length (pieces ns t) ≡ length ns
unfolding pieces
length-pieces [] t = refl
length-pieces (n ∷ ns) t = ap suc (length-pieces ns (drop n t))

pub pieces-lengths : (ds : List (List ℕ)) → pieces (lengths ds) (joined ds) ≡ ds
unfolding pieces lengths joined
pieces-lengths [] = refl
pieces-lengths (d ∷ ds) =
    ap₂ (λ (x : List ℕ) (y : List (List ℕ)). x ∷ y) (take-append_seam d (joined ds))
    (ap (pieces (lengths ds)) (drop-append_seam d (joined ds)) ∙ pieces-lengths ds)

pub total-lengths : (ds : List (List ℕ)) → total (lengths ds) ≡ length (joined ds)
unfolding total lengths joined
total-lengths [] = refl
total-lengths (d ∷ ds) = ap (λ (n : ℕ). length d + n) (total-lengths ds) ∙ sym (length-append d (joined ds))

pub lengths_positive : (ds : List (List ℕ)) → NonEmpty ds → Positive (lengths ds)
unfolding Positive lengths NonEmpty
lengths_positive [] h = tt
lengths_positive (d ∷ ds) h = (h.0, lengths_positive ds h.1)

pub length-lengths : (ds : List (List ℕ)) → length (lengths ds) ≡ length ds
unfolding lengths
length-lengths [] = refl
length-lengths (d ∷ ds) = ap suc (length-lengths ds)
