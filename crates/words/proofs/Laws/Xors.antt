-- Exclusive or of two lists, element by element.
--
-- In order: xors_comm, xors_assoc, xors_undo (twice the same gives the list back), length-xors, get_or-xors, xors-append.
-- Not here: exclusive or of numbers (Xor), of words and their bytes (XorBytes).
-- Assumes nothing.
use Rattle.std.proofs.Common.{◌≡◌, ℕ, zero, suc, ◌<◌, ◌≤◌, List, [], ◌∷◌, ◌++◌, length, get_or, refl, ap, ap₂, arith}
use lib.Bits.{bit_xor, xor_comm}
use Rattle.words.specs.Xor.{xors}
use Rattle.words.proofs.Laws.Xor.{xor_assoc, xor_undo}

pub xors_comm : (s t : List ℕ) → xors s t ≡ xors t s
unfolding xors
xors_comm [] [] = refl
xors_comm [] (y ∷ t) = refl
xors_comm (x ∷ s) [] = refl
xors_comm (x ∷ s) (y ∷ t) = ap₂ ◌∷◌ (xor_comm x y) (xors_comm s t)

pub xors_assoc : (s t u : List ℕ) → xors (xors s t) u ≡ xors s (xors t u)
unfolding xors
xors_assoc [] t u = refl
xors_assoc (x ∷ s) [] u = refl
xors_assoc (x ∷ s) (y ∷ t) [] = refl
xors_assoc (x ∷ s) (y ∷ t) (z ∷ u) = ap₂ ◌∷◌ (xor_assoc x y z) (xors_assoc s t u)

pub xors_undo : (s t : List ℕ) → length s ≤ length t → xors (xors s t) t ≡ s
unfolding xors
xors_undo [] t h = refl
xors_undo (x ∷ s) [] h = absurd (omega arith)
xors_undo (x ∷ s) (y ∷ t) h =
    let k : length s ≤ length t = omega arith in
    ap₂ ◌∷◌ (xor_undo x y) (xors_undo s t k)

pub length-xors : (s t : List ℕ) → length s ≤ length t → length (xors s t) ≡ length s
unfolding xors
length-xors [] t h = refl
length-xors (x ∷ s) [] h = absurd (omega arith)
length-xors (x ∷ s) (y ∷ t) h =
    let k : length s ≤ length t = omega arith in
    ap suc (length-xors s t k)

pub get_or-xors : (s t : List ℕ) (i : ℕ) → i < length s → i < length t → get_or (xors s t) i 0
    ≡ bit_xor (get_or s i 0) (get_or t i 0)
unfolding xors
get_or-xors [] t i h k = absurd (omega arith)
get_or-xors (x ∷ s) [] i h k = absurd (omega arith)
get_or-xors (x ∷ s) (y ∷ t) zero h k = refl
get_or-xors (x ∷ s) (y ∷ t) (suc i) h k =
    let a : i < length s = omega arith in
    let b : i < length t = omega arith in
    get_or-xors s t i a b

pub xors-append : (s t u v : List ℕ) → length s ≡ length t → xors (s ++ u) (t ++ v) ≡ xors s t ++ xors u v
unfolding xors
xors-append [] [] u v e = refl
xors-append [] (y ∷ t) u v e = absurd (omega arith)
xors-append (x ∷ s) [] u v e = absurd (omega arith)
xors-append (x ∷ s) (y ∷ t) u v e =
    let k : length s ≡ length t = omega arith in
    ap (λ (l : List ℕ). bit_xor x y ∷ l) (xors-append s t u v k)
