-- The words of a block function's state.
--
-- In order:
--   same_sixteen                                     two functions that agree on every sixteen words
--   length-sum, get_or-sum                           sums of words
--   length-serialize, length-serialize-sum           the bytes of words: 64 of sixteen sums
--   serialize_none, serialize_more, serialize_all    words written one after the other
-- Not here: one word's bytes (the crate words' Endian).
-- Assumes nothing.
use mathlib.Core.Path.{◌≡◌, refl, sym, ap, subst, ◌∙◌}
use mathlib.Core.List.{List, [], ◌∷◌, ◌++◌, append_assoc, append-nil}
use Prim.Native.Nat.{ℕ, zero, suc, ◌+◌, ◌*◌, ◌≤◌, ◌<◌, min}
use native.Mathlib.Nat.{zero-min, min-zero, suc-min-suc}
use native.Mathlib.Numerals.{add-one}
use native.Mathlib.Omega.{arith}
use lib.ListN.{length, get_or, take, drop, length-append, drop_of_length-le}
use lib.Seq.{take_at, take_all, take-suc, drop-cons, length-take-le, sets, sets-eq}
use Rattle.words.specs.Word.{plus}
use Rattle.words.specs.Endian.{le_bytes}
use Rattle.words.proofs.Laws.Endian.{length-le_bytes}
use Rattle.stream.specs.Words.{sum, serialize}

-- the elements of a list from i on, n of them
abbrev listed : ℕ → ℕ → List ℕ → List ℕ
listed zero i s = []
listed (suc n) i s = get_or s i 0 ∷ listed n (suc i) s

drop-listed : (n i : ℕ) (s : List ℕ) → length s ≡ i + n → drop i s ≡ listed n i s
drop-listed zero i s e =
    let h : length s ≤ i = omega arith in
    drop_of_length-le s h
drop-listed (suc n) i s e =
    let h : i < length s = omega arith in
    let k : length s ≡ suc i + n = omega arith in
    drop-cons s i 0 h ∙ ap (λ (l : List ℕ). get_or s i 0 ∷ l) (drop-listed n (suc i) s k)

-- agreed on sixteen words, one by one, two functions agree on every list of sixteen
pub same_sixteen : (f g : List ℕ → List ℕ)
    → ((a b c d e f' g' h i j k l m n o p : ℕ)
    → f (a ∷ b ∷ c ∷ d ∷ e ∷ f' ∷ g' ∷ h ∷ i ∷ j ∷ k ∷ l ∷ m ∷ n ∷ o ∷ p ∷ [])
    ≡ g (a ∷ b ∷ c ∷ d ∷ e ∷ f' ∷ g' ∷ h ∷ i ∷ j ∷ k ∷ l ∷ m ∷ n ∷ o ∷ p ∷ []))
    → (s : List ℕ) → length s ≡ 16 → f s ≡ g s
same_sixteen f g same s e =
    subst (λ (l : List ℕ). f l ≡ g l) (sym (drop-listed 16 0 s e))
    (same _ _ _ _ _ _ _ _ _ _ _ _ _ _ _ _)

pub length-sum : (s t : List ℕ) → length (sum s t) ≡ min (length s) (length t)
unfolding sum
length-sum [] t = rw zero-min
length-sum (x ∷ s) [] = rw min-zero
length-sum (x ∷ s) (y ∷ t) = rw suc-min-suc (ap suc (length-sum s t))

pub get_or-sum : (s t : List ℕ) (i : ℕ) → i < length s → i < length t
    → get_or (sum s t) i 0 ≡ plus 32 (get_or s i 0) (get_or t i 0)
unfolding sum
get_or-sum [] t i h k = absurd (omega arith)
get_or-sum (x ∷ s) [] i h k = absurd (omega arith)
get_or-sum (x ∷ s) (y ∷ t) zero h k = refl
get_or-sum (x ∷ s) (y ∷ t) (suc i) h k =
    let a : i < length s = omega arith in
    let b : i < length t = omega arith in
    get_or-sum s t i a b

pub length-serialize : (ws : List ℕ) → length (serialize ws) ≡ 4 * length ws
unfolding serialize
length-serialize [] = refl
length-serialize (w ∷ ws) =
    let e = length-le_bytes 4 w in
    let f = length-serialize ws in
    simp length-append (omega arith)

pub length-serialize-sum : (s t : List ℕ) → length s ≡ 16 → length t ≡ 16 → length (serialize (sum s t)) ≡ 64
length-serialize-sum s t n m =
    let k = length-sum s t in
    let l = length-serialize (sum s t) in
    omega arith

serialize-append : (s t : List ℕ) → serialize (s ++ t) ≡ serialize s ++ serialize t
unfolding serialize
serialize-append [] t = refl
serialize-append (w ∷ s) t = rw (serialize-append s t, append_assoc)

-- no word yet
pub serialize_none : (o ws : List ℕ) → take (0 * 4) o ≡ serialize (take 0 ws)
unfolding serialize
serialize_none o ws = refl

-- one word more
pub serialize_more : (o ws : List ℕ) (i v : ℕ) {o' : List ℕ} → i * 4 + 4 ≤ length o → i < length ws
    → take (i * 4) o ≡ serialize (take i ws) → v ≡ get_or ws i 0 → o' ≡ sets o (i * 4) (le_bytes 4 v)
    → take ((i + 1) * 4) o' ≡ serialize (take (i + 1) ws)
unfolding serialize
serialize_more o ws i v {o'} l h t e f =
    let b : List ℕ = le_bytes 4 v in
    let n : length b ≡ 4 = length-le_bytes 4 v in
    let m : length (take (i * 4) o) ≡ i * 4 = length-take-le (i * 4) o (omega arith) in
    let k : length (take (i * 4) o ++ b) ≡ (i + 1) * 4 = simp length-append (omega arith) in
    let rest : List ℕ = drop (i * 4 + length b) o in
    let front : take ((i + 1) * 4) o' ≡ take (i * 4) o ++ b =
    rw (f, sets-eq b o (i * 4) (omega arith)) (take_at (take (i * 4) o ++ b) rest ((i + 1) * 4) k) in
    front ∙ rw (add-one, take-suc ws i 0 h, serialize-append, append-nil, ← e, t)

-- all sixteen
pub serialize_all : (o ws : List ℕ) (i : ℕ) → i ≡ 16 → length o ≡ 64 → length ws ≡ 16
    → take (i * 4) o ≡ serialize (take i ws) → o ≡ serialize ws
serialize_all o ws i e l h t =
    let a : length o ≤ i * 4 = omega arith in
    let b : length ws ≤ i = omega arith in
    sym (take_all (i * 4) o a) ∙ t ∙ ap serialize (take_all i ws b)
