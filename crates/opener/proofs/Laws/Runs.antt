-- The held bytes and a block's data as one run: read byte by byte, kept, and copied into a lent slice.
--
-- In order:
--   length_run                the held bytes and the data are so many
--   joined-held, joined_data  one byte of them
--   padded_more, padded_all   the rest, copied into an array of zeros
--   fill_both, fill-held      their first bytes in a lent slice
-- x is the array of held bytes, h how many of it are held, d the data.
-- Not here: how many are due (Due).
-- Assumes nothing.
use mathlib.Core.Path.{◌≡◌, sym, ap, ◌∙◌}
use mathlib.Core.List.{List, ◌++◌, append_assoc}
use Prim.Native.Nat.{ℕ, suc, ◌+◌, ◌-◌, ◌≤◌, ◌<◌}
use native.Mathlib.Numerals.{add-one}
use native.Mathlib.Omega.{arith}
use lib.ListN.{length, take, drop, get_or, set, replicate, length-append, length-drop, get_or-append}
use lib.Seq.{take-suc, take_all, take-append-le, take-append-add, length-take-le}
use lib.Seq.{get_or-take, get_or-drop, get_or-append-add, set_at}
use Rattle.slices.specs.Over.{over}
use Rattle.slices.proofs.Laws.Over.{length_over, over_all, over_tail}
use Rattle.opening.specs.Steps.{padded}

pub length_run : (x d : List ℕ) (h : ℕ) → h ≤ length x → length (take h x ++ d) ≡ h + length d
length_run x d h l = length-append (take h x) d ∙ ap (λ (n : ℕ). n + length d) (length-take-le h x l)

pub joined-held : (x d : List ℕ) (h j : ℕ) → h ≤ length x → j < h → get_or x j 0 ≡ get_or (take h x ++ d) j 0
joined-held x d h j l m =
    let e : length (take h x) ≡ h = length-take-le h x l in
    sym (get_or-append (take h x) d 0 j (omega arith) ∙ get_or-take h x j 0 m)

pub joined_data : (x d : List ℕ) (h j : ℕ) → h ≤ length x → h ≤ j → get_or d (j - h) 0 ≡ get_or (take h x ++ d) j 0
joined_data x d h j l m =
    let e : length (take h x) ≡ h = length-take-le h x l in
    let k : length (take h x) + (j - h) ≡ j = omega arith in
    sym (get_or-append-add (take h x) d (j - h) 0) ∙ ap (λ (n : ℕ). get_or (take h x ++ d) n 0) k

-- one byte more of what stands from `at` on
pub padded_more : (s a : List ℕ) (at i : ℕ) → a ≡ take i (drop at s) ++ replicate (16 - i) 0 → i < 16
    → at + i < length s
    → set a i (get_or s (at + i) 0) ≡ take (i + 1) (drop at s) ++ replicate (16 - (i + 1)) 0
padded_more s a at i h l m =
    let k : i < length (drop at s) = simp length-drop (omega arith) in
    let e : length (take i (drop at s)) ≡ i = length-take-le i (drop at s) (omega arith) in
    let n : 16 - i ≡ suc (16 - suc i) = omega arith in
    rw (h, add-one, n, take-suc (drop at s) i 0, get_or-drop, append_assoc)
    (set_at (take i (drop at s)) 0 (replicate (16 - suc i) 0) (get_or s (at + i) 0) i e)

pub padded_all : (s a : List ℕ) (at i : ℕ) → a ≡ take i (drop at s) ++ replicate (16 - i) 0 → length (drop at s) ≡ i
    → a ≡ padded (drop at s)
unfolding padded
padded_all s a at i h e =
    let l : length (drop at s) ≤ i = omega arith in
    rw (h, take_all i (drop at s) l, e)

-- the held bytes, and then the data behind them
pub fill_both : (x d out xs zs : List ℕ) (h k : ℕ) → h ≤ length x → h < length out → length out ≤ h + length d
    → xs ≡ over (take (length out) (take h x)) out → k ≡ length xs - h
    → zs ≡ over (take (length (take k (drop h xs))) d) (take k (drop h xs))
    → take h xs ++ (zs ++ drop k (drop h xs)) ≡ take (length out) (take h x ++ d)
fill_both x d out xs zs h k lx lo ld ex ek ez =
    let w = take h x in
    let lw : length w ≡ h = length-take-le h x lx in
    let e : xs ≡ over w out = ex ∙ ap (λ (v : List ℕ). over v out) (take_all (length out) w (omega arith)) in
    let lxs : length xs ≡ length out = ap length e ∙ length_over w out (omega arith) in
    let r : length (take k (drop h xs)) ≡ k = length-take-le k (drop h xs) (simp length-drop (omega arith)) in
    let ez' : zs ≡ over (take k d) (take k (drop h xs)) =
    ez ∙ ap (λ (n : ℕ). over (take n d) (take k (drop h xs))) r in
    let lk : length (take k d) ≡ k = length-take-le k d (omega arith) in
    let n : length (w ++ take k d) ≡ length out = length-append w (take k d) ∙ omega arith in
    let m : length out ≡ length w + k = omega arith in
    over_tail w (take k d) out xs zs h k e lw (omega arith) (omega arith) ez'
    ∙ over_all (w ++ take k d) out (omega arith)
    ∙ sym (ap (λ (j : ℕ). take j (w ++ d)) m ∙ take-append-add w d k)

-- the held bytes alone
pub fill-held : (x d out : List ℕ) (h : ℕ) → h ≤ length x → length out ≤ h
    → over (take (length out) (take h x)) out ≡ take (length out) (take h x ++ d)
fill-held x d out h lx lo =
    let lw : length (take h x) ≡ h = length-take-le h x lx in
    let l : length out ≤ length (take h x) = omega arith in
    let n : length (take (length out) (take h x)) ≡ length out = length-take-le (length out) (take h x) l in
    over_all (take (length out) (take h x)) out (omega arith) ∙ sym (take-append-le (length out) (take h x) d l)
