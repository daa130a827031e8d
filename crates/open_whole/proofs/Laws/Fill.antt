-- A lent slice that is filled from a list, piece by piece.
--
-- In order:
--   Filling (what stands after some pieces), filling_start, filling_more, filling_end, filling_full
--   over_full, over_front, over_two    a slice that is filled whole, at its front, and behind that
-- Assumes nothing.
use mathlib.Core.Path.{◌≡◌, refl, sym, ap, ap₂, ◌∙◌}
use mathlib.Core.List.{List, [], ◌∷◌, ◌++◌, append_assoc, append-nil}
use Prim.Native.Nat.{ℕ, zero, suc, ◌+◌, ◌-◌, ◌≤◌, min}
use native.Mathlib.Nat.{sub-zero, zero-sub}
use native.Mathlib.Omega.{arith}
use lib.ListN.{length, take, drop, length-append, length-take, take-append-drop}
use lib.Seq.{take-nil, drop-drop, length-take-le}
use Rattle.slices.specs.Over.{over}
use Rattle.slices.proofs.Laws.Over.{length_over, over_all, over_over, over_behind, over_behind_fits}
use Rattle.slices.proofs.Laws.Over.{take_over, drop_over}

-- the first `done` bytes of `out` are the first of t, with r still to come; the bytes behind them are d's
pub record Filling (t r d out : List ℕ) (done : ℕ) : Type 0 where
  pub size : length out ≡ length d
  pub within : done ≤ length d
  pub rest : drop done out ≡ drop done d
  pub front : take done out ++ take (length d - done) r ≡ take (length d) t

pub filling_start : (t d : List ℕ) → Filling t t d d 0
filling_start t d = record { size = refl; within = omega arith; rest = refl; front = rw sub-zero }

-- as many of two lists as there is room for
take-append : (k : ℕ) (a b : List ℕ) → take k (a ++ b) ≡ take k a ++ take (k - length a) b
take-append zero a b = rw (zero-sub (length a))
take-append (suc k) [] b = rw sub-zero
take-append (suc k) (x ∷ a) b =
    let e : suc k - length (x ∷ a) ≡ k - length a = omega arith in
    rw e (ap (λ (l : List ℕ). x ∷ l) (take-append k a b))

module _ (t r d out : List ℕ) (done : ℕ) (g : Filling t r d out done) where
  pub filling_more : (b s ys : List ℕ) (k m : ℕ) → r ≡ b ++ s → k ≡ length out - done
      → ys ≡ over (take (length (take k (drop done out))) b) (take k (drop done out)) → m ≡ min k (length b)
      → Filling t s d (take done out ++ (ys ++ drop k (drop done out))) (done + m)
  filling_more b s ys k m er ek ey em =
      let z = g.size in
      let w = g.within in
      let h : done ≤ length out = omega arith in
      let lf : length (take done out) ≡ done = length-take-le done out h in
      let lb : length (take k b) ≡ m = length-take k b ∙ sym em in
      let lw : length (take done out ++ take k b) ≡ done + m =
      length-append (take done out) (take k b) ∙ ap₂ ◌+◌ lf lb in
      let mk : m ≤ k = omega arith in
      let e = over_behind b out ys done k h ek ey in
      let fits : length (take done out ++ take k b) ≤ length out = omega arith in
      let v : length d - (done + m) ≡ k - length b = omega arith in
      let x : length d - done ≡ k = omega arith in
      record {
        size = ap length e ∙ length_over _ out fits ∙ z;
        within = omega arith;
        rest =
            ap (drop (done + m)) e ∙ drop_over _ out (done + m) lw
            ∙ sym (drop-drop m done out) ∙ ap (drop m) g.rest ∙ drop-drop m done d;
        front =
            ap₂ (λ (l : List ℕ) (n : ℕ). l ++ take n s) (ap (take (done + m)) e ∙ take_over _ out (done + m) lw) v
            ∙ append_assoc (take done out) (take k b) (take (k - length b) s)
            ∙ ap (λ (l : List ℕ). take done out ++ l) (sym (take-append k b s))
            ∙ ap₂ (λ (n : ℕ) (l : List ℕ). take done out ++ take n l) (sym x) (sym er)
            ∙ g.front;
      }

  -- nothing is still to come, or there is room for nothing
  filled : take (length d - done) r ≡ [] → out ≡ over (take (length d) t) d
  unfolding over
  filled e =
      let z = g.size in
      let w = g.within in
      let f : take done out ≡ take (length d) t =
      sym (append-nil (take done out)) ∙ ap (λ (l : List ℕ). take done out ++ l) (sym e) ∙ g.front in
      let l : length (take (length d) t) ≡ done = ap length (sym f) ∙ length-take-le done out (omega arith) in
      sym (take-append-drop done out) ∙ ap₂ ◌++◌ f g.rest ∙ ap (λ (n : ℕ). take (length d) t ++ drop n d) (sym l)

  pub filling_end : r ≡ [] → out ≡ over (take (length d) t) d
  filling_end e = filled (ap (take (length d - done)) e ∙ take-nil (length d - done))

  pub filling_full : length out ≤ done → out ≡ over (take (length d) t) d
  filling_full h =
      let z = g.size in
      let e : length d - done ≡ 0 = omega arith in
      filled (ap (λ (n : ℕ). take n r) e)

-- a slice that is filled whole
pub over_full : (s d x : List ℕ) (n : ℕ) → length d ≡ n → n ≤ length s → x ≡ over (take (length d) s) d → x ≡ take n s
over_full s d x n l h e =
    let a : length (take (length d) s) ≡ length d = length-take-le (length d) s (omega arith) in
    e ∙ over_all (take (length d) s) d (omega arith) ∙ ap (λ (i : ℕ). take i s) l

-- the first n bytes lent, and changed to w
pub over_front : (w d ys : List ℕ) (n : ℕ) → ys ≡ w → length w ≡ n → ys ++ drop n d ≡ over w d
unfolding over
over_front w d ys n e l = rw (e, l)

-- and then s copied behind them
pub over_two : (w s d x ys : List ℕ) (n k : ℕ) → x ≡ over w d → length w ≡ n → n + length s ≤ length d
    → k ≡ length x - n
    → ys ≡ over (take (length (take k (drop n x))) s) (take k (drop n x))
    → take n x ++ (ys ++ drop k (drop n x)) ≡ over (w ++ s) d
over_two w s d x ys n k e l h ek ey =
    let a : length x ≡ length d = ap length e ∙ length_over w d (omega arith) in
    let t : take n x ≡ w = ap (take n) e ∙ take_over w d n l in
    over_behind_fits s x ys n k (omega arith) ek ey ∙ ap₂ (λ (u v : List ℕ). over (u ++ s) v) t e ∙ over_over w s d
