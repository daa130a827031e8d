-- The soft limit of the stack, as code looks for it.
--
-- In order:
--   begins-pointwise, begins-starts_with           std's tests for a word at the front
--   behind_first, behind_more, behind_none         the first place of a word; a place further; the end
--   unspaced_stop, unspaced_more, unspaced_none    the first byte that is no space; a place further; the end
--   digit-ge, digit-le                             a digit's byte
--   decimal_stop, decimal_more, decimal_none       the number's end; a digit more; the end
--   reached, missed                                a number that is large enough before its end; one that is not
--   allows_unlimited, allows-number                the limit
-- Assumes nothing.
use mathlib.Core.Path.{◌≡◌, refl, sym, ap, ◌∙◌}
use mathlib.Core.Bool.{Bool, true, false, ◌&&◌}
use mathlib.Core.List.{List, [], ◌∷◌}
use Prim.Native.Nat.{ℕ, suc, ◌+◌, ◌-◌, ◌*◌, ◌≤◌, ◌<◌}
use native.Mathlib.Numerals.{add-one}
use native.Mathlib.Omega.{arith}
use lib.Dec.{eqb, leb}
use lib.ListN.{length, get_or, take, drop, length-drop, drop_of_length-le}
use lib.Pointwise.{pointwise}
use lib.Seq.{drop-cons}
use borrow.Author.Tests.{leb-true, le-leb, lt-leb, eq-eqb, ne_eqb, eqb-true, eqb-false}
use Rattle.words.proofs.Laws.Cases.{by_bool, and_true}
use Rattle.slices.specs.Same.{same}
use Rattle.explanations.specs.Sentences.{ascii}
use Rattle.unlocking.specs.Stack.{begins, behind, unspaced, is_digit, decimal, limit, allows}

eqb_sym : (x y : ℕ) → eqb x y ≡ eqb y x
eqb_sym x y =
    by_bool (eqb x y)
    (λ t. let h = eqb-true x y t in rw (t, eq-eqb y x (sym h)))
    (λ f. let h = eqb-false x y f in rw (f, ne_eqb y x (λ e. h (sym e))))

pointwise-same : (s t : List ℕ) → pointwise eqb s t ≡ same s t
unfolding same
pointwise-same [] [] = refl
pointwise-same [] (y ∷ t) = refl
pointwise-same (x ∷ s) [] = refl
pointwise-same (x ∷ s) (y ∷ t) = ap (λ (b : Bool). eqb x y && b) (pointwise-same s t)

pointwise_sym : (s t : List ℕ) → pointwise eqb s t ≡ pointwise eqb t s
pointwise_sym [] [] = refl
pointwise_sym [] (y ∷ t) = refl
pointwise_sym (x ∷ s) [] = refl
pointwise_sym (x ∷ s) (y ∷ t) = rw (eqb_sym x y, pointwise_sym s t)

pub begins-pointwise : (w s : List ℕ) → begins w s ≡ pointwise eqb (take (length w) s) w
begins-pointwise w s = sym (pointwise-same (take (length w) s) w)

pub begins-starts_with : (w s : List ℕ) → begins w s ≡ pointwise eqb w (take (length w) s)
begins-starts_with w s = begins-pointwise w s ∙ pointwise_sym (take (length w) s) w

behind_here : (w s : List ℕ) → 0 < length s → begins w s ≡ true → behind w s ≡ drop (length w) s
unfolding behind
behind_here w [] h t = absurd (omega arith)
behind_here w (x ∷ s) h t = rw t

behind_next : (w s : List ℕ) (x : ℕ) → begins w (x ∷ s) ≡ false → behind w (x ∷ s) ≡ behind w s
unfolding behind
behind_next w s x t = rw t

module _ (w s : List ℕ) (at : ℕ) where
  pub behind_first : at < length s → pointwise eqb (take (length w) (drop at s)) w ≡ true
      → drop (length w) (drop at s) ≡ behind w (drop at s)
  behind_first h t =
      sym (behind_here w (drop at s) (simp length-drop (omega arith)) (begins-pointwise w (drop at s) ∙ t))

  pub behind_more : at < length s → pointwise eqb (take (length w) (drop at s)) w ≡ false
      → behind w (drop (at + 1) s) ≡ behind w (drop at s)
  behind_more h t =
      let e = drop-cons s at 0 h in
      let b : begins w (drop at s) ≡ false = begins-pointwise w (drop at s) ∙ t in
      rw add-one (sym (ap (λ (x : List ℕ). behind w x) e ∙ behind_next w (drop (suc at) s) (get_or s at 0) (rw e at b)))

  pub behind_none : length s ≤ at → [] ≡ behind w (drop at s)
  unfolding behind
  behind_none h = rw (drop_of_length-le s h)

module _ (s : List ℕ) (at : ℕ) where
  pub unspaced_stop : at < length s → (get_or s at 0 ≡ 0x20 → ⊥) → drop at s ≡ unspaced (drop at s)
  unfolding unspaced
  unspaced_stop h n = rw (drop-cons s at 0 h, ne_eqb (get_or s at 0) 0x20 n)

  pub unspaced_more : at < length s → get_or s at 0 ≡ 0x20 → unspaced (drop (at + 1) s) ≡ unspaced (drop at s)
  unfolding unspaced
  unspaced_more h n = rw (add-one, drop-cons s at 0 h, eq-eqb (get_or s at 0) 0x20 n)

  pub unspaced_none : length s ≤ at → [] ≡ unspaced (drop at s)
  unfolding unspaced
  unspaced_none h = rw (drop_of_length-le s h)

pub digit-ge : (x : ℕ) → is_digit x ≡ true → 0x30 ≤ x
digit-ge x t = leb-true 0x30 x (and_true (leb 0x30 x) (leb x 0x39) t).0

pub digit-le : (x : ℕ) → is_digit x ≡ true → x ≤ 0x39
digit-le x t = leb-true x 0x39 (and_true (leb 0x30 x) (leb x 0x39) t).1

module _ (s : List ℕ) (at n : ℕ) where
  pub decimal_stop : at < length s → is_digit (get_or s at 0) ≡ false → n ≡ decimal n (drop at s)
  unfolding decimal
  decimal_stop h t = rw (drop-cons s at 0 h, t)

  pub decimal_more : at < length s → is_digit (get_or s at 0) ≡ true
      → decimal (n * 10 + (get_or s at 0 - 0x30)) (drop (at + 1) s) ≡ decimal n (drop at s)
  unfolding decimal
  decimal_more h t = rw (add-one, drop-cons s at 0 h, t)

  pub decimal_none : length s ≤ at → n ≡ decimal n (drop at s)
  unfolding decimal
  decimal_none h = rw (drop_of_length-le s h)

-- digits make a number no smaller
decimal-ge : (s : List ℕ) (n : ℕ) → n ≤ decimal n s
unfolding decimal
decimal-ge [] n = omega arith
decimal-ge (x ∷ s) n =
    by_bool (is_digit x)
    (λ t. rw t (omega (arith, decimal-ge s (n * 10 + (x - 0x30)))))
    (λ t. rw t (omega arith))

pub reached : (least n m : ℕ) (s : List ℕ) → least ≤ n → decimal n s ≡ m → true ≡ leb least m
reached least n m s h e = sym (le-leb least m (omega (arith, decimal-ge s n)))

pub missed : (least n m : ℕ) → n < least → n ≡ m → false ≡ leb least m
missed least n m h e = sym (lt-leb least m (omega arith))

module _ (n : ℕ) (s b t : List ℕ) (word : b ≡ behind (ascii "Max stack size") s) (spaces : t ≡ unspaced b) where
  limit_is : t ≡ limit s
  limit_is = spaces ∙ ap unspaced word

  pub allows_unlimited : (r : Bool) → r ≡ pointwise eqb (ascii "unlimited") (take (length (ascii "unlimited")) t)
      → r ≡ true → r ≡ allows n s
  unfolding allows
  allows_unlimited r e t' =
      let f : begins (ascii "unlimited") t ≡ true = begins-starts_with (ascii "unlimited") t ∙ sym e ∙ t' in
      rw (t', ← limit_is, f)

  pub allows-number : (r u : Bool) → r ≡ pointwise eqb (ascii "unlimited") (take (length (ascii "unlimited")) t)
      → r ≡ false → u ≡ leb n (decimal 0 t) → u ≡ allows n s
  unfolding allows
  allows-number r u e t' g =
      let f : begins (ascii "unlimited") t ≡ false = begins-starts_with (ascii "unlimited") t ∙ sym e ∙ t' in
      rw (← limit_is, f) g
