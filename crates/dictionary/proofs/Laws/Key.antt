-- The numbers of names.
--
-- In order:
--   bytes_take, bytes_drop        a part of bytes is bytes
--   key-lt, key-length-lt         the lesser front, or the shorter name, has the lesser number
--   key_differ_lt                 .. and so has, of one length, that whose first byte that differs is the lesser
--   take_more, take_whole         one more byte that is the same, and all
--   key_inj, same_key             two names are the same where their numbers are
--   order_less, order_more, order_same, less_order, more_order, same_order
--   keys_at-append, take-keys_at, drop-keys_at, length-keys_at, get_or-keys_at
-- Assumes nothing.
use mathlib.Core.Path.{◌≡◌, refl, sym, ap, ap₂, ◌∙◌}
use mathlib.Core.Bool.{true}
use mathlib.Core.List.{List, [], ◌∷◌, ◌++◌}
use Prim.Native.Nat.{ℕ, zero, suc, ◌+◌, ◌*◌, ◌≤◌, ◌<◌}
use native.Mathlib.Omega.{arith}
use native.Mathlib.Numerals.{add-one}
use lib.Dec.{eqb, ltb}
use lib.ListN.{length, get_or, take, drop}
use lib.Seq.{take-suc, take_all}
use borrow.Author.Tests.{lt-ltb, le-ltb, eq-eqb, ne_eqb, ltb-true, ltb-false, eqb-true, eqb-false}
use Rattle.words.specs.Endian.{Bytes}
use Rattle.words.proofs.Laws.Cases.{by_bool}
use Rattle.slices.specs.Same.{same}
use Rattle.slices.proofs.Laws.Same.{same_true, same_refl}
use Rattle.dictionary.specs.declared.table.Order.TheVariants.{Less, Same, More}
use Rattle.dictionary.specs.Order.{key, key_of, key_at, keys_at, order}

pub bytes_take : (n : ℕ) (s : List ℕ) → Bytes s → Bytes (take n s)
bytes_take zero s b k = omega arith
bytes_take (suc n) [] b k = omega arith
bytes_take (suc n) (x ∷ s) b zero = b 0
bytes_take (suc n) (x ∷ s) b (suc k) = bytes_take n s (λ i. b (suc i)) k

pub bytes_drop : (n : ℕ) (s : List ℕ) → Bytes s → Bytes (drop n s)
bytes_drop zero s b = b
bytes_drop (suc n) [] b = b
bytes_drop (suc n) (x ∷ s) b = bytes_drop n s (λ i. b (suc i))

pub key-lt : (u v : List ℕ) (a b : ℕ) → length u ≤ length v → Bytes u → a < b → key a u < key b v
unfolding key
key-lt [] [] a b h f l = l
key-lt [] (y ∷ v) a b h f l = key-lt [] v a (b * 256 + y) (omega arith) f (omega arith)
key-lt (x ∷ u) [] a b h f l = absurd (omega arith)
key-lt (x ∷ u) (y ∷ v) a b h f l =
    key-lt u v (a * 256 + x) (b * 256 + y) (omega arith) (λ i. f (suc i)) (omega (arith, f 0))

pub key-length-lt : (u v : List ℕ) → length u < length v → Bytes u → key_of u < key_of v
unfolding key
key-length-lt u [] h f = absurd (omega arith)
key-length-lt u (y ∷ v) h f = key-lt u v 1 (1 * 256 + y) (omega arith) f (omega arith)

differ_lt : (x : ℕ) (a b : List ℕ) (i : ℕ) → Bytes a → length a ≡ length b → i < length a → take i a ≡ take i b
    → get_or a i 0 < get_or b i 0
    → key x a < key x b
unfolding key
differ_lt x [] b i f e h t l = absurd (omega arith)
differ_lt x (p ∷ a) [] i f e h t l = absurd (omega arith)
differ_lt x (p ∷ a) (q ∷ b) zero f e h t l =
    key-lt a b (x * 256 + p) (x * 256 + q) (omega arith) (λ i. f (suc i)) (omega arith)
differ_lt x (p ∷ a) (q ∷ b) (suc i) f e h t l =
    let m : p ≡ q = cc in
    let n : take i a ≡ take i b = cc in
    rw (← m) (differ_lt (x * 256 + p) a b i (λ j. f (suc j)) (omega arith) (omega arith) n l)

pub key_differ_lt : (a b : List ℕ) (i : ℕ) → Bytes a → length a ≡ length b → i < length a → take i a ≡ take i b
    → get_or a i 0 < get_or b i 0
    → key_of a < key_of b
key_differ_lt a b i f e h t l = differ_lt 1 a b i f e h t l

-- one more byte that is the same, and all
pub take_more : (a b : List ℕ) (i : ℕ) → length a ≡ length b → i < length a → take i a ≡ take i b
    → get_or a i 0 ≡ get_or b i 0
    → take (i + 1) a ≡ take (i + 1) b
take_more a b i e h t g =
    let k : i < length b = omega arith in
    rw (add-one, take-suc a i 0 h, take-suc b i 0 k, t, g)

pub take_whole : (a b : List ℕ) (i : ℕ) → length a ≡ length b → length a ≤ i → take i a ≡ take i b → a ≡ b
take_whole a b i e h t =
    let k : length b ≤ i = omega arith in
    sym (take_all i a h) ∙ t ∙ take_all i b k

level_inj : (u v : List ℕ) (a b : ℕ) → length u ≡ length v → Bytes u → Bytes v → key a u ≡ key b v → (a ≡ b) × (u ≡ v)
unfolding key
level_inj [] [] a b e f g k = (k, refl)
level_inj [] (y ∷ v) a b e f g k = absurd (omega arith)
level_inj (x ∷ u) [] a b e f g k = absurd (omega arith)
level_inj (x ∷ u) (y ∷ v) a b e f g k =
    let r = level_inj u v (a * 256 + x) (b * 256 + y) (omega arith) (λ i. f (suc i)) (λ i. g (suc i)) k in
    let m : a ≡ b = omega (arith, r.0, f 0, g 0) in
    let n : x ≡ y = omega (arith, r.0, f 0, g 0) in
    (m, ap₂ ◌∷◌ n r.1)

pub key_inj : (u v : List ℕ) → Bytes u → Bytes v → key_of u ≡ key_of v → u ≡ v
key_inj u v f g k =
    by_bool (eqb (length u) (length v))
    (λ t. (level_inj u v 1 1 (eqb-true (length u) (length v) t) f g k).1)
    (λ t. by_bool (ltb (length u) (length v))
    (λ l. let m = key-length-lt u v (ltb-true (length u) (length v) l) f in absurd (omega arith))
    (λ l. let n = eqb-false (length u) (length v) t in
    let h : length v < length u = omega (arith, ltb-false (length u) (length v) l, n) in
    let m = key-length-lt v u h g in absurd (omega arith)))

pub same_key : (u v : List ℕ) → Bytes u → Bytes v → same u v ≡ eqb (key_of u) (key_of v)
same_key u v f g =
    by_bool (same u v)
    (λ t. t ∙ sym (eq-eqb (key_of u) (key_of v) (ap key_of (same_true u v t))))
    (λ t. t ∙ sym (ne_eqb (key_of u) (key_of v) (λ k.
    let e : same u v ≡ true = rw (key_inj u v f g k) (same_refl v) in
    let z : ◌≡◌ {A = ℕ} 0 1 = cc in omega arith)))

pub order_less : (x y : ℕ) → x < y → Less ≡ order x y
unfolding order
order_less x y h = rw (lt-ltb x y h)

pub order_more : (x y : ℕ) → y < x → More ≡ order x y
unfolding order
order_more x y h = let k : y ≤ x = omega arith in rw (le-ltb x y k, lt-ltb y x h)

pub order_same : (x y : ℕ) → x ≡ y → Same ≡ order x y
unfolding order
order_same x y h =
    let k : y ≤ x = omega arith in
    let l : x ≤ y = omega arith in
    rw (le-ltb x y k, le-ltb y x l)

-- what an answer of a comparison says
pub less_order : (x y : ℕ) → Less ≡ order x y → x < y
unfolding order
less_order x y =
    by_bool (ltb x y)
    (λ t. rw t (λ p. ltb-true x y t))
    (λ t. by_bool (ltb y x)
    (λ u. rw (t, u) (λ p. let z : ◌≡◌ {A = ℕ} 0 1 = cc in absurd (omega arith)))
    (λ u. rw (t, u) (λ p. let z : ◌≡◌ {A = ℕ} 0 1 = cc in absurd (omega arith))))

pub more_order : (x y : ℕ) → More ≡ order x y → y < x
unfolding order
more_order x y =
    by_bool (ltb x y)
    (λ t. rw t (λ p. let z : ◌≡◌ {A = ℕ} 0 1 = cc in absurd (omega arith)))
    (λ t. by_bool (ltb y x)
    (λ u. rw (t, u) (λ p. ltb-true y x u))
    (λ u. rw (t, u) (λ p. let z : ◌≡◌ {A = ℕ} 0 1 = cc in absurd (omega arith))))

pub same_order : (x y : ℕ) → Same ≡ order x y → x ≡ y
unfolding order
same_order x y =
    by_bool (ltb x y)
    (λ t. rw t (λ p. let z : ◌≡◌ {A = ℕ} 0 1 = cc in absurd (omega arith)))
    (λ t. by_bool (ltb y x)
    (λ u. rw (t, u) (λ p. let z : ◌≡◌ {A = ℕ} 0 1 = cc in absurd (omega arith)))
    (λ u. rw (t, u) (λ p. omega (arith, ltb-false x y t, ltb-false y x u))))

module _ (s : List ℕ) (base : ℕ) where
  pub keys_at-append : (p q : List ℕ) → keys_at s base (p ++ q) ≡ keys_at s base p ++ keys_at s base q
  unfolding keys_at
  keys_at-append [] q = refl
  keys_at-append (x ∷ p) q = ap (λ (l : List ℕ). key_at s (base + x) ∷ l) (keys_at-append p q)

  pub take-keys_at : (n : ℕ) (p : List ℕ) → keys_at s base (take n p) ≡ take n (keys_at s base p)
  unfolding keys_at
  take-keys_at zero p = refl
  take-keys_at (suc n) [] = refl
  take-keys_at (suc n) (x ∷ p) = ap (λ (l : List ℕ). key_at s (base + x) ∷ l) (take-keys_at n p)

  pub drop-keys_at : (n : ℕ) (p : List ℕ) → keys_at s base (drop n p) ≡ drop n (keys_at s base p)
  unfolding keys_at
  drop-keys_at zero p = refl
  drop-keys_at (suc n) [] = refl
  drop-keys_at (suc n) (x ∷ p) = drop-keys_at n p

  pub length-keys_at : (p : List ℕ) → length (keys_at s base p) ≡ length p
  unfolding keys_at
  length-keys_at [] = refl
  length-keys_at (x ∷ p) = ap suc (length-keys_at p)

  pub get_or-keys_at : (p : List ℕ) (j : ℕ) → j < length p → get_or (keys_at s base p) j 0 ≡ key_at s (base + get_or p j 0)
  unfolding keys_at
  get_or-keys_at [] j h = absurd (omega arith)
  get_or-keys_at (x ∷ p) zero h = refl
  get_or-keys_at (x ∷ p) (suc j) h = get_or-keys_at p j (omega arith)
