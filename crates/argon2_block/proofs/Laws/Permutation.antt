-- The permutation of a block, in place on 128 words.
--
-- In order:
--   mul_add_is, gb_on_is                        these steps are the sum with a product, and GB
--   length-p, length-rows, length-columns,
--   length-permuted                           128 words stay 128
-- Not here: the product of two halves (Product), the columns and the rows (Order).
-- Assumes nothing.
use Rattle.std.proofs.Common.{◌≡◌, ℕ, zero, suc, ◌+◌, ◌*◌, ◌%◌, ◌^◌, List, length, get_or, set, sym, refl, ap, ◌∙◌, add_assoc, arith, length-set}
use native.Mathlib.Nat.{add_left_comm, mod-add-mod}
use Rattle.words.specs.Word.{plus}
use Rattle.argon2_block.specs.Rfc9106.{mul_add, Four, gb, gb_on, p, rows, columns, permuted}

twice_mod : (a w n : ℕ) → (a % n + a % n + w) % n ≡ (a + a + w) % n
twice_mod a w n =
    ap (λ (k : ℕ). k % n) (add_assoc (a % n) (a % n) w) ∙ mod-add-mod a n (a % n + w)
    ∙ ap (λ (k : ℕ). k % n) (add_left_comm a (a % n) w) ∙ mod-add-mod a n (a + w)
    ∙ ap (λ (k : ℕ). k % n) (sym (add_assoc a a w))

regrouped : (m y w : ℕ) → m + y + (m + y) + w ≡ w + y + (y + 2 * m)
regrouped m y w = omega arith

pub mul_add_is : (x y m w : ℕ) → m ≡ (x % 2 ^ 32) * (y % 2 ^ 32) → plus 64 w y ≡ x
    → plus 64 (plus 64 (plus 64 m y) (plus 64 m y)) w ≡ mul_add x y
unfolding mul_add
mul_add_is x y m w em ew =
    let u : ℕ = plus 64 m y in
    mod-add-mod (u + u) (2 ^ 64) w ∙ twice_mod (m + y) w (2 ^ 64)
    ∙ ap (λ (n : ℕ). n % 2 ^ 64) (regrouped m y w) ∙ sym (mod-add-mod (w + y) (2 ^ 64) (y + 2 * m))
    ∙ ap (λ (n : ℕ). (n + (y + 2 * m)) % 2 ^ 64) ew ∙ ap (λ (n : ℕ). n % 2 ^ 64) (sym (add_assoc x y (2 * m)))
    ∙ ap (λ (n : ℕ). (x + y + 2 * n) % 2 ^ 64) em

pub gb_on_is : (s : List ℕ) (i j k l : ℕ) (q : Four)
    → q ≡ gb (record { a = get_or s i 0; b = get_or s j 0; c = get_or s k 0; d = get_or s l 0 })
    → set (set (set (set s i q.a) j q.b) k q.c) l q.d ≡ gb_on s i j k l
unfolding gb_on
gb_on_is s i j k l q e = rw e

length-gb_on : (s : List ℕ) (i j k l : ℕ) → length (gb_on s i j k l) ≡ length s
unfolding gb_on
length-gb_on s i j k l = simp length-set

pub length-p : (s : List ℕ) (at step : ℕ) → length (p s at step) ≡ length s
unfolding p
length-p s at step = simp length-gb_on

pub length-rows : (n : ℕ) (s : List ℕ) → length (rows n s) ≡ length s
unfolding rows
length-rows zero s = refl
length-rows (suc n) s = length-p (rows n s) (n * 16) 2 ∙ length-rows n s

pub length-columns : (n : ℕ) (s : List ℕ) → length (columns n s) ≡ length s
unfolding columns
length-columns zero s = refl
length-columns (suc n) s = length-p (columns n s) (n * 2) 16 ∙ length-columns n s

pub length-permuted : (s : List ℕ) → length (permuted s) ≡ length s
unfolding permuted
length-permuted s = length-columns 8 (rows 8 s) ∙ length-rows 8 s
