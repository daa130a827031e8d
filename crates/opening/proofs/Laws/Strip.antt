-- Padding stripped from a decryption of which the front is handed over already.
--
-- In order:
--   dropped           an outcome without its first bytes
--   stripped-append   the last piece alone decides, and what stands before it stays
--   stripped-opened   what is opened is the front, and all but sixteen bytes of it at most are there
-- Not here: the padding itself (pkcs7, Laws.Padding).
-- Assumes nothing.
use mathlib.Core.Path.{◌≡◌, refl, sym, ap, ◌∙◌}
use mathlib.Core.List.{List, ◌++◌}
use Prim.Native.Nat.{ℕ, zero, suc, ◌+◌, ◌-◌, ◌≤◌}
use native.Mathlib.Omega.{arith}
use borrow.Author.Tests.{eqb-false}
use lib.Dec.{eqb}
use lib.ListN.{length, take, drop, length-append, length-drop, take-append-drop}
use lib.Seq.{take-append-add, drop_at, take-take, length-take-le}
use Rattle.words.proofs.Laws.Cases.{by_bool}
use Rattle.pkcs7.specs.Pkcs7.{padding, strip}
use Rattle.pkcs7.proofs.Laws.Padding.{padding-le, padding-append}
use Rattle.opening.specs.Decryption.{Opened, refused, opened, stripped}
use Rattle.opening.proofs.Laws.Replies.{never}

unfoldable pub dropped : ℕ → Opened → Opened
dropped n (refused r) = refused r
dropped n (opened b) = opened (drop n b)

pub stripped-append : (a b : List ℕ) (n : ℕ) → length a ≡ n → length b ≡ 16
    → dropped n (stripped (strip (a ++ b))) ≡ stripped (strip b)
unfolding dropped stripped strip
stripped-append a b n g h =
    let k : padding b ≤ 16 = padding-le b in
    let e : length a + length b - padding b ≡ length a + (length b - padding b) = omega arith in
    rw (padding-append a b h)
    (by_bool (eqb (padding b) 0) (λ t. rw t)
    (λ t. rw (t, length-append, e, take-append-add, drop_at a (take (length b - padding b) b) n g)))

-- x without its padding is b: the first n bytes of x, n being all but the last sixteen, and at most fifteen more
pub record Remainder (n : ℕ) (x b : List ℕ) : Type 0 where
  pub joins : take n x ++ drop n b ≡ b
  pub short : length (drop n b) ≤ 15

positive : (n : ℕ) → (n ≡ 0 → ⊥) → 1 ≤ n
positive zero h = absurd (h refl)
positive (suc n) h = omega arith

remainder_take : (n p : ℕ) (x b : List ℕ) → n + 16 ≡ length x → 1 ≤ p → p ≤ 16 → take (length x - p) x ≡ b
    → Remainder n x b
remainder_take n p x b l low high e =
    let m : n ≤ length x - p = omega arith in
    let f : take n x ≡ take n b = sym (take-take n (length x - p) x m) ∙ ap (take n) e in
    let g : length b ≡ length x - p = ap length (sym e) ∙ length-take-le (length x - p) x (omega arith) in
    record { joins = rw f (take-append-drop n b); short = simp length-drop (omega arith) }

pub stripped-opened : (n : ℕ) (x b : List ℕ) → n + 16 ≡ length x → stripped (strip x) ≡ opened b → Remainder n x b
unfolding stripped strip
stripped-opened n x b l h =
    by_bool (eqb (padding x) 0) (λ t. let e = rw t at h in never (cc e))
    (λ t.
    let e = rw t at h in
    remainder_take n (padding x) x b l (positive (padding x) (eqb-false (padding x) 0 t)) (padding-le x) (cc e))
