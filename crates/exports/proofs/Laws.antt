-- The two answers of an exported function, for any operation: of its own outcome and result, o and x, as equal to the
-- definition's, p and y.
--
-- In order: answer-accepted, answer-refused; answer-wrote, answer_not_written of an operation that writes into a slice;
-- answer-said, answer_values, answer_no_values of a reader, by what its answer says, with number n and place p;
-- outcome-transformed, key-transformed of a run of Argon2; kept_or-wrote, kept_or_17, kept_or_19, kept_or_next of a step's
-- state, by its number; kept_wrote, kept_refused of an inner stream's; join_is, two halves as code lays them.
-- Assumes nothing.
use Rattle.std.specs.Prelude.{Ok, Err}
use mathlib.Core.Path.{◌≡◌, refl, sym, ap, ◌∙◌}
use mathlib.Core.List.{List, ◌++◌}
use Prim.Native.Nat.{ℕ}
use lib.ListN.{length, replicate, length-append, length-replicate}
use borrow.Author.Tests.{eq-eqb, ne_eqb}
use Rattle.slices.specs.Over.{put_at}
use Rattle.slices.proofs.Laws.Over.{over_whole}
use Rattle.slices.proofs.Laws.Put.{laid_first, laid_more}
use Rattle.refusals.specs.Numbers.{Said, of_refusal, number_of}
use Rattle.refusals.specs.declared.Refusal.{Refusal}
use Rattle.refusals.specs.Numbers.{Outcome}
use Rattle.refusals.specs.Numbers.{Written}
use Rattle.argon2.specs.Rfc9106.{Inputs, tag}
use Rattle.argon2.specs.Run.{transformed}
use Rattle.calls.specs.Calls.{result_or, kept_or, kept_unless}
use Rattle.exports.specs.Lent.{values_or, count_or}

pub answer-accepted : {o p : Outcome} {x y : List ℕ} (had : List ℕ) → o ≡ p → x ≡ y → o ≡ Ok tt
    → record { value : 0 ≡ number_of p; out_after : x ≡ result_or p y had }
answer-accepted had e f a = rw (sym e ∙ a) (record { value = refl; out_after = f })

pub answer-refused : {o p : Outcome} {had : List ℕ} {n : ℕ} {r : Refusal} (y : List ℕ) → o ≡ p → n ≡ number_of o → o ≡ Err r
    → record { value : n ≡ number_of p; out_after : had ≡ result_or p y had }
answer-refused y e f a = record { value = f ∙ ap number_of e; out_after = rw (sym e ∙ a) }

pub answer-wrote : {w v : Written} {n : ℕ} (had : ℕ) → w ≡ v → w ≡ Ok n
    → record { value : 0 ≡ number_of v; count_after : n ≡ count_or v had }
answer-wrote had e a = rw (sym e ∙ a) (record { value = refl; count_after = refl })

pub answer_not_written : {w v : Written} {m : ℕ} {r : Refusal} (had : ℕ) → w ≡ v → m ≡ of_refusal r
    → w ≡ Err r → record { value : m ≡ number_of v; count_after : had ≡ count_or v had }
answer_not_written had e f a = rw (sym e ∙ a) (record { value = f; count_after = refl })

-- what a reader's answer says, s, is what the definition's says, q
pub answer-said : {n p : ℕ} {s q : Said} → s ≡ q → n ≡ s.number → p ≡ s.place
    → record { value : n ≡ q.number; place_after : p ≡ q.place }
answer-said e f g = rw (← e) (record { value = f; place_after = g })

pub answer_values : {n p : ℕ} {s q : Said} {v : List ℕ} (had : List ℕ) → s ≡ q → n ≡ s.number → p ≡ s.place
    → v ≡ s.values → n ≡ 0
    → record { value : n ≡ q.number; place_after : p ≡ q.place; figures_after : v ≡ values_or q had }
answer_values {s} had e f g h z =
    rw (← e) (record { value = f; place_after = g; figures_after = rw (eq-eqb s.number 0 (sym f ∙ z)) h })

pub answer_no_values : {n p : ℕ} {s q : Said} (had : List ℕ) → s ≡ q → n ≡ s.number → p ≡ s.place → (n ≡ 0 → ⊥)
    → record { value : n ≡ q.number; place_after : p ≡ q.place; figures_after : had ≡ values_or q had }
answer_no_values {s} had e f g d =
    rw (← e) (record { value = f; place_after = g; figures_after = rw (ne_eqb s.number 0 (λ z. d (f ∙ z))) })

pub outcome-transformed : (o : Outcome) (i : Inputs) → (transformed o i).outcome ≡ o
unfolding transformed
outcome-transformed (Ok tt) i = refl
outcome-transformed (Err r) i = refl

pub key-transformed : (o : Outcome) (i : Inputs) → o ≡ (Ok tt) → (transformed o i).key ≡ tag i
unfolding transformed
key-transformed o i e = rw e

pub kept_or-wrote : {k : ℕ} {x y : List ℕ} (had : List ℕ) → 0 ≡ k → x ≡ y → x ≡ kept_or k y had
kept_or-wrote had e f = rw (sym e) f

pub kept_or_17 : {n k : ℕ} {had : List ℕ} (y : List ℕ) → n ≡ k → n ≡ 17 → had ≡ kept_or k y had
kept_or_17 y e a = rw (sym e ∙ a)

pub kept_or_19 : {n k : ℕ} {had : List ℕ} (y : List ℕ) → n ≡ k → n ≡ 19 → had ≡ kept_or k y had
kept_or_19 y e a = rw (sym e ∙ a)

pub kept_or_next : {n k : ℕ} {x y : List ℕ} (had : List ℕ) → n ≡ k → (n ≡ 17 → ⊥) → (n ≡ 19 → ⊥) → x ≡ y
    → x ≡ kept_or k y had
kept_or_next {n} had e a b f = rw (sym e, ne_eqb n 17 a, ne_eqb n 19 b) f

pub kept_wrote : {w v : Written} {n : ℕ} {x y : List ℕ} (had : List ℕ) → w ≡ v → w ≡ Ok n → x ≡ y
    → x ≡ kept_unless v y had
kept_wrote had e a f = rw (sym e ∙ a) f

pub kept_refused : {w v : Written} {r : Refusal} {had : List ℕ} (y : List ℕ) → w ≡ v → w ≡ Err r
    → had ≡ kept_unless v y had
kept_refused y e a = rw (sym e ∙ a)

pub join_is : (l r y z : List ℕ) → length l ≡ 16 → length r ≡ 16 → y ≡ put_at 0 l (replicate 32 0)
    → z ≡ put_at 16 r y
    → z ≡ l ++ r
join_is l r y z a b e f =
    let n : length (l ++ r) ≡ length {A = ℕ} (replicate 32 0) = rw (length-append, a, b, length-replicate) in
    laid_more l r (replicate 32 0) y z 16 a (laid_first l (replicate 32 0) y e) f ∙ over_whole (l ++ r) (replicate 32 0) n
