-- The theorems of AES-KDF in steps, over the definitions that the contracts of `start`, `advance` and `finish` equate
-- the code with, so that they hold of the code. Document 01 calls a step of n rounds a helping of n.
--
-- In order:
--   stored-zero, stored-add, advances-total
--                             of any state: a step of 0, one behind another, a list of steps
--   helpings-add              .. in one statement: document 02, Item 9
--   held-started              the state of an accepted start
--   transformation_of_steps   after any list of steps the halves and the count are those of so many rounds, in one state
--   key_at_end                once all rounds are done, T is the definition's
--   key_too_early             before, there is none: refusal 19
--   key_in_one_step           all rounds in one step
--   started_within            an accepted start has no more rounds than the limit
--   done_by-le, done_by_end   no more rounds are done than are asked for; j steps of n do all of r where j * n is at least r
--   steps_end, steps_short    r / n rounded up steps of n, n at least 1, do all of r, and so do more; fewer do fewer
--   helpings_end              .. in one statement: after so many or more T is the definition's, and before it is 19
--   key_of_no_rounds          R = 0 has T from the start
-- Assumes nothing.
use Rattle.std.specs.Prelude.{Ok, Err}
use mathlib.Core.Path.{◌≡◌, refl, sym, ap, ◌∙◌}
use mathlib.Core.List.{List, [], ◌∷◌}
use Prim.Native.Nat.{ℕ, zero, suc, ◌+◌, ◌-◌, ◌*◌, ◌≤◌, ◌<◌, min}
use native.Mathlib.Nat.{div-add-mod', mod-lt, mul-le-mul_right, suc-mul}
use native.Mathlib.Omega.{arith}
use lib.Dec.{leb}
use lib.ListN.{replicate}
use borrow.Author.Tests.{eq-eqb, ne_eqb, le-leb, leb-true}
use Rattle.words.specs.Sums.{total}
use Rattle.words.proofs.Laws.Cases.{by_bool}
use Rattle.refusals.specs.declared.Refusal.TheVariants.{OutOfSequence}
use Rattle.refusals.specs.Limits.{rounds_limit}
use Rattle.aes_kdf.specs.declared.Transformation.{Transformation}
use Rattle.aes_kdf.specs.declared.Transformed.{Transformed}
use Rattle.aes_kdf.specs.AesKdf as kdf
use Rattle.aes_kdf.specs.AesKdf.{Transforming, transformed_key, after, done_by}
use Rattle.aes_kdf.specs.State.{held, stored, started, advanced, advances, finished, Adds, rounded_up, EndsWithin}
use Rattle.aes_kdf.proofs.Laws.{
  advanced-zero,
  advanced-add,
  held-stored,
  stored-held,
  open_after,
  advanced_after,
}

stored-zero : (t : Transformation) → advanced 0 t ≡ t
stored-zero t = ap stored (advanced-zero (held t)) ∙ stored-held t

stored-add : (a b : ℕ) (t : Transformation) → advanced b (advanced a t) ≡ advanced (a + b) t
stored-add a b t =
    ap (λ (x : kdf.Transforming). stored (kdf.advanced b x)) (held-stored (kdf.advanced a (held t)))
    ∙ ap stored (advanced-add (held t) a b)

advances-total : (ns : List ℕ) (t : Transformation) → advances ns t ≡ advanced (total ns) t
unfolding advances total
advances-total [] t = sym (stored-zero t)
advances-total (n ∷ ns) t = advances-total ns (advanced n t) ∙ stored-add n (total ns) t

-- every state: refused ones, those at their end, and those that no call could have made
pub helpings-add : (t : Transformation) → Adds t
helpings-add t =
    record {
      helping_add = λ a b. stored-add a b t;
      helping_zero = stored-zero t;
      helpings_total = λ ns. advances-total ns t;
    }

pub done_by-le : (r : ℕ) (ns : List ℕ) (d : ℕ) → d ≤ r → done_by r ns d ≤ r
unfolding done_by
done_by-le r [] d l = l
done_by-le r (n ∷ ns) d l = done_by-le r ns (d + min n (r - d)) (omega arith)

pub done_by_end : (r n j d : ℕ) → d ≤ r → r ≤ d + j * n → done_by r (replicate j n) d ≡ r
unfolding done_by
done_by_end r n zero d l h = omega arith
done_by_end r n (suc j) d l h =
    let e : r ≤ d + (j * n + n) = rw suc-mul at h in
    done_by_end r n j (d + min n (r - d)) (omega arith) (omega arith)

-- the struct of an answer
abbrev answered : kdf.Transformed → Transformed
answered t = record { outcome = t.outcome; key = t.key }

module _ (c s : List ℕ) (r : ℕ) (within : r ≤ rounds_limit) where
  held-advances : (ns : List ℕ) (d : ℕ) → d ≤ r → (t : Transformation) → held t ≡ after c s r d
      → held (advances ns t) ≡ after c s r (done_by r ns d)
  unfolding advances done_by
  held-advances [] d l t e = e
  held-advances (n ∷ ns) d l t e =
      held-advances ns (d + min n (r - d)) (omega arith) (advanced n t)
      (held-stored (kdf.advanced n (held t)) ∙ ap (kdf.advanced n) e ∙ advanced_after c s r within n d l)

  pub held-started : held (started c s r).next ≡ after c s r 0
  unfolding kdf.start
  held-started = rw (le-leb _ _ within) (held-stored (after c s r 0))

  pub transformation_of_steps : (ns : List ℕ) → held (advances ns (started c s r).next) ≡ after c s r (done_by r ns 0)
  transformation_of_steps ns = held-advances ns 0 (omega arith) (started c s r).next held-started

  -- T's answer by the rounds done
  finish_after : (d : ℕ) → d ≡ r → kdf.finish (after c s r d) ≡ record {
    outcome = Ok tt;
    key = transformed_key c s r;
  }
  unfolding kdf.finish after transformed_key
  finish_after d e = rw (e, open_after c s r within r (omega arith), eq-eqb r r refl)

  finish_early : (d : ℕ) → d ≤ r → (d ≡ r → ⊥)
      → kdf.finish (after c s r d) ≡ record { outcome = Err OutOfSequence; key = replicate 32 0 }
  unfolding kdf.finish after
  finish_early d l n = rw (open_after c s r within d l, ne_eqb d r n)

  pub key_at_end : (ns : List ℕ) → done_by r ns 0 ≡ r
      → finished (advances ns (started c s r).next) ≡ record { outcome = Ok tt; key = transformed_key c s r }
  key_at_end ns e =
      ap answered (ap kdf.finish (transformation_of_steps ns) ∙ finish_after (done_by r ns 0) e)

  pub key_too_early : (ns : List ℕ) → (done_by r ns 0 ≡ r → ⊥)
      → finished (advances ns (started c s r).next) ≡ record { outcome = Err OutOfSequence; key = replicate 32 0 }
  key_too_early ns n =
      ap answered (ap kdf.finish (transformation_of_steps ns)
      ∙ finish_early (done_by r ns 0) (done_by-le r ns 0 (omega arith)) n)

  pub key_in_one_step : finished (advanced r (started c s r).next) ≡ record { outcome = Ok tt; key = transformed_key c s r }
  unfolding advances done_by
  key_in_one_step = key_at_end (r ∷ []) (omega arith)

pub started_within : (c s : List ℕ) (r : ℕ) → (started c s r).outcome ≡ (Ok tt) → r ≤ rounds_limit
unfolding kdf.start
started_within c s r e =
    by_bool (leb r rounds_limit) (leb-true r rounds_limit)
    (λ t. let d = rw t at e in
    let z : ◌≡◌ {A = ℕ} 0 1 = cc in absurd (omega arith))

-- so many steps of n as r / n rounded up, or more, do all of r
pub steps_end : (r n j : ℕ) → 1 ≤ n → rounded_up r n ≤ j → done_by r (replicate j n) 0 ≡ r
steps_end r n j h l =
    let m = mod-lt (r + n - 1) h in
    let e : rounded_up r n * n ≤ j * n = mul-le-mul_right n l in
    done_by_end r n j 0 (omega arith) (omega (arith, div-add-mod' (r + n - 1) n))

done_by_short : (r n j d : ℕ) → d + j * n < r → done_by r (replicate j n) d < r
unfolding done_by
done_by_short r n zero d h = omega arith
done_by_short r n (suc j) d h =
    let e : d + (j * n + n) < r = rw suc-mul at h in
    done_by_short r n j (d + min n (r - d)) (omega arith)

-- fewer leave rounds to do
pub steps_short : (r n j : ℕ) → 1 ≤ n → j < rounded_up r n → done_by r (replicate j n) 0 < r
steps_short r n j h l =
    let e : suc j * n ≤ rounded_up r n * n = mul-le-mul_right n l in
    let m : j * n + n ≤ rounded_up r n * n = rw suc-mul at e in
    done_by_short r n j 0 (omega (arith, div-add-mod' (r + n - 1) n))

pub helpings_end : (c s : List ℕ) (r n : ℕ) → r ≤ rounds_limit → 1 ≤ n → EndsWithin c s r n
helpings_end c s r n w h =
    record {
      all_done =
          λ j l. transformation_of_steps c s r w (replicate j n) ∙ ap (after c s r) (steps_end r n j h l);
      key_then = λ j l. key_at_end c s r w (replicate j n) (steps_end r n j h l);
      none_before =
          λ j l. key_too_early c s r w (replicate j n)
          (λ q. let d = steps_short r n j h l in omega arith);
    }

-- "R = 0 is at its end from the start"
pub key_of_no_rounds : (c s : List ℕ) → finished (started c s 0).next ≡ record {
  outcome = Ok tt;
  key = transformed_key c s 0;
}
unfolding advances done_by
key_of_no_rounds c s = key_at_end c s 0 (omega arith) [] refl
