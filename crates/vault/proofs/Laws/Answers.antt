-- How code answers by the checks of a start.
--
-- In order: start-accepted, start-refused, open_accepted, open_refused.
-- Assumes nothing.
use Rattle.std.specs.Prelude.{Ok, Err}
use mathlib.Core.Path.{◌≡◌, refl, ap, ◌∙◌}
use mathlib.Core.List.{List}
use Prim.Native.Nat.{ℕ}
use Rattle.slices.specs.Over.{over}
use Rattle.refusals.specs.declared.Refusal.{Refusal}
use Rattle.refusals.specs.Numbers.{Written}
use Rattle.opening.specs.declared.Keys.{Keys}
use Rattle.opening.specs.declared.Opener.{Opener}
use Rattle.opening.specs.declared.Phase.TheVariants.{Closed}
use Rattle.opening.specs.Steps.{blank, open_start}
use Rattle.opening.specs.Whole.{whole_in, written_of, shown_of}
use Rattle.vault.specs.Vault.{Begun, start_refused, begun, outcome_of, state_of, opened_by}
use Rattle.opening.proofs.Laws.Replies.{never}
use Rattle.vault.specs.Checked.{checked_of}

pub start-accepted : (b : Begun) (k : Keys) (at : ℕ) (o : Opener) → Ok (k, at) ≡ checked_of b → o ≡ open_start k at
    → record {
      outcome_value : (Ok tt) ≡ outcome_of b;
      next_value : o ≡ state_of b;
    }
unfolding checked_of outcome_of state_of
start-accepted (start_refused r) k at o e g = never (cc e)
start-accepted (begun j p) k at o e g =
    let q : (k, at) ≡ (j, p) = cc e in
    record { outcome_value = refl; next_value = g ∙ ap (λ (z : Keys × ℕ). open_start z.0 z.1) q }

pub start-refused : (b : Begun) (o : Opener) (r : Refusal) → Err r ≡ checked_of b → o ≡ blank Closed
    → record {
      outcome_value : Err r ≡ outcome_of b;
      next_value : o ≡ state_of b;
    }
unfolding checked_of outcome_of state_of
start-refused (start_refused s) o r e g = record { outcome_value = cc e; next_value = g }
start-refused (begun k p) o r e g = never (cc e)

pub open_accepted : (b : Begun) (k : Keys) (at : ℕ) (f d y : List ℕ) (n : ℕ) (w : Written) → Ok (k, at) ≡ checked_of b
    → w ≡ written_of (whole_in k f at n) → y ≡ over (shown_of (whole_in k f at n)) d
    → record {
      value : w ≡ written_of (opened_by b f n);
      out_after : y ≡ over (shown_of (opened_by b f n)) d;
    }
unfolding checked_of opened_by
open_accepted (start_refused r) k at f d y n w e p q = never (cc e)
open_accepted (begun j i) k at f d y n w e p q =
    let z : (k, at) ≡ (j, i) = cc e in
    record {
      value = p ∙ ap (λ (x : Keys × ℕ). written_of (whole_in x.0 f x.1 n)) z;
      out_after = q ∙ ap (λ (x : Keys × ℕ). over (shown_of (whole_in x.0 f x.1 n)) d) z;
    }

pub open_refused : (b : Begun) (f d : List ℕ) (n : ℕ) (r : Refusal) → Err r ≡ checked_of b
    → record {
      value : Err r ≡ written_of (opened_by b f n);
      out_after : d ≡ over (shown_of (opened_by b f n)) d;
    }
unfolding checked_of opened_by written_of shown_of over
open_refused (start_refused s) f d n r e = record { value = cc; out_after = refl }
open_refused (begun k p) f d n r e = never (cc e)
