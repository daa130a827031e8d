-- What a payload that is written passed.
--
-- In order: Planned, planned-wrote.
-- Assumes nothing.
use Rattle.std.specs.Prelude.{Ok, Err}
use mathlib.Core.Path.{◌≡◌, refl}
use mathlib.Core.Bool.{true}
use mathlib.Core.List.{List}
use Prim.Native.Nat.{ℕ, ◌≤◌}
use native.Mathlib.Omega.{arith}
use lib.Dec.{leb}
use lib.ListN.{length}
use borrow.Author.Tests.{leb-true}
use Rattle.words.proofs.Laws.Cases.{by_bool}
use Rattle.refusals.specs.Numbers.{Outcome}
use Rattle.refusals.specs.Limits.{payload_limit}
use Rattle.inner_header.specs.InnerHeader.{algorithm_listed}
use Rattle.refusals.specs.Numbers.{Written}
use Rattle.inner_header.specs.Writer.{run, verdict, payload_length, sized, run_then, planned}

pub record Planned (algorithm key : ℕ) (s : List ℕ) (document room n : ℕ) : Type 0 where
  pub algorithm_is_listed : algorithm_listed algorithm ≡ true
  pub run_fine : verdict (run s) ≡ Ok tt
  pub long : n ≡ payload_length key (length s) document
  pub small : n ≤ payload_limit
  pub room_is : n ≤ room

module _ (algorithm key : ℕ) (s : List ℕ) (document room : ℕ) where
  -- nothing is said of a refusal
  abbrev Kept : Written → Type 0
  Kept (Ok n) = Planned algorithm key s document room n
  Kept (Err r) = 0 ≤ 0

  sized_kept : algorithm_listed algorithm ≡ true → verdict (run s) ≡ Ok tt
      → Kept (sized (payload_length key (length s) document) room)
  unfolding sized
  sized_kept a v =
      by_bool (leb (payload_length key (length s) document) payload_limit)
      (λ t. by_bool (leb (payload_length key (length s) document) room)
      (λ u. rw (t, u) (record {
        algorithm_is_listed = a;
        run_fine = v;
        long = refl;
        small = leb-true (payload_length key (length s) document) payload_limit t;
        room_is = leb-true (payload_length key (length s) document) room u;
      }))
      (λ u. rw (t, u) (omega arith)))
      (λ t. rw t (omega arith))

  run_then_kept : (o : Outcome) → algorithm_listed algorithm ≡ true → verdict (run s) ≡ o
      → Kept (run_then o (sized (payload_length key (length s) document) room))
  unfolding run_then
  run_then_kept (Ok tt) a v = sized_kept a v
  run_then_kept (Err r) a v = omega arith

  planned_kept : Kept (planned algorithm key s document room)
  unfolding planned
  planned_kept =
      by_bool (algorithm_listed algorithm)
      (λ t. rw t (run_then_kept (verdict (run s)) t refl))
      (λ t. rw t (omega arith))

  pub planned-wrote : (n : ℕ) → planned algorithm key s document room ≡ Ok n
      → Planned algorithm key s document room n
  planned-wrote n e = rw e at planned_kept
