-- `aes_kdf::Transformation::start` meets its contract. Assumes nothing.
use Rattle.std.specs.Prelude.{Ok}
use mathlib.Core.List.{List}
use Prim.Native.Nat.{ℕ}
use Rattle.aes_kdf.specs.declared.Mark.TheVariants as marks
use Rattle.aes_kdf.specs.declared.Started.{Started}
use Rattle.aes_kdf.proofs.Laws.{left_is, right_is}
use mathlib.Core.Path.{◌≡◌, sym, ap, ◌∙◌}
use native.Mathlib.Omega.{arith}
use lib.ListN.{length, take, drop}
use borrow.Author.Tests.{leb-true}
use Rattle.refusals.specs.Limits.{rounds_limit}
use Rattle.refusals.proofs.Laws.Limits.{rounds-word}
use Rattle.aes_kdf.specs.AesKdf.{start, after, half_after}
use Rattle.aes.specs.Repeated.{repeated}
use borrow.Author.Rules.{rules}
use Rattle.aes_kdf.proofs.Transformation.start.Goals as goal

-- an accepted start by its parts
abbrev started_with : List ℕ → List ℕ → List ℕ → ℕ → Started
started_with w l r n =
    record {
      outcome = Ok tt;
      next = record { mark = marks.Accepted; keys = record { words = w }; left = l; right = r; done = 0; rounds = n };
    }

pub overflow_cast-result : goal.overflow_cast-result
overflow_cast-result c =
    omega (
      arith,
      rounds-word,
      leb-true c.args.rounds rounds_limit
          (sym c.rounds_fit.ensures
          ∙ c.if-rounds_fit.true),
    )

pub returns-then-rounds_fit : goal.returns-then-rounds_fit
unfolding start after half_after repeated
returns-then-rounds_fit c =
    let long : length c.args.composite ≡ 32 = search rules in
    let k = c.args.composite in
    let l : length k ≡ 32 = long in
    let t = sym c.rounds_fit.ensures ∙ c.if-rounds_fit.true in
    rw (t, left_is k l c.copy.ensures, right_is k l c.copy-then-rounds_fit.ensures)
    (ap (λ (w : List ℕ). started_with w (take 16 k) (drop 16 k) c.args.rounds)
    c.expand.ensures)

pub returns : goal.returns
unfolding start
returns c =
    rw (sym c.rounds_fit.ensures ∙ c.if-rounds_fit.false, c.refuse.ensures)
