-- `hexadecimal::all_digits` meets its contract. Assumes nothing.
use mathlib.Core.Path.{◌≡◌, ◌∙◌}
use mathlib.Core.Bool.{Bool, ◌&&◌, and_assoc}
use mathlib.Core.List.{List}
use Prim.Native.Nat.{ℕ, ◌+◌, ◌≤◌, ◌<◌}
use native.Mathlib.Numerals.{add-one}
use native.Mathlib.Omega.{arith}
use lib.ListN.{length, get_or, drop, drop_of_length-le}
use lib.Seq.{drop-cons}
use Rattle.words.proofs.Laws.Cases.{and_true_r}
use Rattle.hexadecimal.specs.Rfc4648.{is_digit, every, all_digits}
use Rattle.hexadecimal.proofs.all_digits.Goals as goal

-- one character more
digits_more : (all d : Bool) (i : ℕ) (s : List ℕ) → i < length s → d ≡ is_digit (get_or s i 0)
    → ((all && d) && all_digits (drop (i + 1) s)) ≡ (all && all_digits (drop i s))
unfolding every
digits_more all d i s h e = rw (e, and_assoc, add-one, drop-cons s i 0)

digits_all : (all : Bool) (i : ℕ) (s : List ℕ) → length s ≤ i → all ≡ (all && all_digits (drop i s))
unfolding every
digits_all all i s h = rw (drop_of_length-le s h, and_true_r)

pub loop-c-preserved : goal.loop-c-preserved
loop-c-preserved c =
    let l = c.loop-c in
    digits_more l.all _ l.c-index c.args.s.now (omega arith) c.is_digit-all.ensures ∙ l.invariant

pub returns : goal.returns
returns c =
    let l = c.loop-c in
    digits_all l.all l.c-index c.args.s.now (omega arith) ∙ l.invariant
