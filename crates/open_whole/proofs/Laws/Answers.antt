-- An opening as an answer, and what it leaves in the lent slice.
--
-- In order: Answered (the two together), answered-refused, answered_room, answered-opened, answered_whole.
-- Assumes nothing.
use Rattle.std.specs.Prelude.{Ok, Err}
use mathlib.Core.Path.{◌≡◌, refl, sym, ap}
use mathlib.Core.List.{List}
use Prim.Native.Nat.{ℕ, ◌≤◌, ◌<◌}
use native.Mathlib.Omega.{arith}
use lib.ListN.{length}
use borrow.Author.Tests.{lt-ltb, le-ltb}
use Rattle.refusals.specs.declared.Refusal.{Refusal}
use Rattle.refusals.specs.declared.Refusal.TheVariants.{NoRoom}
use Rattle.refusals.specs.Numbers.{Written}
use Rattle.slices.specs.Over.{over}
use Rattle.slices.proofs.Laws.Over.{over_nil}
use Rattle.opening.specs.Decryption.{Opened, refused, opened}
use Rattle.opening.specs.declared.Keys.{Keys}
use Rattle.opening.specs.Whole.{roomed, written_of, shown_of, whole, whole_in}

-- r is the answer of the opening o with the slice d lent, and the slice is then e
abbrev pub Answered : Opened → Written → List ℕ → List ℕ → Type 0
Answered o r d e =
    record {
      value : r ≡ written_of (roomed (length d) o);
      out_after : e ≡ over (shown_of (roomed (length d) o)) d;
    }

pub answered-refused : (o : Opened) (r : Refusal) (d : List ℕ) → o ≡ refused r → Answered o (Err r) d d
unfolding written_of shown_of roomed
answered-refused o r d e = rw e (record { value = refl; out_after = sym (over_nil d) })

pub answered_room : (o : Opened) (b d : List ℕ) → o ≡ opened b → length d < length b
    → Answered o (Err NoRoom) d d
unfolding written_of shown_of roomed
answered_room o b d e h = rw (e, lt-ltb _ _ h) (record { value = refl; out_after = sym (over_nil d) })

pub answered-opened : (o : Opened) (b d x : List ℕ) (n : ℕ) → o ≡ opened b → length b ≡ n → n ≤ length d → x ≡ over b d
    → Answered o (Ok n) d x
unfolding written_of shown_of roomed
answered-opened o b d x n e l h g =
    let k : length b ≤ length d = omega arith in
    rw (e, le-ltb _ _ k) (record { value = ap Ok (sym l); out_after = g })

pub answered_whole : (k : Keys) (f : List ℕ) (p : ℕ) (o : Opened) (r : Written) (d x : List ℕ) → whole k f p ≡ o
    → Answered o r d x
    → record {
      value : r ≡ written_of (whole_in k f p (length d));
      out_after : x ≡ over (shown_of (whole_in k f p (length d))) d;
    }
unfolding whole_in
answered_whole k f p o r d x e h = rw e h
