-- `opener::held::keep` meets its contract. Assumes nothing.
use mathlib.Core.Path.{◌≡◌, refl}
use mathlib.Core.List.{List, ◌++◌}
use Prim.Native.Nat.{ℕ, ◌+◌}
use native.Mathlib.Omega.{arith}
use lib.ListN.{length, take, length-drop}
use Rattle.opener.proofs.Laws.Runs.{length_run, padded_more, padded_all}
use borrow.Author.Rules.{rules}
use Rattle.opener.proofs.held.keep.Goals as goal

pub loop-i-preserved : goal.loop-i-preserved
loop-i-preserved c =
    let a = c.args in
    let s : List ℕ = take a.h a.held ++ a.d.now in
    let n : length s ≡ a.h + length a.d.now = length_run a.held a.d.now a.h (search rules) in
    rw c.joined_at.ensures (padded_more s c.loop-i.a a.at c.loop-i.i c.loop-i.invariant (search rules) (omega arith))

pub returns : goal.returns
returns c =
    let a = c.args in
    let s : List ℕ = take a.h a.held ++ a.d.now in
    let n : length s ≡ a.h + length a.d.now = length_run a.held a.d.now a.h (search rules) in
    padded_all s c.loop-i.a a.at c.loop-i.i c.loop-i.invariant (simp length-drop (omega arith))

pub loop-i-init : goal.loop-i-init
loop-i-init c = refl
