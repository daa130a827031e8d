-- `open_whole::piece_before` meets its contract. Assumes nothing.
use mathlib.Core.Path.{◌≡◌, sym, ◌∙◌}
use Prim.Native.Nat.{◌-◌, ◌≤◌}
use native.Mathlib.Omega.{arith}
use lib.ListN.{length, drop, length-drop}
use Rattle.open_whole.specs.Ciphertext.{text}
use Rattle.open_whole.proofs.Laws.Fill.{over_full}
use Rattle.open_whole.proofs.Laws.Payload.{previous_one, previous_two}
use borrow.Author.Rules.{rules}
use Rattle.open_whole.proofs.piece_before.Goals as goal

pub returns-then-c-lt32 : goal.returns-then-c-lt32
returns-then-c-lt32 c =
    let a = c.args in
    sym (previous_one a.k.nonce (text a.f.now a.p) a.c (omega arith))

pub returns : goal.returns
returns c =
    let a = c.args in
    let t = text a.f.now a.p in
    let d = drop (a.c - 32) t in
    let l : length a.k.nonce ≡ 16 = search rules in
    let e : 16 ≤ length d = simp length-drop (omega (arith, c.requires.c_value)) in
    let m : 32 ≤ a.c = omega arith in
    over_full d a.k.nonce c.copy_text.new.out 16 l e c.copy_text.ensures
    ∙ sym (previous_two a.k.nonce t a.c c.requires.c_value c.requires.c_value_2.0 m)
