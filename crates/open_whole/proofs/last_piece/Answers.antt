-- `open_whole::last_piece` meets its contract. Assumes nothing.
use mathlib.Core.Path.{◌≡◌, refl, ap, ap₂, ◌∙◌}
use Prim.Native.Nat.{◌-◌, ◌%◌}
use native.Mathlib.Omega.{arith}
use lib.ListN.{length, drop, replicate, length-drop}
use lib.Seq.{take_all}
use Rattle.opening.specs.Decryption.{aes_from}
use Rattle.open_whole.specs.Ciphertext.{text}
use Rattle.open_whole.proofs.Laws.Fill.{over_full}
use Rattle.open_whole.proofs.Laws.Payload.{aes_from_over}
use borrow.Author.Rules.{rules}
use Rattle.open_whole.proofs.last_piece.Goals as goal

pub returns : goal.returns
returns c =
    let a = c.args in
    let t = text a.f.now a.p in
    let s = drop (a.c - 16) t in
    let x = c.copy_text.new.out in
    let v = c.piece_before-before.result in
    let n : length s ≡ 16 = simp length-drop (omega (arith, c.requires.c_value)) in
    let e : x ≡ s =
    over_full s (replicate 16 0) x 16 refl (omega arith) c.copy_text.ensures ∙ take_all 16 s (omega arith) in
    let l : length v ≡ 16 = search rules in
    let m : length x ≡ 16 = ap length e ∙ n in
    let h : length x % 16 ≡ 0 = omega arith in
    aes_from_over a.k v x c.decrypt_cbc.new.out l h c.decrypt_cbc.ensures.out_after
    ∙ ap₂ (aes_from a.k) c.piece_before-before.ensures e
