-- `open_whole::fill_aes` meets its contract. Assumes nothing.
use mathlib.Core.Path.{◌≡◌, refl, ap, ◌∙◌}
use Prim.Native.Nat.{◌%◌}
use lib.ListN.{length, take}
use lib.Seq.{length-take-le}
use Rattle.opening.specs.Decryption.{aes_from}
use Rattle.open_whole.specs.Ciphertext.{text}
use Rattle.open_whole.proofs.Laws.Fill.{over_full}
use Rattle.open_whole.proofs.Laws.Payload.{aes_from_over}
use borrow.Author.Rules.{rules}
use Rattle.open_whole.proofs.fill_aes.Goals as goal

pub returns : goal.returns
returns c =
    let nonce_size : length c.args.k.nonce ≡ 16 = search rules in
    let a = c.args in
    let d = a.out.now in
    let t = text a.f.now a.p in
    let x = c.copy_text.new.out in
    let e : x ≡ take (length d) t = over_full t d x (length d) refl c.requires.0 c.copy_text.ensures in
    let n : length x ≡ length d = ap length e ∙ length-take-le (length d) t c.requires.0 in
    let h : length x % 16 ≡ 0 = ap (λ i. i % 16) n ∙ c.requires.1 in
    aes_from_over a.k a.k.nonce x c.decrypt_cbc.new.out nonce_size h
    c.decrypt_cbc.ensures.out_after
    ∙ ap (aes_from a.k a.k.nonce) e
