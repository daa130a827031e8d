-- `writer::blocks::lay_text` meets its contract. Assumes nothing.
use mathlib.Core.Path.{◌≡◌, ap, ◌∙◌}
use mathlib.Core.List.{List}
use Prim.Native.Nat.{ℕ, ◌≤◌}
use native.Mathlib.Omega.{arith}
use lib.ListN.{length}
use Rattle.slices.specs.Over.{over}
use Rattle.slices.proofs.Laws.Over.{over_fits}
use Rattle.pkcs7.specs.Pkcs7.{pad}
use Rattle.writer.specs.Stretches.{text_of}
use Rattle.writer.proofs.Laws.Stretches.{length-text_of, text_aes, text_chacha}
use Rattle.writer.proofs.Laws.Laying.{text-padded}
use Rattle.writer.proofs.blocks.lay_text.Goals as goal

pub returns-in-ChaCha20 : goal.returns-in-ChaCha20
returns-in-ChaCha20 c =
    let b = c.args.piece.now in
    let d = c.args.out.now in
    let e : b ≡ text_of c.args.c b = text_chacha c.args.c b c.in-ChaCha20.is in
    let h : length b ≤ length d = omega (arith, c.requires, length-text_of c.args.c b, ap length e) in
    c.copy.ensures ∙ over_fits b d h ∙ ap (λ (w : List ℕ). over w d) e

pub returns : goal.returns
returns c =
    let b = c.args.piece.now in
    let d = c.args.out.now in
    let e : pad b ≡ text_of c.args.c b = text_aes c.args.c b c.in-Aes256.is in
    let h : length (pad b) ≤ length d = omega (arith, c.requires, length-text_of c.args.c b, ap length e) in
    c.pad.ensures ∙ text-padded b d _ h c.copy.ensures ∙ ap (λ (w : List ℕ). over w d) e
