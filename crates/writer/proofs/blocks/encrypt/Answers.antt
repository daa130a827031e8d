-- `writer::blocks::encrypt` meets its contract. Assumes nothing.
use mathlib.Core.Path.{ap, ◌∙◌}
use mathlib.Core.List.{List}
use Prim.Native.Nat.{ℕ}
use Rattle.slices.specs.Over.{over}
use Rattle.writer.proofs.Laws.Stretches.{stretch_aes, prev_aes, prev_chacha, chacha_over}
use Rattle.writer.proofs.blocks.encrypt.Goals as goal

pub returns-in-Aes256 : goal.returns-in-Aes256
returns-in-Aes256 c =
    let a = c.args in
    let s = a.out.now in
    let e = c.in-Aes256.is in
    let h = c.encrypt_cbc.ensures in
    record {
      value = h.value ∙ prev_aes a.keys.cipher a.keys a.prev s e;
      out_after = h.out_after ∙ ap (λ (t : List ℕ). over t s) (stretch_aes a.keys.cipher a.keys a.prev a.at s e);
    }

pub returns-in-ChaCha20 : goal.returns-in-ChaCha20
returns-in-ChaCha20 c =
    let a = c.args in
    let s = a.out.now in
    let e = c.in-ChaCha20.is in
    record {
      value = prev_chacha a.keys.cipher a.keys a.prev s e;
      out_after = chacha_over a.keys.cipher a.keys a.prev a.at s _ _ e c.short_nonce-first.ensures c.apply.ensures;
    }
