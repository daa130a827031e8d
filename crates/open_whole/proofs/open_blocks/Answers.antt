-- `open_whole::open_blocks` meets its contract. Assumes nothing.
use Rattle.std.specs.Prelude.{Err}
use mathlib.Core.Path.{refl, sym, ap, ◌∙◌}
use Rattle.ciphers.specs.declared.Cipher.{Cipher}
use Rattle.ciphers.specs.declared.Cipher.TheVariants.{Aes256, ChaCha20}
use Rattle.opening.specs.Decryption.{refused, payload_by}
use Rattle.open_whole.specs.Ciphertext.{text}
use Rattle.open_whole.proofs.Laws.Passes.{length-text, whole_refused, whole_text}
use Rattle.open_whole.proofs.Laws.Answers.{answered-refused, answered_whole}
use Rattle.open_whole.proofs.open_blocks.Goals as goal

pub returns-in-Err : goal.returns-in-Err
returns-in-Err c =
    let a = c.args in
    let r = c.in-Err.r in
    let d = a.out.now in
    answered_whole a.k a.f.now a.p (refused r) (Err r) d d
    (whole_refused a.k a.f.now a.p r (sym c.survey.ensures ∙ c.in-Err.is))
    (answered-refused (refused r) r d refl)

pub open_aes-requires : goal.open_aes-requires
open_aes-requires c =
    let a = c.args in
    length-text a.k.base a.f.now a.p c.in-Ok.count
    (sym c.survey.ensures ∙ c.in-Ok.is)

pub open_chacha20-requires : goal.open_chacha20-requires
open_chacha20-requires c =
    let a = c.args in
    length-text a.k.base a.f.now a.p c.in-Ok.count
    (sym c.survey.ensures ∙ c.in-Ok.is)

pub returns-in-Aes256 : goal.returns-in-Aes256
returns-in-Aes256 c =
    let a = c.args in
    let t = text a.f.now a.p in
    answered_whole a.k a.f.now a.p (payload_by Aes256 a.k t) c.open_aes.result a.out.now
    c.open_aes.new.out
    (whole_text a.k a.f.now a.p c.in-Ok.count
    (sym c.survey.ensures ∙ c.in-Ok.is)
    ∙ ap (λ (z : Cipher). payload_by z a.k t) c.in-Aes256.is)
    c.open_aes.ensures

pub returns-in-ChaCha20 : goal.returns-in-ChaCha20
returns-in-ChaCha20 c =
    let a = c.args in
    let t = text a.f.now a.p in
    answered_whole a.k a.f.now a.p (payload_by ChaCha20 a.k t) c.open_chacha20.result a.out.now
    c.open_chacha20.new.out
    (whole_text a.k a.f.now a.p c.in-Ok.count
    (sym c.survey.ensures ∙ c.in-Ok.is)
    ∙ ap (λ (z : Cipher). payload_by z a.k t) c.in-ChaCha20.is)
    c.open_chacha20.ensures
