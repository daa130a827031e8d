-- `opener::step_closing` meets its contract. Assumes nothing.
use Rattle.std.specs.Prelude.{Ok}
use mathlib.Core.Path.{refl, sym, ap, ◌∙◌}
use mathlib.Core.List.{[]}
use native.Mathlib.Omega.{arith}
use lib.ListN.{length}
use Rattle.slices.proofs.Laws.Over.{over_nil}
use Rattle.refusals.specs.declared.Refusal.TheVariants.{TrailingBytes}
use Rattle.ciphers.specs.declared.Cipher.TheVariants.{Aes256, ChaCha20}
use Rattle.opening.specs.declared.Opener.{Opener}
use Rattle.opening.specs.declared.Phase.TheVariants.{Closed, Ended}
use Rattle.opening.specs.Runs.{refuse, hand}
use Rattle.opening.specs.Steps.{blank}
use Rattle.opener.proofs.Laws.Replies.{close_does, does_by, hand_does, closing_behind, closing_last, chacha_last}
use Rattle.opener.proofs.step_closing.Goals as goal

pub returns-then-o-f : goal.returns-then-o-f
returns-then-o-f c =
    let a = c.args in
    let o = a.o in
    let d = a.out.now in
    does_by _ (refuse TrailingBytes (blank Closed)) _ d d
    (closing_behind a.f.now o (length d) c.if-o-f.true)
    (close_does TrailingBytes _ _ d c.blank.ensures c.refuse.ensures)

pub returns-in-Aes256 : goal.returns-in-Aes256
returns-in-Aes256 c =
    let a = c.args in
    let o = a.o in
    let d = a.out.now in
    does_by _ _ _ d _
    (closing_last a.f.now o (length d) c.if-o-f.false Aes256 c.in-Aes256.is)
    c.close_aes.ensures

pub returns-in-ChaCha20 : goal.returns-in-ChaCha20
returns-in-ChaCha20 c =
    let a = c.args in
    let o = a.o in
    let d = a.out.now in
    does_by _ (hand (length d) [] o (blank Ended)) _ d d
    (closing_last a.f.now o (length d) c.if-o-f.false ChaCha20 c.in-ChaCha20.is
    ∙ chacha_last o.keys o.taken o.prev o.held o (length d))
    (hand_does [] d d 0 o (blank Ended) _ refl (omega arith)
    (ap (λ (x : Opener). record { answer = Ok 0; next = x }) c.blank-in-ChaCha20.ensures) (sym (over_nil d)))
