-- `ciphers::identify` meets its contract. Assumes nothing.
use mathlib.Core.Path.{sym, ◌∙◌}
use Rattle.ciphers.specs.Ciphers.{cipher_of, identifier}
use Rattle.words.proofs.Laws.Said.{said_too}
use Rattle.ciphers.specs.Answers.{said}
use Rattle.ciphers.proofs.identify.Goals as goal

pub returns-then-same : goal.returns-then-same
unfolding cipher_of identifier
returns-then-same c = said_too said (rw (sym c.same.ensures ∙ c.if-same.true))

pub returns-then-same-2 : goal.returns-then-same-2
unfolding cipher_of identifier
returns-then-same-2 c =
    said_too said
    (rw (
      sym c.same.ensures ∙ c.if-same.false,
      sym c.same-2.ensures ∙ c.if-same-2.true,
    ))

pub returns : goal.returns
unfolding cipher_of identifier
returns c =
    said_too said
    (rw (
      sym c.same.ensures ∙ c.if-same.false,
      sym c.same-2.ensures ∙ c.if-same-2.false,
    ))
