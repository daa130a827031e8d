-- `inner_stream::InnerStream::is_open` meets its contract. Assumes nothing.
use mathlib.Core.Path.{sym, ◌∙◌}
use native.Mathlib.Nat.{add-zero}
use Rattle.inner_stream.specs.State.{is_open}
use Rattle.inner_stream.proofs.InnerStream.is_open.Goals as goal

pub returns-then-has_cipher : goal.returns-then-has_cipher
unfolding is_open
returns-then-has_cipher c =
    rw (sym c.has_cipher.ensures ∙ c.if-has_cipher.true)
    (c.stretch_fits.ensures ∙ rw add-zero)

pub returns : goal.returns
unfolding is_open
returns c = rw (sym c.has_cipher.ensures ∙ c.if-has_cipher.false)
