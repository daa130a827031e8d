-- `aes_kdf::Transformation::is_open` meets its contract. Assumes nothing.
use mathlib.Core.Path.{sym, ◌∙◌}
use Rattle.aes_kdf.specs.AesKdf.{is_open}
use Rattle.aes_kdf.proofs.Transformation.is_open.Goals as goal

pub returns-in-Refused : goal.returns-in-Refused
unfolding is_open
returns-in-Refused c = rw c.in-Refused.is

pub returns-then-rounds_fit : goal.returns-then-rounds_fit
unfolding is_open
returns-then-rounds_fit c =
    rw (c.in-Accepted.is, sym c.rounds_fit.ensures ∙ c.if-rounds_fit.true)

pub returns-else-rounds_fit : goal.returns-else-rounds_fit
unfolding is_open
returns-else-rounds_fit c =
    rw (c.in-Accepted.is, sym c.rounds_fit.ensures ∙ c.if-rounds_fit.false)
    c.if-rounds_fit.false
