-- `hmac::Hmac::start` meets its contract. Assumes nothing.
use mathlib.Core.Path.{sym, ◌∙◌}
use lib.ListN.{length}
use borrow.Author.Tests.{leb-true}
use Rattle.refusals.specs.Limits.{message_limit}
use Rattle.hmac.specs.Tagging.{start}
use Rattle.hmac.proofs.Hmac.start.Goals as goal

pub key_block-requires : goal.key_block-requires
key_block-requires c =
    leb-true (length c.args.key.now) message_limit
    (sym c.message_fits.ensures ∙ c.if-message_fits.true)

pub returns-then-message_fits : goal.returns-then-message_fits
unfolding start
returns-then-message_fits c =
    rw (
      sym c.message_fits.ensures
          ∙ c.if-message_fits.true,
      c.begin.ensures,
      c.key_block.ensures,
    )

pub returns : goal.returns
unfolding start
returns c =
    rw (sym c.message_fits.ensures ∙ c.if-message_fits.false, c.close.ensures)
