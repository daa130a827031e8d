-- `inner_stream::InnerStream::start` meets its contract. Assumes nothing.
use mathlib.Core.Path.{sym, ◌∙◌}
use lib.ListN.{length}
use Rattle.inner_stream.specs.State.{started}
use Rattle.inner_stream.proofs.Laws.{key_message}
use Rattle.inner_stream.proofs.InnerStream.start.Goals as goal

pub at-requires : goal.at-requires
at-requires c =
    key_message (length c.args.key.now)
    (sym c.stream_key_fits.ensures ∙ c.if-stream_key_fits.true)

pub returns-then-stream_key_fits : goal.returns-then-stream_key_fits
unfolding started
returns-then-stream_key_fits c =
    rw (
      sym c.is_listed.ensures ∙ c.if-is_listed.true,
      sym c.stream_key_fits.ensures ∙ c.if-stream_key_fits.true,
      c.at.ensures,
    )

pub returns-then-is_listed : goal.returns-then-is_listed
unfolding started
returns-then-is_listed c =
    c.refuse.ensures
    ∙ rw (
      sym c.is_listed.ensures ∙ c.if-is_listed.true,
      sym c.stream_key_fits.ensures ∙ c.if-stream_key_fits.false,
    )

pub returns : goal.returns
unfolding started
returns c =
    c.refuse-2.ensures ∙ rw (sym c.is_listed.ensures ∙ c.if-is_listed.false)
