-- `inner_stream::InnerStream::at` meets its contract. Assumes nothing.
use borrow.Author.Tests.{eq-eqb, ne_eqb}
use Rattle.inner_stream.specs.State.{stream_at}
use Rattle.inner_stream.proofs.InnerStream.at.Goals as goal

pub returns-then-algorithm-eq3 : goal.returns-then-algorithm-eq3
unfolding stream_at
returns-then-algorithm-eq3 c =
    rw (
      eq-eqb _ 3 c.if-algorithm-eq3.true,
      c.chacha20_nonce.ensures,
      c.chacha20_key.ensures,
      c.sha512_of-h.ensures,
    )

pub returns : goal.returns
unfolding stream_at
returns c = rw (ne_eqb _ 3 c.if-algorithm-eq3.false, c.sha256_of.ensures)
