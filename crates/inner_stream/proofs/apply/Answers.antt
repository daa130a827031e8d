-- `inner_stream::apply` meets its contract. Assumes nothing.
use mathlib.Core.Path.{sym, ◌∙◌}
use lib.ListN.{length}
use Rattle.slices.proofs.Laws.Over.{over_nil}
use Rattle.inner_stream.specs.InnerStream.{applying, due, applied_bytes}
use Rattle.inner_stream.proofs.Laws.{key_message, cipher_at, position_at, covered_at}
use Rattle.inner_stream.proofs.apply.Goals as goal

pub at-stream-requires : goal.at-stream-requires
at-stream-requires c =
    key_message (length c.args.key.now)
    (sym c.stream_key_fits.ensures ∙ c.if-stream_key_fits.true)

pub write-requires : goal.write-requires
write-requires c =
    let a = c.args in
    rw c.at-stream.ensures (cipher_at a.algorithm a.key.now a.position)

pub returns-then-stream_key_fits : goal.returns-then-stream_key_fits
unfolding applying due applied_bytes
returns-then-stream_key_fits c =
    let a = c.args in
    let m = sym c.is_listed.ensures ∙ c.if-is_listed.true in
    let k = sym c.stream_key_fits.ensures ∙ c.if-stream_key_fits.true in
    let e = c.write.ensures in
    let r = rw (c.at-stream.ensures, position_at a.algorithm a.key.now a.position) at e.value in
    record {
      value = rw (m, k) r;
      out_after = rw (m, k, ← r, ← covered_at a.algorithm a.key.now a.position a.bytes.now, ← c.at-stream.ensures) e.out_after;
    }

pub returns-then-is_listed : goal.returns-then-is_listed
unfolding applying due applied_bytes
returns-then-is_listed c =
    let a = c.args in
    let m = sym c.is_listed.ensures ∙ c.if-is_listed.true in
    let k = sym c.stream_key_fits.ensures ∙ c.if-stream_key_fits.false in
    record {
      value = rw (m, k);
      out_after = rw (m, k) (sym (over_nil a.out.now));
    }

pub returns : goal.returns
unfolding applying due applied_bytes
returns c =
    let a = c.args in
    let m = sym c.is_listed.ensures ∙ c.if-is_listed.false in
    record {
      value = rw m;
      out_after = rw m (sym (over_nil a.out.now));
    }
