-- The writer takes what document 01 does not refuse.
--
-- In order:
--   values_flagged     attachments with their flags byte, that fit a payload, are values of a run
--   writable_writes    THE THEOREM: what is not refused is written, and the answer is the payload's length
--   writable_reads     so what is not refused is written, and read with the same algorithm, key, attachments and document
-- Assumes nothing.
use Rattle.std.specs.Prelude.{Ok}
use mathlib.Core.Path.{◌≡◌}
use mathlib.Core.List.{List, [], ◌∷◌}
use Prim.Native.Nat.{ℕ, ◌^◌, ◌<◌}
use native.Mathlib.Omega.{arith}
use lib.ListN.{length, length-append}
use borrow.Author.Tests.{le-leb}
use Rattle.refusals.specs.Limits.{payload_limit}
use Rattle.refusals.proofs.Laws.Limits.{payload_size}
use Rattle.fields.specs.Fields.{field_bytes}
use Rattle.fields.proofs.Laws.Written.{length-field_bytes}
use Rattle.inner_header.specs.Writer.{run, run_bytes, run_then, verdict, sized, planned, writing, payload_bytes}
use Rattle.inner_header.specs.Writable.{Flagged, size_of, Writable}
use Rattle.inner_header.specs.ReadBack.{Reads}
use Rattle.inner_header.proofs.Laws.Values.{Values, run_values}
use Rattle.inner_header.proofs.RoundTrip.{read_written}

values_flagged : (vs : List (List ℕ)) → Flagged vs → length (run_bytes vs) < 2 ^ 31 → Values vs
values_flagged [] f h = omega arith
values_flagged (v ∷ vs) f h =
    let n = length-append (field_bytes 3 v) (run_bytes vs) in
    let m = length-field_bytes 3 v in
    (f.0, omega arith, values_flagged vs f.1 (omega arith))

module _ (algorithm : ℕ) (key : List ℕ) (vs : List (List ℕ)) (document : List ℕ) (room : ℕ)
    (w : Writable algorithm key vs document room) where
  verdict_is : verdict (run (run_bytes vs)) ≡ Ok tt
  unfolding verdict
  verdict_is = rw (run_values vs (values_flagged vs w.flagged (omega (arith, w.payload_le, payload_size))))

  -- THE THEOREM
  pub writable_writes : writing algorithm key (run_bytes vs) document room ≡ Ok (size_of key vs document)
  unfolding writing planned run_then sized
  writable_writes =
      rw (
        w.listed,
        verdict_is,
        le-leb (size_of key vs document) payload_limit w.payload_le,
        le-leb (size_of key vs document) room w.room_le,
      )

  pub writable_reads : Reads algorithm key (run_bytes vs) document (payload_bytes algorithm key (run_bytes vs) document)
  writable_reads =
      read_written algorithm key (run_bytes vs) document room (size_of key vs document) writable_writes
