-- `listing::list_frames` meets its contract. Assumes nothing.
use mathlib.Core.Path.{◌≡◌}
use Prim.Native.Nat.{◌+◌, ◌*◌, ◌≤◌, ◌<◌}
use native.Mathlib.Omega.{arith}
use lib.ListN.{length}
use Rattle.outer_header.specs.Frames.{frames}
use Rattle.listing.specs.Listing.{hex_lines}
use Rattle.listing.proofs.Laws.Text.{header-listed, answer-wrote, after_wrote, answer-refused, after_refused}
use Rattle.listing.proofs.list_frames.Goals as goal

pub overflow_mul-n : goal.overflow_mul-n
overflow_mul-n c =
    let x = header-listed c.args.s.now c.args.h c.requires in
    omega (arith, x.small)

pub count_frames-requires : goal.count_frames-requires
count_frames-requires c =
    (header-listed c.args.s.now c.args.h c.requires).end_le

pub overflow_add-n : goal.overflow_add-n
overflow_add-n c =
    let x = header-listed c.args.s.now c.args.h c.requires in
    omega (arith, x.small, x.few, c.count_frames.ensures)

pub put_lines-requires : goal.put_lines-requires
put_lines-requires c =
    let x = header-listed c.args.s.now c.args.h c.requires in
    record {
      s_in_bounds = x.end_le;
      s_in_bounds_2 = omega (arith, x.length_is, c.count_frames.ensures, c.if-n-out.true);
    }

pub returns-then-n-out : goal.returns-then-n-out
returns-then-n-out c =
    let x = header-listed c.args.s.now c.args.h c.requires in
    let w = hex_lines (frames c.args.s.now) in
    let d = c.args.out.now in
    let n = c.count_frames in
    let e : 2 * c.args.h.length + n.result ≡ length w = omega (arith, x.length_is, n.ensures) in
    let i = c.if-n-out.true in
    let l : 2 * c.args.h.length + n.result ≤ length d = omega arith in
    record {
      value = answer-wrote w d _ e l;
      out_after = after_wrote w d _ (omega (arith, e, l)) c.put_lines.ensures;
    }

pub returns : goal.returns
returns c =
    let x = header-listed c.args.s.now c.args.h c.requires in
    let w = hex_lines (frames c.args.s.now) in
    let d = c.args.out.now in
    let l : length d < length w = omega (arith, x.length_is, c.count_frames.ensures, c.if-n-out.false) in
    record {
      value = answer-refused w d l;
      out_after = after_refused w d l;
    }
