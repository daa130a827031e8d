-- `opener::keystream::take_chacha` meets its contract. Assumes nothing.
use mathlib.Core.Path.{sym}
use lib.ListN.{length}
use lib.Seq.{length-take-le}
use Rattle.opener.proofs.Laws.Due.{chacha_over}
use Rattle.opener.proofs.keystream.take_chacha.Goals as goal

pub slice_bounds-apply_run-end-2 : goal.slice_bounds-apply_run-end-2
slice_bounds-apply_run-end-2 c =
    sym (length-take-le (length c.args.d.now) c.args.out.now c.requires)

pub apply_run-requires : goal.apply_run-requires
apply_run-requires c =
    length-take-le (length c.args.d.now) c.args.out.now c.requires

pub returns : goal.returns
returns c =
    let a = c.args in
    chacha_over a.keys a.c a.d.now a.out.now _ c.apply_run.ensures
