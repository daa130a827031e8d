-- `header_writer::write_front` meets its contract. Assumes nothing.
use mathlib.Core.Path.{◌≡◌, refl}
use lib.ListN.{length}
use Rattle.header_writer.proofs.Laws.Layout.{front_laid}
use borrow.Author.Rules.{rules}
use Rattle.header_writer.proofs.write_front.Goals as goal

pub returns : goal.returns
returns c =
    let long_seed : length c.args.seed ≡ 32 = search rules in
    front_laid c.args.minor c.args.c c.args.seed long_seed c.args.out.now _ _ _ _ _ _ _
    c.version_bytes-version.ensures c.identifier-id.ensures refl c.put.ensures c.put-2.ensures c.put-3.ensures
    c.put-4.ensures
