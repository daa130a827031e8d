-- `header_writer::write_end` meets its contract. Assumes nothing.
use mathlib.Core.Path.{refl}
use Rattle.header_writer.proofs.Laws.Layout.{end_none, end_custom}
use Rattle.header_writer.proofs.write_end.Goals as goal

pub returns-then-custom-eq0 : goal.returns-then-custom-eq0
returns-then-custom-eq0 c =
    end_none c.args.custom.now _ c.args.out.now _ c.args.at
    c.if-custom-eq0.true refl
    c.put.ensures

pub returns : goal.returns
returns c =
    end_custom c.args.custom.now _ c.args.out.now _ _ c.args.at c.if-custom-eq0.false refl
    c.put-2.ensures c.put-3.ensures
