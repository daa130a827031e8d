-- `listing::put_line` meets its contract. Assumes nothing.
use Rattle.listing.proofs.Laws.Lines.{hex_line_ends}
use Rattle.listing.proofs.put_line.Goals as goal

pub returns : goal.returns
returns c =
    hex_line_ends c.args.frame.now c.args.out.now _ c.requires c.encode.ensures
