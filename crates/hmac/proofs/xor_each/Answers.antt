-- `hmac::xor_each` meets its contract. Assumes nothing.
use Rattle.std.proofs.Common.{◌≤◌, length, sym, ◌∙◌, rules}
use Rattle.std.proofs.lemmas.List.{take_all, drop_all, append-nil}
use Rattle.hmac.proofs.Laws.{xor_each_map, xor_each_more}
use Rattle.hmac.proofs.xor_each.Goals as goal

pub loop-x-preserved : goal.loop-x-preserved
loop-x-preserved c =
    let l = c.loop-x in
    xor_each_more c.args.c c.args.b l.x-items l.x-index (search rules) l.invariant

pub returns : goal.returns
returns c =
    let b = c.args.b in
    let i = c.loop-x.x-index in
    let long : length b ≤ i = search rules in
    rw (take_all i b long, drop_all i b long, append-nil) at c.loop-x.invariant ∙ sym (xor_each_map c.args.c b)
