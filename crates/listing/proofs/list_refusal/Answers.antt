-- `listing::list_refusal` meets its contract. Assumes nothing.
use Rattle.listing.proofs.Laws.Places.{refusal_number, refusal_placed}
use Rattle.listing.proofs.list_refusal.Goals as goal

pub returns-then-n-eq1 : goal.returns-then-n-eq1
returns-then-n-eq1 c =
    rw (refusal_number _ _ c.number-n.ensures c.if-n-eq1.true) c.list_number.ensures

pub returns : goal.returns
returns c =
    rw (refusal_placed _ _ _ c.number-n.ensures c.place.ensures c.if-n-eq1.false) c.list_place.ensures
