-- `hmac::tag` meets its contract. Assumes nothing.
use mathlib.Core.Path.{◌≡◌, sym, ap, ◌∙◌}
use lib.ListN.{length}
use borrow.Author.Tests.{leb-true}
use Rattle.refusals.specs.Limits.{message_limit}
use Rattle.fips180.specs.Fips180.{sha256}
use Rattle.hmac.specs.Rfc2104.{hmac}
use Rattle.hmac.specs.Tagging.{tagged}
use Rattle.hmac.specs.State.{fed, finished}
use Rattle.hmac.specs.declared.Keyed.{Keyed}
use Rattle.hmac.proofs.Parts.{hmac_sha256_of_one}
use Rattle.hmac.proofs.tag.Goals as goal

pub returns-then-message_fits-2 : goal.returns-then-message_fits-2
unfolding tagged
returns-then-message_fits-2 c =
    let k = c.args.key.now in
    let m = c.args.m.now in
    let tk = sym c.message_fits.ensures ∙ c.if-message_fits.true in
    let tm = sym c.message_fits-then-message_fits.ensures ∙ c.if-message_fits-2.true in
    let e : c.finish-tag.result ≡ hmac sha256 k m = c.finish-tag.ensures
    ∙ ap (λ (f : Keyed). finished f.next)
    (c.feed.ensures ∙ ap (λ (t : Keyed). fed t.next m) c.start.ensures)
    ∙ hmac_sha256_of_one k m (leb-true (length k) message_limit tk) (leb-true (length m) message_limit tm) in
    rw (tk, tm, e)

pub returns-else-message_fits-2 : goal.returns-else-message_fits-2
unfolding tagged
returns-else-message_fits-2 c =
    rw (sym c.message_fits.ensures ∙ c.if-message_fits.true, sym c.message_fits-then-message_fits.ensures ∙ c.if-message_fits-2.false)

pub returns-else-message_fits : goal.returns-else-message_fits
unfolding tagged
returns-else-message_fits c = rw (sym c.message_fits.ensures ∙ c.if-message_fits.false)
