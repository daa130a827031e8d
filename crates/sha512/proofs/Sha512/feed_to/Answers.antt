-- `sha512::Sha512::feed_to` meets its contract. Assumes nothing.
use Rattle.std.proofs.Common.{ap, ◌∙◌}
use Rattle.fips180.specs.Fips180.{sha512}
use Rattle.fips180.specs.Hashing as hashing
use Rattle.fips180.specs.Hashing.{Hashing}
use Rattle.sha512.specs.State.{stored}
use Rattle.sha512.specs.declared.Fed.{Fed}
use Rattle.sha512.proofs.Sha512.feed_to.Goals as goal

abbrev kept : hashing.Fed → Fed
kept f = record { outcome = f.outcome; next = stored f.next }

pub returns : goal.returns
returns c =
    ap (λ (h : Hashing). record { outcome = c.feed_standard-fed.result.outcome; next = stored h }) c.of.ensures
    ∙ ap kept (c.feed_standard-fed.ensures
    ∙ ap (λ (h : Hashing). hashing.feed_to sha512 c.args.limit h c.args.s.now) c.state.ensures)
