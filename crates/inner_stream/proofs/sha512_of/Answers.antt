-- `inner_stream::sha512_of` meets its contract. Assumes nothing.
use mathlib.Core.Path.{ap, ◌∙◌}
use Rattle.fips180.specs.Fips180.{sha512}
use Rattle.fips180.proofs.Laws.Feeds.{hashed-digest}
use Rattle.sha512.specs.declared.Hashed.{Hashed}
use Rattle.inner_stream.proofs.sha512_of.Goals as goal

pub returns : goal.returns
returns c =
    ap (λ (h : Hashed). h.digest) c.hash.ensures ∙ hashed-digest sha512 c.args.key.now c.requires
