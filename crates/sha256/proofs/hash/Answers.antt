-- `sha256::hash` meets its contract. Assumes nothing.
use mathlib.Core.Path.{◌≡◌, sym, ap, ◌∙◌}
use Prim.Native.Nat.{◌≤◌}
use lib.ListN.{length}
use borrow.Author.Tests.{leb-true}
use Rattle.refusals.specs.Limits.{message_limit}
use Rattle.fips180.specs.Fips180.{sha256, hash}
use Rattle.fips180.specs.Hashing.{hashed}
use Rattle.fips180.proofs.Laws.Feeds.{hash_is}
use Rattle.sha256.specs.State.{fed, finished}
use Rattle.sha256.specs.declared.Sha256.{Sha256}
use Rattle.sha256.specs.declared.Fed.{Fed}
use borrow.Author.Rules.{rules}
use Rattle.sha256.proofs.hash.Goals as goal

pub returns-then-message_fits : goal.returns-then-message_fits
unfolding hashed
returns-then-message_fits c =
    let m = c.args.m.now in
    let t = sym c.message_fits.ensures ∙ c.if-message_fits.true in
    let l : length m ≤ message_limit = leb-true (length m) message_limit t in
    let e : c.finish-digest.result ≡ hash sha256 m = c.finish-digest.ensures
    ∙ ap (λ (f : Fed). finished f.next)
    (c.feed.ensures ∙ ap (λ (h : Sha256). fed h m) c.start.ensures)
    ∙ hash_is sha256 (search rules) message_limit m l in
    rw (t, e)

pub returns : goal.returns
unfolding hashed
returns c = rw (sym c.message_fits.ensures ∙ c.if-message_fits.false)
