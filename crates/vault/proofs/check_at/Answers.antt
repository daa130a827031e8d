-- `vault::check_at` meets its contract. Assumes nothing.
use mathlib.Core.Path.{sym, ◌∙◌}
use borrow.Author.Tests.{lt-ltb, le-ltb}
use Rattle.vault.specs.Vault.{start_at}
use Rattle.vault.specs.Checked.{checked_of}
use Rattle.vault.proofs.check_at.Goals as goal

pub returns-then-f-n-lt64 : goal.returns-then-f-n-lt64
unfolding start_at checked_of
returns-then-f-n-lt64 c = rw (lt-ltb _ 64 c.if-f-n-lt64.true)

pub returns-then-tag_holds : goal.returns-then-tag_holds
unfolding start_at checked_of
returns-then-tag_holds c =
    rw (
      le-ltb _ 64 c.if-f-n-lt64.false,
      sym c.hash_holds.ensures ∙ c.if-hash_holds.true,
      sym c.tag_holds.ensures ∙ c.if-tag_holds.true,
    )

pub returns-then-hash_holds : goal.returns-then-hash_holds
unfolding start_at checked_of
returns-then-hash_holds c =
    rw (
      le-ltb _ 64 c.if-f-n-lt64.false,
      sym c.hash_holds.ensures ∙ c.if-hash_holds.true,
      sym c.tag_holds.ensures ∙ c.if-tag_holds.false,
    )

pub returns : goal.returns
unfolding start_at checked_of
returns c =
    rw (le-ltb _ 64 c.if-f-n-lt64.false, sym c.hash_holds.ensures ∙ c.if-hash_holds.false)
