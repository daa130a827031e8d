-- `keys::composite` meets its contract. Assumes nothing.
use borrow.Author.Tests.{not-true, not-false}
use mathlib.Core.Bool.{Bool, true, false, not}
use mathlib.Core.Path.{◌≡◌, sym, ◌∙◌}
use Rattle.refusals.proofs.Laws.Limits.{message_password, message_key_file}
use Rattle.refusals.specs.Limits.{message_limit, password_limit, key_file_limit}
use Rattle.keys.specs.State.{credential}
use Rattle.keys.proofs.Laws.{over_mono, composite_password, composite-key-file, composite_within}
use Rattle.keys.proofs.composite.Goals as goal

-- what the test of a length says of its credential
within : {w : Bool} (o : Bool) → w ≡ not o → w ≡ true → o ≡ false
within o e t = not-true o (sym e ∙ t)

beyond : {w : Bool} (o : Bool) → w ≡ not o → w ≡ false → o ≡ true
beyond o e t = not-false o (sym e ∙ t)

pub returns-then-not-is_within : goal.returns-then-not-is_within
unfolding password_limit
returns-then-not-is_within c =
    let a = c.args in
    sym (composite_password (credential a.password) (credential a.key_file) (credential a.pre_hash)
    (beyond _ c.is_within.ensures c.if-not-is_within.true))

pub returns-then-not-is_within-2 : goal.returns-then-not-is_within-2
unfolding password_limit key_file_limit
returns-then-not-is_within-2 c =
    let a = c.args in
    sym (composite-key-file (credential a.password) (credential a.key_file) (credential a.pre_hash)
    (within _ c.is_within.ensures c.if-not-is_within.false)
    (beyond _ c.is_within-2.ensures c.if-not-is_within-2.true))

pub from_parts-requires-clause-password_value : goal.from_parts-requires-clause-password_value
unfolding password_limit
from_parts-requires-clause-password_value c =
    over_mono password_limit message_limit message_password (credential c.args.password)
    (within _ c.is_within.ensures c.if-not-is_within.false)

pub from_parts-requires-clause-key_file_value : goal.from_parts-requires-clause-key_file_value
unfolding key_file_limit
from_parts-requires-clause-key_file_value c =
    over_mono key_file_limit message_limit message_key_file (credential c.args.key_file)
    (within _ c.is_within-2.ensures c.if-not-is_within-2.false)

pub returns : goal.returns
unfolding password_limit key_file_limit
returns c =
    let a = c.args in
    c.from_parts.ensures
    ∙ sym (composite_within (credential a.password) (credential a.key_file) (credential a.pre_hash)
    (within _ c.is_within.ensures c.if-not-is_within.false)
    (within _ c.is_within-2.ensures c.if-not-is_within-2.false))
