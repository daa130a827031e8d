-- `kdf_dictionary::argon2_of` meets its contract. A salt lies within the dictionary, so its place in the
-- file is a word. Assumes nothing.
use mathlib.Core.Path.{sym, ◌∙◌}
use Rattle.kdf_dictionary.proofs.Laws.Items.{salt_within}
use Rattle.kdf_dictionary.specs.KdfDictionary.{argon2_in}
use borrow.Author.Rules.{rules}
use Rattle.kdf_dictionary.proofs.argon2_of.Goals as goal

pub figures_of-requires : goal.figures_of-requires
figures_of-requires c =
    let w = salt_within c.args.d.now c.argon2_items-i.result c.argon2_items-i.ensures in
    record {
      d_bound = search rules;
      start_bound = search rules;
    }

pub returns-then-is_listed : goal.returns-then-is_listed
unfolding argon2_in
returns-then-is_listed c =
    rw (
      ← c.argon2_items-i.ensures,
      sym c.is_complete.ensures ∙ c.if-is_complete.true,
      sym c.is_listed.ensures ∙ c.if-is_listed.true,
    ) c.figures_of.ensures

pub returns-then-is_complete : goal.returns-then-is_complete
unfolding argon2_in
returns-then-is_complete c =
    rw (
      ← c.argon2_items-i.ensures,
      sym c.is_complete.ensures ∙ c.if-is_complete.true,
      sym c.is_listed.ensures ∙ c.if-is_listed.false,
      c.unlisted_at.ensures,
    )

pub returns : goal.returns
unfolding argon2_in
returns c =
    rw (
      ← c.argon2_items-i.ensures,
      sym c.is_complete.ensures ∙ c.if-is_complete.false,
      c.incomplete_at.ensures,
    )
