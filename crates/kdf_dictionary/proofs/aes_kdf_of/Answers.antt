-- `kdf_dictionary::aes_kdf_of` meets its contract. A seed lies within the dictionary, so its place in the
-- file is a word. Assumes nothing.
use mathlib.Core.Path.{◌≡◌, sym, ◌∙◌}
use mathlib.Core.Bool.{cond}
use mathlib.Core.List.{List}
use Prim.Native.Nat.{ℕ}
use lib.Dec.{leb}
use borrow.Author.Tests.{eq-eqb, ne_eqb}
use Rattle.words.specs.Endian.{le}
use Rattle.refusals.specs.declared.Refusal.TheVariants.{TooManyRounds, TooFewRounds}
use Rattle.refusals.specs.Limits.{rounds_limit, rounds_least}
use Rattle.fields.specs.declared.Place.{Place}
use Rattle.kdf_dictionary.specs.Kdf.{salt_name, rounds_name}
use Rattle.kdf_dictionary.specs.declared.Kdf.TheVariants as kdf
use Rattle.std.specs.Prelude.{Ok, Err}
use Rattle.kdf_dictionary.proofs.Laws.Items.{item_within}
use Rattle.kdf_dictionary.specs.KdfDictionary.{item_of, place_in, fault_at, aes_kdf_in, aes_kdf_of}
use borrow.Author.Rules.{rules}
use Rattle.kdf_dictionary.proofs.aes_kdf_of.Goals as goal

pub place_in-seed-requires : goal.place_in-seed-requires
place_in-seed-requires c =
    let w = item_within c.args.d.now salt_name 0x42 c.item_of-q.result c.item_of-q.ensures in
    search rules

pub returns-then-q-ne32 : goal.returns-then-q-ne32
unfolding aes_kdf_of aes_kdf_in
returns-then-q-ne32 c =
    rw (← c.item_of-q.ensures, ne_eqb _ 32 c.if-q-ne32.true, c.fault_at.ensures)

pub returns-then-r-eq0 : goal.returns-then-r-eq0
unfolding aes_kdf_of aes_kdf_in
returns-then-r-eq0 c =
    rw (
      ← c.item_of-q.ensures,
      ← c.item_of-r.ensures,
      eq-eqb _ 32 c.if-q-ne32.false,
      eq-eqb _ 0 c.if-r-eq0.true,
      c.fault_at-then-r-eq0.ensures,
    )

-- a seed and rounds that are there: the rounds decide
decided : (d : List ℕ) (p q r : Place) (n : ℕ) → q ≡ item_of d salt_name 0x42 → r ≡ item_of d rounds_name 0x05
    → q.length ≡ 32
    → (r.start ≡ 0 → ⊥)
    → n ≡ le 8 d r.start
    → aes_kdf_of d p
    ≡ cond (leb n rounds_limit)
    (cond (leb rounds_least n) (Ok (kdf.AesKdf (record { seed = place_in p q; rounds = n })))
    (Err (TooFewRounds (fault_at d p rounds_name))))
    (Err (TooManyRounds (fault_at d p rounds_name)))
unfolding aes_kdf_of aes_kdf_in
decided d p q r n s o long there e = rw (← s, ← o, eq-eqb _ 32 long, ne_eqb _ 0 there, ← e)

pub returns-then-rounds_suffice : goal.returns-then-rounds_suffice
returns-then-rounds_suffice c =
    rw (
      c.place_in-seed.ensures,
      decided _ c.args.p _ _ _ c.item_of-q.ensures
          c.item_of-r.ensures c.if-q-ne32.false c.if-r-eq0.false c.u64_at-rounds.ensures,
      sym c.rounds_fit.ensures ∙ c.if-rounds_fit.true,
      sym c.rounds_suffice.ensures ∙ c.if-rounds_suffice.true,
    )

pub returns-then-rounds_fit : goal.returns-then-rounds_fit
returns-then-rounds_fit c =
    rw (
      decided _ c.args.p _ _ _ c.item_of-q.ensures
          c.item_of-r.ensures c.if-q-ne32.false c.if-r-eq0.false c.u64_at-rounds.ensures,
      sym c.rounds_fit.ensures ∙ c.if-rounds_fit.true,
      sym c.rounds_suffice.ensures ∙ c.if-rounds_suffice.false,
      c.fault_at-then-rounds_fit.ensures,
    )

pub returns : goal.returns
returns c =
    rw (
      decided _ c.args.p _ _ _ c.item_of-q.ensures
          c.item_of-r.ensures c.if-q-ne32.false c.if-r-eq0.false c.u64_at-rounds.ensures,
      sym c.rounds_fit.ensures ∙ c.if-rounds_fit.false,
      c.fault_at-2.ensures,
    )
