-- `fips180::state::sizes_fit` meets its contract. Assumes nothing.
use Rattle.std.proofs.Common.{refl, sym, ◌∙◌}
use borrow.Author.Tests.{eq-eqb, ne_eqb, le-leb, lt-leb}
use Rattle.fips180.specs.Fips180.{block_bytes}
use Rattle.fips180.specs.Lent.{fits}
use Rattle.fips180.proofs.state.sizes_fit.Goals as goal

pub returns-then-block-BLOCK : goal.returns-then-block-BLOCK
unfolding fits
returns-then-block-BLOCK g c =
    rw (ne_eqb c.args.block (block_bytes g.W.Word.sha2) (λ e. c.if-block-BLOCK.true (e ∙ sym g.met.W.Word.laws.bytes ∙ sym c.BLOCK.ensures))) refl

pub returns-then-rounds-lt16 : goal.returns-then-rounds-lt16
unfolding fits
returns-then-rounds-lt16 g c =
    rw (
      eq-eqb c.args.block (block_bytes g.W.Word.sha2) (c.if-block-BLOCK.false ∙ c.BLOCK.ensures ∙ g.met.W.Word.laws.bytes),
      lt-leb 16 c.args.rounds c.if-rounds-lt16.true,
    ) refl

pub returns : goal.returns
unfolding fits
returns g c =
    rw (
      eq-eqb c.args.block (block_bytes g.W.Word.sha2) (c.if-block-BLOCK.false ∙ c.BLOCK.ensures ∙ g.met.W.Word.laws.bytes),
      le-leb 16 c.args.rounds c.if-rounds-lt16.false,
    ) refl
