-- `outer_header::read` meets its contract. Assumes nothing.
use mathlib.Core.Path.{sym, ◌∙◌}
use borrow.Author.Tests.{eq-eqb, ne_eqb, lt-ltb, le-ltb}
use Rattle.outer_header.specs.Kdbx4Header.{header}
use Rattle.words.proofs.Laws.Said.{said_too}
use Rattle.outer_header.specs.Answers.{said}
use Rattle.outer_header.proofs.read.Goals as goal

pub returns-then-s-lt12 : goal.returns-then-s-lt12
unfolding header
returns-then-s-lt12 c =
    said_too said
    (rw (sym c.file_fits.ensures ∙ c.if-file_fits.true, lt-ltb _ 12 c.if-s-lt12.true))

pub returns-then-version-eq262144 : goal.returns-then-version-eq262144
unfolding header
returns-then-version-eq262144 c =
    said_too said
    (rw (
      sym c.file_fits.ensures ∙ c.if-file_fits.true,
      le-ltb _ 12 c.if-s-lt12.false,
      ← c.u32_at.ensures,
      eq-eqb _ 0x9AA2D903 c.if-u32_at-eq2594363651.true,
      ← c.u32_at-then-u32_at-eq2594363651.ensures,
      eq-eqb _ 0xB54BFB67 c.if-u32_at-eq3041655655.true,
      ← c.u32_at-version.ensures,
      eq-eqb _ 0x40000 c.if-version-eq262144.true,
    ) c.body.ensures)

pub returns-then-version-eq262145 : goal.returns-then-version-eq262145
unfolding header
returns-then-version-eq262145 c =
    said_too said
    (rw (
      sym c.file_fits.ensures ∙ c.if-file_fits.true,
      le-ltb _ 12 c.if-s-lt12.false,
      ← c.u32_at.ensures,
      eq-eqb _ 0x9AA2D903 c.if-u32_at-eq2594363651.true,
      ← c.u32_at-then-u32_at-eq2594363651.ensures,
      eq-eqb _ 0xB54BFB67 c.if-u32_at-eq3041655655.true,
      ← c.u32_at-version.ensures,
      ne_eqb _ 0x40000 c.if-version-eq262144.false,
      eq-eqb _ 0x40001 c.if-version-eq262145.true,
    ) c.body-then-version-eq262145.ensures)

pub returns-then-u32_at-eq3041655655 : goal.returns-then-u32_at-eq3041655655
unfolding header
returns-then-u32_at-eq3041655655 c =
    said_too said
    (rw (
      sym c.file_fits.ensures ∙ c.if-file_fits.true,
      le-ltb _ 12 c.if-s-lt12.false,
      ← c.u32_at.ensures,
      eq-eqb _ 0x9AA2D903 c.if-u32_at-eq2594363651.true,
      ← c.u32_at-then-u32_at-eq2594363651.ensures,
      eq-eqb _ 0xB54BFB67 c.if-u32_at-eq3041655655.true,
      ← c.u32_at-version.ensures,
      ne_eqb _ 0x40000 c.if-version-eq262144.false,
      ne_eqb _ 0x40001 c.if-version-eq262145.false,
    ))

pub returns-then-u32_at-eq2594363651 : goal.returns-then-u32_at-eq2594363651
unfolding header
returns-then-u32_at-eq2594363651 c =
    said_too said
    (rw (
      sym c.file_fits.ensures ∙ c.if-file_fits.true,
      le-ltb _ 12 c.if-s-lt12.false,
      ← c.u32_at.ensures,
      eq-eqb _ 0x9AA2D903 c.if-u32_at-eq2594363651.true,
      ← c.u32_at-then-u32_at-eq2594363651.ensures,
      ne_eqb _ 0xB54BFB67 c.if-u32_at-eq3041655655.false,
    ))

pub returns-then-file_fits : goal.returns-then-file_fits
unfolding header
returns-then-file_fits c =
    said_too said
    (rw (
      sym c.file_fits.ensures ∙ c.if-file_fits.true,
      le-ltb _ 12 c.if-s-lt12.false,
      ← c.u32_at.ensures,
      ne_eqb _ 0x9AA2D903 c.if-u32_at-eq2594363651.false,
    ))

pub returns : goal.returns
unfolding header
returns c = said_too said (rw (sym c.file_fits.ensures ∙ c.if-file_fits.false))
