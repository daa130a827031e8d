-- `dictionary::size_fits` meets its contract. Assumes nothing.
use borrow.Author.Tests.{eq-eqb, ne_eqb}
use Rattle.dictionary.specs.Dictionary.{size_fits_type}
use Rattle.dictionary.proofs.size_fits.Goals as goal

pub returns-then-kind-eq4 : goal.returns-then-kind-eq4
unfolding size_fits_type
returns-then-kind-eq4 c = rw (eq-eqb _ _ c.if-kind-eq4.true)

pub returns-then-kind-eq5 : goal.returns-then-kind-eq5
unfolding size_fits_type
returns-then-kind-eq5 c = rw (ne_eqb _ _ c.if-kind-eq4.false, eq-eqb _ _ c.if-kind-eq5.true)

pub returns-then-kind-eq8 : goal.returns-then-kind-eq8
unfolding size_fits_type
returns-then-kind-eq8 c =
    rw (
      ne_eqb _ _ c.if-kind-eq4.false,
      ne_eqb _ _ c.if-kind-eq5.false,
      eq-eqb _ _ c.if-kind-eq8.true,
    )

pub returns-then-kind-eq12 : goal.returns-then-kind-eq12
unfolding size_fits_type
returns-then-kind-eq12 c =
    rw (
      ne_eqb _ _ c.if-kind-eq4.false,
      ne_eqb _ _ c.if-kind-eq5.false,
      ne_eqb _ _ c.if-kind-eq8.false,
      eq-eqb _ _ c.if-kind-eq12.true,
    )

pub returns-then-kind-eq13 : goal.returns-then-kind-eq13
unfolding size_fits_type
returns-then-kind-eq13 c =
    rw (
      ne_eqb _ _ c.if-kind-eq4.false,
      ne_eqb _ _ c.if-kind-eq5.false,
      ne_eqb _ _ c.if-kind-eq8.false,
      ne_eqb _ _ c.if-kind-eq12.false,
      eq-eqb _ _ c.if-kind-eq13.true,
    )

pub returns-then-kind-eq24 : goal.returns-then-kind-eq24
unfolding size_fits_type
returns-then-kind-eq24 c =
    rw (
      ne_eqb _ _ c.if-kind-eq4.false,
      ne_eqb _ _ c.if-kind-eq5.false,
      ne_eqb _ _ c.if-kind-eq8.false,
      ne_eqb _ _ c.if-kind-eq12.false,
      ne_eqb _ _ c.if-kind-eq13.false,
      eq-eqb _ _ c.if-kind-eq24.true,
    )

pub returns : goal.returns
unfolding size_fits_type
returns c =
    rw (
      ne_eqb _ _ c.if-kind-eq4.false,
      ne_eqb _ _ c.if-kind-eq5.false,
      ne_eqb _ _ c.if-kind-eq8.false,
      ne_eqb _ _ c.if-kind-eq12.false,
      ne_eqb _ _ c.if-kind-eq13.false,
      ne_eqb _ _ c.if-kind-eq24.false,
    )
