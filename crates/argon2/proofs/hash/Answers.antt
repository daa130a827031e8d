-- `argon2::hash` meets its contract. Assumes nothing.
use mathlib.Core.Path.{refl, sym, ◌∙◌}
use native.Mathlib.Omega.{arith}
use lib.ListN.{length}
use lib.Seq.{length-take-le}
use borrow.Author.Tests.{leb-true}
use Rattle.refusals.proofs.Laws.Limits.{argon2_fits_bounds}
use Rattle.argon2.specs.Run.{inputs, left, shown}
use Rattle.argon2.proofs.Laws.Run as run
use Rattle.argon2.proofs.hash.Goals as goal

pub returns-then-not-argon2_figures_fit : goal.returns-then-not-argon2_figures_fit
unfolding left shown
returns-then-not-argon2_figures_fit c =
    let a = c.args in
    let i = inputs a.kind a.password.now a.salt.now a.secret.now a.associated.now a.passes
    a.bytes a.lanes (length a.out.now) in
    let t = sym c.argon2_figures_fit.ensures ∙ c.if-not-argon2_figures_fit.true in
    record {
      value = run.outcome_outside i a.bytes (length a.memory.now) t;
      memory_after = refl;
      out_after = refl;
    }

pub returns-then-not-fits : goal.returns-then-not-fits
unfolding left shown
returns-then-not-fits c =
    let a = c.args in
    let i = inputs a.kind a.password.now a.salt.now a.secret.now a.associated.now a.passes
    a.bytes a.lanes (length a.out.now) in
    let t = sym c.argon2_figures_fit.ensures ∙ c.if-not-argon2_figures_fit.false in
    record {
      value = run.outcome_long i a.bytes (length a.memory.now) t (sym c.fits.ensures ∙ c.if-not-fits.true);
      memory_after = refl;
      out_after = refl;
    }

pub nonzero_div-segment : goal.nonzero_div-segment
nonzero_div-segment c =
    let a = c.args in
    let t = sym c.argon2_figures_fit.ensures ∙ c.if-not-argon2_figures_fit.false in
    let h = (argon2_fits_bounds (length a.salt.now) a.passes a.bytes a.lanes t).lanes_least in
    omega arith

pub returns-then-memory-words : goal.returns-then-memory-words
unfolding left shown
returns-then-memory-words c =
    let a = c.args in
    let i = inputs a.kind a.password.now a.salt.now a.secret.now a.associated.now a.passes
    a.bytes a.lanes (length a.out.now) in
    let t = sym c.argon2_figures_fit.ensures ∙ c.if-not-argon2_figures_fit.false in
    let b = sym c.fits.ensures ∙ c.if-not-fits.false in
    let u = run.used_is i c.kib_of-m.result c.kib_of-m.ensures in
    record {
      value = run.outcome_short i a.bytes (length a.memory.now) t b _ u c.if-memory-words.true;
      memory_after = refl;
      out_after = refl;
    }

pub overflow_cast-m : goal.overflow_cast-m
overflow_cast-m c =
    let a = c.args in
    let t = sym c.argon2_figures_fit.ensures ∙ c.if-not-argon2_figures_fit.false in
    let h = run.kib_le (length a.salt.now) a.passes a.bytes a.lanes _ t c.kib_of-m.ensures in
    record { fits = omega arith }

pub overflow_cast-passes : goal.overflow_cast-passes
overflow_cast-passes c =
    let a = c.args in
    let t = sym c.argon2_figures_fit.ensures ∙ c.if-not-argon2_figures_fit.false in
    let h = (argon2_fits_bounds (length a.salt.now) a.passes a.bytes a.lanes t).passes_most in
    record { fits = omega arith }

pub h0-h-requires : goal.h0-h-requires
h0-h-requires c =
    leb-true _ _ (sym c.fits.ensures ∙ c.if-not-fits.false)

pub fill_tag-requires : goal.fill_tag-requires
fill_tag-requires c =
    let a = c.args in
    let t = sym c.argon2_figures_fit.ensures ∙ c.if-not-argon2_figures_fit.false in
    let s = length a.salt.now in
    record {
      fits = run.figures_fit s a.passes a.bytes a.lanes _ t c.kib_of-m.ensures _ _;
      le_passes = (argon2_fits_bounds s a.passes a.bytes a.lanes t).passes_least;
      memory_len = length-take-le _ _ c.if-memory-words.false;
    }

pub returns : goal.returns
returns c =
    let a = c.args in
    let i = inputs a.kind a.password.now a.salt.now a.secret.now a.associated.now a.passes
    a.bytes a.lanes (length a.out.now) in
    let t = sym c.argon2_figures_fit.ensures ∙ c.if-not-argon2_figures_fit.false in
    let b = sym c.fits.ensures ∙ c.if-not-fits.false in
    let m = c.kib_of-m.result in
    let e = c.kib_of-m.ensures in
    let u = run.used_is i m e in
    let y = c.number_of-y.result in
    record {
      value = run.outcome-accepted i a.bytes (length a.memory.now) t b _ u c.if-memory-words.false;
      memory_after = run.left_is i a.memory.now _ _ u c.if-memory-words.false c.fill_tag.ensures.memory_after;
      out_after = run.shown_is i y m _ _ a.out.now c.number_of-y.ensures e c.h0-h.ensures
          c.fill_tag.ensures.out_after;
    }
