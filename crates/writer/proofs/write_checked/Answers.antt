-- `writer::write_checked` meets its contract. Assumes nothing.
use mathlib.Core.Path.{◌≡◌, refl, sym, ap, ◌∙◌}
use Prim.Native.Nat.{ℕ, ◌≤◌}
use native.Mathlib.Omega.{arith}
use lib.ListN.{length}
use borrow.Author.Tests.{leb-true}
use Rattle.slices.specs.Over.{over}
use Rattle.refusals.specs.Limits.{file_limit}
use Rattle.writer.specs.Written.{sizes, settled}
use Rattle.writer.specs.Stretches.{file_of, bytes_of}
use Rattle.writer.proofs.Laws.Checks.{settled-payload, settled-file, settled_room, settled-wrote}
use Rattle.writer.proofs.Laws.Files.{length-file}
use Rattle.writer.proofs.write_checked.Goals as goal

pub file_len-f-requires : goal.file_len-f-requires
file_len-f-requires c =
    record {
      salt_len_bound = c.requires.salt_le;
      n_le_payload_limit = leb-true _ _ (sym c.payload_fits.ensures ∙ c.if-payload_fits.true);
    }

pub returns-then-out-f : goal.returns-then-out-f
unfolding bytes_of over
returns-then-out-f c =
    let a = c.args in
    let file = file_of a.minor a.c a.seed.now a.nonce.now a.figures a.salt.now a.custom.now a.t a.payload.now in
    let long =
    length-file a.minor a.c a.seed.now a.nonce.now a.figures a.salt.now a.custom.now c.requires a.t a.payload.now in
    let b = length a.payload.now in
    let n = length a.out.now in
    let e : c.file_len-f.result ≡ length file = c.file_len-f.ensures ∙ sym long in
    record {
      value = settled_room b c.file_len-f.result n (sym c.payload_fits.ensures ∙ c.if-payload_fits.true)
          (sym c.file_fits.ensures ∙ c.if-file_fits.true) c.if-out-f.true
          ∙ ap (λ (f : ℕ). settled sizes b f n) e;
      out_after = refl;
    }

pub write_file-requires : goal.write_file-requires
write_file-requires c =
    let e = c.file_len-f.ensures in
    let l : c.file_len-f.result ≤ file_limit =
    leb-true _ _ (sym c.file_fits.ensures ∙ c.if-file_fits.true) in
    let m = c.if-out-f.false in
    record {
      sized = c.requires;
      payload_bound = omega (arith, e, l);
      payload_in_bounds = omega (arith, e, m);
    }

pub returns-then-file_fits : goal.returns-then-file_fits
unfolding bytes_of
returns-then-file_fits c =
    let a = c.args in
    let file = file_of a.minor a.c a.seed.now a.nonce.now a.figures a.salt.now a.custom.now a.t a.payload.now in
    let long =
    length-file a.minor a.c a.seed.now a.nonce.now a.figures a.salt.now a.custom.now c.requires a.t a.payload.now in
    let b = length a.payload.now in
    let n = length a.out.now in
    let e : c.file_len-f.result ≡ length file = c.file_len-f.ensures ∙ sym long in
    record {
      value = settled-wrote b c.file_len-f.result n (sym c.payload_fits.ensures ∙ c.if-payload_fits.true)
          (sym c.file_fits.ensures ∙ c.if-file_fits.true) c.if-out-f.false
          ∙ ap (λ (f : ℕ). settled sizes b f n) e;
      out_after = c.write_file.ensures;
    }

pub returns-then-payload_fits : goal.returns-then-payload_fits
unfolding bytes_of over
returns-then-payload_fits c =
    let a = c.args in
    let file = file_of a.minor a.c a.seed.now a.nonce.now a.figures a.salt.now a.custom.now a.t a.payload.now in
    let long =
    length-file a.minor a.c a.seed.now a.nonce.now a.figures a.salt.now a.custom.now c.requires a.t a.payload.now in
    let b = length a.payload.now in
    let n = length a.out.now in
    let e : c.file_len-f.result ≡ length file = c.file_len-f.ensures ∙ sym long in
    record {
      value = settled-file b c.file_len-f.result n (sym c.payload_fits.ensures ∙ c.if-payload_fits.true)
          (sym c.file_fits.ensures ∙ c.if-file_fits.false)
          ∙ ap (λ (f : ℕ). settled sizes b f n) e;
      out_after = refl;
    }

pub returns : goal.returns
unfolding bytes_of over
returns c =
    let a = c.args in
    let file = file_of a.minor a.c a.seed.now a.nonce.now a.figures a.salt.now a.custom.now a.t a.payload.now in
    let b = length a.payload.now in
    let n = length a.out.now in
    record {
      value = settled-payload b (length file) n (sym c.payload_fits.ensures ∙ c.if-payload_fits.false);
      out_after = refl;
    }
