-- `writer::write_file` meets its contract. Assumes nothing.
use mathlib.Core.Path.{◌≡◌, refl}
use Prim.Native.Nat.{ℕ, ◌+◌}
use native.Mathlib.Omega.{arith}
use lib.ListN.{length}
use Rattle.ciphers.specs.declared.Cipher.{Cipher}
use Rattle.kdf_dictionary.specs.declared.writer.Figures.{Figures as KdfFigures}
use Rattle.header_writer.specs.Written.{header_length}
use Rattle.writer.specs.Stretches.{text_length, blocks_length, file_length}
use Rattle.writer.proofs.Laws.Files.{short_nonce, blocks_room, file-laid}
use borrow.Author.Rules.{rules}
use Rattle.writer.proofs.write_file.Goals as goal

front_le : (c : Cipher) (fig : KdfFigures) (l m n : ℕ)
    → header_length c fig l m + 64 + blocks_length (text_length c n) ≡ file_length c fig l m n
unfolding file_length
front_le c fig l m n = refl

pub keys_of-keys-requires : goal.keys_of-keys-requires
keys_of-keys-requires c =
    let a = c.args in
    let z = c.requires.sized in
    let m = a.custom.now in
    record {
      seed_len = z.seed;
      nonce_len_bound = short_nonce a.minor a.c a.seed.now a.nonce.now a.figures a.salt.now m z;
    }

pub write_front-at-requires : goal.write_front-at-requires
write_front-at-requires c =
    let a = c.args in
    let e = front_le a.c a.figures (length a.salt.now) (length a.custom.now)
    (length a.payload.now) in
    record {
      sized = c.requires.sized;
      custom_bound = omega (arith, e, c.requires.payload_bound);
      custom_in_bounds = omega (arith, e, c.requires.payload_in_bounds);
    }

pub slice_bounds-write_blocks-count : goal.slice_bounds-write_blocks-count
slice_bounds-write_blocks-count c =
    let a = c.args in
    let e = front_le a.c a.figures (length a.salt.now) (length a.custom.now)
    (length a.payload.now) in
    let r = c.write_front-at.ensures.value in
    let l = c.requires.payload_in_bounds in
    search rules

pub slice_bounds-write_blocks-start : goal.slice_bounds-write_blocks-start
slice_bounds-write_blocks-start c =
    let a = c.args in
    let e = front_le a.c a.figures (length a.salt.now) (length a.custom.now)
    (length a.payload.now) in
    let r = c.write_front-at.ensures.value in
    let l = c.requires.payload_in_bounds in
    search rules

pub write_blocks-requires : goal.write_blocks-requires
write_blocks-requires c =
    let a = c.args in
    blocks_room a.minor a.c a.seed.now a.nonce.now a.figures a.salt.now a.custom.now
    c.requires.sized a.t a.payload.now c.keys_of-keys.result a.out.now _ _ c.keys_of-keys.ensures
    c.write_front-at.ensures.value c.requires.payload_in_bounds c.write_front-at.ensures.out_after

pub returns : goal.returns
returns c =
    let a = c.args in
    file-laid a.minor a.c a.seed.now a.nonce.now a.figures a.salt.now a.custom.now
    c.requires.sized a.t a.payload.now c.keys_of-keys.result a.out.now _ _ c.keys_of-keys.ensures
    c.write_front-at.ensures.value c.requires.payload_in_bounds c.write_front-at.ensures.out_after _ c.write_blocks.ensures
