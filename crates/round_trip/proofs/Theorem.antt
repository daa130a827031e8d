-- Demand 2: whatever the writer accepts opens to the same payload under the same T, whole and block by block.
--
-- In order: the file's parts, its start and its payload; written_opens, the theorem, for blocks of any positive size;
-- writing_opens, of what the writer's contract says it answers and leaves.
-- Not here: which figures the writer takes (Accepts); that a file in blocks opens (crate recutting).
-- Assumes nothing.
use mathlib.Core.Path.{◌≡◌, refl, sym, ap, ◌∙◌}
use mathlib.Core.List.{List, ◌++◌}
use Prim.Native.Nat.{ℕ, ◌≤◌, ◌<◌}
use native.Mathlib.Omega.{arith}
use lib.ListN.{length, take, drop}
use Rattle.slices.specs.Over.{over}
use Rattle.slices.proofs.Laws.Over.{take_over, drop_over}
use Rattle.refusals.proofs.Laws.Limits.{block_positive}
use Rattle.words.specs.Endian.{Bytes}
use Rattle.words.specs.Block.{IsBlock}
use Rattle.refusals.specs.Limits.{file_limit, written_block}
use Rattle.ciphers.specs.declared.Cipher.{Cipher}
use Rattle.ciphers.specs.declared.Cipher.TheVariants.{Aes256, ChaCha20}
use Rattle.std.specs.Prelude.{Ok}
use Rattle.cutting.specs.Cutting.{cut, blocks_from}
use Rattle.cutting.proofs.Laws.Cut.{length_cut, joined-cut, cut_nonempty}
use Rattle.opening.specs.declared.Keys.{Keys}
use Rattle.opening.specs.Decryption.{opened, payload_by, payload}
use Rattle.opening.proofs.Laws.Payload.{payload_aes, payload_chacha}
use Rattle.vault.specs.Vault.{start, begun}
use Rattle.recutting.proofs.Opens.{begun-blocks, more_steps}
use Rattle.writer.specs.Written.{
  Figures,
  sizes,
  encryption_by,
  header_of,
  file_with,
  file_cut,
  file_bytes,
  checked_of,
  writing,
  shown,
}
use Rattle.writer.specs.Stretches.{summed}
use Rattle.writer.proofs.Laws.Files.{length-summed}
use Rattle.round_trip.specs.Opens.{file_keys, first_block_of, Opens, WrittenOpens}
use Rattle.round_trip.proofs.Laws.Started.{cipher_is, nonce-block, start_written}
use Rattle.round_trip.proofs.Laws.Success.{success}

payload_by_lem : (c : Cipher) (k : Keys) (b : List ℕ) → IsBlock k.nonce → Bytes b → payload_by c k (encryption_by c k b) ≡ opened b
unfolding encryption_by
payload_by_lem Aes256 k b n h = payload_aes k n b h
payload_by_lem ChaCha20 k b n h = payload_chacha k b

-- the file in blocks of z bytes
module _ (z : ℕ) (some : 0 < z) (g : Figures) (c : Cipher) (t b : List ℕ) (ok : checked_of g ≡ Ok c)
    (payload-bytes : Bytes b) (nonce_bytes : Bytes g.nonce) (fits : length (file_cut z g c t b) ≤ file_limit) where
  abbrev f : List ℕ
  f = file_cut z g c t b

  abbrev k : Keys
  k = file_keys g c t

  abbrev text : List ℕ
  text = encryption_by c k b

  abbrev blocks : List ℕ
  blocks = blocks_from k.base 0 (cut z text)

  abbrev front : List ℕ
  front = summed k.base (header_of g c)

  file-blocks : f ≡ front ++ blocks
  unfolding file_cut file_with
  file-blocks = refl

  length_front : length front ≡ first_block_of g c
  length_front = length-summed k.base (header_of g c)

  nonce_is_block : IsBlock k.nonce
  nonce_is_block = nonce-block g c t ok nonce_bytes

  payload_is : payload k text ≡ opened b
  payload_is = ap (λ (x : Cipher). payload_by x k text) (cipher_is g c t) ∙ payload_by_lem c k b nonce_is_block payload-bytes

  starts : start t f ≡ begun k (first_block_of g c)
  starts = rw file-blocks (start_written g c t blocks ok (rw (← file-blocks) fits))

  opens : Opens z g c t b f
  unfolding file_cut file_with
  opens =
      more_steps (omega (arith, length_cut z some text))
      (begun-blocks t front k (first_block_of g c) b (cut z text) length_front fits (cut_nonempty z some text) starts
      (ap (λ (x : List ℕ). payload k x) (joined-cut z some text) ∙ payload_is))

-- THE THEOREM, for blocks of any positive size
pub written_opens : (z : ℕ) → 0 < z → (g : Figures) (c : Cipher) (t b : List ℕ) → checked_of g ≡ Ok c → Bytes b
    → Bytes g.nonce → length (file_cut z g c t b) ≤ file_limit
    → Opens z g c t b (file_cut z g c t b)
written_opens z some g c t b ok p n fits = opens z some g c t b ok p n fits

-- of what the writer's contract says it answers, and leaves of the lent bytes
pub writing_opens : (g : Figures) (t b before after : List ℕ) (m : ℕ) → Bytes b → Bytes g.nonce
    → writing g t b (length before) ≡ Ok m → after ≡ over (shown g t b (length before)) before
    → WrittenOpens g t b before after m
writing_opens g t b before after m p q h left =
    let w = success sizes g t b (length before) m h in
    let f : List ℕ = file_bytes g w.cipher t b in
    let e : after ≡ over f before = left ∙ ap (λ (x : List ℕ). over x before) w.bytes in
    let i : take m after ≡ f = ap (take m) e ∙ take_over f before m w.count in
    record {
      cipher = w.cipher;
      accepted = w.accepted;
      count_is = sym w.count;
      room = omega (arith, w.room, w.count);
      file_is = i;
      rest_is = ap (drop m) e ∙ drop_over f before m w.count;
      opens = rw i (written_opens written_block block_positive g w.cipher t b w.accepted p q w.file_le);
    }
