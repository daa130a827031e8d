-- A ciphertext made piece by piece.
--
-- In order:
--   stretch_aes, prev_aes, stretch_chacha, prev_chacha, text_aes, text_chacha    by the cipher
--   text_of-append, length-text_of, text_length-le, text_length-block                what is encrypted of a payload
--   stretch_append                                                               any cut at a piece gives what the uncut gives
--   length-prev_by, length_stretch, length_stretch_le, length_stretch_text        lengths are kept
--   chacha_over                                                                  ChaCha20 leaves no byte of a stretch
--   encryption_text                                                              the whole ciphertext is one stretch
-- Not here: blocks (Blocks).
-- Assumes nothing.
use mathlib.Core.Path.{◌≡◌, refl, sym, ap, ◌∙◌}
use mathlib.Core.List.{List, ◌++◌, append_assoc}
use Prim.Native.Nat.{ℕ, ◌+◌, ◌*◌, ◌/◌, ◌%◌, ◌≤◌, ◌<◌}
use native.Mathlib.Omega.{arith}
use lib.ListN.{length, take, length-append, length-replicate}
use Rattle.slices.specs.Over.{over}
use Rattle.slices.proofs.Laws.Over.{over_all}
use Rattle.refusals.specs.Limits.{written_block}
use Rattle.refusals.proofs.Laws.Limits.{block-pieces}
use Rattle.fips197.specs.Fips197.{cipher}
use Rattle.cbc.specs.Sp80038a.{previous}
use Rattle.cbc.proofs.Laws.Mode.{encrypt-append, length-encrypt, previous_size}
use Rattle.aes_cbc.specs.Aes256Cbc as aes256_cbc
use Rattle.aes_cbc.proofs.RoundTrip.{cipher-keeps}
use Rattle.pkcs7.specs.Pkcs7.{pad, padding_length}
use Rattle.pkcs7.proofs.Laws.Padding.{length-pad}
use Rattle.stream.specs.Stream.{apply}
use Rattle.stream.proofs.Laws.Apply.{apply-append, length-apply}
use Rattle.chacha20.specs.Rfc8439 as rfc8439
use Rattle.ciphers.specs.declared.Cipher.{Cipher}
use Rattle.ciphers.specs.declared.Cipher.TheVariants.{Aes256, ChaCha20}
use Rattle.opening.specs.declared.Keys.{Keys}
use Rattle.opening.specs.Decryption.{chacha_from}
use Rattle.writer.specs.Written.{encryption_by}
use Rattle.writer.specs.Stretches.{stretch_by, prev_by, text_of, text_length}

pub stretch_aes : (c : Cipher) (k : Keys) (v : List ℕ) (p : ℕ) (s : List ℕ) → c ≡ Aes256
    → aes256_cbc.encrypt k.round_keys.words v s ≡ stretch_by c k v p s
unfolding stretch_by
stretch_aes c k v p s e = rw e

pub prev_aes : (c : Cipher) (k : Keys) (v s : List ℕ) → c ≡ Aes256
    → previous v (aes256_cbc.encrypt k.round_keys.words v s) ≡ prev_by c k v s
unfolding prev_by
prev_aes c k v s e = rw e

pub stretch_chacha : (c : Cipher) (k : Keys) (v : List ℕ) (p : ℕ) (s : List ℕ) → c ≡ ChaCha20
    → chacha_from k p s ≡ stretch_by c k v p s
unfolding stretch_by
stretch_chacha c k v p s e = rw e

pub prev_chacha : (c : Cipher) (k : Keys) (v s : List ℕ) → c ≡ ChaCha20 → v ≡ prev_by c k v s
unfolding prev_by
prev_chacha c k v s e = rw e

pub text_aes : (c : Cipher) (b : List ℕ) → c ≡ Aes256 → pad b ≡ text_of c b
unfolding text_of
text_aes c b e = rw e

pub text_chacha : (c : Cipher) (b : List ℕ) → c ≡ ChaCha20 → b ≡ text_of c b
unfolding text_of
text_chacha c b e = rw e

-- padding is behind the whole: what stands before in whole pieces does not count
pub text_of-append : (c : Cipher) (a b : List ℕ) → length a % 16 ≡ 0 → text_of c (a ++ b) ≡ a ++ text_of c b
unfolding text_of pad
text_of-append Aes256 a b h =
    let e : padding_length (length a + length b) ≡ padding_length (length b) = omega arith in
    rw (length-append, e, append_assoc)
text_of-append ChaCha20 a b h = refl

pub length-text_of : (c : Cipher) (b : List ℕ) → length (text_of c b) ≡ text_length c (length b)
unfolding text_of text_length pad
length-text_of Aes256 b = simp (length-append, length-replicate) (omega arith)
length-text_of ChaCha20 b = refl

pub text_length-le : (c : Cipher) (n : ℕ) → text_length c n ≤ n + 16
unfolding text_length
text_length-le Aes256 n = omega arith
text_length-le ChaCha20 n = omega arith

-- what is less than a block is at most a block with its padding
pub text_length-block : (c : Cipher) (n : ℕ) → n < written_block → text_length c n ≤ written_block
unfolding text_length
text_length-block Aes256 n h = omega (arith, block-pieces)
text_length-block ChaCha20 n h = omega arith

abbrev keeps : (k : Keys) (x : List ℕ) → length x ≡ 16 → length (cipher x k.round_keys.words) ≡ 16
keeps k x e = cipher-keeps k.round_keys.words x e

-- cut behind whole pieces, with the second stretch chained to the first and at the position behind it
pub stretch_append : (c : Cipher) (k : Keys) (v : List ℕ) (p : ℕ) (a b : List ℕ) → length v ≡ 16 → length a % 16 ≡ 0
    → stretch_by c k v p (a ++ b) ≡ stretch_by c k v p a ++ stretch_by c k (prev_by c k v a) (p + length a) b
unfolding stretch_by prev_by
stretch_append Aes256 k v p a b e h = encrypt-append (λ x. cipher x k.round_keys.words) (keeps k) v e a b h
stretch_append ChaCha20 k v p a b e h = apply-append (rfc8439.blocks k.key (take 12 k.nonce)) p a b

pub length-prev_by : (c : Cipher) (k : Keys) (v s : List ℕ) → length v ≡ 16 → length (prev_by c k v s) ≡ 16
unfolding prev_by
length-prev_by Aes256 k v s e = previous_size v (aes256_cbc.encrypt k.round_keys.words v s) e
length-prev_by ChaCha20 k v s e = e

length_aes : (k : Keys) (v s : List ℕ) → length v ≡ 16
    → length (aes256_cbc.encrypt k.round_keys.words v s) ≡ 16 * (length s / 16)
length_aes k v s e = length-encrypt (λ x. cipher x k.round_keys.words) (keeps k) v e s

pub length_stretch : (c : Cipher) (k : Keys) (v : List ℕ) (p : ℕ) (s : List ℕ) → length v ≡ 16 → length s % 16 ≡ 0
    → length (stretch_by c k v p s) ≡ length s
unfolding stretch_by
length_stretch Aes256 k v p s e h = length_aes k v s e ∙ omega arith
length_stretch ChaCha20 k v p s e h = length-apply (rfc8439.blocks k.key (take 12 k.nonce)) p s

pub length_stretch_le : (c : Cipher) (k : Keys) (v : List ℕ) (p : ℕ) (s : List ℕ) → length v ≡ 16
    → length (stretch_by c k v p s) ≤ length s
unfolding stretch_by
length_stretch_le Aes256 k v p s e = omega (arith, length_aes k v s e)
length_stretch_le ChaCha20 k v p s e = omega (arith, length-apply (rfc8439.blocks k.key (take 12 k.nonce)) p s)

pub length_stretch_text : (c : Cipher) (k : Keys) (v : List ℕ) (p : ℕ) (b : List ℕ) → length v ≡ 16
    → length (stretch_by c k v p (text_of c b)) ≡ length (text_of c b)
unfolding stretch_by text_of
length_stretch_text Aes256 k v p b e =
    let l = length-pad b in
    let h : length (pad b) % 16 ≡ 0 = omega arith in
    length_aes k v (pad b) e ∙ omega arith
length_stretch_text ChaCha20 k v p b e = length-apply (rfc8439.blocks k.key (take 12 k.nonce)) p b

pub chacha_over : (c : Cipher) (k : Keys) (v : List ℕ) (p : ℕ) (s n y : List ℕ) → c ≡ ChaCha20 → n ≡ take 12 k.nonce
    → y ≡ apply (rfc8439.blocks k.key n) p s → y ≡ over (stretch_by c k v p s) s
chacha_over c k v p s n y e f g =
    let t : y ≡ stretch_by c k v p s =
    g ∙ ap (λ (m : List ℕ). apply (rfc8439.blocks k.key m) p s) f ∙ stretch_chacha c k v p s e in
    let l : length (chacha_from k p s) ≡ length s = length-apply (rfc8439.blocks k.key (take 12 k.nonce)) p s in
    let m : length (chacha_from k p s) ≡ length (stretch_by c k v p s) = ap length (stretch_chacha c k v p s e) in
    t ∙ sym (over_all (stretch_by c k v p s) s (omega arith))

pub encryption_text : (c : Cipher) (k : Keys) (b : List ℕ) → encryption_by c k b ≡ stretch_by c k k.nonce 0 (text_of c b)
unfolding encryption_by stretch_by text_of
encryption_text Aes256 k b = refl
encryption_text ChaCha20 k b = refl
