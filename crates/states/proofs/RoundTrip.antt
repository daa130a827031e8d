-- Unpacking what was packed gives the state again. So calls that each unpack a state, go on with it and pack the next
-- one do what the calls on the state itself do.
--
-- In order: sha256_round_trip, sha512_round_trip, aes_kdf_round_trip, opener_round_trip, inner_stream_round_trip.
-- Assumes nothing.
use mathlib.Core.Path.{◌≡◌, refl, sym, ap, ◌∙◌}
use mathlib.Core.List.{List, [], ◌∷◌, ◌++◌, append_assoc, append-nil}
use Prim.Native.Nat.{ℕ, ◌*◌, ◌<◌}
use native.Mathlib.Omega.{arith}
use lib.ListN.{length, get_or, take, drop}
use lib.Seq.{get_or-take}
use Rattle.words.specs.Endian.{le_bytes}
use Rattle.words.proofs.Laws.Endian.{length-le_bytes}
use Rattle.ciphers.specs.declared.Cipher.{Cipher}
use Rattle.ciphers.specs.declared.Cipher.TheVariants.{Aes256, ChaCha20}
use Rattle.sha256.specs.declared.Sha256.{Sha256}
use Rattle.sha512.specs.declared.Sha512.{Sha512}
use Rattle.aes_kdf.specs.declared.Mark.{Mark}
use Rattle.aes_kdf.specs.declared.Mark.TheVariants.{Accepted, Refused}
use Rattle.aes_kdf.specs.declared.Transformation.{Transformation}
use Rattle.opening.specs.declared.Keys.{Keys}
use Rattle.opening.specs.declared.Phase.{Phase}
use Rattle.opening.specs.declared.Phase.TheVariants.{Open, Closed, Ended}
use Rattle.opening.specs.declared.Opener.{Opener}
use Rattle.inner_stream.specs.declared.StreamCipher.{StreamCipher}
use Rattle.inner_stream.specs.declared.StreamCipher.TheVariants as stream_cipher
use Rattle.inner_stream.specs.declared.InnerStream.{InnerStream}
use Rattle.states.specs.Words.{word_bytes}
use Rattle.states.specs.Sha256State as sha256
use Rattle.states.specs.Sha512State as sha512
use Rattle.states.specs.AesKdfState as kdf
use Rattle.states.specs.OpenerState as opener
use Rattle.states.specs.InnerStreamState as stream
use Rattle.states.proofs.Laws.Words.{length-word_bytes, le_back, words_at_back}
use Rattle.states.proofs.Laws.Parts.{joined, Lies, lies_part, lies_next}

-- n words of k bytes each
length-words : (k n m : ℕ) (w : List ℕ) → length w ≡ n → n * k ≡ m → length (word_bytes k w) ≡ m
length-words k n m w e f = length-word_bytes k w ∙ ap (λ (j : ℕ). j * k) e ∙ f

sha256-unpacked : (s : Sha256) (b : List ℕ) → sha256.Typed s
    → Lies b 0 (word_bytes 4 s.chain ∷ s.buffer ∷ le_bytes 4 s.total ∷ [])
    → sha256.unpacked b ≡ s
unfolding sha256.unpacked
sha256-unpacked s b t l₀ =
    let n = length-words 4 8 32 s.chain t.long_chain refl in
    let l₁ = lies_next l₀ 32 n in
    let l₂ = lies_next l₁ 64 t.long_buffer in
    rw (
      words_at_back 4 b s.chain 0 8 (lies_part l₀ 32 n) t.long_chain t.words_chain,
      lies_part l₁ 64 t.long_buffer,
      le_back 4 b 96 s.total (lies_part l₂ 4 (length-le_bytes 4 s.total)) t.lt_total,
    )

pub sha256_round_trip : (s : Sha256) → sha256.Typed s → sha256.unpacked (sha256.packed s) ≡ s
unfolding sha256.packed
sha256_round_trip s t = sha256-unpacked s _ t (record { is = simp (append_assoc, append-nil) })

sha512-unpacked : (s : Sha512) (b : List ℕ) → sha512.Typed s
    → Lies b 0 (word_bytes 8 s.chain ∷ s.buffer ∷ le_bytes 4 s.total ∷ [])
    → sha512.unpacked b ≡ s
unfolding sha512.unpacked
sha512-unpacked s b t l₀ =
    let n = length-words 8 8 64 s.chain t.long_chain refl in
    let l₁ = lies_next l₀ 64 n in
    let l₂ = lies_next l₁ 128 t.long_buffer in
    rw (
      words_at_back 8 b s.chain 0 8 (lies_part l₀ 64 n) t.long_chain t.words_chain,
      lies_part l₁ 128 t.long_buffer,
      le_back 4 b 192 s.total (lies_part l₂ 4 (length-le_bytes 4 s.total)) t.lt_total,
    )

pub sha512_round_trip : (s : Sha512) → sha512.Typed s → sha512.unpacked (sha512.packed s) ≡ s
unfolding sha512.packed
sha512_round_trip s t = sha512-unpacked s _ t (record { is = simp (append_assoc, append-nil) })

-- byte i of the part from 0 on
byte_back : (b x : List ℕ) (n i : ℕ) → take n (drop 0 b) ≡ x → i < n → get_or b i 0 ≡ get_or x i 0
byte_back b x n i e h = sym (get_or-take n b i 0 h) ∙ ap (λ (y : List ℕ). get_or y i 0) e

mark_back : (m : Mark) → kdf.mark_of (kdf.byte_of m) ≡ m
mark_back Accepted = refl
mark_back Refused = refl

aes_kdf-unpacked : (t : Transformation) (b : List ℕ) → kdf.Typed t
    → Lies b 0 ((kdf.byte_of t.mark ∷ []) ∷ word_bytes 4 t.keys.words ∷ t.left ∷ t.right ∷ le_bytes 4 t.done
    ∷ le_bytes 4 t.rounds ∷ [])
    → kdf.unpacked b ≡ t
unfolding kdf.unpacked
aes_kdf-unpacked t b h l₀ =
    let n = length-words 4 60 240 t.keys.words h.long_keys refl in
    let l₁ = lies_next l₀ 1 refl in
    let l₂ = lies_next l₁ 240 n in
    let l₃ = lies_next l₂ 16 h.long_left in
    let l₄ = lies_next l₃ 16 h.long_right in
    let l₅ = lies_next l₄ 4 (length-le_bytes 4 t.done) in
    rw (
      byte_back b (kdf.byte_of t.mark ∷ []) 1 0 (lies_part l₀ 1 refl) (omega arith),
      mark_back t.mark,
      words_at_back 4 b t.keys.words 1 60 (lies_part l₁ 240 n) h.long_keys h.words_keys,
      lies_part l₂ 16 h.long_left,
      lies_part l₃ 16 h.long_right,
      le_back 4 b 273 t.done (lies_part l₄ 4 (length-le_bytes 4 t.done)) h.lt_done,
      le_back 4 b 277 t.rounds (lies_part l₅ 4 (length-le_bytes 4 t.rounds)) h.lt_rounds,
    )

pub aes_kdf_round_trip : (t : Transformation) → kdf.Typed t → kdf.unpacked (kdf.packed t) ≡ t
unfolding kdf.packed
aes_kdf_round_trip t h = aes_kdf-unpacked t _ h (record { is = simp (append_assoc, append-nil) })

phase_back : (p : Phase) (c : Cipher) → opener.phase_of (opener.mark_of p) (opener.byte_of c) ≡ p
phase_back Open Aes256 = refl
phase_back Open ChaCha20 = refl
phase_back Ended c = refl
phase_back Closed c = refl

cipher_back : (c : Cipher) → opener.cipher_of (opener.byte_of c) ≡ c
cipher_back Aes256 = refl
cipher_back ChaCha20 = refl

keys-unpacked : (k : Keys) (b : List ℕ) → opener.TypedKeys k → get_or b 1 0 ≡ opener.byte_of k.cipher
    → Lies b 58 (k.key ∷ word_bytes 4 k.round_keys.words ∷ k.nonce ∷ k.base ∷ [])
    → opener.keys_in b ≡ k
unfolding opener.keys_in
keys-unpacked k b h e l₀ =
    let n = length-words 4 60 240 k.round_keys.words h.long_round_keys refl in
    let l₁ = lies_next l₀ 32 h.long_key in
    let l₂ = lies_next l₁ 240 n in
    let l₃ = lies_next l₂ 16 h.long_nonce in
    rw (
      e,
      cipher_back k.cipher,
      lies_part l₀ 32 h.long_key,
      words_at_back 4 b k.round_keys.words 90 60 (lies_part l₁ 240 n) h.long_round_keys h.words_round_keys,
      lies_part l₂ 16 h.long_nonce,
      lies_part l₃ 64 h.long_base,
    )

opener-unpacked : (o : Opener) (b : List ℕ) → opener.Typed o
    → Lies b 0 ((opener.mark_of o.phase ∷ opener.byte_of o.keys.cipher ∷ []) ∷ le_bytes 8 o.number
    ∷ le_bytes 8 o.at ∷ le_bytes 8 o.taken ∷ o.prev ∷ o.held ∷ o.keys.key
    ∷ word_bytes 4 o.keys.round_keys.words ∷ o.keys.nonce ∷ o.keys.base ∷ [])
    → opener.unpacked b ≡ o
unfolding opener.unpacked
opener-unpacked o b h l₀ =
    let marks : List ℕ = opener.mark_of o.phase ∷ opener.byte_of o.keys.cipher ∷ [] in
    let l₁ = lies_next l₀ 2 refl in
    let l₂ = lies_next l₁ 8 (length-le_bytes 8 o.number) in
    let l₃ = lies_next l₂ 8 (length-le_bytes 8 o.at) in
    let l₄ = lies_next l₃ 8 (length-le_bytes 8 o.taken) in
    let l₅ = lies_next l₄ 16 h.long_prev in
    let l₆ = lies_next l₅ 16 h.long_held in
    let byte = byte_back b marks 2 1 (lies_part l₀ 2 refl) (omega arith) in
    rw (
      keys-unpacked o.keys b h.typed_keys byte l₆,
      byte_back b marks 2 0 (lies_part l₀ 2 refl) (omega arith),
      byte,
      phase_back o.phase o.keys.cipher,
      le_back 8 b 2 o.number (lies_part l₁ 8 (length-le_bytes 8 o.number)) h.lt_number,
      le_back 8 b 10 o.at (lies_part l₂ 8 (length-le_bytes 8 o.at)) h.lt_at,
      le_back 8 b 18 o.taken (lies_part l₃ 8 (length-le_bytes 8 o.taken)) h.lt_taken,
      lies_part l₄ 16 h.long_prev,
      lies_part l₅ 16 h.long_held,
    )

-- six parts, and four behind them
six_four : (a b c d e f g h i j : List ℕ)
    → a ++ b ++ c ++ d ++ e ++ f ++ (g ++ h ++ i ++ j)
    ≡ joined (a ∷ b ∷ c ∷ d ∷ e ∷ f ∷ g ∷ h ∷ i ∷ j ∷ [])
six_four a b c d e f g h i j = simp (append_assoc, append-nil)

pub opener_round_trip : (o : Opener) → opener.Typed o → opener.unpacked (opener.packed o) ≡ o
unfolding opener.packed opener.figures opener.keys
opener_round_trip o h =
    let marks : List ℕ = opener.mark_of o.phase ∷ opener.byte_of o.keys.cipher ∷ [] in
    let words : List ℕ = word_bytes 4 o.keys.round_keys.words in
    opener-unpacked o (opener.packed o) h
    (record {
      is = six_four marks (le_bytes 8 o.number) (le_bytes 8 o.at) (le_bytes 8 o.taken) o.prev o.held
          o.keys.key words o.keys.nonce o.keys.base;
    })

stream_cipher_back : (c : StreamCipher) → stream.cipher_of (stream.byte_of c) ≡ c
stream_cipher_back stream_cipher.Salsa20 = refl
stream_cipher_back stream_cipher.ChaCha20 = refl
stream_cipher_back stream_cipher.Closed = refl

inner_stream_unpacked : (s : InnerStream) (b : List ℕ) → stream.Typed s
    → Lies b 0 ((stream.byte_of s.cipher ∷ []) ∷ s.key ∷ s.nonce ∷ le_bytes 8 s.position ∷ [])
    → stream.unpacked b ≡ s
unfolding stream.unpacked
inner_stream_unpacked s b h l₀ =
    let l₁ = lies_next l₀ 1 refl in
    let l₂ = lies_next l₁ 32 h.long_key in
    let l₃ = lies_next l₂ 12 h.long_nonce in
    rw (
      byte_back b (stream.byte_of s.cipher ∷ []) 1 0 (lies_part l₀ 1 refl) (omega arith),
      stream_cipher_back s.cipher,
      lies_part l₁ 32 h.long_key,
      lies_part l₂ 12 h.long_nonce,
      le_back 8 b 45 s.position (lies_part l₃ 8 (length-le_bytes 8 s.position)) h.lt_position,
    )

pub inner_stream_round_trip : (s : InnerStream) → stream.Typed s → stream.unpacked (stream.packed s) ≡ s
unfolding stream.packed
inner_stream_round_trip s h = inner_stream_unpacked s _ h (record { is = simp (append_assoc, append-nil) })
