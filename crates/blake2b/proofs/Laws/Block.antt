-- One block (3.2): its words, the working vector, the next h; and the bytes of h (3.3).
--
-- In order:
--   block_words_none, -more, -all       a block's words, one after the other
--   compression_f-take                             one block's bytes suffice
--   working_is, joined_is, compression_f_is        these words, and these steps, are the compression function's
--   serialize_none, -more, -all        the bytes of words, one word after the other
--   length-compression_f, length-serialize         eight words, and eight bytes for each
-- Not here: rounds (Mixing), blocks one after the other (Chain).
-- Assumes nothing.
use mathlib.Core.Path.{◌≡◌, refl, sym, ap, ◌∙◌}
use mathlib.Core.Bool.{Bool, cond}
use mathlib.Core.List.{List, [], ◌∷◌, ◌++◌, append_assoc, append-nil}
use Prim.Native.Nat.{ℕ, zero, suc, ◌+◌, ◌-◌, ◌*◌, ◌^◌, ◌≤◌, ◌<◌}
use native.Mathlib.Nat.{suc-mul, mod-eq_of_lt, div-eq_of_lt}
use native.Mathlib.Numerals.{add-one}
use native.Mathlib.Omega.{arith}
use lib.Bits.{bit_xor, xor_zero_r}
use lib.ListN.{length, get_or, take, drop, set, length-append, length-drop}
use lib.Seq.{take-suc-set, take_all, take-suc, length-take-le, get_or-take, get_or-drop}
use Rattle.words.specs.Endian.{le, le_bytes}
use Rattle.words.proofs.Laws.Endian.{le-take, length-le_bytes}
use Rattle.words.specs.Xor.{xors}
use Rattle.words.proofs.Laws.Xors.{length-xors}
use Rattle.slices.specs.Over.{over, laid, put_at}
use Rattle.slices.proofs.Laws.Over.{take_over, over_behind_fits}
use Rattle.slices.proofs.Laws.Put.{put_at-tail}
use Rattle.fips180.specs.Fips180.Constants.{iv512}
use Rattle.fips180.proofs.Laws.Eight.{eight, eight_is}
use Rattle.blake2b.specs.Rfc7693.{block_words, serialize, working, rounds, joined, compression_f}
use Rattle.blake2b.proofs.Laws.Mixing.{length-rounds}

pub block_words_none : (block w : List ℕ) → take 0 w ≡ block_words 0 block
unfolding block_words
block_words_none block w = refl

pub block_words_more : (block w : List ℕ) (i v : ℕ) → i < length w → take i w ≡ block_words i block → v ≡ le 8 block (i * 8)
    → take (i + 1) (set w i v) ≡ block_words (i + 1) block
unfolding block_words
block_words_more block w i v h e ev = rw (add-one, take-suc-set w i v, e, ev)

pub block_words_all : (block w : List ℕ) (i n : ℕ) → i ≡ n → length w ≡ n → take i w ≡ block_words i block
    → w ≡ block_words n block
block_words_all block w i n e l h =
    let k : length w ≤ i = omega arith in
    sym (take_all i w k) ∙ h ∙ ap (λ (m : ℕ). block_words m block) e

block_words-take : (n : ℕ) (block : List ℕ) → n ≤ 16 → block_words n (take 128 block) ≡ block_words n block
unfolding block_words
block_words-take zero block h = refl
block_words-take (suc n) block h =
    let j : n ≤ 16 = omega arith in
    let k : n * 8 + 8 ≤ 128 = omega arith in
    rw (block_words-take n block j, le-take 128 8 block (n * 8) k)

-- a compression that is handed more than a block reads the block alone
pub compression_f-take : (h block : List ℕ) (t : ℕ) (f : Bool) → compression_f h (take 128 block) t f ≡ compression_f h block t f
unfolding compression_f
compression_f-take h block t f = rw (block_words-take 16 block (omega arith))

-- the initialization vector, word by word
record Vector (iv : List ℕ) : Type 0 where
  pub iv0 : get_or iv 0 0 ≡ 0x6a09e667f3bcc908
  pub iv1 : get_or iv 1 0 ≡ 0xbb67ae8584caa73b
  pub iv2 : get_or iv 2 0 ≡ 0x3c6ef372fe94f82b
  pub iv3 : get_or iv 3 0 ≡ 0xa54ff53a5f1d36f1
  pub iv4 : get_or iv 4 0 ≡ 0x510e527fade682d1
  pub iv5 : get_or iv 5 0 ≡ 0x9b05688c2b3e6c1f
  pub iv7 : get_or iv 7 0 ≡ 0x5be0cd19137e2179

vector : Vector iv512
unfolding iv512
vector = record { iv0 = refl; iv1 = refl; iv2 = refl; iv3 = refl; iv4 = refl; iv5 = refl; iv7 = refl }

-- the counter is one word, so that its high word changes nothing
pub working_is : (h : List ℕ) (t : ℕ) (f : Bool) {w : ℕ} → t < 2 ^ 64
    → w ≡ cond f (bit_xor (get_or iv512 6 0) (2 ^ 64 - 1)) (get_or iv512 6 0)
    → get_or h 0 0 ∷ get_or h 1 0 ∷ get_or h 2 0 ∷ get_or h 3 0 ∷ get_or h 4 0 ∷ get_or h 5 0 ∷ get_or h 6 0 ∷ get_or h 7 0
    ∷ 0x6a09e667f3bcc908 ∷ 0xbb67ae8584caa73b ∷ 0x3c6ef372fe94f82b ∷ 0xa54ff53a5f1d36f1
    ∷ bit_xor 0x510e527fade682d1 t ∷ 0x9b05688c2b3e6c1f ∷ w ∷ 0x5be0cd19137e2179 ∷ [] ≡ working h t f
unfolding working
working_is h t f l e =
    let v = vector in
    cc (
      mod-eq_of_lt l,
      div-eq_of_lt l,
      xor_zero_r (get_or iv512 5 0),
      e,
      v.iv0,
      v.iv1,
      v.iv2,
      v.iv3,
      v.iv4,
      v.iv5,
      v.iv7,
    )

pub joined_is : (h v : List ℕ) → length h ≡ 8 → length v ≡ 16
    → bit_xor (bit_xor (get_or h 0 0) (get_or v 0 0)) (get_or v 8 0) ∷ bit_xor (bit_xor (get_or h 1 0) (get_or v 1 0)) (get_or v 9 0)
    ∷ bit_xor (bit_xor (get_or h 2 0) (get_or v 2 0)) (get_or v 10 0) ∷ bit_xor (bit_xor (get_or h 3 0) (get_or v 3 0)) (get_or v 11 0)
    ∷ bit_xor (bit_xor (get_or h 4 0) (get_or v 4 0)) (get_or v 12 0) ∷ bit_xor (bit_xor (get_or h 5 0) (get_or v 5 0)) (get_or v 13 0)
    ∷ bit_xor (bit_xor (get_or h 6 0) (get_or v 6 0)) (get_or v 14 0) ∷ bit_xor (bit_xor (get_or h 7 0) (get_or v 7 0)) (get_or v 15 0)
    ∷ [] ≡ joined h v
unfolding joined xors
joined_is h v l n =
    let a : length (take 8 v) ≡ 8 = length-take-le 8 v (omega arith) in
    let b : length (drop 8 v) ≡ 8 = simp length-drop (omega arith) in
    let e = ap (λ (x : List ℕ). xors (xors x (eight (take 8 v))) (eight (drop 8 v))) (eight_is h l)
    ∙ ap (λ (x : List ℕ). xors (xors h x) (eight (drop 8 v))) (eight_is (take 8 v) a)
    ∙ ap (λ (x : List ℕ). xors (xors h (take 8 v)) x) (eight_is (drop 8 v) b) in
    rw (
      get_or-take 8 v 0 0 (omega arith),
      get_or-take 8 v 1 0 (omega arith),
      get_or-take 8 v 2 0 (omega arith),
      get_or-take 8 v 3 0 (omega arith),
      get_or-take 8 v 4 0 (omega arith),
      get_or-take 8 v 5 0 (omega arith),
      get_or-take 8 v 6 0 (omega arith),
      get_or-take 8 v 7 0 (omega arith),
      get_or-drop 8 v 0 0,
      get_or-drop 8 v 1 0,
      get_or-drop 8 v 2 0,
      get_or-drop 8 v 3 0,
      get_or-drop 8 v 4 0,
      get_or-drop 8 v 5 0,
      get_or-drop 8 v 6 0,
      get_or-drop 8 v 7 0,
    ) at e

pub compression_f_is : (h block : List ℕ) (t : ℕ) (f : Bool) {m v u r : List ℕ} → m ≡ block_words 16 block → v ≡ working h t f
    → u ≡ rounds 12 m v → r ≡ joined h u → r ≡ compression_f h block t f
unfolding compression_f
compression_f_is h block t f em ev eu er = cc

serialize-append : (v w : List ℕ) → serialize (v ++ w) ≡ serialize v ++ serialize w
unfolding serialize
serialize-append [] w = refl
serialize-append (x ∷ v) w = rw (serialize-append v w, append_assoc)

serialize-suc : (c : List ℕ) (i : ℕ) → i < length c
    → serialize (take (suc i) c) ≡ serialize (take i c) ++ le_bytes 8 (get_or c i 0)
unfolding serialize
serialize-suc c i h = rw (take-suc c i 0, serialize-append, append-nil)

pub serialize_none : (c out : List ℕ) → take (0 * 8) out ≡ serialize (take 0 c)
unfolding serialize
serialize_none c out = refl

-- a writing that has room, as one over the front
put_at_over : (at : ℕ) (w d : List ℕ) → at + length w ≤ length d → put_at at w d ≡ over (take at d ++ w) d
put_at_over at w d h =
    let ys : List ℕ = laid w (take (length d - at) (drop at d)) in
    sym (put_at-tail w d ys at (length d - at) (omega arith) refl refl)
    ∙ over_behind_fits w d ys at (length d - at) h refl refl

-- the bytes of word i, written behind those of the words before
pub serialize_more : (c out b d : List ℕ) (i : ℕ) → i < length c → i * 8 + length b ≤ length out
    → take (i * 8) out ≡ serialize (take i c) → b ≡ le_bytes 8 (get_or c i 0) → d ≡ put_at (i * 8) b out
    → take ((i + 1) * 8) d ≡ serialize (take (i + 1) c)
serialize_more c out b d i h l e g k =
    let n = length-take-le (i * 8) out (omega arith) in
    let v : length b ≡ 8 = ap length g ∙ length-le_bytes 8 (get_or c i 0) in
    let j : length (take (i * 8) out ++ b) ≡ i * 8 + 8 = simp length-append (omega arith) in
    rw (add-one, suc-mul, serialize-suc c i h)
    (cc (e, g, k, put_at_over (i * 8) b out l, take_over (take (i * 8) out ++ b) out (i * 8 + 8) j))

pub serialize_all : (c out : List ℕ) (i n : ℕ) → length c ≤ i → length out ≤ n → i * 8 ≡ n
    → take (i * 8) out ≡ serialize (take i c)
    → out ≡ serialize c
serialize_all c out i n h l z e = sym (take_all n out l) ∙ ap (λ (m : ℕ). take m out) (sym z) ∙ e
    ∙ ap serialize (take_all i c h)

length-joined : (h v : List ℕ) → length h ≡ 8 → length v ≡ 16 → length (joined h v) ≡ 8
unfolding joined
length-joined h v l n =
    let a : length (take 8 v) ≡ 8 = length-take-le 8 v (omega arith) in
    let b : length (drop 8 v) ≡ 8 = simp length-drop (omega arith) in
    let c = length-xors h (take 8 v) (omega arith) in
    let d = length-xors (xors h (take 8 v)) (drop 8 v) (omega arith) in
    omega arith

length-working : (h : List ℕ) (t : ℕ) (f : Bool) → length (working h t f) ≡ 16
unfolding working
length-working h t f = refl

pub length-compression_f : (h block : List ℕ) (t : ℕ) (f : Bool) → length h ≡ 8 → length (compression_f h block t f) ≡ 8
unfolding compression_f
length-compression_f h block t f l =
    length-joined h (rounds 12 (block_words 16 block) (working h t f)) l
    (length-rounds 12 (block_words 16 block) (working h t f) ∙ length-working h t f)

pub length-serialize : (ws : List ℕ) → length (serialize ws) ≡ 8 * length ws
unfolding serialize
length-serialize [] = refl
length-serialize (w ∷ ws) =
    let e = length-le_bytes 8 w in
    let f = length-serialize ws in
    simp length-append (omega arith)
