-- The block function: 64 bytes from sixteen words, whatever key, counter and nonce.
--
-- In order:
--   expanded_is, block_is    these words, and these steps, are a block's
--   length-block             every block is 64 bytes
-- Not here: rounds (Rounds), sums of words and their bytes (the crate stream's Words).
-- Assumes nothing.
use mathlib.Core.Path.{◌≡◌, refl, sym, ap, ◌∙◌}
use mathlib.Core.List.{List, [], ◌∷◌, ◌++◌}
use Prim.Native.Nat.{ℕ, ◌+◌, ◌/◌, ◌%◌, ◌^◌, ◌<◌}
use native.Mathlib.Omega.{arith}
use lib.ListN.{length}
use lib.Pow.{shr-shr}
use lib.Seq.{drop_at}
use Rattle.words.specs.Endian.{le, le_bytes}
use Rattle.words.proofs.Laws.Endian.{length-le_bytes, le-append, le-drop, le-le_bytes}
use Rattle.stream.specs.Words.{sum, serialize}
use Rattle.stream.proofs.Laws.Words.{length-serialize-sum}
use Rattle.salsa20.specs.Salsa20.{doublerounds, hash, expanded, expand, block}
use Rattle.salsa20.proofs.Laws.Rounds.{length-doublerounds}

-- the counter's bytes behind a nonce of eight: a word of each half
behind : (n : ℕ) (v t : List ℕ) (at : ℕ) → length v ≡ n → le 4 (v ++ t) (n + at) ≡ le 4 t at
behind n v t at l = sym (le-drop n 4 (v ++ t) at) ∙ ap (λ (s : List ℕ). le 4 s at) (drop_at v t n l)

halves : (c : ℕ) → le_bytes 8 c ≡ le_bytes 4 c ++ le_bytes 4 (c / 2 ^ 32)
unfolding le_bytes
halves c = rw (shr-shr c 8 8, shr-shr c 16 8, shr-shr c 24 8)

low_word : (c : ℕ) → le 4 (le_bytes 8 c) 0 ≡ c % 2 ^ 32
low_word c =
    let l = length-le_bytes 4 c in
    ap (λ (s : List ℕ). le 4 s 0) (halves c) ∙ le-append 4 (le_bytes 4 c) (le_bytes 4 (c / 2 ^ 32)) 0 (omega arith)
    ∙ le-le_bytes 4 c

high_word : (c : ℕ) → le 4 (le_bytes 8 c) 4 ≡ c / 2 ^ 32 % 2 ^ 32
high_word c =
    ap (λ (s : List ℕ). le 4 s 4) (halves c) ∙ behind 4 (le_bytes 4 c) (le_bytes 4 (c / 2 ^ 32)) 0 (length-le_bytes 4 c)
    ∙ le-le_bytes 4 (c / 2 ^ 32)

-- the words of the state that a block starts from
pub expanded_is : (key : List ℕ) (counter : ℕ) (nonce : List ℕ) {a b c d e f g h i j x y : ℕ} → length nonce ≡ 8
    → counter < 2 ^ 64
    → a ≡ le 4 key 0 → b ≡ le 4 key 4 → c ≡ le 4 key 8 → d ≡ le 4 key 12 → i ≡ le 4 nonce 0 → j ≡ le 4 nonce 4
    → e ≡ le 4 key 16 → f ≡ le 4 key 20 → g ≡ le 4 key 24 → h ≡ le 4 key 28
    → x ≡ counter % 2 ^ 32 → y ≡ counter / 2 ^ 32
    → 0x61707865 ∷ a ∷ b ∷ c ∷ d ∷ 0x3320646e ∷ i ∷ j ∷ x ∷ y ∷ 0x79622d32 ∷ e ∷ f ∷ g ∷ h ∷ 0x6b206574 ∷ []
    ≡ expanded key (nonce ++ le_bytes 8 counter)
unfolding expanded
expanded_is key counter nonce l m ea eb ec ed ei ej ee ef eg eh ex ey =
    let t : List ℕ = le_bytes 8 counter in
    let n : counter / 2 ^ 32 ≡ counter / 2 ^ 32 % 2 ^ 32 = omega arith in
    cc (
      le-append 4 nonce t 0 (omega arith),
      le-append 4 nonce t 4 (omega arith),
      behind 8 nonce t 0 l,
      behind 8 nonce t 4 l,
      low_word counter,
      high_word counter,
      n,
    )

pub block_is : (key : List ℕ) (counter : ℕ) (nonce : List ℕ) {x y o : List ℕ}
    → x ≡ expanded key (nonce ++ le_bytes 8 counter) → y ≡ doublerounds 10 x → o ≡ serialize (sum y x)
    → o ≡ block key counter nonce
unfolding block expand hash
block_is key counter nonce e f g = cc

length-expanded : (k n : List ℕ) → length (expanded k n) ≡ 16
unfolding expanded
length-expanded k n = refl

pub length-block : (key : List ℕ) (counter : ℕ) (nonce : List ℕ) → length (block key counter nonce) ≡ 64
unfolding block expand hash
length-block key counter nonce =
    let x : List ℕ = expanded key (nonce ++ le_bytes 8 counter) in
    let n : length x ≡ 16 = length-expanded key (nonce ++ le_bytes 8 counter) in
    length-serialize-sum (doublerounds 10 x) x (length-doublerounds 10 x n) n
