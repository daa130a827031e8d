-- The block function: 64 bytes from sixteen words, whatever key, counter and nonce.
--
-- In order:
--   initial_state_is, block_is   these words, and these steps, are a block's
--   length-block                 every block is 64 bytes
--   block-mod                    only the counter's low 32 bits count
-- Not here: rounds (Rounds), sums of words and their bytes (the crate stream's Words).
-- Assumes nothing.
use mathlib.Core.Path.{◌≡◌, refl, ◌∙◌}
use mathlib.Core.List.{List, [], ◌∷◌}
use Prim.Native.Nat.{ℕ, ◌%◌, ◌^◌, ◌<◌}
use native.Mathlib.Nat.{mod-mod, mod-eq_of_lt}
use lib.ListN.{length}
use Rattle.words.specs.Endian.{le}
use Rattle.stream.specs.Words.{sum, serialize}
use Rattle.stream.proofs.Laws.Words.{length-serialize-sum}
use Rattle.chacha20.specs.Rfc8439.{inner_blocks, initial_state, block}
use Rattle.chacha20.proofs.Laws.Rounds.{length-inner_blocks}

-- the words of the state that a block starts from
pub initial_state_is : (key : List ℕ) (counter : ℕ) (nonce : List ℕ) {a b c d e f g h i j k : ℕ} → counter < 2 ^ 32
    → a ≡ le 4 key 0 → b ≡ le 4 key 4 → c ≡ le 4 key 8 → d ≡ le 4 key 12
    → e ≡ le 4 key 16 → f ≡ le 4 key 20 → g ≡ le 4 key 24 → h ≡ le 4 key 28
    → i ≡ le 4 nonce 0 → j ≡ le 4 nonce 4 → k ≡ le 4 nonce 8
    → 0x61707865 ∷ 0x3320646e ∷ 0x79622d32 ∷ 0x6b206574 ∷ a ∷ b ∷ c ∷ d ∷ e ∷ f ∷ g ∷ h ∷ counter ∷ i ∷ j ∷ k ∷ []
    ≡ initial_state key counter nonce
unfolding initial_state
initial_state_is key counter nonce l ea eb ec ed ee ef eg eh ei ej ek = cc (mod-eq_of_lt l)

pub block_is : (key : List ℕ) (counter : ℕ) (nonce : List ℕ) {x y o : List ℕ} → x ≡ initial_state key counter nonce
    → y ≡ inner_blocks 10 x → o ≡ serialize (sum y x) → o ≡ block key counter nonce
unfolding block
block_is key counter nonce e f g = cc

length-initial_state : (key : List ℕ) (counter : ℕ) (nonce : List ℕ) → length (initial_state key counter nonce) ≡ 16
unfolding initial_state
length-initial_state key counter nonce = refl

pub length-block : (key : List ℕ) (counter : ℕ) (nonce : List ℕ) → length (block key counter nonce) ≡ 64
unfolding block
length-block key counter nonce =
    let x : List ℕ = initial_state key counter nonce in
    let n : length x ≡ 16 = length-initial_state key counter nonce in
    length-serialize-sum (inner_blocks 10 x) x (length-inner_blocks 10 x ∙ n) n

initial_state-mod : (key : List ℕ) (c : ℕ) (nonce : List ℕ)
    → initial_state key (c % 2 ^ 32) nonce ≡ initial_state key c nonce
unfolding initial_state
initial_state-mod key c nonce = rw mod-mod

pub block-mod : (key : List ℕ) (c : ℕ) (nonce : List ℕ) → block key (c % 2 ^ 32) nonce ≡ block key c nonce
unfolding block
block-mod key c nonce = rw initial_state-mod
