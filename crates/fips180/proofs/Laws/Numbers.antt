-- Words of any type by their numbers, in an array.
--
-- In order: get_or-numbers (one word of an array), block_words_read, grow_next (a turn of the loops that fill it).
-- Assumes nothing.
use Rattle.std.proofs.Common.{◌≡◌, ℕ, ◌+◌, ◌-◌, ◌*◌, ◌<◌, ◌≤◌, List, length, get_or, take, map, sym, ap, ◌∙◌, arith}
use Rattle.std.proofs.Math.ListN.{set}
use Rattle.std.proofs.lemmas.List.{get_or-map, map-set, length-map}
use Rattle.words.specs.Endian.{be}
use Rattle.fips180.specs.Fips180.{Sha2, block_words, next_word, grow}
use Rattle.fips180.proofs.Laws.Schedule.{block_words_more, grow_more}

module _ {W : Type 0} (n : W → ℕ) (w : List W) where
  -- x was read at i
  pub get_or-numbers : (i : ℕ) (x : W) → i < length w → x ≡ get_or w i x → n x ≡ get_or (map n w) i 0
  get_or-numbers i x h e = ap n e ∙ sym (get_or-map n w i x 0 h)

  module _ (p : Sha2) (i : ℕ) (v : W) (h : i < length w) where
    long : i < length (map n w)
    long = omega (arith, length-map w n)

    pub block_words_read : (block : List ℕ) → take i (map n w) ≡ block_words p i block
        → n v ≡ be p.bytes block (i * p.bytes) → take (i + 1) (map n (set w i v)) ≡ block_words p (i + 1) block
    block_words_read block e ev = rw map-set (block_words_more p block (map n w) i (n v) long e ev)

    pub grow_next : (ws : List ℕ) (w₂ w₇ w₁₅ w₁₆ : W) → 16 ≤ i → take i (map n w) ≡ grow p (i - 16) ws
        → w₂ ≡ get_or w (i - 2) w₂ → w₇ ≡ get_or w (i - 7) w₇ → w₁₅ ≡ get_or w (i - 15) w₁₅
        → w₁₆ ≡ get_or w (i - 16) w₁₆ → n v ≡ next_word p (n w₂) (n w₇) (n w₁₅) (n w₁₆)
        → take (i + 1) (map n (set w i v)) ≡ grow p (i + 1 - 16) ws
    grow_next ws w₂ w₇ w₁₅ w₁₆ l e e₂ e₇ e₁₅ e₁₆ ev =
        let r₂ = get_or-numbers (i - 2) w₂ (omega arith) e₂ in
        let r₇ = get_or-numbers (i - 7) w₇ (omega arith) e₇ in
        let r₁₅ = get_or-numbers (i - 15) w₁₅ (omega arith) e₁₅ in
        let r₁₆ = get_or-numbers (i - 16) w₁₆ (omega arith) e₁₆ in
        rw map-set (grow_more p ws (map n w) i (n v) l long e (cc (ev, r₂, r₇, r₁₅, r₁₆)))
