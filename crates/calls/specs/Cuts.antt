-- Document 02, Item 9, for a caller in C, who keeps a state as bytes.
--
--   "a helping of a followed by one of b is a helping of a + b, where the sum fits
--    its number, and .. a helping of 0 changes nothing"                            KdfBytes, AdvancesAdd
--   "Where Item 1 accepts a stretch, covering it twice at one position returns
--    the bytes"                                                                    StreamReturned
--   "Where Item 1 accepts a stretch .. cut in two it gives what it gives uncut"    StreamCutInTwo
-- The last two are said of a stretch that is accepted into the lent output `out`: the theorems (proofs, Cuts) ask that.
-- One stretch straight from the inner key, `kdbx4_inner_stream`, keeps no state: its contract cites the definitions of
-- crate inner_stream, and so the theorems there hold of it.
-- Assumes nothing.
use Rattle.std.specs.Prelude.{◌≡◌, List, ◌∷◌, ◌++◌, ℕ, ◌+◌, ◌≤◌, length, take, drop, Ok}
use Rattle.words.specs.Endian.{Bytes}
use Rattle.words.specs.Sums.{total}
use Rattle.slices.specs.Over.{over}
use Rattle.opening.specs.Runs.{Answer}
use Rattle.states.specs.AesKdfState as aes_kdf_bytes
use Rattle.calls.specs.Lists.{call_answer, call_next, bytes_after}
use Rattle.calls.specs.Calls.{progress_of, aes_kdf_calls, inner_stream_calls}
use Rattle.calls.specs.Agreement.{kdf_start}

-- bytes that `kdbx4_aes_kdf_start` wrote, of a composite key and a seed as C lends them, or `kdbx4_aes_kdf_advance`
-- over any 281 bytes
pub data KdfBytes (b : List ℕ) : Type 0 where
  by_start : (c s : List ℕ) (r : ℕ) → length c ≡ 32 → Bytes s → b ≡ kdf_start c s r → KdfBytes b
  by_advance : (had : List ℕ) (n : ℕ) → length had ≡ 281 → Bytes had → b ≡ call_next aes_kdf_calls had n → KdfBytes b

-- of lent bytes b: an advance of x and then one of y, against one of x + y: the bytes left, and what the last one tells
pub record AdvancesAdd (b : List ℕ) : Type 0 where
  pub bytes_add : (x y : ℕ) → call_next aes_kdf_calls (call_next aes_kdf_calls b x) y ≡ call_next aes_kdf_calls b (x + y)
  pub told_add : (x y : ℕ) → call_answer aes_kdf_calls (call_next aes_kdf_calls b x) y ≡ call_answer aes_kdf_calls b (x + y)
  -- .. and so any list of them
  pub bytes_total : (n : ℕ) (ns : List ℕ) → bytes_after aes_kdf_calls b (n ∷ ns) ≡ call_next aes_kdf_calls b (total (n ∷ ns))
  -- an advance of 0 tells the rounds done and the halves as they are, and leaves every byte
  pub told_zero : call_answer aes_kdf_calls b 0 ≡ progress_of (aes_kdf_bytes.unpacked b)
  pub bytes_zero : KdfBytes b → call_next aes_kdf_calls b 0 ≡ b

-- a stretch with so many bytes lent: what it answers, and the bytes of the state that it leaves
abbrev pub stretched : List ℕ → List ℕ → ℕ → Answer
stretched b s room = call_answer inner_stream_calls b (record { bytes = s; room = room })

abbrev pub state_behind : List ℕ → List ℕ → ℕ → List ℕ
state_behind b s room = call_next inner_stream_calls b (record { bytes = s; room = room })

-- .. and the lent output
abbrev pub out_from : List ℕ → List ℕ → List ℕ → List ℕ
out_from b s out = over (stretched b s (length out)).bytes out

-- of lent bytes b: what the bytes s give, covered from the same b, with room for it
pub record StreamReturned (b s out : List ℕ) : Type 0 where
  pub accepted : (room : ℕ) → length s ≤ room
      → (stretched b (stretched b s (length out)).bytes room).written ≡ Ok (length s)
  pub bytes : (room : ℕ) → length s ≤ room → (stretched b (stretched b s (length out)).bytes room).bytes ≡ s
  pub lent : (back : List ℕ) → length s ≤ length back
      → out_from b (take (length s) (out_from b s out)) back ≡ over s back
  pub leaves : (room : ℕ) → length s ≤ room
      → state_behind b (stretched b s (length out)).bytes room ≡ state_behind b s (length out)

-- .. the bytes s ++ t; s, and t from the bytes left by it, each with room for it, or t behind s in the same output
pub record StreamCutInTwo (b s t out : List ℕ) : Type 0 where
  pub first : (room : ℕ) → length s ≤ room → (stretched b s room).written ≡ Ok (length s)
  pub second : (m n : ℕ) → length s ≤ m → length t ≤ n
      → (stretched (state_behind b s m) t n).written ≡ Ok (length t)
  pub bytes : (m n : ℕ) → length s ≤ m → length t ≤ n
      → (stretched b s m).bytes ++ (stretched (state_behind b s m) t n).bytes ≡ (stretched b (s ++ t) (length out)).bytes
  pub lent : take (length s) (out_from b s out)
      ++ out_from (state_behind b s (length out)) t (drop (length s) (out_from b s out))
      ≡ out_from b (s ++ t) out
  pub leaves : (m n : ℕ) → length s ≤ m → length t ≤ n
      → state_behind (state_behind b s m) t n ≡ state_behind b (s ++ t) (length out)
