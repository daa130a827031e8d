-- RFC 8439's encryption is the stream of its block function, applied.
--
-- In order: encrypt-apply (the theorem).
-- Not here: the stream's own laws (the crate stream).
-- Assumes nothing.
use mathlib.Core.Path.{◌≡◌, refl, sym}
use mathlib.Core.List.{List}
use Prim.Native.Nat.{ℕ, zero, suc, ◌+◌, ◌*◌, ◌/◌, ◌≤◌}
use native.Mathlib.Omega.{arith}
use lib.ListN.{length, drop, length-drop}
use Rattle.stream.specs.Stream.{apply}
use Rattle.stream.proofs.Laws.Apply.{apply_within, apply_next}
use Rattle.chacha20.specs.Rfc8439.{blocks, encrypt_blocks, encrypt}
use Rattle.chacha20.proofs.Laws.Block.{length-block}

encrypt_blocks-apply : (n : ℕ) (key : List ℕ) (c : ℕ) (nonce s : List ℕ) → length s / 64 ≡ n
    → encrypt_blocks n key c nonce s ≡ apply (blocks key nonce) (64 * c) s
unfolding encrypt_blocks
encrypt_blocks-apply zero key c nonce s e =
    let h : length s ≤ 64 = omega arith in
    sym (apply_within (blocks key nonce) c s (length-block key c nonce) h)
encrypt_blocks-apply (suc n) key c nonce s e =
    let h : 64 ≤ length s = omega arith in
    let k : length (drop 64 s) / 64 ≡ n = simp length-drop (omega arith) in
    rw (encrypt_blocks-apply n key (c + 1) nonce (drop 64 s) k)
    (sym (apply_next (blocks key nonce) c s (length-block key c nonce) h))

-- encryption with an initial counter is the stream from that counter's block on
pub encrypt-apply : (key : List ℕ) (c : ℕ) (nonce s : List ℕ)
    → encrypt key c nonce s ≡ apply (blocks key nonce) (64 * c) s
unfolding encrypt
encrypt-apply key c nonce s = encrypt_blocks-apply (length s / 64) key c nonce s refl
