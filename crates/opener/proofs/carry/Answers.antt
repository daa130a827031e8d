-- `opener::carry` meets its contract. Assumes nothing.
use mathlib.Core.Path.{◌≡◌, sym, ap, subst, ◌∙◌}
use Prim.Native.Nat.{ℕ, ◌≤◌}
use Rattle.slices.specs.Over.{over}
use Rattle.ciphers.specs.declared.Cipher.{Cipher}
use Rattle.ciphers.specs.declared.Cipher.TheVariants.{Aes256, ChaCha20}
use Rattle.opening.specs.Steps.{bytes_by, prev_by, held_by}
use Rattle.opener.specs.Counts.{due_by}
use Rattle.opener.proofs.carry.Goals as goal

room : (x y : Cipher) (c n m : ℕ) → due_by x c n ≤ m → x ≡ y → due_by y c n ≤ m
room x y c n m h e = subst (λ (z : Cipher). due_by z c n ≤ m) e h

pub take_aes-requires : goal.take_aes-requires
take_aes-requires c = room _ Aes256 _ _ _ c.requires c.in-Aes256.is

pub returns-in-Aes256 : goal.returns-in-Aes256
returns-in-Aes256 c =
    let a = c.args in
    let e = sym c.in-Aes256.is in
    let t = c.take_aes.ensures in
    let d = a.d.now in
    record {
      prev_value = t.prev_value ∙ ap (λ (y : Cipher). prev_by y a.c a.prev a.held d) e;
      held_value = t.held_value ∙ ap (λ (y : Cipher). held_by y a.c a.held d) e;
      out_after = t.out_after ∙ ap (λ (y : Cipher). over (bytes_by y a.keys a.c a.prev a.held d) a.out.now) e;
    }

pub take_chacha-requires : goal.take_chacha-requires
unfolding due_by
take_chacha-requires c =
    room _ ChaCha20 _ _ _ c.requires c.in-ChaCha20.is

pub returns-in-ChaCha20 : goal.returns-in-ChaCha20
unfolding prev_by held_by bytes_by
returns-in-ChaCha20 c =
    let a = c.args in
    let e = sym c.in-ChaCha20.is in
    let d = a.d.now in
    record {
      prev_value = ap (λ (y : Cipher). prev_by y a.c a.prev a.held d) e;
      held_value = ap (λ (y : Cipher). held_by y a.c a.held d) e;
      out_after = c.take_chacha.ensures
          ∙ ap (λ (y : Cipher). over (bytes_by y a.keys a.c a.prev a.held d) a.out.now) e;
    }
