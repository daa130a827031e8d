-- What a writer's success says, with any sizes.
--
-- In order:
--   wrote_never                     a refusal is no success
--   settled_says                    what a settled answer says of payload, file and room
--   shown-wrote, success            the bytes of a success, and all that it says
-- Assumes nothing.
use mathlib.Core.Path.{◌≡◌, refl, ap}
use mathlib.Core.List.{List}
use Prim.Native.Nat.{ℕ, ◌≤◌}
use native.Mathlib.Omega.{arith}
use lib.Dec.{leb, ltb}
use lib.ListN.{length}
use borrow.Author.Tests.{leb-true, ltb-false}
use Rattle.words.proofs.Laws.Cases.{by_bool}
use Rattle.refusals.specs.Numbers.{count_of}
use Rattle.refusals.specs.declared.Refusal.{Refusal}
use Rattle.refusals.specs.declared.Refusal.TheVariants.{TooLong, NoRoom}
use Rattle.ciphers.specs.declared.Cipher.{Cipher}
use Rattle.std.specs.Prelude.{Result, Ok, Err}
use Rattle.writer.specs.Written.{Figures, Sizes, settled, file_cut, checked_of, writing_by, writing_with, shown_by, shown_with}

wrote_never : (r : Refusal) (m : ℕ) → Err r ≡ Ok m → ⊥
wrote_never r m e = let z : ◌≡◌ {A = ℕ} 0 1 = cc in omega arith

-- a payload of l bytes and its file of f bytes
record Settled (s : Sizes) (l f n m : ℕ) : Type 0 where
  payload_le : l ≤ s.payload
  file_le : f ≤ s.file
  room : f ≤ n
  count : f ≡ m

settled_says : (s : Sizes) (l f n m : ℕ) → settled s l f n ≡ Ok m → Settled s l f n m
unfolding settled
settled_says s l f n m =
    by_bool (leb l s.payload)
    (λ u.
    by_bool (leb f s.file)
    (λ v.
    by_bool (ltb n f)
    (λ w. rw (u, v, w) (λ h. absurd (wrote_never NoRoom m h)))
    (λ w.
    rw (u, v, w)
    (λ h.
    record {
      payload_le = leb-true l s.payload u;
      file_le = leb-true f s.file v;
      room = ltb-false n f w;
      count = ap count_of h;
    })))
    (λ v. rw (u, v) (λ h. absurd (wrote_never TooLong m h))))
    (λ u. rw u (λ h. absurd (wrote_never TooLong m h)))

pub record Success (s : Sizes) (g : Figures) (t b : List ℕ) (n m : ℕ) : Type 0 where
  pub cipher : Cipher
  pub accepted : checked_of g ≡ Ok cipher
  pub payload_le : length b ≤ s.payload
  pub file_le : length (file_cut s.block g cipher t b) ≤ s.file
  pub room : length (file_cut s.block g cipher t b) ≤ n
  pub count : length (file_cut s.block g cipher t b) ≡ m
  pub bytes : shown_with s g t b n ≡ file_cut s.block g cipher t b

-- the bytes that a success shows
pub shown-wrote : (s : Sizes) (g : Figures) (c : Cipher) (t b : List ℕ) (n m : ℕ) → checked_of g ≡ Ok c
    → writing_with s g t b n ≡ Ok m
    → shown_with s g t b n ≡ file_cut s.block g c t b
unfolding shown_with shown_by
shown-wrote s g c t b n m e h = rw (e, h)

success_by : (s : Sizes) (x : Result Cipher Refusal) (g : Figures) (t b : List ℕ) (n m : ℕ) → checked_of g ≡ x
    → writing_with s g t b n ≡ Ok m → writing_by s x g t b n ≡ Ok m
    → Success s g t b n m
unfolding writing_by
success_by s (Err r) g t b n m e h = λ q. absurd (wrote_never r m q)
success_by s (Ok c) g t b n m e h = λ q.
    let y = settled_says s (length b) (length (file_cut s.block g c t b)) n m q in
    record {
      cipher = c;
      accepted = e;
      payload_le = y.payload_le;
      file_le = y.file_le;
      room = y.room;
      count = y.count;
      bytes = shown-wrote s g c t b n m e h;
    }

pub success : (s : Sizes) (g : Figures) (t b : List ℕ) (n m : ℕ) → writing_with s g t b n ≡ Ok m
    → Success s g t b n m
unfolding writing_with
success s g t b n m h = success_by s (checked_of g) g t b n m refl h h
