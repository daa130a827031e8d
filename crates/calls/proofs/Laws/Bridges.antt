-- Lists of calls of any kind, as the crates of the states have them: steps, feeds, advances, stretches.
--
-- In order:
--   answers_steps, after_steps                   an opening's
--   left_sha256, left_sha512                     a hash's
--   left_advances                                the key transformation's
--   left_stretches, handed_stretches             an inner stream's
-- Assumes nothing.
use mathlib.Core.Path.{◌≡◌, refl, ap}
use mathlib.Core.List.{List, [], ◌∷◌, ◌++◌}
use Prim.Native.Nat.{ℕ}
use Rattle.sha256.specs.declared.Sha256.{Sha256}
use Rattle.sha256.specs.State as sha256
use Rattle.sha512.specs.declared.Sha512.{Sha512}
use Rattle.sha512.specs.State as sha512
use Rattle.aes_kdf.specs.declared.Transformation.{Transformation}
use Rattle.aes_kdf.specs.State as aes_kdf
use Rattle.inner_stream.specs.declared.InnerStream.{InnerStream}
use Rattle.inner_stream.specs.State as stream
use Rattle.inner_stream.specs.Stretches as stretches
use Rattle.inner_stream.specs.Stretches.{Stretch}
use Rattle.opening.specs.declared.Opener.{Opener}
use Rattle.opening.specs.Runs.{Answer, answers, after, bytes_of}
use Rattle.opening.specs.Steps.{step_of}
use Rattle.calls.specs.Lists.{answers_of, left_by}
use Rattle.calls.specs.Calls.{sha256_calls, sha512_calls, aes_kdf_calls, opener_calls, inner_stream_calls}

module _ (f : List ℕ) where
  pub answers_steps : (rooms : List ℕ) (o : Opener)
      → answers_of (opener_calls f).answer (opener_calls f).next o rooms ≡ answers (step_of f) o rooms
  unfolding answers_of answers
  answers_steps [] o = refl
  answers_steps (n ∷ ns) o = ap (λ (l : List Answer). (step_of f o n).answer ∷ l) (answers_steps ns (step_of f o n).next)

  pub after_steps : (rooms : List ℕ) (o : Opener) → left_by (opener_calls f).next o rooms ≡ after (step_of f) o rooms
  unfolding left_by after
  after_steps [] o = refl
  after_steps (n ∷ ns) o = after_steps ns (step_of f o n).next

pub left_sha256 : (ss : List (List ℕ)) (h : Sha256) → left_by sha256_calls.next h ss ≡ sha256.feeds h ss
unfolding left_by sha256.feeds
left_sha256 [] h = refl
left_sha256 (s ∷ ss) h = left_sha256 ss (sha256.fed h s).next

pub left_sha512 : (ss : List (List ℕ)) (h : Sha512) → left_by sha512_calls.next h ss ≡ sha512.feeds h ss
unfolding left_by sha512.feeds
left_sha512 [] h = refl
left_sha512 (s ∷ ss) h = left_sha512 ss (sha512.fed h s).next

pub left_advances : (ns : List ℕ) (t : Transformation) → left_by aes_kdf_calls.next t ns ≡ aes_kdf.advances ns t
unfolding left_by aes_kdf.advances
left_advances [] t = refl
left_advances (n ∷ ns) t = left_advances ns (aes_kdf.advanced n t)

pub left_stretches : (xs : List Stretch) (s : InnerStream) → left_by inner_stream_calls.next s xs ≡ stretches.after s xs
unfolding left_by stretches.after
left_stretches [] s = refl
left_stretches (x ∷ xs) s = left_stretches xs (stretches.next s x)

pub handed_stretches : (xs : List Stretch) (s : InnerStream)
    → bytes_of (answers_of inner_stream_calls.answer inner_stream_calls.next s xs) ≡ stretches.handed s xs
unfolding answers_of bytes_of stretches.handed
handed_stretches [] s = refl
handed_stretches (x ∷ xs) s =
    ap (λ (l : List ℕ). stream.handed s x.bytes x.room ++ l) (handed_stretches xs (stretches.next s x))
