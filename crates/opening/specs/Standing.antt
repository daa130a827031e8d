-- How the code's state stands for the plain opener's: a function, so that agreement is an equation.
-- Assumes nothing.
use Rattle.std.specs.Prelude.{List, ℕ, length, take, drop}
use Rattle.ciphers.specs.declared.Cipher.{Cipher}
use Rattle.ciphers.specs.declared.Cipher.TheVariants.{Aes256, ChaCha20}
use Rattle.cbc.specs.Sp80038a.{previous}
use Rattle.opening.specs.declared.Keys.{Keys}
use Rattle.opening.specs.declared.Phase.{Phase}
use Rattle.opening.specs.declared.Phase.TheVariants.{Open, Closed, Ended}
use Rattle.opening.specs.declared.Opener.{Opener}
use Rattle.opening.specs.Decryption.{handed}
use Rattle.opening.specs.Plain.{Plain}
use Rattle.opening.specs.Steps.{opener, blank, zeros, padded}

-- the piece before the held bytes, the first being v
unfoldable pub prev_of : Cipher → List ℕ → List ℕ → List ℕ
prev_of Aes256 v t = previous v (take (handed Aes256 (length t)) t)
prev_of ChaCha20 v t = zeros

-- the bytes not decrypted yet
unfoldable pub held_of : Cipher → List ℕ → List ℕ
held_of Aes256 t = padded (drop (handed Aes256 (length t)) t)
held_of ChaCha20 t = zeros

unfoldable pub standing_in : Phase → Keys → ℕ → ℕ → List ℕ → Opener
standing_in Open k i p t = opener k Open i p (length t) (prev_of k.cipher k.nonce t) (held_of k.cipher t)
standing_in Closed k i p t = blank Closed
standing_in Ended k i p t = blank Ended

-- the code's state under the keys k
unfoldable pub standing : Keys → Plain → Opener
standing k q = standing_in q.phase k q.number q.at q.text
