-- How long the parts of an opening's bytes are.
--
-- In order: length-figures, length-keys.
-- Assumes nothing.
use mathlib.Core.Path.{◌≡◌}
use lib.ListN.{length, length-append}
use Rattle.words.proofs.Laws.Endian.{length-le_bytes}
use Rattle.opening.specs.declared.Keys.{Keys}
use Rattle.opening.specs.declared.Opener.{Opener}
use Rattle.states.specs.OpenerState.{figures, keys}
use Rattle.states.proofs.Laws.Words.{length-word_bytes}

pub length-figures : (o : Opener) → length (figures o) ≡ 26
unfolding figures
length-figures o = simp (length-append, length-le_bytes)

pub length-keys : (k : Keys) → length k.key ≡ 32 → length k.round_keys.words ≡ 60 → length k.nonce ≡ 16
    → length k.base ≡ 64
    → length (keys k) ≡ 352
unfolding keys
length-keys k a b c d = simp (length-append, length-word_bytes, a, b, c, d)
