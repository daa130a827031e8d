-- The plain opener: document 01, "File after the header", the paragraph "Demand 3 is a single claim ..".
--
--   "It starts open behind the header's tag, with i = 0 and no ciphertext (c = 0)"             plain_start
--   "makes the step's checks on the next block as block i"                                     plain_in
--   "A data block that passes is taken: its bytes join the ciphertext, i grows by one, and what is
--    due for the new c and not for the old is handed over"                                     plain_on, due
--   "A closing block that passes is taken, hands over what the closing step adds, and ends it" plain_close
--   "17 and 19 change nothing; other refusals close it"                                        hand, plain_in, plain_on
-- It keeps all the ciphertext taken; closed or ended it keeps what it had.
-- Assumes nothing.
use Rattle.std.specs.Prelude.{List, [], ◌++◌, ℕ, suc, ◌+◌, length, drop}
use Rattle.refusals.specs.declared.Refusal.TheVariants.{OutOfSequence}
use Rattle.block_stream.specs.Blocks.{judge, data_at}
use Rattle.block_stream.specs.declared.Block.{Block}
use Rattle.block_stream.specs.declared.Block.TheVariants.{Data, Closing, Refused}
use Rattle.opening.specs.declared.Keys.{Keys}
use Rattle.opening.specs.declared.Phase.{Phase}
use Rattle.opening.specs.declared.Phase.TheVariants.{Open, Closed, Ended}
use Rattle.opening.specs.Decryption.{Opened, refused, opened, handed, given}
use Rattle.opening.specs.Whole.{close_of}
use Rattle.opening.specs.Runs.{Reply, refuse, hand}

-- number: of blocks taken; at: behind them; text: their ciphertext
pub record Plain : Type 0 where
  pub phase : Phase
  pub number : ℕ
  pub at : ℕ
  pub text : List ℕ

unfoldable pub plain : Phase → ℕ → ℕ → List ℕ → Plain
plain m i p t = record { phase = m; number = i; at = p; text = t }

-- open behind the header's tag
unfoldable pub plain_start : ℕ → Plain
plain_start p = plain Open 0 p []

-- what is due for the ciphertext t and d, and not for t
unfoldable pub due : Keys → List ℕ → List ℕ → List ℕ
due k t d = drop (handed k.cipher (length t)) (given k (t ++ d))

-- the closing block: what of the payload is not handed over yet
unfoldable pub plain_close : Opened → Keys → ℕ → ℕ → List ℕ → ℕ → Reply Plain
plain_close (refused r) k i p t n = refuse r (plain Closed i p t)
plain_close (opened b) k i p t n =
    hand n (drop (handed k.cipher (length t)) b) (plain Open i p t) (plain Ended (suc i) (p + 36) t)

unfoldable pub plain_on : Block → Keys → List ℕ → ℕ → ℕ → List ℕ → ℕ → Reply Plain
plain_on (Refused r) k f i p t n = refuse r (plain Closed i p t)
plain_on (Data s) k f i p t n =
    hand n (due k t (data_at f p s)) (plain Open i p t) (plain Open (suc i) (p + 36 + s) (t ++ data_at f p s))
plain_on Closing k f i p t n = plain_close (close_of k f p t) k i p t n

unfoldable pub plain_in : Phase → Keys → List ℕ → ℕ → ℕ → List ℕ → ℕ → Reply Plain
plain_in Open k f i p t n = plain_on (judge k.base f i p) k f i p t n
plain_in Closed k f i p t n = refuse OutOfSequence (plain Closed i p t)
plain_in Ended k f i p t n = refuse OutOfSequence (plain Ended i p t)

unfoldable pub plain_step : Keys → List ℕ → Plain → ℕ → Reply Plain
plain_step k f q n = plain_in q.phase k f q.number q.at q.text n
