-- AES-KDF: document 01, "Keys", as a whole and in steps.
--
--   "AES-KDF encrypts each 16-byte half of the composite key R times under
--    AES-256 with key S"                                                      half_after
--   "T is SHA-256 of the two results joined"                                  transformed_key
--   "starting the rounds checks 11"; "Starting the rounds still checks 11
--    alone" (document 02, Item 3)                                             start
--   "a helping of n does the lesser of n and what remains"                    is_open, remaining, advanced
--   "Helpings of n, n at least 1, end within R/n rounded up"                  State.EndsWithin
--   "a helping of a followed by one of b is a helping of a + b .. a helping
--    of 0 changes nothing" (document 02, Item 9)                              State.Adds
--   "T before the end is 19; R = 0 is at its end from the start"              finish
-- A state that is refused, or that no call could have made, has no rounds remaining and is never at its end.
-- Assumes nothing.
use Rattle.std.specs.Prelude.{Bool, true, false, cond, ◌&&◌, List, [], ◌∷◌, ◌++◌, ℕ, ◌+◌, ◌-◌, min, eqb, leb, take, drop, replicate, Ok, Err}
use Rattle.refusals.specs.declared.Refusal.TheVariants.{TooManyRounds, OutOfSequence}
use Rattle.refusals.specs.Numbers.{Outcome}
use Rattle.refusals.specs.Limits.{rounds_limit}
use Rattle.fips180.specs.Fips180.{sha256, hash}
use Rattle.fips197.specs.Fips197.{cipher, key_expansion}
use Rattle.aes.specs.Repeated.{repeated}

-- a half after n rounds under a key schedule
unfoldable pub half_after : List ℕ → ℕ → List ℕ → List ℕ
half_after w n half = repeated (λ s. cipher s w) n half

-- T of a composite key, a seed and R rounds
unfoldable pub transformed_key : List ℕ → List ℕ → ℕ → List ℕ
transformed_key composite seed r =
    hash sha256 (half_after (key_expansion seed) r (take 16 composite) ++ half_after (key_expansion seed) r
    (drop 16 composite))

-- a transformation under way: whether its rounds were accepted, the key schedule, the halves, the rounds done and asked
-- for
pub record Transforming : Type 0 where
  pub accepted : Bool
  pub keys : List ℕ
  pub left : List ℕ
  pub right : List ℕ
  pub done : ℕ
  pub rounds : ℕ

pub record Started : Type 0 where
  pub outcome : Outcome
  pub next : Transforming

pub record Transformed : Type 0 where
  pub outcome : Outcome
  pub key : List ℕ

-- the state of a composite key and a seed after n of r rounds
unfoldable pub after : List ℕ → List ℕ → ℕ → ℕ → Transforming
after composite seed r n =
    record {
      accepted = true;
      keys = key_expansion seed;
      left = half_after (key_expansion seed) n (take 16 composite);
      right = half_after (key_expansion seed) n (drop 16 composite);
      done = n;
      rounds = r;
    }

-- the state of refused rounds: zero but for its mark
unfoldable pub refused : Transforming
refused =
    record {
      accepted = false;
      keys = replicate 60 0;
      left = replicate 16 0;
      right = replicate 16 0;
      done = 0;
      rounds = 0;
    }

unfoldable pub start : List ℕ → List ℕ → ℕ → Started
start composite seed r =
    cond (leb r rounds_limit)
    (record { outcome = Ok tt; next = after composite seed r 0 })
    (record { outcome = Err (TooManyRounds 0); next = refused })

-- accepted, with no more rounds asked for than the limit and no more done than asked for
unfoldable pub is_open : Transforming → Bool
is_open t = t.accepted && (leb t.rounds rounds_limit && leb t.done t.rounds)

unfoldable pub remaining : Transforming → ℕ
remaining t = cond (is_open t) (t.rounds - t.done) 0

unfoldable pub advanced : ℕ → Transforming → Transforming
advanced n t =
    let k = min n (remaining t) in
    record {
      accepted = t.accepted;
      keys = t.keys;
      left = half_after t.keys k t.left;
      right = half_after t.keys k t.right;
      done = t.done + k;
      rounds = t.rounds;
    }

unfoldable pub finish : Transforming → Transformed
finish t =
    cond (is_open t && eqb t.done t.rounds)
    (record { outcome = Ok tt; key = hash sha256 (t.left ++ t.right) })
    (record { outcome = Err OutOfSequence; key = replicate 32 0 })

-- a list of steps, one after the other
unfoldable pub advances : List ℕ → Transforming → Transforming
advances [] t = t
advances (n ∷ ns) t = advances ns (advanced n t)

-- the rounds that a list of steps has done of r, where d were done before
unfoldable pub done_by : ℕ → List ℕ → ℕ → ℕ
done_by r [] d = d
done_by r (n ∷ ns) d = done_by r ns (d + min n (r - d))
