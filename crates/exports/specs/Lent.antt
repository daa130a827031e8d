-- What an exported function leaves in the memory that it is lent. Document 01, "Refusal numbers": "A refusal … changes
-- no lent byte".
--
--   values_or      the values of an answer, where its number is 0
--   argon2_kind    the kind of Argon2 that a number of C stands for; argon2_outcome: 9 where it stands for none
--   chosen        the KDF that a number of C and figures stand for; answer_by, bytes_by: a writing with it
--   count_or       a number of bytes, where the operation wrote them
--   credential    the credential that a slice and a flag of C stand for
-- Not here: what the calls on a lent state leave, and result_or (crate calls, Calls).
-- Assumes nothing.
use Rattle.std.specs.Prelude.{cond, not, ◌||◌, List, [], ℕ, eqb, leb, Ok, Err}
use Rattle.refusals.specs.declared.Refusal.{Refusal}
use Rattle.refusals.specs.declared.Refusal.TheVariants.{WrongVersion, Unlisted}
use Rattle.refusals.specs.Numbers.{Outcome}
use Rattle.refusals.specs.Numbers.{Written}
use Rattle.refusals.specs.Numbers.{Said}
use Rattle.sha256.specs.State as sha256_states
use Rattle.sha512.specs.State as sha512_states
use Rattle.hmac.specs.State as hmac_state
use Rattle.keys.specs.Kdbx4Keys as keys
use Rattle.aes_kdf.specs.AesKdf as kdf
use Rattle.aes_kdf.specs.declared.Transformed.{Transformed}
use Rattle.argon2.specs.Rfc9106.{Inputs}
use Rattle.argon2.specs.Run as argon2
use Rattle.argon2.specs.declared.Kind.{Kind}
use Rattle.argon2.specs.declared.Kind.TheVariants.{Argon2d, Argon2id}
use Rattle.kdf_dictionary.specs.declared.writer.Figures.{Figures}
use Rattle.kdf_dictionary.specs.declared.writer.Figures.TheVariants as figures
use Rattle.calls.specs.Calls.{result_or}
use Rattle.exports.specs.declared.vaults.Chosen.{Chosen}
use Rattle.exports.specs.declared.vaults.Chosen.TheVariants as chosen_as

abbrev pub sha256 : List ℕ → List ℕ → List ℕ
sha256 m had = result_or (sha256_states.hashed m).outcome (sha256_states.hashed m).digest had

abbrev pub sha512 : List ℕ → List ℕ → List ℕ
sha512 m had = result_or (sha512_states.hashed m).outcome (sha512_states.hashed m).digest had

abbrev pub hmac_sha256 : List ℕ → List ℕ → List ℕ → List ℕ
hmac_sha256 k m had = result_or (hmac_state.tagged k m).outcome (hmac_state.tagged k m).tag had

abbrev pub composite_or : keys.Composed → List ℕ → List ℕ
composite_or (Ok key) had = key
composite_or (Err r) had = had

abbrev pub aes_kdf : List ℕ → List ℕ → ℕ → List ℕ → List ℕ
aes_kdf composite seed rounds had =
    result_or (kdf.start composite seed rounds).outcome (kdf.transformed_key composite seed rounds) had

abbrev pub transformed_or : Transformed → List ℕ → List ℕ
transformed_or t had = result_or t.outcome t.key had

-- which kind of Argon2 a KDF's number stands for: 1 Argon2d, 2 Argon2id
abbrev pub argon2_kind : ℕ → Kind
argon2_kind kdf = cond (eqb kdf 1) Argon2d Argon2id

abbrev pub argon2_inputs : ℕ → List ℕ → List ℕ → ℕ → ℕ → ℕ → Inputs
argon2_inputs kdf composite salt passes memory lanes =
    argon2.vault_inputs (argon2_kind kdf) composite salt passes memory lanes

-- 9 of another number, else the run's
abbrev pub argon2_outcome : ℕ → Inputs → ℕ → ℕ → Outcome
argon2_outcome kdf i memory words =
    cond (eqb kdf 1 || eqb kdf 2) (argon2.outcome i memory words) (Err (Unlisted 0))

-- an answer's values where its number is 0, and the figures that stood there where it is a refusal's
abbrev pub values_or : Said → List ℕ → List ℕ
values_or q had = cond (eqb q.number 0) q.values had

-- the number of bytes written where the operation accepts, and what stood there where it refuses
abbrev pub count_or : Written → ℕ → ℕ
count_or (Ok n) had = n
count_or (Err r) had = had

-- given where the flag is not 0
abbrev pub credential : ℕ → List ℕ → keys.Credential
credential flag s = keys.credential (not (eqb flag 0)) s

-- the KDF that a number and figures stand for: 0 AES-KDF, 1 Argon2d, 2 Argon2id
abbrev pub chosen : ℕ → ℕ → ℕ → ℕ → Chosen
chosen kdf rounds memory lanes =
    cond (eqb kdf 0) (chosen_as.Figures (figures.AesKdf rounds))
    (cond (eqb kdf 1) (chosen_as.Figures (figures.Argon2d rounds memory lanes))
    (cond (eqb kdf 2) (chosen_as.Figures (figures.Argon2id rounds memory lanes)) chosen_as.Unlisted))

-- another number: 9, in the cipher's place, behind 4
abbrev pub unlisted_kdf : ℕ → Refusal
unlisted_kdf minor = cond (leb minor 1) (Unlisted 0) (WrongVersion 0)

-- the answer of a writing with the KDF, and what it writes
abbrev pub answer_by : ℕ → Chosen → (Figures → Written) → Written
answer_by minor (chosen_as.Figures k) w = w k
answer_by minor chosen_as.Unlisted w = Err (unlisted_kdf minor)

abbrev pub bytes_by : Chosen → (Figures → List ℕ) → List ℕ
bytes_by (chosen_as.Figures k) w = w k
bytes_by chosen_as.Unlisted w = []
