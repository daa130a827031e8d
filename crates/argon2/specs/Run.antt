-- What a run of Argon2 answers and leaves: document 02, Item 6.
--
--   "a run checks 22, then 17 for under 128 words a block that RFC 9106 fills"    outcome
--   "a lent slice of 64-bit words whose used part ends as zeros"                  left
--   "the composite key as password, 32 bytes out, memory M/1024 rounded down
--    in KiB"                                                                      vault_inputs, transformed_key, transformed
-- Between 22 and 17 stands 1, for a message of H_0 over the limit of a hash's message; a vault's cannot be.
-- A refusal leaves the memory and the output as they were.
-- Not here: RFC 9106 (Rfc9106); the bounds of 22 (crate refusals, Limits: argon2_fits).
-- Assumes nothing.
use Rattle.std.specs.Prelude.{cond, List, [], ℕ, ◌*◌, ◌/◌, leb, ltb, length, replicate, Ok, Err}
use Rattle.slices.specs.Over.{over}
use Rattle.refusals.specs.declared.Refusal.TheVariants.{TooLong, NoRoom, FigureOutside}
use Rattle.refusals.specs.Numbers.{Outcome}
use Rattle.refusals.specs.Limits.{message_limit, argon2_fits}
use Rattle.argon2_fill.specs.Rfc9106.{blocks}
use Rattle.argon2.specs.Rfc9106.{Inputs, prehash, figures, tag}
use Rattle.argon2.specs.declared.Kind.{Kind}
use Rattle.argon2.specs.declared.Kind.TheVariants.{Argon2d, Argon2id}
use Rattle.argon2.specs.declared.Transformed.{Transformed}

-- RFC 9106, 3.1: the type y
abbrev pub number_of : Kind → ℕ
number_of Argon2d = 0
number_of Argon2id = 2

-- the inputs of a kind, M in bytes, and a tag of t bytes
abbrev pub inputs : Kind → List ℕ → List ℕ → List ℕ → List ℕ → ℕ → ℕ → ℕ → ℕ → Inputs
inputs kind password salt secret associated passes bytes lanes t =
    record {
      kind = number_of kind;
      lanes = lanes;
      tag_length = t;
      memory = bytes / 1024;
      passes = passes;
      password = password;
      salt = salt;
      secret = secret;
      associated = associated;
    }

-- the words that are used: 128 of each of the m' blocks
abbrev pub used : Inputs → ℕ
used i = blocks (figures i) * 128

-- 22, 1, 17: of the inputs, M in bytes, and how many words are lent
unfoldable pub outcome : Inputs → ℕ → ℕ → Outcome
outcome i bytes lent =
    cond (argon2_fits (length i.salt) i.passes bytes i.lanes)
    (cond (leb (length (prehash i)) message_limit)
    (cond (ltb lent (used i)) (Err NoRoom) (Ok tt))
    (Err TooLong))
    (Err (FigureOutside 0))

-- the memory m after a run: its used part as zeros
unfoldable pub left : Outcome → Inputs → List ℕ → List ℕ
left (Ok tt) i m = over (replicate (used i) 0) m
left (Err r) i m = m

-- the output d after a run: the tag
unfoldable pub shown : Outcome → Inputs → List ℕ → List ℕ
shown (Ok tt) i d = tag i
shown (Err r) i d = d

-- a vault's inputs: kind, composite key, salt, I, M, P
abbrev pub vault_inputs : Kind → List ℕ → List ℕ → ℕ → ℕ → ℕ → Inputs
vault_inputs kind composite salt passes bytes lanes = inputs kind composite salt [] [] passes bytes lanes 32

-- T of a composite key
unfoldable pub transformed_key : Kind → List ℕ → List ℕ → ℕ → ℕ → ℕ → List ℕ
transformed_key kind composite salt passes bytes lanes = tag (vault_inputs kind composite salt passes bytes lanes)

-- a vault's answer: its outcome with so many words lent, and T, zeros where it is refused
unfoldable pub transformed : Outcome → Inputs → Transformed
transformed (Ok tt) i = record { outcome = Ok tt; key = tag i }
transformed (Err r) i = record { outcome = Err r; key = replicate 32 0 }
