-- What each refusal means and what to do about it, in a sentence or two for the technician.
--
--   sentence        the text of each refusal
--   held            how the struct `Sentence` stands for a text: zeros behind it
-- Not here: the refusals' numbers (crate refusals, Numbers); that every text has room (proofs, Theorem).
-- Assumes nothing.
use Rattle.std.specs.Prelude.{List, [], ◌∷◌, ◌++◌, ℕ, length, replicate}
use Prim.Native.Char.{code}
use Prim.Native.String.{String}
use Prim.Native.String as string
use Rattle.slices.specs.Over.{laid}
use Rattle.refusals.specs.declared.Refusal.{Refusal}
use Rattle.refusals.specs.declared.Refusal.TheVariants.{TooLong, CutShort, WrongSignature, WrongVersion, WrongSize, Repeated, UnknownField, Absent, Unlisted, BrokenDictionary, TooManyRounds, HeaderHash, HeaderTag, BlockTag, TrailingBytes, WrongPadding, NoRoom, WrongCredential, OutOfSequence, TooFewRounds, FigureOutside}
use Rattle.explanations.specs.declared.Sentence.{Sentence}

-- the bytes of a text of ASCII
unfoldable pub ascii : String → List ℕ
ascii string.[] = []
ascii (string.◌∷◌ c s) = code c ∷ ascii s

unfoldable pub sentence : Refusal → List ℕ
sentence TooLong =
    ascii "An input is longer than this program or terminal takes. Use a smaller vault, password or key "
    ++ ascii "file."
sentence (CutShort at) =
    ascii "The file ends too early. Copy the vault again; if it is still too short, take an older copy."
sentence (WrongSignature at) =
    ascii "This is not a KDBX vault. Check that the right file was named."
sentence (WrongVersion at) =
    ascii "The vault is not of version 4.0 or 4.1. Save it as KDBX 4 in a desktop password manager."
sentence (WrongSize at) =
    ascii "A part of the file has a size that it cannot have, so the file is damaged. Take another copy of "
    ++ ascii "the vault."
sentence (Repeated at) =
    ascii "The header has the same part twice, so the file is damaged. Take another copy of the vault."
sentence (UnknownField at) =
    ascii "The header has a part that is not known. Take another copy, or save the vault as KDBX 4 in a "
    ++ ascii "desktop password manager."
sentence (Absent at) =
    ascii "A part that is needed is not there. Take another copy of the vault; for an attachment, check its "
    ++ ascii "number."
sentence (Unlisted at) =
    ascii "The vault uses a cipher, a compression or a key derivation that is not supported. In a desktop "
    ++ ascii "password manager choose AES-256 or ChaCha20, AES-KDF or Argon2, no compression, and save it."
sentence (BrokenDictionary at) =
    ascii "The header's settings are damaged or incomplete. Take another copy, or save the vault again in a "
    ++ ascii "desktop password manager."
sentence (TooManyRounds at) =
    ascii "The vault asks for more than 4,000,000 rounds. Lower them in a desktop password manager and save "
    ++ ascii "it."
sentence HeaderHash =
    ascii "The header is damaged. Copy the vault again; if it is still damaged, take an older copy."
sentence HeaderTag =
    ascii "The password or the key file is not the right one, or the header was changed. Try them again; if "
    ++ ascii "they are right, take a copy of the vault from before."
sentence BlockTag =
    ascii "The contents were changed or damaged. Copy the vault again; if it stays so, take an older copy."
sentence TrailingBytes =
    ascii "There are bytes behind the end of the vault. Copy it again; if they stay, take an older copy."
sentence WrongPadding =
    ascii "The contents do not end as they must, so the program that wrote them has a fault. Save the vault "
    ++ ascii "again in a desktop password manager."
sentence NoRoom =
    ascii "There is too little memory for this vault's key, or too little room for the result. Start the "
    ++ ascii "program with a larger stack (docs/REFUSALS.md), or tell whoever maintains it."
sentence WrongCredential =
    ascii "No password and no key file was given, or a pre-hash that is not 32 bytes or stands beside "
    ++ ascii "another. Give the password, the key file or both."
sentence OutOfSequence =
    ascii "A step came after the end, or a key was asked for too early. Start again; if it happens again, "
    ++ ascii "tell whoever maintains this program."
sentence (TooFewRounds at) =
    ascii "The vault asks for fewer than 6,000 rounds. Raise them in a desktop password manager "
    ++ ascii "and save it."
sentence (FigureOutside at) =
    ascii "The vault's Argon2 settings are outside what this program takes: salt 8 to 64 bytes, 1 to 64 passes, "
    ++ ascii "8 KiB a lane to 64 MiB, 1 to 16 lanes. Change them in a desktop password manager."

unfoldable pub held : List ℕ → Sentence
held w = record { text = laid w (replicate 192 0); length = length w }
