-- The worked listing of document 01, "Numbers to meet", with the rounds of document 02, Item 3, as a theorem.
--
-- In order: short (an empty input), listed (the seven lines), few ("Item 3's case prints R20 133").
-- Assumes nothing.
use mathlib.Core.Path.{◌≡◌, refl}
use mathlib.Core.List.{List, [], ◌∷◌, ◌++◌, flat_map}
use Prim.Native.Nat.{ℕ}
use Prim.Native.Char.{code}
use Prim.Native.String.{String}
use Prim.Native.String as string
use lib.ListN.{replicate}
use Rattle.words.specs.Endian.{le, le_bytes}
use Rattle.words.specs.Size.{int32}
use Rattle.slices.specs.Same.{same}
use Rattle.hexadecimal.specs.Rfc4648.{digit, byte_digits, encode}
use Rattle.refusals.specs.Limits.{file_limit, rounds_limit, rounds_least, program_limit}
use Rattle.fields.specs.Fields.{fits, value_at, field_at, field_bytes}
use Rattle.ciphers.specs.Ciphers.{identifier, cipher_of, nonce_length}
use Rattle.ciphers.specs.declared.Cipher.TheVariants.{ChaCha20}
use Rattle.dictionary.specs.Dictionary as dictionary
use Rattle.dictionary.specs.Dictionary.{item_bytes}
use Rattle.kdf_dictionary.specs.Kdf.{aes_kdf_bytes}
use Rattle.kdf_dictionary.specs.KdfDictionary as kdfs
use Rattle.kdf_dictionary.specs.KdfDictionary.{typed_in, aes_kdf_in, aes_kdf_of, listed_as, listed_in, uuid_in, uuid_of, kdf_in, kdf_of}
use Rattle.decimal.specs.Decimal as decimals
use Rattle.decimal.specs.Decimal.{decimal_in, decimal}
use Rattle.outer_header.specs.Kdbx4Header as kdbx4
use Rattle.outer_header.specs.Frames.{field_frames, frames}
use Rattle.listing.specs.Listing.{hex_line, hex_lines, refusal_line, text_of, text}

-- the bytes of a text of ASCII
ascii : String → List ℕ
ascii string.[] = []
ascii (string.◌∷◌ c s) = code c ∷ ascii s

-- the 4.1 ChaCha20 header with so many rounds, seeds of bytes 11 and 33, nonce of bytes 22
abbrev chacha_header : ℕ → List ℕ
chacha_header rounds =
    le_bytes 4 0x9AA2D903 ++ le_bytes 4 0xB54BFB67 ++ le_bytes 4 0x40001
    ++ field_bytes 2 (identifier ChaCha20)
    ++ field_bytes 3 (0 ∷ 0 ∷ 0 ∷ 0 ∷ [])
    ++ field_bytes 4 (replicate 32 0x11)
    ++ field_bytes 7 (replicate 12 0x22)
    ++ field_bytes 11 (aes_kdf_bytes (replicate 32 0x33) rounds)
    ++ field_bytes 0 (0x0D ∷ 0x0A ∷ 0x0D ∷ 0x0A ∷ [])

short : text [] ≡ ascii "R02 0\n"
unfolding ascii text text_of refusal_line kdbx4.header program_limit file_limit decimals.digit decimal_in decimal
short = refl

listed : text (chacha_header 6_000)
    ≡ ascii "03D9A29A67FB4BB501000400\n"
    ++ ascii "0210000000D6038A2B8B6F4CB5A524339A31DBB59A\n"
    ++ ascii "030400000000000000\n"
    ++ ascii "04200000001111111111111111111111111111111111111111111111111111111111111111\n"
    ++ ascii "070C000000222222222222222222222222\n"
    ++ ascii "0B5D00000000014205000000245555494410000000C9D9F39A628A4460BF740D08C18A4FEA"
    ++ ascii "0501000000520800000070170000000000004201000000532000000033333333333333333333"
    ++ ascii "3333333333333333333333333333333333333333333300\n"
    ++ ascii "00040000000D0A0D0A\n"
unfolding ascii text text_of hex_lines hex_line encode byte_digits digit flat_map frames field_frames kdbx4.header kdbx4.body kdbx4.judged_in kdbx4.judged kdbx4.identified kdbx4.figures kdbx4.figures_in kdbx4.custom_of kdbx4.complete kdbx4.walk kdbx4.walk_in kdbx4.ends_right kdbx4.field_here kdbx4.no_fields kdbx4.put kdbx4.seen kdbx4.size_rule kdbx4.listed field_at value_at fits int32 le le_bytes same field_bytes aes_kdf_bytes item_bytes identifier cipher_of nonce_length kdf_of kdf_in uuid_of uuid_in listed_as listed_in aes_kdf_of aes_kdf_in typed_in rounds_limit rounds_least file_limit program_limit dictionary.verdict dictionary.walk dictionary.walk_in dictionary.named dictionary.named_in dictionary.entry_at dictionary.name_at dictionary.value_at dictionary.size_fits_type dictionary.search_from dictionary.search_in
listed = refl

few : text (chacha_header 1) ≡ ascii "R20 133\n"
unfolding ascii text text_of refusal_line decimals.digit decimal_in decimal hex_lines hex_line encode byte_digits digit flat_map frames field_frames kdbx4.header kdbx4.body kdbx4.judged_in kdbx4.judged kdbx4.identified kdbx4.figures kdbx4.figures_in kdbx4.custom_of kdbx4.complete kdbx4.walk kdbx4.walk_in kdbx4.ends_right kdbx4.field_here kdbx4.no_fields kdbx4.put kdbx4.seen kdbx4.size_rule kdbx4.listed field_at value_at fits int32 le le_bytes same field_bytes aes_kdf_bytes item_bytes identifier cipher_of nonce_length kdf_of kdf_in uuid_of uuid_in listed_as listed_in aes_kdf_of aes_kdf_in typed_in rounds_limit rounds_least file_limit program_limit dictionary.verdict dictionary.walk dictionary.walk_in dictionary.named dictionary.named_in dictionary.entry_at dictionary.name_at dictionary.value_at dictionary.size_fits_type dictionary.search_from dictionary.search_in kdfs.fault_in
few = refl
