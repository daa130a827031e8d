-- The places of the worked header's faults, computed.
-- Assumes nothing.
use mathlib.Core.Path.{refl}
use Rattle.words.specs.Endian.{le, le_bytes}
use Rattle.words.specs.Size.{int32}
use Rattle.slices.specs.Same.{same}
use Rattle.refusals.specs.Limits.{file_limit, rounds_limit, rounds_least}
use Rattle.fields.specs.Fields.{fits, value_at, field_at, field_bytes}
use Rattle.ciphers.specs.Ciphers.{identifier, cipher_of, nonce_length}
use Rattle.dictionary.specs.Dictionary as dictionary
use Rattle.dictionary.specs.Dictionary.{item_bytes}
use Rattle.kdf_dictionary.specs.KdfDictionary.{typed_in, fault_in, aes_kdf_in, aes_kdf_of, listed_as, listed_in, uuid_in, uuid_of, kdf_in, kdf_of}
use Rattle.outer_header.specs.Kdbx4Header as kdbx4
use Rattle.places.specs.Worked.{WorkedPlaces}

pub worked_places : WorkedPlaces
unfolding kdbx4.header kdbx4.body kdbx4.judged_in kdbx4.judged kdbx4.identified kdbx4.figures kdbx4.figures_in kdbx4.custom_in kdbx4.custom_of kdbx4.complete kdbx4.walk kdbx4.walk_in kdbx4.ends_right kdbx4.field_here kdbx4.no_fields kdbx4.put kdbx4.seen kdbx4.size_rule kdbx4.listed field_at value_at fits int32 le le_bytes same field_bytes item_bytes identifier cipher_of nonce_length kdf_of kdf_in uuid_of uuid_in listed_as listed_in aes_kdf_of aes_kdf_in typed_in fault_in rounds_limit rounds_least file_limit dictionary.verdict dictionary.walk dictionary.walk_in dictionary.named dictionary.named_in dictionary.entry_at dictionary.name_at dictionary.value_at dictionary.size_fits_type dictionary.search_from dictionary.search_in
worked_places =
    record {
      second_signature = refl;
      other_version = refl;
      cut_short = refl;
      other_cipher = refl;
      compressed = refl;
      other_nonce = refl;
      no_kdf = refl;
      second_seed = refl;
      unknown_field = refl;
      wrong_end = refl;
      other_kdf = refl;
      one_round = refl;
      many_rounds = refl;
      short_salt = refl;
      second_rounds = refl;
      not_closed = refl;
      no_items = refl;
      empty_custom = refl;
    }
