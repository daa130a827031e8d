-- How four words returned stand for RFC 9106's. Assumes nothing.
use Rattle.argon2_block.specs.Rfc9106.{Four}
use Rattle.argon2_block.specs.declared.Words.{Words}

abbrev pub four : Words → Four
four w = record { a = w.a; b = w.b; c = w.c; d = w.d }
