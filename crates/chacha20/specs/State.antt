-- How the code's four words stand for RFC 8439's. Assumes nothing.
use Rattle.chacha20.specs.Rfc8439 as rfc8439
use Rattle.chacha20.specs.declared.block.Four.{Four}

abbrev pub four : Four → rfc8439.Four
four q = record { a = q.a; b = q.b; c = q.c; d = q.d }
