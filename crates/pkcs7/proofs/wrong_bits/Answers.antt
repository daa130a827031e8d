-- `pkcs7::wrong_bits` meets its contract. Assumes nothing.
use borrow.Author.Tests.{lt-ltb, le-ltb}
use Rattle.pkcs7.specs.Answer.{wrong_bits}
use Rattle.pkcs7.proofs.wrong_bits.Goals as goal

pub returns-then-i-p-lt16 : goal.returns-then-i-p-lt16
unfolding wrong_bits
returns-then-i-p-lt16 c = rw (lt-ltb _ _ c.if-i-p-lt16.true)

pub returns : goal.returns
unfolding wrong_bits
returns c = rw (le-ltb _ _ c.if-i-p-lt16.false)
