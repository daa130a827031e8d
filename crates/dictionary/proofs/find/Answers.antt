-- `dictionary::find` meets its contract. Assumes nothing.
use Rattle.dictionary.specs.Dictionary.{find_in, find}
use Rattle.words.proofs.Laws.Said.{said_too}
use Rattle.dictionary.specs.Answers.{said_found}
use Rattle.dictionary.proofs.find.Goals as goal

pub returns-in-Ok : goal.returns-in-Ok
unfolding find find_in
returns-in-Ok c =
    said_too said_found
    (rw (← c.check.ensures.value, c.in-Ok.is) c.search_sound.ensures.value)

pub returns-in-Err-Broken : goal.returns-in-Err-Broken
unfolding find find_in
returns-in-Err-Broken c = said_too said_found (rw (← c.check.ensures.value, c.in-Err-Broken.is, c.in-Err-Broken.field-0-is))

pub returns-in-Err-Repeated : goal.returns-in-Err-Repeated
unfolding find find_in
returns-in-Err-Repeated c = said_too said_found (rw (← c.check.ensures.value, c.in-Err-Repeated.is, c.in-Err-Repeated.field-0-is))
