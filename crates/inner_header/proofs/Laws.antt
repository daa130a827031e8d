-- Laws of the inner header.
--
-- In order:
--   Walk      one turn of the walk, its count, and what is kept of the fields
--   Sound     every attachment has its flags byte, within the payload
--   Opened    the answers, by what is kept of the fields
--   Run       the walk over a run of attachments
--   Laid      a payload as code lays it, one part behind the other
--   Planned   what a payload that is written passed
--   Payload   the walk over a payload that is written
--   Values    a run that is made of attachments' values
--   Told      an answer's number and place are what it says
pub mod Walk
pub mod Sound
pub mod Opened
pub mod Run
pub mod Laid
pub mod Planned
pub mod Payload
pub mod Values
pub mod Told
