-- Laws of calls on lent states.
--
-- In order:
--   Carried            calls on the bytes do what calls on the state do
--   Below              hash values and digests are within their width
--   Schedule           and so are key schedules
--   Hashes             the five kinds of call are such: of hashes,
--   Transformations    of the key transformation,
--   Streams            of inner streams,
--   Openers            of openings
--   Bridges            lists of calls as steps, feeds, advances and stretches
pub mod Carried
pub mod Below
pub mod Schedule
pub mod Hashes
pub mod Transformations
pub mod Streams
pub mod Openers
pub mod Bridges
