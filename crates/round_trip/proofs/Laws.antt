-- Laws of written files, and of headers in the worked numbers.
--
-- In order:
--   Start      hash and tag behind a written header hold
--   Started    the start accepts a written header, whatever stands behind its tag
--   Success    what a writer's success says
--   Begun      a header that passes every check before that of the rounds
--   Fields     a field of a whole header, behind any other fields
pub mod Start
pub mod Started
pub mod Success
pub mod Begun
pub mod Fields
