-- Laws of dictionaries.
--
-- In order:
--   Entry    where an item's parts lie
--   Walk     one turn of each walk
--   Enough   the count of items never ends a walk
--   Find     what is found is an item of the name, and where a name is absent none has it
--   Looked   what a lookup leaves, by what the name is found as
--   Key      names as numbers
--   Rising   a rising list of numbers
--   Insert   a place put into a table
--   Table    the numbers of a table's places
--   Judge    the verdict, when some names are known
--   Verdict  the verdict is the judgement that knows no name
--   Told      what is found has the number and the place that it says
pub mod Entry
pub mod Walk
pub mod Enough
pub mod Find
pub mod Looked
pub mod Key
pub mod Rising
pub mod Insert
pub mod Table
pub mod Judge
pub mod Verdict
-- a verdict's place lies within the dictionary
pub mod Within
pub mod Told
