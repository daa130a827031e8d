-- Laws of a vault's start.
--
-- In order:
--   Start      what an accepted start keeps to
--   Firsts     two starts with equal header and equal keys
--   Answers    how code answers by its checks
pub mod Start
pub mod Firsts
pub mod Answers
