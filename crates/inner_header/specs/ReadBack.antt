-- What the reader answers of payloads that are accepted, and of those that the writer wrote.
--
--   content_of     an attachment's content: its value without the flags byte
--   Shows         an answer with a content within the payload
--   Reads         the same algorithm, key, attachments and document
--   ShowsField    the flags and the content of a field of the run
--   ShowsValue    a value's first byte, and the rest of it
-- Assumes nothing.
use Rattle.std.specs.Prelude.{◌≡◌, List, ℕ, ◌+◌, ◌-◌, ◌≤◌, length, get_or, drop, Ok, Result}
use Rattle.fields.specs.declared.Place.{Place}
use Rattle.fields.specs.Fields.{bytes_at}
use Rattle.inner_header.specs.declared.Inner.{Inner}
use Rattle.refusals.specs.declared.Refusal.{Refusal}
use Rattle.inner_header.specs.InnerHeader.{inner}
use Rattle.inner_header.specs.Writer.{all_fine, run}

-- the content of an attachment whose value stands at a place: all but the flags byte
abbrev pub content_of : Place → Place
content_of p = record { start = p.start + 1; length = p.length - 1 }

-- an answer with a content that lies within the payload
pub record Shows (s : List ℕ) (a : Result (ℕ × Place) Refusal) : Type 0 where
  pub flags : ℕ
  pub content : Place
  pub answers : a ≡ Ok (flags, content)
  pub within : content.start + content.length ≤ length s

-- what is read of a payload that was written
pub record Reads (algorithm : ℕ) (key attachments document s : List ℕ) : Type 0 where
  pub header : Inner
  pub places : List Place
  pub accepts : inner s ≡ Ok header
  pub algorithm_is : header.algorithm ≡ algorithm
  pub key_is : bytes_at s header.key ≡ key
  pub run_is : run attachments ≡ all_fine places
  pub attachments_is : header.attachments ≡ length places
  pub document_is : drop header.document s ≡ document

-- an attachment that is read of a payload that was written: the flags and the content of the run's field at a place
pub record ShowsField (attachments : List ℕ) (p : Place) (s : List ℕ) (a : Result (ℕ × Place) Refusal) : Type 0 where
  pub content : Place
  pub answers : a ≡ Ok (get_or attachments p.start 0, content)
  pub content_is : bytes_at s content ≡ bytes_at attachments (content_of p)

-- a value's first byte, and the rest of it
pub record ShowsValue (v s : List ℕ) (a : Result (ℕ × Place) Refusal) : Type 0 where
  pub content : Place
  pub answers : a ≡ Ok (get_or v 0 0, content)
  pub content_is : bytes_at s content ≡ drop 1 v
