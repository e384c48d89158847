-- Demand 1, of the log reader: the reader that is lent to `next`, before and after, and what it gives.
use Rattle.std.specs.Prelude.{◌≡◌}
use Rattle.rules.specs.Numbers.{answer_of_read_event}
use Rattle.rules.specs.Bytes.{event_forms}
use Rattle.rules.specs.Answers.{ReaderAllows}
use Rattle.reader.specs.declared.Reader.{Reader}
use Rattle.reader.specs.declared.Read.{Read}
use Rattle.position.specs.Position.{PartFrom}

pub record NextAllows (before after : Reader) (r : Read) : Type 0 where
  pub same_log : after.log ≡ before.log
  pub reads : ReaderAllows event_forms before.log.now before.position (answer_of_read_event r.answer) after.position
  -- "the unread remainder is handed back as a part of that log"
  pub remainder : PartFrom before.log after.position r.rest
