-- What a run does next.
use Rattle.std.specs.Prelude.{ℕ, zero, suc, Bool, true, false, cond, Result, Ok, Err}
use Rattle.decision.specs.declared.Why.{Why}
use Rattle.decision.specs.declared.Why.TheVariants.{Full, End, Cut, Refused, Spent}
use Rattle.decision.specs.declared.Next.{Next}
use Rattle.decision.specs.declared.Next.TheVariants.{Again, Read, Close, Unread, Unwritten, Uncounted}

-- after a part whose lines were all written
abbrev pub after_lines : Why → Next
after_lines Full = Again
after_lines End = Read
after_lines Cut = Read
after_lines (Refused refusal) = Close
after_lines Spent = Uncounted

abbrev pub after_part : Bool → Why → Next
after_part whole why = cond whole (after_lines why) Unwritten

-- after a read, of what it answered
abbrev pub after_read : {E : Type 0} → Result ℕ E → Next
after_read (Err e) = Unread
after_read (Ok zero) = Close
after_read (Ok (suc n)) = Again

abbrev pub reads : Next → Bool
reads Again = false
reads Read = true
reads Close = false
reads Unread = false
reads Unwritten = false
reads Uncounted = false

-- whether the run is over with it
abbrev pub ends : Next → Bool
ends Again = false
ends Read = false
ends Close = true
ends Unread = true
ends Unwritten = true
ends Uncounted = true

-- the same once it is done: a read ends the run where nothing came
abbrev pub over : Next → Bool → Bool
over next none = cond (reads next) none (ends next)
