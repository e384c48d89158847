-- The two times of a row.
use Rattle.rules.specs.Protections.{Protection}
use Rattle.holds.specs.declared.Times.{Times}

abbrev pub times_of : Protection → Times
times_of row = record { hold = row.hold; release = row.release }
