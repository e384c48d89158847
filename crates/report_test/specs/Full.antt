-- Whether a part ended for want of room.
use Rattle.std.specs.Prelude.{Bool, true, false}
use Rattle.decision.specs.declared.Why.{Why}
use Rattle.decision.specs.declared.Why.TheVariants.{Full, End, Cut, Refused, Spent}

abbrev pub is_full : Why → Bool
is_full Full = true
is_full End = false
is_full Cut = false
is_full (Refused refusal) = false
is_full Spent = false
