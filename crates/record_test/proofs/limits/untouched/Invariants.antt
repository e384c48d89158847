use Rattle.std.proofs.Common.{◌≡◌, take, eqb}
use Rattle.std.specs.List.{list_all}
use Rattle.record_test.proofs.limits.untouched.Given as goal

abbrev pub invariant-loop-byte : goal.invariant-loop-byte
invariant-loop-byte l = l.same ≡ list_all (λ byte. eqb byte 0xee) (take l.byte-index l.s)
