use Rattle.std.proofs.Common.{◌≡◌, ◌∙◌}
use Rattle.advance.specs.Room.{advance_within}
use Rattle.judging.proofs.Laws.{of_accepted, of_refused}
use Rattle.judging.proofs.judge_tested.Goals as goal
use Rattle.judging.proofs.judge_tested.Goals.{then-accepted, else-accepted}

pub returns-then-accepted-2 : goal.returns-then-accepted-2
returns-then-accepted-2 c =
    let after : c.if-accepted.after ≡ advance_within c.args.event c.args.live = elim c.if-accepted.branch [
      | then-accepted w ↦ w.after-is ∙ w.advance_live-after.ensures
      | else-accepted w ↦ absurd (cc (w.if-accepted.false, c.if-accepted-2.true))
    ] in
    rw c.changes_stores-changed.ensures (of_accepted c.args.rest c.args.live c.args.event _ c.refusal_tested-refusal.ensures c.if-accepted-2.ensures _ after)

pub returns-else-accepted-2 : goal.returns-else-accepted-2
returns-else-accepted-2 c =
    let after : c.if-accepted.after ≡ c.args.live = elim c.if-accepted.branch [
      | then-accepted w ↦ absurd (cc (w.if-accepted.true, c.if-accepted-2.false))
      | else-accepted w ↦ w.after-is
    ] in
    let refused = of_refused c.args.rest c.args.live c.args.event _ c.refusal_tested-refusal.ensures c.if-accepted-2.ensures in
    simp (after, c.if-accepted-2.false, refused)
