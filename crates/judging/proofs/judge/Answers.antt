use Rattle.judging.proofs.Laws.{judged_here}
use Rattle.judging.proofs.judge.Goals as goal

pub returns : goal.returns
returns c = judged_here _ _ _ _ c.rest_sound.ensures.is _ c.judge_tested.ensures
