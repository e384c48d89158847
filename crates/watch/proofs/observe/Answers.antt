-- What a measurement shows is all that counts, and what is settled stays where it is calm.
use Rattle.std.proofs.Common.{◌≡◌, refl, ap, ◌∙◌, length, rules, true, ◌&&◌}
use Rattle.rules.proofs.Lists.{mapped}
use Rattle.calm.specs.Calm.{is_calm}
use Rattle.watch.specs.Kept.{is_settled, watched_by}
use Rattle.watch.proofs.Laws.{seen_observed, stays_observed}
use Rattle.watch.proofs.observe.Goals as goal

pub returns-then-settled : goal.returns-then-settled
returns-then-settled c =
    let v = c.args in
    let places : length v.w.since ≡ 8 = search (c.well_formed, rules, mapped) in
    let both : (is_calm v.battery v.r && is_settled v.w) ≡ true = search rules in
    c.stay.ensures ∙ stays_observed v.battery v.t v.r v.w places _ _ refl refl both

pub returns : goal.returns
returns c =
    let v = c.args in
    c.watched.ensures
    ∙ ap (λ s. watched_by s v.t v.r.current v.w) c.examine.ensures
    ∙ seen_observed v.battery v.t v.r v.w _ c.is_calm-calm.ensures
