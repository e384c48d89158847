-- All eight were gone through, or one is found that started later.
use Rattle.std.proofs.Common.{rules, ◌≡◌, ℕ, ◌<◌, length, false}
use Rattle.std.specs.Int.Bits.{bit_or}
use Rattle.rules.proofs.Lists.{mapped}
use Rattle.watch_soundness.proofs.Laws.{Started, is_started, all_started, one_not_started}
use Rattle.watch_soundness.proofs.spans_started.Goals as goal

pub returns-then-not-started_by : goal.returns-then-not-started_by
returns-then-not-started_by c =
    let v = c.args in
    let n = c.loop-protection.protection in
    let places : length v.w.since ≡ 8 = search (rules, mapped) in
    let below : n < 8 = search rules in
    let later : is_started v.last (bit_or v.w.beyond v.w.within) v.w.since n ≡ false = search rules in
    one_not_started v.last v.w n below later

pub returns : goal.returns
returns c =
    let v = c.args in
    let places : length v.w.since ≡ 8 = search (rules, mapped) in
    let each : (n : ℕ) → n < 8 → Started v.last (bit_or v.w.beyond v.w.within) v.w.since n = search rules in
    all_started v.last v.w each
