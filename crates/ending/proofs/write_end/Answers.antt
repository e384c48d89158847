use Rattle.std.proofs.Common.{◌∷◌, [], List, length, arith, ap, ◌∙◌, ℕ}
use Rattle.rules.specs.Bytes.{overwritten}
use Rattle.rules.specs.Text.{decimal}
use Rattle.buffer.proofs.Putting.{Put, put_more, from_start}
use Rattle.ending.proofs.Lining.{end_is}
use Rattle.ending.proofs.write_end.Goals as goal

pub returns : goal.returns
returns c =
    let out = c.args.out.now in
    let x = c.args.l.tally.charged.0 in
    let y = c.args.l.tally.discharged.0 in
    let z = c.args.s.long.count in
    let a = c.put-a in
    let d = c.put_number-b in
    let e = c.put_number-c in
    let f = c.put_number-d in
    let g = c.put in
    let first : Put out 0 (101 ∷ 110 ∷ 100 ∷ []) a.result a.new.out = record { moved = a.ensures.value; contents = a.ensures.out_after } in
    let second = put_more first (omega (arith, c.requires, a.ensures.value)) (32 ∷ decimal x) d.ensures.value.0 d.ensures.out_after in
    let third = put_more second (omega (arith, c.requires, a.ensures.value, d.ensures.value.1)) (32 ∷ decimal y) e.ensures.value.0 e.ensures.out_after in
    let fourth = put_more third (omega (arith, c.requires, a.ensures.value, d.ensures.value.1, e.ensures.value.1)) (32 ∷ decimal z) f.ensures.value.0 f.ensures.out_after in
    let fifth = put_more fourth (omega (arith, c.requires, a.ensures.value, d.ensures.value.1, e.ensures.value.1, f.ensures.value.1)) (10 ∷ []) g.ensures.value g.ensures.out_after in
    let whole = end_is x y z in
    record {
      value = (
        fifth.moved ∙ from_start _ ∙ ap length whole,
        omega (arith, a.ensures.value, d.ensures.value.1, e.ensures.value.1, f.ensures.value.1, g.ensures.value),
      );
      out_after = fifth.contents ∙ ap (λ (t : List ℕ). overwritten out 0 t) whole;
    }
