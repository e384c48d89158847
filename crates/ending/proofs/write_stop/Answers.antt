use Rattle.std.proofs.Common.{◌∷◌, [], List, length, arith, ap, ◌∙◌, ℕ}
use Rattle.rules.specs.Bytes.{overwritten}
use Rattle.rules.specs.Text.{decimal}
use Rattle.buffer.proofs.Putting.{Put, put_more, from_start}
use Rattle.ending.proofs.Lining.{stop_is}
use Rattle.ending.proofs.write_stop.Goals as goal

pub returns : goal.returns
returns c =
    let out = c.args.out.now in
    let a = c.put-a in
    let d = c.put_number-b in
    let e = c.put_number-c in
    let g = c.put in
    let first : Put out 0 (115 ∷ 116 ∷ 111 ∷ 112 ∷ []) a.result a.new.out = record { moved = a.ensures.value; contents = a.ensures.out_after } in
    let second = put_more first (omega (arith, c.requires, a.ensures.value)) (32 ∷ decimal c.args.refusal) d.ensures.value.0 d.ensures.out_after in
    let third = put_more second (omega (arith, c.requires, a.ensures.value, d.ensures.value.1)) (32 ∷ decimal c.args.position) e.ensures.value.0 e.ensures.out_after in
    let fourth = put_more third (omega (arith, c.requires, a.ensures.value, d.ensures.value.1, e.ensures.value.1)) (10 ∷ []) g.ensures.value g.ensures.out_after in
    let whole = stop_is c.args.refusal c.args.position in
    record {
      value = (
        fourth.moved ∙ from_start _ ∙ ap length whole,
        omega (arith, a.ensures.value, d.ensures.value.1, e.ensures.value.1, g.ensures.value),
      );
      out_after = fourth.contents ∙ ap (λ (t : List ℕ). overwritten out 0 t) whole;
    }
