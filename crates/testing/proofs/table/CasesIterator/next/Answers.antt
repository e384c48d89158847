use Rattle.std.proofs.Common.{◌≡◌, ℕ, List, ◌∷◌, arith, sym, ap, length}
use Rattle.testing.specs.Table.{cases}
use Rattle.testing.proofs.Walking.{case_inside}
use Rattle.testing.proofs.Cases.{first_case}
use Rattle.testing.proofs.table.CasesIterator.next.Goals as goal

pub split_at-requires : goal.split_at-requires
split_at-requires c = let inside = case_inside _ _ _ (sym c.in_ok-start.ensures) in inside.2

pub split_at-requires-2 : goal.split_at-requires-2
split_at-requires-2 c =
    let inside = case_inside _ _ _ (sym c.in_ok-start.ensures) in
    let size = c.split_at.ensures.front_len in
    omega (arith, size, inside.1)

-- the first case, as it was split off, and behind it the rest
first : (c : goal.After-split_at-2) → cases c.args.self.now.rest.now c.args.self.now.head
    ≡ (c.split_at-2.result.0.now, c.split_at-2.result.1.now) ∷ cases c.split_at.result.1.now c.args.self.now.head
first c =
    rw (c.split_at-2.ensures.front, c.split_at-2.ensures.back, c.split_at.ensures.front, c.split_at.ensures.back)
    (first_case _ _ (sym c.in_ok-start.ensures))

pub returns-clause-steps : goal.returns-clause-steps
returns-clause-steps c = first c

pub returns-clause-goes : goal.returns-clause-goes
returns-clause-goes c =
    let shorter = ap (λ (xs : List (List ℕ × List ℕ)). length xs) (first c) in
    record { on = λ finite. (tt, tt, omega (arith, shorter)); keeps = tt; rests = λ finite. tt }
