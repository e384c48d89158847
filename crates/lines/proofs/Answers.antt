-- Why no more is taken, as its definition has it.
use mathlib.Core.Path.{◌≡◌, refl}
use Prim.Native.Nat.{ℕ}
use borrow.Author.Tests.{eq-eqb}
use Rattle.decision.specs.declared.Why.TheVariants.{Cut}
use Rattle.lines.specs.Taking.{refused_for}

pub cut_for : (refusal : ℕ) → refusal ≡ 3 → Cut ≡ refused_for refusal
cut_for refusal e = rw (eq-eqb refusal 3 e) refl
