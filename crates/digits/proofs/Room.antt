-- With room for the longest number all of its digits are written, and else none.
use mathlib.Core.Path.{◌≡◌, refl}
use Prim.Native.Nat.{ℕ, ◌+◌, ◌≤◌}
use borrow.Author.Tests.{le-ltb}
use Rattle.rules.specs.Text.{decimal}
use Rattle.digits.specs.Room.{decimal_at}

pub with_room : (n at size : ℕ) → at + 20 ≤ size → decimal_at n at size ≡ decimal n
with_room n at size h = rw (le-ltb size (at + 20) h) refl
