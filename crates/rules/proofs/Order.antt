-- The order of figures.
use native.Mathlib.Omega.{arith}
use lib.Dec.{T, leb→le, le→leb, ltb→lt}
use lib.IntN.{ℤ, pos, negsuc}
use lib.Signed.{lt_z, le_z}

pub at_most_trans : (a b c : ℤ) → T (le_z a b) → T (le_z b c) → T (le_z a c)
at_most_trans (pos a) (pos b) (pos c) h k = le→leb a c (omega (arith, leb→le a b h, leb→le b c k))
at_most_trans (pos a) (pos b) (negsuc c) h k = k
at_most_trans (pos a) (negsuc b) c h k = absurd h
at_most_trans (negsuc a) (pos b) (pos c) h k = tt
at_most_trans (negsuc a) (pos b) (negsuc c) h k = absurd k
at_most_trans (negsuc a) (negsuc b) (pos c) h k = tt
at_most_trans (negsuc a) (negsuc b) (negsuc c) h k = le→leb c a (omega (arith, leb→le b a h, leb→le c b k))

pub below_at_most : (a b : ℤ) → T (lt_z a b) → T (le_z a b)
below_at_most (pos a) (pos b) h = le→leb a b (omega (arith, ltb→lt a b h))
below_at_most (pos a) (negsuc b) h = h
below_at_most (negsuc a) (pos b) h = tt
below_at_most (negsuc a) (negsuc b) h = le→leb b a (omega (arith, ltb→lt b a h))
