-- The one picked of four and of eight, two at a time from the left: it is the one that the rules pick from the right.
use Rattle.std.proofs.Common.{rules, ◌≡◌, [], ◌∷◌, arith}
use Rattle.std.proofs.lemmas.Bool.Decides.{nat_tests}
use Rattle.std.proofs.lemmas.Int.{ints}
use Rattle.std.specs.Ordering.{ord_max, ord_min}
use Rattle.rules.specs.contracts.units.MillivoltsOrd as millivolts
use Rattle.rules.specs.contracts.units.DeciCelsiusOrd as degrees
use Rattle.rules.specs.Protections.{higher, lower, hotter, colder, picked}

-- what the library picks of two is what the rules pick, and that can be grouped anew
pub record Picks {Q : Type 0} (either pick : Q → Q → Q) : Type 0 where
  pub same : (a b : Q) → either a b ≡ pick a b
  pub regroup : (a b c : Q) → pick (pick a b) c ≡ pick a (pick b c)

pub highest : Picks (ord_max millivolts.TheImpl.cmp-value.it) higher
highest = record { same = λ a b. search rules; regroup = λ a b c. grind (arith, nat_tests) }

pub lowest : Picks (ord_min millivolts.TheImpl.cmp-value.it) lower
lowest = record { same = λ a b. search rules; regroup = λ a b c. grind (arith, nat_tests) }

pub hottest : Picks (ord_max degrees.TheImpl.cmp-value.it) hotter
hottest = record { same = λ a b. search rules; regroup = λ a b c. grind (arith, ints) }

pub coldest : Picks (ord_min degrees.TheImpl.cmp-value.it) colder
coldest = record { same = λ a b. search rules; regroup = λ a b c. grind (arith, ints) }

module _ {Q : Type 0} {either pick : Q → Q → Q} (picks : Picks either pick) {a b c d : Q} where
  pub of_four : {x y z : Q} → x ≡ either a b → y ≡ either x c → z ≡ either y d → z ≡ picked pick a (b ∷ c ∷ d ∷ [])
  of_four x-is y-is z-is = rw (z-is, y-is, x-is) (simp (picks.same, picks.regroup))

  pub of_eight : {e f g h t u v w x y z : Q} → t ≡ either a b → u ≡ either t c → v ≡ either u d → w ≡ either v e
      → x ≡ either w f → y ≡ either x g → z ≡ either y h → z ≡ picked pick a (b ∷ c ∷ d ∷ e ∷ f ∷ g ∷ h ∷ [])
  of_eight t-is u-is v-is w-is x-is y-is z-is = rw (z-is, y-is, x-is, w-is, v-is, u-is, t-is) (simp (picks.same, picks.regroup))
