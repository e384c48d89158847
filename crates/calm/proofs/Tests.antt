-- Tests that stop early, against the test that they stand for.
use Rattle.std.proofs.Common.{◌≡◌, ◌&&◌, Bool, true, false, arith, ap, ◌-◌, ℕ, pos}
use Rattle.std.proofs.lemmas.Int.{ints}
use Rattle.rules.specs.declared.units.DeciCelsius.{DeciCelsius}
use Rattle.rules.specs.declared.units.Milliamperes.{Milliamperes}
use Rattle.rules.specs.declared.sensors.Extremes.{Extremes}
use Rattle.rules.specs.declared.sensors.Reading.{Reading}
use Rattle.rules.specs.Quantities.{mv, ma, dc, ◌≤mV◌, ◌≤mA◌, ◌≤dC◌, negated, discharge_rating}
use Rattle.rules.specs.Protections.{extremes}
use Rattle.calm.specs.Calm.{surely_permitted, is_calm}

abbrev pub calm_by : ℕ → Reading → Extremes → Bool
calm_by battery r e =
    (e.highest ≤mV mv 3_500)
    && ((mv 2_800 ≤mV e.lowest)
    && ((e.hottest ≤dC dc (pos 600))
    && ((dc (pos 50) ≤dC e.coldest)
    && (surely_permitted e.coldest r.current
    && ((negated (discharge_rating battery) ≤mA r.current) && (mv (e.highest.0 - e.lowest.0) ≤mV mv 300))))))

pub by_extremes : (battery : ℕ) (r : Reading) (e : Extremes) → e ≡ extremes r → calm_by battery r e ≡ is_calm battery r
unfolding is_calm
by_extremes battery r e e-is = ap (calm_by battery r) e-is

pub stopped : (a b c d e f g u v w x y : Bool) → u ≡ (a && b) → v ≡ (u && c) → w ≡ (v && d) → x ≡ (w && e) → y ≡ (x && f) → y ≡ false
    → y ≡ (a && (b && (c && (d && (e && (f && g))))))
stopped a b c d e f g u v w x y u-is v-is w-is x-is y-is at-last = grind arith

module _ (coldest : DeciCelsius) (i : Milliamperes) (test : Bool) where
  pub at_200 : (dc (pos 200) ≤dC coldest) ≡ true → (dc (pos 250) ≤dC coldest) ≡ false → test ≡ (i ≤mA ma (pos 41_666)) → test ≡ surely_permitted coldest i
  unfolding surely_permitted
  at_200 from below test-is = grind (arith, ints)

  pub at_250 : (dc (pos 250) ≤dC coldest) ≡ true → test ≡ (i ≤mA ma (pos 60_000)) → test ≡ surely_permitted coldest i
  unfolding surely_permitted
  at_250 from test-is = grind (arith, ints)
