-- What a measurement adds to both stores: its trips in rising number, then its releases likewise.
use mathlib.Core.Path.{◌≡◌, refl, sym, ap, ap₂, ◌∙◌}
use mathlib.Core.Bool.{Bool, true, false, not, cond, ◌&&◌}
use mathlib.Core.List.{List, [], ◌∷◌, ◌++◌, append_assoc, append-nil}
use Prim.Native.Nat.{ℕ, zero, suc, ◌≤◌, ◌<◌}
use native.Mathlib.Omega.{arith}
use lib.ListN.{take}
use lib.Seq.{take_all}
use Rattle.rules.specs.declared.units.Milliseconds.{Milliseconds}
use Rattle.rules.specs.declared.sensors.Reading.{Reading}
use Rattle.rules.specs.declared.stores.Entry.{Entry}
use Rattle.rules.specs.declared.stores.Entry.TheVariants.{Trip, Release}
use Rattle.rules.specs.declared.stores.Slot.{Slot}
use Rattle.rules.specs.declared.stores.LongTerm.{LongTerm}
use Rattle.rules.specs.declared.stores.ShortTerm.{ShortTerm}
use Rattle.rules.specs.declared.stores.Stores.{Stores}
use Rattle.rules.specs.Protections.{row_of}
use Rattle.rules.specs.Stores.{ascending}
use Rattle.rules.specs.Shown.{bit_of, long_entry, short_entry, entry_of, long_entries, short_entries}
use Rattle.rules.specs.Lists.{last_of}
use Rattle.rules.proofs.Lists.{length_tabulate, take_kept, last_kept, last_all}
use Rattle.step.specs.Push.{push_long, push_short, push_where, push_longs, push_shorts, trips, releases, trip_slot, release_slot}
use Rattle.step.proofs.Storing.{LongFits, ShortFits, long_pushed, long_fits, short_pushed, short_fits}

-- the entries of the protections that a test picks
abbrev entries_at : (ℕ → Bool) → (ℕ → Slot) → ℕ → List Entry
entries_at picks slots i = cond (picks i) (entry_of (slots i) ∷ []) []

pub record StoresFit (s : Stores) : Type 0 where
  pub long : LongFits s.long
  pub short : ShortFits s.short

-- what was put into the stores s, when they have become q
pub record Added (s q : Stores) (longs shorts : List Entry) : Type 0 where
  pub long : long_entries q.long ≡ take 64 (long_entries s.long ++ longs)
  pub short : short_entries q.short ≡ last_of 16 (short_entries s.short ++ shorts)
  pub fits : StoresFit q

-- ---- a store, by what it lists of the entries that it is given

module _
    {S : Type 0}
    (listed : S → List Entry)
    (Fits : S → Type 0)
    (push : S → Slot → S)
    (keep : List Entry → List Entry)
    (kept : (xs ys : List Entry) → keep (keep xs ++ ys) ≡ keep (xs ++ ys))
    (Takes : Slot → Type 0)
    (pushed : (s : S) → Fits s → (slot : Slot) → Takes slot → listed (push s slot) ≡ keep (listed s ++ (entry_of slot ∷ [])))
    (fitting : (s : S) → Fits s → (slot : Slot) → Takes slot → slot.protection ≤ 7 → Fits (push s slot)) where
  -- the store s has become q, with more entries
  pub record Grown (s q : S) (more : List Entry) : Type 0 where
    pub entries : listed q ≡ keep (listed s ++ more)
    pub fits : Fits q

  grown_entry : (s q : S) (more : List Entry) → Grown s q more → (slot : Slot) → Takes slot → slot.protection ≤ 7
      → Grown s (push q slot) (more ++ (entry_of slot ∷ []))
  grown_entry s q more g slot takes k = record {
    entries = pushed q g.fits slot takes
        ∙ ap (λ (l : List Entry). keep (l ++ (entry_of slot ∷ []))) g.entries
        ∙ kept (listed s ++ more) (entry_of slot ∷ [])
        ∙ ap keep (append_assoc (listed s) more (entry_of slot ∷ []));
    fits = fitting q g.fits slot takes k;
  }

  -- the protections that a test picks, one after the other
  module _ (s : S) (picks : ℕ → Bool) (slots : ℕ → Slot) (is : (i : ℕ) → (slots i).protection ≡ i) (takes : (i : ℕ) → Takes (slots i)) where
    grown_where : (q : S) (more : List Entry) → Grown s q more → (n : ℕ) → n ≤ 8 → Grown s (push_where push picks slots q n) (more ++ ascending (entries_at picks slots) n)
    unfolding push_where
    grown_where q more g zero h = rw (append-nil more) g
    grown_where q more g (suc n) h = go (picks n) (grown_where q more g n (omega arith))
      where
        go : (b : Bool) → Grown s (push_where push picks slots q n) (more ++ ascending (entries_at picks slots) n)
            → Grown s (cond b (push (push_where push picks slots q n) (slots n)) (push_where push picks slots q n))
            (more ++ (ascending (entries_at picks slots) n ++ cond b (entry_of (slots n) ∷ []) []))
        go true g' =
            rw (← append_assoc more)
            (grown_entry s (push_where push picks slots q n) (more ++ ascending (entries_at picks slots) n) g' (slots n) (takes n) (omega (arith, is n)))
        go false g' = rw (append-nil (ascending (entries_at picks slots) n)) g'

-- a long-term store takes trips alone
abbrev IsTrip : Slot → Type 0
IsTrip slot = slot.release ≡ false

abbrev LongGrown : LongTerm → LongTerm → List Entry → Type 0
LongGrown = Grown long_entries LongFits push_long (take 64) (take_kept 64) IsTrip long_pushed long_fits

abbrev Any : Slot → Type 0
Any slot = Unit {0}

abbrev ShortGrown : ShortTerm → ShortTerm → List Entry → Type 0
ShortGrown = Grown short_entries ShortFits push_short (last_of 16) (last_kept 16) Any (λ s f slot any. short_pushed s f slot) (λ s f slot any. short_fits s f slot)

long_as_it_is : (s : LongTerm) → LongFits s → LongGrown s s []
unfolding long_entries
long_as_it_is s f = record {
  entries = rw append-nil (sym (take_all 64 (long_entries s) (omega (arith, length_tabulate s.count (long_entry s), f.count))));
  fits = f;
}

short_as_it_is : (s : ShortTerm) → ShortFits s → ShortGrown s s []
unfolding short_entries
short_as_it_is s f = record {
  entries = rw append-nil (sym (last_all 16 (short_entries s) (omega (arith, length_tabulate s.count (short_entry s), f.count))));
  fits = f;
}

-- ---- what a measurement adds

-- two lists of entries that are alike for each protection, and one that has none
ascending_same : (f g : ℕ → List Entry) (n : ℕ) → ((i : ℕ) → i < n → f i ≡ g i) → ascending f n ≡ ascending g n
ascending_same f g zero h = refl
ascending_same f g (suc n) h = ap₂ (λ (xs ys : List Entry). xs ++ ys) (ascending_same f g n (λ i k. h i (omega arith))) (h n (omega arith))

and_comm : (a b : Bool) → (a && b) ≡ (b && a)
and_comm true true = refl
and_comm true false = refl
and_comm false true = refl
and_comm false false = refl

module _
    (battery : ℕ)
    (t : Milliseconds)
    (r : Reading)
    (before after : ℕ)
    (was now : ℕ → Bool)
    (before-is : (i : ℕ) → i < 8 → bit_of before i ≡ was i)
    (after_is : (i : ℕ) → i < 8 → bit_of after i ≡ now i) where
  abbrev pub trip_at : ℕ → List Entry
  trip_at i = cond (not (was i) && now i) (Trip t i ((row_of battery i).value r) ∷ []) []

  abbrev pub release_at : ℕ → List Entry
  release_at i = cond (was i && not (now i)) (Release t i ∷ []) []

  trips_are : ascending (entries_at (trips before after) (trip_slot battery t r)) 8 ≡ ascending trip_at 8
  trips_are = ascending_same (entries_at (trips before after) (trip_slot battery t r)) trip_at 8 (λ i h. rw (before-is i h, after_is i h))

  releases_are : ascending (entries_at (releases before after) (release_slot t)) 8 ≡ ascending release_at 8
  releases_are = ascending_same (entries_at (releases before after) (release_slot t)) release_at 8 (λ i h. rw (before-is i h, after_is i h, and_comm (not (now i)) (was i)))

  long_added : (s : LongTerm) → LongFits s → LongGrown s (push_longs battery t r before after s) (ascending trip_at 8)
  unfolding push_longs
  long_added s f =
      rw trips_are at
      (grown_where long_entries LongFits push_long (take 64) (take_kept 64) IsTrip long_pushed long_fits
      s (trips before after) (trip_slot battery t r) (λ i. refl) (λ i. refl) s [] (long_as_it_is s f) 8 (omega arith))

  short_added : (s : ShortTerm) → ShortFits s → ShortGrown s (push_shorts battery t r before after s) (ascending trip_at 8 ++ ascending release_at 8)
  unfolding push_shorts
  short_added s f =
      let grown = grown_where short_entries ShortFits push_short (last_of 16) (last_kept 16) Any (λ s f slot any. short_pushed s f slot) (λ s f slot any. short_fits s f slot) in
      let tripped = grown s (trips before after) (trip_slot battery t r) (λ i. refl) (λ i. tt) s [] (short_as_it_is s f) 8 (omega arith) in
      let all = grown s (releases before after) (release_slot t) (λ i. refl) (λ i. tt) _ _ tripped 8 (omega arith) in
      rw (trips_are, releases_are) at all

  -- all of them
  pub added_all : (s : Stores) → StoresFit s
      → Added s (record { short = push_shorts battery t r before after s.short; long = push_longs battery t r before after s.long })
      (ascending trip_at 8) (ascending trip_at 8 ++ ascending release_at 8)
  added_all s f = record {
    long = (long_added s.long f.long).entries;
    short = (short_added s.short f.short).entries;
    fits = record { long = (long_added s.long f.long).fits; short = (short_added s.short f.short).fits };
  }
