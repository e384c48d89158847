-- The bench examples: one theorem over all rows of specs/Examples. A row of frames is decided by two sessions, those of the mildest and
-- of the severest readings that meet its conditions: every other session that meets them lies between the two.
use mathlib.Core.Path.{◌≡◌, refl, sym, ap, subst, ◌∙◌}
use mathlib.Core.Logic.{inl, inr}
use mathlib.Core.Bool.{Bool, true, false, not, ◌&&◌, ◌||◌}
use mathlib.Core.List.{List, [], ◌∷◌, map, reverse_aux, Forall₂}
use Prim.Native.Nat.{ℕ, ◌+◌, ◌≤◌, ◌<◌}
use native.Mathlib.Omega.{arith}
use lib.Dec.{T, T_not, not_T, leb, leb→le, le→leb, eqb, eqb→eq}
use lib.IntN.{ℤ, pos, nat_abs}
use lib.Signed.{le_z, lt_z, le_z_yes, lt_z_yes, lt_z_no, <ℤ-≤ℤ_trans, clash_ℤ}
use lib.ListN.{length, get_or}
use mir.Facts.{and_yes, or_yes}
use Rattle.rules.specs.declared.sensors.Reading.{Reading}
use Rattle.rules.specs.Quantities.{ma, ms, dc, ma_ms, negated, discharge_rating, mission_time}
use Rattle.rules.specs.Test.{plausible}
use Rattle.rules.specs.Protections.{permitted, extremes, overvoltage, row_of}
use Rattle.rules.specs.Trips.{Measured, time, is_tripped}
use Rattle.rules.specs.Ledger.{ledger, accepted, TrippedOn}
use Rattle.rules.specs.Accounts.{account, positive_part, negative_part}
use Rattle.rules.specs.Examples.{Condition, Frame, Meets, session, Outcome, clear, tripped, Comes, Row, permits, leaves, charges, discharges, Holds, rows}
use Rattle.rules.specs.Lists.{all, Each, none, ◌and◌}
use Rattle.rules.proofs.Lists.{at_index, of_member, each_of}
use Rattle.rules.proofs.Decide.{is_tripped_lem}
use Rattle.rules.proofs.Sessions.{Timely, total, measured_in, account_in}
use Rattle.rules.proofs.Milder.{Milder, Follows, tripped_milder, total_milder}
use Rattle.rules.proofs.Bounds.{mildest, severest, at_ends, above_mildest, below_severest, mildest_meets}

-- ---- sessions between two
abbrev modelled : (Condition → Reading) → Frame → Measured
modelled end f = record { at = ms f.at; reading = end f.reads }

abbrev Ends : List Frame → Type 0
Ends = Each (λ f. T (at_ends f.reads))

module _ (start : ℕ) where
  above_one : {f : Frame} {m : Measured} → T (at_ends f.reads) → Meets start f m → Milder start 0 (modelled mildest f) m
  above_one {f} {m} e x = record { times = omega (arith, x.at); readings = above_mildest f.reads e m.reading x.reads }

  below_one : {f : Frame} {m : Measured} → T (at_ends f.reads) → Meets start f m → Milder 0 start m (modelled severest f)
  below_one {f} {m} e x = record { times = omega (arith, x.at); readings = below_severest f.reads e m.reading x.reads }

  above : {frames : List Frame} {taken : List Measured} → Ends frames → Forall₂ (Meets start) frames taken
      → Forall₂ (Milder start 0) (map (modelled mildest) frames) taken
  above none Forall₂.nil = Forall₂.nil
  above (e and es) (Forall₂.cons x xs) = Forall₂.cons (above_one e x) (above es xs)

  below : {frames : List Frame} {taken : List Measured} → Ends frames → Forall₂ (Meets start) frames taken
      → Forall₂ (Milder 0 start) taken (map (modelled severest) frames)
  below none Forall₂.nil = Forall₂.nil
  below (e and es) (Forall₂.cons x xs) = Forall₂.cons (below_one e x) (below es xs)

reversed : {A B : Type 0} {R : A → B → Type 0} {xs ps : List A} {ys qs : List B} → Forall₂ R xs ys → Forall₂ R ps qs
    → Forall₂ R (reverse_aux xs ps) (reverse_aux ys qs)
reversed Forall₂.nil r = r
reversed (Forall₂.cons x xs) r = reversed xs (Forall₂.cons x r)

-- times that do not fall
abbrev in_order : ℕ → List Frame → Bool
in_order last [] = true
in_order last (f ∷ later) = leb last f.at && in_order f.at later

timely : (start : ℕ) {frames : List Frame} {taken : List Measured} (last now : ℕ) → now ≤ start + last → T (in_order last frames)
    → Forall₂ (Meets start) frames taken → Timely now taken
timely start last now h o Forall₂.nil = tt
timely start last now h o (Forall₂.cons {a = f} {b = m} {l₁ = fs} x xs) =
    let b = and_yes (leb last f.at) (in_order f.at fs) o in
    (omega (arith, leb→le last f.at b.0, x.at), x.in_mission, timely start f.at (time m) (omega (arith, x.at)) b.1 xs)

-- ---- the protections that the rows speak of look at the highest cell or at the current alone
still_below : (a b limit : ℤ) → T (le_z b a) → T (lt_z a limit) → T (lt_z b limit)
still_below a b limit le lt = decide (lt_z b limit) refl
  where
    decide : (t : Bool) → lt_z b limit ≡ t → T t
    decide true e = tt
    decide false e =
        clash_ℤ {a = a} {b = b} (<ℤ-≤ℤ_trans (lt_z_yes {a = a} {b = limit} lt) (lt_z_no {a = b} {b = limit} (subst (λ (t : Bool). T (not t)) (sym e) tt))) (le_z_yes le)

still_from : (a b limit : ℤ) → T (le_z b a) → T (le_z limit b) → T (le_z limit a)
still_from a b limit le from =
    (lt_z_no {a = a} {b = limit}
    (not_T (lt_z a limit)
    (λ lt. clash_ℤ {a = a} {b = b} (<ℤ-≤ℤ_trans (lt_z_yes {a = a} {b = limit} lt) (le_z_yes {a = limit} {b = b} from)) (le_z_yes le)))
    ).le

overvoltage_follows : Follows overvoltage
overvoltage_follows r q cells current = (λ b. omega (arith, leb→le, le→leb), λ w. omega (arith, leb→le, le→leb))

-- tests of the current against two limits
by_current : (limit floor : ℤ) (r q : Reading) → T (le_z q.current.0 r.current.0)
    → (T (lt_z r.current.0 limit) → T (lt_z q.current.0 limit)) × (T (le_z floor q.current.0) → T (le_z floor r.current.0))
by_current limit floor r q down = (still_below r.current.0 q.current.0 limit down, still_from r.current.0 q.current.0 floor down)

abbrev followed : ℕ → Bool
followed protection = eqb protection 0 || (eqb protection 5 || eqb protection 6)

follows : (battery protection : ℕ) → T (followed protection) → Follows (row_of battery protection)
unfolding row_of
follows battery protection h = elim (or_yes (eqb protection 0) (eqb protection 5 || eqb protection 6) h) [
  | inl is ↦ subst (λ (n : ℕ). Follows (row_of battery n)) (sym (eqb→eq protection 0 is)) overvoltage_follows
  | inr rest ↦ elim (or_yes (eqb protection 5) (eqb protection 6) rest) [
    | inl is ↦ subst (λ (n : ℕ). Follows (row_of battery n)) (sym (eqb→eq protection 5 is)) (λ r q up. by_current (negated (ma (pos 1_100_000))).0 (negated (discharge_rating battery)).0 r q)
    | inr is ↦ subst (λ (n : ℕ). Follows (row_of battery n)) (sym (eqb→eq protection 6 is)) (λ r q up. by_current (negated (discharge_rating battery)).0 (negated (discharge_rating battery)).0 r q)
  ]
]

-- ---- a test that computes, row by row
abbrev end : Outcome → Condition → Reading
end clear = severest
end tripped = mildest

abbrev comes : Outcome → Bool → Bool
comes clear trips = not trips
comes tripped trips = trips

abbrev leaves_at_end : List Frame → ℕ → Outcome → ℕ → Bool
leaves_at_end frames protection outcome battery = comes outcome (is_tripped (row_of battery protection) (reverse_aux (map (modelled (end outcome)) frames) []))

abbrev usable : List Frame → Bool
usable frames = in_order 0 frames && all (map (λ f. at_ends f.reads) frames)

abbrev adds_at_ends : (ℤ → ℕ) → List Frame → ℕ → Bool
adds_at_ends part frames amount =
    usable frames && (eqb (total part [] (map (modelled mildest) frames)) amount && eqb (total part [] (map (modelled severest) frames)) amount)

abbrev decided : Row → Bool
decided (permits battery coldest current) = eqb (nat_abs (permitted battery (dc coldest)).0) current
decided (leaves types frames protection outcome) = usable frames && (followed protection && all (map (leaves_at_end frames protection outcome) types))
decided (charges frames amount) = adds_at_ends positive_part frames amount
decided (discharges frames amount) = adds_at_ends negative_part frames amount

-- ---- a row so decided holds
module _ (frames : List Frame) (u : T (usable frames)) (start : ℕ) (taken : List Measured) (meets : Forall₂ (Meets start) frames taken) where
  in_time : Timely 0 taken
  in_time = timely start 0 0 (omega arith) (and_yes (in_order 0 frames) (all (map (λ f. at_ends f.reads) frames)) u).0 meets

  ends : Ends frames
  ends = each_of (λ f. at_ends f.reads) frames (and_yes (in_order 0 frames) (all (map (λ f. at_ends f.reads) frames)) u).1

  leaves_as : (battery protection : ℕ) (outcome : Outcome) → T (followed protection) → T (leaves_at_end frames protection outcome battery)
      → Comes outcome (TrippedOn battery (ledger (session taken)) protection)
  leaves_as battery protection clear f h = λ t.
      let p = row_of battery protection in
      let tripped' = (is_tripped_lem p (reverse_aux taken [])).1 (rw (measured_in taken in_time) at t) in
      T_not (is_tripped p (reverse_aux (map (modelled severest) frames) [])) h
      (tripped_milder p (follows battery protection f) 0 start (reversed (below start ends meets) Forall₂.nil) tripped')
  leaves_as battery protection tripped f h =
      let p = row_of battery protection in
      rw (measured_in taken in_time)
      ((is_tripped_lem p (reverse_aux taken [])).0 (tripped_milder p (follows battery protection f) start 0 (reversed (above start ends meets) Forall₂.nil) h))

  -- what the session adds lies between the two
  charged_between : (total positive_part [] (map (modelled severest) frames) ≤ total positive_part [] taken)
      × (total positive_part [] taken ≤ total positive_part [] (map (modelled mildest) frames))
  charged_between = ((total_milder 0 start Forall₂.nil (below start ends meets)).0, (total_milder start 0 Forall₂.nil (above start ends meets)).0)

  discharged_between : (total negative_part [] (map (modelled mildest) frames) ≤ total negative_part [] taken)
      × (total negative_part [] taken ≤ total negative_part [] (map (modelled severest) frames))
  discharged_between = ((total_milder start 0 Forall₂.nil (above start ends meets)).1, (total_milder 0 start Forall₂.nil (below start ends meets)).1)

  adds_as : (part : ℤ → ℕ) (amount : ℕ) → total part [] taken ≡ amount → account part (accepted (session taken)) ≡ ma_ms amount
  adds_as part amount is = ap ma_ms (account_in taken in_time part ∙ is)

at_ends_lem : (part : ℤ → ℕ) (frames : List Frame) (amount : ℕ) → T (adds_at_ends part frames amount)
    → T (usable frames) × (total part [] (map (modelled mildest) frames) ≡ amount) × (total part [] (map (modelled severest) frames) ≡ amount)
at_ends_lem part frames amount h =
    let mild = total part [] (map (modelled mildest) frames) in
    let severe = total part [] (map (modelled severest) frames) in
    let b = and_yes (usable frames) (eqb mild amount && eqb severe amount) h in
    let c = and_yes (eqb mild amount) (eqb severe amount) b.1 in
    (b.0, eqb→eq mild amount c.0, eqb→eq severe amount c.1)

squeezed : {low some high amount : ℕ} → (low ≤ some) × (some ≤ high) → low ≡ amount → high ≡ amount → some ≡ amount
squeezed between low high = omega (arith, between, low, high)

holds : (row : Row) → T (decided row) → Holds row
unfolding permitted
holds (permits battery coldest current) h = ap (λ (n : ℕ). ma (pos n)) (eqb→eq (nat_abs (permitted battery (dc coldest)).0) current h)
holds (leaves types frames protection outcome) h = λ battery m start taken meets.
    let b = and_yes (usable frames) (followed protection && all (map (leaves_at_end frames protection outcome) types)) h in
    let c = and_yes (followed protection) (all (map (leaves_at_end frames protection outcome) types)) b.1 in
    leaves_as frames b.0 start taken meets battery protection outcome c.0 (of_member (each_of (leaves_at_end frames protection outcome) types c.1) m)
holds (charges frames amount) h = λ start taken meets.
    let (u, mild, severe) = at_ends_lem positive_part frames amount h in
    adds_as frames u start taken meets positive_part amount (squeezed (charged_between frames u start taken meets) severe mild)
holds (discharges frames amount) h = λ start taken meets.
    let (u, mild, severe) = at_ends_lem negative_part frames amount h in
    adds_as frames u start taken meets negative_part amount (squeezed (discharged_between frames u start taken meets) mild severe)

pub examples : (i : ℕ) → i < length rows → (d : Row) → Holds (get_or rows i d)
unfolding rows plausible extremes permitted row_of
examples i h d = holds (get_or rows i d) (at_index (each_of decided rows tt) i h d)

-- ---- and no row is empty: a session meets its frames
abbrev frames_of : Row → List Frame
frames_of (permits battery coldest current) = []
frames_of (leaves types frames protection outcome) = frames
frames_of (charges frames amount) = frames
frames_of (discharges frames amount) = frames

abbrev meetable : Frame → Bool
meetable f = at_ends f.reads && leb f.at mission_time.0

meets_mildest : (f : Frame) → T (meetable f) → Meets 0 f (modelled mildest f)
meets_mildest f h =
    let b = and_yes (at_ends f.reads) (leb f.at mission_time.0) h in
    record { at = omega arith; in_mission = leb→le f.at mission_time.0 b.1; reads = mildest_meets f.reads b.0 }

meet_mildest : {frames : List Frame} → Each (λ f. T (meetable f)) frames → Forall₂ (Meets 0) frames (map (modelled mildest) frames)
meet_mildest none = Forall₂.nil
meet_mildest (◌and◌ {x = f} h hs) = Forall₂.cons (meets_mildest f h) (meet_mildest hs)

pub met : (i : ℕ) → i < length rows → (d : Row) → (taken : List Measured) × Forall₂ (Meets 0) (frames_of (get_or rows i d)) taken
unfolding rows plausible
met i h d =
    let frames = frames_of (get_or rows i d) in
    (map (modelled mildest) frames, meet_mildest (each_of meetable frames (at_index (each_of (λ row. all (map meetable (frames_of row))) rows tt) i h d)))
