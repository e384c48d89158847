-- What is read of a log is an event, and a log is the bytes of the events that it reads as, one after the other, and then what can't be read.
use Prim.Native.Nat.{ℕ, zero, suc, ◌<◌}
use mathlib.Core.Bool.{Bool, true, false, ◌||◌, true≢false}
use mathlib.Core.List.{List, [], ◌∷◌, ◌++◌, append_assoc}
use mathlib.Core.Path.{◌≡◌, refl, sym, ap, ap₂, subst, ◌∙◌}
use native.Mathlib.Nat.{le_of_suc-le-suc, not-suc-le-zero}
use borrow.Author.Tests.{eqb-true}
use lib.Dec.{eqb}
use lib.IntN.{ℤ, pos, negsuc, nat_abs}
use lib.ListN.{length, get_or, drop}
use Rattle.rules.specs.Numbers.{command_number, request_number, override_number, command_of, request_of, override_of, unsigned, event_kind, event_values, event_of, ReadAnswer, found, end, ReadAnswer.refused}
use Rattle.rules.specs.Bytes.{Field, u16, u32, i16, i32, one_of, AreBytes, is_in, is_below, is_kind, fields_of, event_forms, read_at, InField, InFields}
use Rattle.rules.specs.Logs.{read_on, read_by, read_log}
use Rattle.rules.proofs.Lists.{tabulate_ext, tabulate_places}
use Rattle.roundtrip.specs.Chains.{bytes_of, item_bytes, all_bytes}
use Rattle.roundtrip.proofs.Forms.{read_again}
use Rattle.roundtrip.proofs.Events.{events}

-- what holds of each number of a list holds of a number that is in it
abbrev OfEach : (ℕ → Type 0) → List ℕ → Type 0
OfEach P [] = Unit {0}
OfEach P (a ∷ allowed) = P a × OfEach P allowed

each_in : (P : ℕ → Type 0) (allowed : List ℕ) → OfEach P allowed → (n : ℕ) → is_in allowed n ≡ true → P n
each_in P [] ps n h = absurd (true≢false (sym h))
each_in P (a ∷ allowed) (p, ps) n h = go (eqb n a) refl (each_in P allowed ps n) h
  where
    go : (b : Bool) → eqb n a ≡ b → (is_in allowed n ≡ true → P n) → (b || is_in allowed n) ≡ true → P n
    go true e later h = subst P (sym (eqb-true n a e)) p
    go false e later h = later h

-- ---- values in range are those of an event

unsigned_is : (bound : ℕ) (x : ℤ) → is_below bound x → pos (nat_abs x) ≡ x
unsigned_is bound (pos n) h = refl
unsigned_is bound (negsuc n) h = absurd h

-- the time alone
time_is : (v : List ℤ) → InFields (u32 ∷ []) v → pos (unsigned v 0) ∷ [] ≡ v
time_is [] h = absurd h
time_is (t ∷ []) h = ap (λ (x : ℤ). x ∷ []) (unsigned_is _ t h.0)
time_is (t ∷ x ∷ v) h = absurd h.1

-- the time and a byte that is one of a list, whose case has that number
listed_is : (number : ℕ → ℕ) (allowed : List ℕ) → OfEach (λ n. number n ≡ n) allowed → (v : List ℤ) → InFields (u32 ∷ one_of allowed ∷ []) v
    → pos (unsigned v 0) ∷ pos (number (unsigned v 1)) ∷ [] ≡ v
listed_is number allowed same [] h = absurd h
listed_is number allowed same (t ∷ []) h = absurd h.1
listed_is number allowed same (t ∷ b ∷ []) h =
    ap₂ (λ (x y : ℤ). x ∷ y ∷ []) (unsigned_is _ t h.0)
    (ap pos (each_in (λ n. number n ≡ n) allowed same (nat_abs b) h.1.0.1) ∙ unsigned_is _ b h.1.0.0)
listed_is number allowed same (t ∷ b ∷ x ∷ v) h = absurd h.1.1

-- any number of fields without a list
abbrev restored : Field → ℤ → ℤ
restored u16 x = pos (nat_abs x)
restored u32 x = pos (nat_abs x)
restored i16 x = x
restored i32 x = x
restored (one_of allowed) x = x

restored_is : (f : Field) (x : ℤ) → InField f x → restored f x ≡ x
restored_is u16 x h = unsigned_is _ x h
restored_is u32 x h = unsigned_is _ x h
restored_is i16 x h = refl
restored_is i32 x h = refl
restored_is (one_of allowed) x h = refl

as_many : (fs : List Field) (vs : List ℤ) → InFields fs vs → length vs ≡ length fs
as_many [] [] h = refl
as_many [] (v ∷ vs) h = absurd h
as_many (f ∷ fs) [] h = absurd h
as_many (f ∷ fs) (v ∷ vs) h = ap suc (as_many fs vs h.1)

field_at : (fs : List Field) (vs : List ℤ) → InFields fs vs → (i : ℕ) → i < length fs → InField (get_or fs i u16) (get_or vs i (pos 0))
field_at [] vs h i k = absurd (not-suc-le-zero k)
field_at (f ∷ fs) [] h i k = absurd h
field_at (f ∷ fs) (v ∷ vs) h zero k = h.0
field_at (f ∷ fs) (v ∷ vs) h (suc i) k = field_at fs vs h.1 i (le_of_suc-le-suc k)

measured_is : (v : List ℤ) → InFields (fields_of event_forms 0x01) v → event_values (event_of 0x01 v) ≡ v
measured_is v h =
    tabulate_ext 14 (λ i. restored (get_or (fields_of event_forms 0x01) i u16) (get_or v i (pos 0))) (λ i. get_or v i (pos 0))
    (λ i k. restored_is (get_or (fields_of event_forms 0x01) i u16) (get_or v i (pos 0)) (field_at (fields_of event_forms 0x01) v h i k))
    ∙ sym (tabulate_places 14 v (pos 0) (as_many (fields_of event_forms 0x01) v h))

abbrev OfAnEvent : ℕ → Type 0
OfAnEvent kind = (v : List ℤ) → InFields (fields_of event_forms kind) v → (event_kind (event_of kind v) ≡ kind) × (event_values (event_of kind v) ≡ v)

of_an_event : (kind : ℕ) → is_kind event_forms kind ≡ true → OfAnEvent kind
of_an_event = each_in OfAnEvent (0x01 ∷ 0x02 ∷ 0x03 ∷ 0x04 ∷ 0x05 ∷ 0x06 ∷ 0x07 ∷ []) (measured, (λ v h. (refl, time_is v h), (λ v h. (refl, time_is v h), (command, (request, (override, (λ v h. (refl, time_is v h), tt)))))))
  where
    measured : OfAnEvent 0x01
    measured v h = (refl, measured_is v h)

    command : OfAnEvent 0x04
    command v h = (refl, listed_is (λ n. command_number (command_of n)) (0 ∷ 1 ∷ 2 ∷ []) (refl, (refl, (refl, tt))) v h)

    request : OfAnEvent 0x05
    request v h = (refl, listed_is (λ n. request_number (request_of n)) (1 ∷ 2 ∷ 3 ∷ []) (refl, (refl, (refl, tt))) v h)

    override : OfAnEvent 0x06
    override v h = (refl, listed_is (λ n. override_number (override_of n)) (0 ∷ 1 ∷ []) (refl, (refl, tt)) v h)

-- ---- a log

module _ (log : List ℕ) (bytes : AreBytes log) where
  read_is : (most at : ℕ) → drop at log ≡ all_bytes events (read_by most log at).calls ++ drop (read_by most log at).position log
  read_is zero at = refl
  read_is (suc most) at = go (read_at event_forms log at) refl (read_is most)
    where
      go : (a : ReadAnswer) → read_at event_forms log at ≡ a
          → ((next : ℕ) → drop next log ≡ all_bytes events (read_by most log next).calls ++ drop (read_by most log next).position log)
          → drop at log ≡ all_bytes events (read_on a at (read_by most log)).calls ++ drop (read_on a at (read_by most log)).position log
      go (found kind values next) e later =
          let again = read_again event_forms log at bytes kind values next e in
          let is = of_an_event kind again.range.known values again.range.fields in
          again.bytes
          ∙ ap₂ ◌++◌ (ap₂ (bytes_of event_forms) (sym is.0) (sym is.1)) (later next)
          ∙ sym (append_assoc (item_bytes events (event_of kind values)) (all_bytes events (read_by most log next).calls) (drop (read_by most log next).position log))
      go end e later = refl
      go (refused refusal position) e later = refl

  -- the events' bytes, and what is left unread
  pub log_is : log ≡ all_bytes events (read_log log).calls ++ drop (read_log log).position log
  log_is = read_is (suc (length log)) 0
