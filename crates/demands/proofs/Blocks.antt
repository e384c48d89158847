-- Document 02, S-1, "Whole blocks from the bench", sentence by sentence, of the code: over every result that the contract of `apply_block` allows,
-- on every record, block and buffer, and after every list of calls. The statements are in rules:Blocks.
use Prim.Native.Nat.{ℕ, ◌≤◌, ◌<◌}
use mathlib.Core.Path.{◌≡◌, refl, sym, ap, subst, ◌∙◌}
use mathlib.Core.Logic.{◌↔◌, ◌≢◌}
use mathlib.Core.Bool.{Bool, true, false, cond}
use mathlib.Core.List.{List, ◌∷◌, ◌++◌, append_assoc}
use native.Mathlib.Omega.{arith}
use borrow.Author.Tests.{lt-ltb, le-ltb, ltb-true, ltb-false}
use lib.Dec.{ltb}
use lib.ListN.{length, drop}
use Rattle.rules.specs.declared.states.Contactor.{Contactor}
use Rattle.rules.specs.declared.calls.Event.{Event}
use Rattle.rules.specs.declared.calls.Event.TheVariants.{BattleOverride}
use Rattle.rules.specs.declared.battery.Record.{Record}
use Rattle.rules.specs.Lists.{Each}
use Rattle.rules.specs.Refusals.{CallAnswer}
use Rattle.rules.specs.Logs.{read_log}
use Rattle.rules.specs.Numbers.{event_kind, event_values}
use Rattle.rules.specs.Bytes.{AreBytes, event_forms, event_bytes}
use Rattle.rules.specs.Alike.{Alike, none, same, switched}
use Rattle.rules.specs.Soundness.{Sound}
use Rattle.rules.specs.Claims.{type_or1, AfterList}
use Rattle.rules.specs.Blocks.{events_of, reader_number, BlockCall, taken_events, taken_answers, SentSingly, NothingTaken, BlockSent, BlocksContinue, AlikeBlocks, rest, AnyTwoBlocks}
use Rattle.roundtrip.specs.Chains.{bytes_of, all_bytes}
use Rattle.roundtrip.proofs.Events.{events, event_due}
use Rattle.roundtrip.proofs.Logs.{log_is}
use Rattle.export.specs.Claims.{SameExports}
use Rattle.export.proofs.Allowed.{CodeLong, CodeShort}
use Rattle.engine.proofs.Chain.{Has, CodeRun, CodeCall, code_after_every_list, as_many_answers, each_answer, each_answer_5}
use Rattle.block.proofs.Sends as Sends
use Rattle.block.proofs.Sends.{CodeSends}
use Rattle.demands.proofs.Exports.{exports_of_two_runs}

module _ (b : BlockCall) (sends : CodeSends b) where
  owed : BlockSent CodeCall b
  owed = Sends.on_every_block b sends

  abbrev readable : ℕ
  readable = length (events_of b.block)

  -- "We want one call that takes the record and the block and gives the record after it, with one answer byte (the refusal or 0) per event in a
  -- lent buffer."
  pub one_answer_per_event : length (taken_answers b) ≡ length (taken_events b)
  one_answer_per_event = as_many_answers (Sends.events_taken_ran b sends)

  pub refusal_or_0 : Each CallAnswer (taken_answers b)
  refusal_or_0 = each_answer (Sends.events_taken_ran b sends)

  -- "It equals the events sent singly, a refused one included."
  pub equals_events_sent_singly : b.refusal ≡ 0 → (answers : List ℕ) (last : Record) → SentSingly CodeCall b.before (events_of b.block) answers last
      → (b.after ≡ last) × (b.left ≡ answers ++ drop b.count b.answers)
  equals_events_sent_singly accepted = (owed.taken accepted).as_singly

  pub some_events_sent_singly : b.refusal ≡ 0 → (answers : List ℕ) × (last : Record) × SentSingly CodeCall b.before (events_of b.block) answers last
  some_events_sent_singly accepted = (owed.taken accepted).some_singly

  -- "Unreadable bytes end the block there; the count of events taken and the reader's number (0 if none) come back with the record so far."
  pub count_of_readable_events : b.refusal ≡ 0 → b.count ≡ length (events_of b.block)
  count_of_readable_events accepted = (owed.taken accepted).count

  pub readers_number : b.refusal ≡ 0 → b.reader ≡ reader_number (read_log b.block).ending
  readers_number accepted = (owed.taken accepted).reader

  -- "That is a result and no refusal,": whatever bytes end the block
  pub result_and_no_refusal : readable ≤ 1_000 → readable ≤ length b.answers → b.refusal ≡ 0
  result_and_no_refusal few room = owed.refusal ∙ rw (le-ltb 1_000 readable few, le-ltb (length b.answers) readable room) refl

  -- "and answer bytes past that count stay untouched."
  pub past_the_count : drop b.count b.left ≡ drop b.count b.answers
  past_the_count = Sends.past_the_count b sends

  -- "Checks: 12, more than 1,000 readable events, then 13, answer buffer shorter than the number of readable events,"
  by_checks : (many short : Bool) → ltb 1_000 readable ≡ many → ltb (length b.answers) readable ≡ short → b.refusal ≡ cond many 12 (cond short 13 0)
  by_checks many short m s = owed.refusal ∙ rw (m, s) refl

  pub twelve : (b.refusal ≡ 12) ↔ (1_000 < readable)
  twelve = (λ is. by (ltb 1_000 readable) refl (ltb (length b.answers) readable) refl is, λ h. by_checks true _ (lt-ltb 1_000 readable h) refl)
    where
      by : (many : Bool) → ltb 1_000 readable ≡ many → (short : Bool) → ltb (length b.answers) readable ≡ short → b.refusal ≡ 12 → 1_000 < readable
      by true m short s is = ltb-true 1_000 readable m
      by false m true s is = absurd (omega (arith, is, by_checks false true m s))
      by false m false s is = absurd (omega (arith, is, by_checks false false m s))

  pub thirteen : (b.refusal ≡ 13) ↔ ((readable ≤ 1_000) × (length b.answers < readable))
  thirteen = (
    λ is. by (ltb 1_000 readable) refl (ltb (length b.answers) readable) refl is,
    λ h. by_checks false true (le-ltb 1_000 readable h.0) (lt-ltb (length b.answers) readable h.1),
  )
    where
      by : (many : Bool) → ltb 1_000 readable ≡ many → (short : Bool) → ltb (length b.answers) readable ≡ short → b.refusal ≡ 13
          → (readable ≤ 1_000) × (length b.answers < readable)
      by true m short s is = absurd (omega (arith, is, by_checks true short m s))
      by false m true s is = (ltb-false 1_000 readable m, ltb-true (length b.answers) readable s)
      by false m false s is = absurd (omega (arith, is, by_checks false false m s))

  -- "both before the first event is applied; nothing is altered, count and reader's number are 0."
  pub nothing_altered : b.refusal ≢ 0 → NothingTaken b
  nothing_altered = owed.refused

  -- "It equals the events sent singly" on an unsound record too: 12 and 13 come first, then 5 for each event
  pub unsound_record : ¬ Sound b.before → Each (λ n. n ≡ 5) (taken_answers b) × (b.after ≡ b.before)
  unsound_record unsound = each_answer_5 unsound (Sends.events_taken_ran b sends)

-- ---- after every list of calls: blocks and single calls may follow each other

pub blocks_continue : BlocksContinue CodeRun CodeSends Has
blocks_continue = Sends.sent_singly

pub record_shows : (battery : ℕ) (calls : List Event) (given : List ℕ) (earlier contactor : Contactor) (b : BlockCall)
    → CodeRun battery calls given b.before earlier → CodeSends b → Has b.after contactor
    → AfterList (type_or1 battery) (calls ++ taken_events b) (given ++ taken_answers b) b.after contactor
record_shows battery calls given earlier contactor b run sends has =
    code_after_every_list battery (calls ++ taken_events b) (given ++ taken_answers b) b.after contactor
    (blocks_continue battery calls given earlier contactor b run sends has)

-- "Two blocks that differ only in override values, 0 or 1": no such pair is left out, as long as they are bytes. The events of both are alike, and what
-- can't be read behind them is the same
in_front : (e : Event) (es : List Event) (unread : List ℕ) → all_bytes events (e ∷ es) ++ unread ≡ event_bytes e ++ (all_bytes events es ++ unread)
in_front e es unread =
    append_assoc (bytes_of event_forms (event_kind e) (event_values e)) (all_bytes events es) unread
    ∙ ap (λ (front : List ℕ). front ++ (all_bytes events es ++ unread)) (sym (event_due e))

alike_bytes : {es ds : List Event} → Alike es ds → (unread : List ℕ) → AlikeBlocks (all_bytes events es ++ unread) (all_bytes events ds ++ unread)
alike_bytes none unread = rest unread
alike_bytes (same e {a = es} {b = ds} l) unread = rw (in_front e es unread, in_front e ds unread) (AlikeBlocks.same e (alike_bytes l unread))
alike_bytes (switched t x y {a = es} {b = ds} l) unread =
    rw (in_front (BattleOverride t x) es unread, in_front (BattleOverride t y) ds unread) (AlikeBlocks.switched t x y (alike_bytes l unread))

pub every_alike_pair : (a b : List ℕ) → AreBytes a → AreBytes b → Alike (events_of a) (events_of b)
    → drop (read_log a).position a ≡ drop (read_log b).position b → AlikeBlocks a b
every_alike_pair a b bytes₁ bytes₂ alike unread =
    subst (λ (x : List ℕ). AlikeBlocks x b) (sym (log_is a bytes₁))
    (subst (λ (y : List ℕ). AlikeBlocks (all_bytes events (events_of a) ++ drop (read_log a).position a) y)
    (ap (λ (d : List ℕ). all_bytes events (events_of b) ++ d) unread ∙ sym (log_is b bytes₂))
    (alike_bytes alike (drop (read_log a).position a)))

-- "sent with answer buffers of one length to the records that two such lists leave, share all that two such lists share."
pub two_blocks : AnyTwoBlocks CodeRun CodeSends Has
two_blocks = Sends.any_two_blocks

-- the fault stores as the exports write them among it
pub same_exports : (battery : ℕ) (calls₁ calls₂ : List Event) → Alike calls₁ calls₂
    → (given₁ given₂ : List ℕ) (earlier₁ earlier₂ contactor₁ contactor₂ : Contactor) (b₁ b₂ : BlockCall)
    → CodeRun battery calls₁ given₁ b₁.before earlier₁ → CodeRun battery calls₂ given₂ b₂.before earlier₂
    → AlikeBlocks b₁.block b₂.block → length b₁.answers ≡ length b₂.answers
    → CodeSends b₁ → CodeSends b₂ → Has b₁.after contactor₁ → Has b₂.after contactor₂
    → SameExports CodeLong CodeShort b₁.after b₂.after
same_exports battery calls₁ calls₂ alike given₁ given₂ earlier₁ earlier₂ contactor₁ contactor₂ b₁ b₂ run₁ run₂ blocks room send₁ send₂ has₁ has₂ =
    exports_of_two_runs _ _ _ _ _ b₁.after b₂.after _ _
    (two_blocks battery calls₁ calls₂ alike given₁ given₂ earlier₁ earlier₂ contactor₁ contactor₂ b₁ b₂ run₁ run₂ blocks room send₁ send₂ has₁ has₂).runs
