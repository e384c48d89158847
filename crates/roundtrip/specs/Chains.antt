-- The round trips as statements, for any reader and writer of items that are a kind with values: what a chain of writes and a chain of
-- reads are, through what the contracts allow, and what is claimed of them.
use Rattle.std.specs.Prelude.{ℕ, ◌+◌, ◌-◌, ◌≤◌, List, [], ◌∷◌, ◌++◌, ◌≡◌, ℤ, length, take, drop, Option, Result, Ok}
use Rattle.std.specs.Borrow.{Bor, MutBor}
use Rattle.rules.specs.Bytes.{Form, AreBytes, InRange, fields_of, fields_bytes, read_at, written_or, buffer_after}
use Rattle.rules.specs.Numbers.{ReadAnswer, found, end, answer_of_write}
use Rattle.rules.specs.declared.answers.Unreadable.{Unreadable}
use Rattle.rules.specs.declared.refusals.Refusal.{Refusal}

-- what a reader of T answers, as rules::answers has it
abbrev pub ReadResult : Type 0 → Type 0
ReadResult T = Result (Option (T × ℕ)) (Unreadable Refusal)

-- "one byte of kind, then a body"
abbrev pub bytes_of : List Form → ℕ → List ℤ → List ℕ
bytes_of forms kind values = kind ∷ fields_bytes (fields_of forms kind) values

-- What is written and read: items, each a kind with its values.
pub record Items : Type 1 where
  pub Item : Type 0
  pub forms : List Form
  pub kind : Item → ℕ
  pub values : Item → List ℤ

-- A reader of them: its answers, and which of them its contract allows for a log and a position.
pub record Reader (I : Items) : Type 1 where
  pub Answer : Type 0
  pub Found : I.Item → ℕ → Answer
  pub End : Answer
  pub answer : Answer → ReadAnswer
  pub of_found : (a : I.Item) (next : ℕ) → answer (Found a next) ≡ found (I.kind a) (I.values a) next
  pub of_end : answer End ≡ end
  pub same : (r s : Answer) → answer r ≡ answer s → r ≡ s
  pub Allows : Bor (List ℕ) → ℕ → Answer → Type 0
  pub right : {log : Bor (List ℕ)} {at : ℕ} {r : Answer} → Allows log at r → answer r ≡ read_at I.forms log.now at
  pub logged : {log : Bor (List ℕ)} {at : ℕ} {r : Answer} → Allows log at r → AreBytes log.now

-- A writer of them: the bytes due, the refusal, and what its contract allows, as item, buffer before, answer and buffer after. What it
-- accepts is in range: its contract says so of the types of its argument.
pub record Writer (I : Items) : Type 1 where
  pub due : I.Item → List ℕ
  pub is_due_lem : (a : I.Item) → due a ≡ bytes_of I.forms (I.kind a) (I.values a)
  pub refusal : I.Item → List ℕ → ℕ
  pub fits : (a : I.Item) (buffer : List ℕ) → InRange I.forms (I.kind a) (I.values a) → length (due a) ≤ length buffer → refusal a buffer ≡ 0
  pub Allows : I.Item → MutBor (List ℕ) → Result ℕ Refusal → MutBor (List ℕ) → Type 0
  pub right : {a : I.Item} {before after : MutBor (List ℕ)} {r : Result ℕ Refusal} → Allows a before r after
      → (answer_of_write r ≡ written_or (refusal a before.now) (length (due a)))
      × (after.now ≡ buffer_after (refusal a before.now) (due a) before.now)
  pub ranged : {a : I.Item} {before after : MutBor (List ℕ)} {n : ℕ} → Allows a before (Ok n) after → InRange I.forms (I.kind a) (I.values a)

module _ (I : Items) where
  abbrev pub item_bytes : I.Item → List ℕ
  item_bytes x = bytes_of I.forms (I.kind x) (I.values x)

  -- the bytes of items, one after the other
  abbrev pub all_bytes : List I.Item → List ℕ
  all_bytes [] = []
  all_bytes (x ∷ xs) = item_bytes x ++ all_bytes xs

  abbrev pub AllInRange : List I.Item → Type 0
  AllInRange [] = Unit {0}
  AllInRange (x ∷ xs) = InRange I.forms (I.kind x) (I.values x) × AllInRange xs

  -- ---- reading

  module _ (R : Reader I) (log : Bor (List ℕ)) where
    -- whatever the reader may answer from a position on is these items in order, each with the position right after it, and then "end"
    abbrev pub ReadsBack : ℕ → List I.Item → Type 0
    ReadsBack at [] = (r : R.Answer) → R.Allows log at r → r ≡ R.End
    ReadsBack at (x ∷ xs) =
        ((r : R.Answer) → R.Allows log at r → r ≡ R.Found x (at + length (item_bytes x)))
        × ReadsBack (at + length (item_bytes x)) xs

    -- items that the reader gave from a position on, up to "end"
    pub data ReadToEnd : ℕ → List I.Item → Type 0 where
      ended : {at : ℕ} → R.Allows log at R.End → ReadToEnd at []
      one : {at next : ℕ} {x : I.Item} {xs : List I.Item} → R.Allows log at (R.Found x next) → ReadToEnd next xs → ReadToEnd at (x ∷ xs)

  -- Bytes that read, in any log of just them, as these items in order from the start on, and as "end" at position n.
  pub record ReadAs (R : Reader I) (written : List ℕ) (n : ℕ) (xs : List I.Item) : Type 0 where
    pub items : (log : Bor (List ℕ)) → log.now ≡ written → ReadsBack R log 0 xs
    pub ends : (log : Bor (List ℕ)) → log.now ≡ written → (r : R.Answer) → R.Allows log n r → r ≡ R.End

  -- ---- writing

  module _ (W : Writer I) where
    -- items that the writer put one after the other: with the buffer before and after, and how many bytes they took
    pub data Wrote : List I.Item → List ℕ → List ℕ → ℕ → Type 0 where
      none : {buffer : List ℕ} → Wrote [] buffer buffer 0
      one : {x : I.Item} {xs : List I.Item} {before after : MutBor (List ℕ)} {n used : ℕ} {rest : List ℕ}
          → W.Allows x before (Ok n) after → Wrote xs (drop n after.now) rest used
          → Wrote (x ∷ xs) before.now (take n after.now ++ rest) (n + used)

    -- ---- both

    -- What was read at a position is in range, and where there is room it is written again as the very bytes that were read.
    pub record WrittenAgain (log : List ℕ) (at : ℕ) (x : I.Item) (next : ℕ) : Type 0 where
      pub range : InRange I.forms (I.kind x) (I.values x)
      pub bytes : W.due x ≡ take (next - at) (drop at log)
      pub written : {before after : MutBor (List ℕ)} {r : Result ℕ Refusal} → W.Allows x before r after → next - at ≤ length before.now
          → (r ≡ Ok (next - at)) × (after.now ≡ take (next - at) (drop at log) ++ drop (next - at) before.now)

    -- A log that reads to "end" is exactly the bytes of what was read, all of it in range, and is what writing it gives.
    pub record Whole (log : List ℕ) (xs : List I.Item) : Type 0 where
      pub range : AllInRange xs
      pub bytes : log ≡ all_bytes xs
      pub written : {before after : List ℕ} {used : ℕ} → Wrote xs before after used → take used after ≡ log
