-- Demand 1: "on all bytes, records and buffers .. and every call ends".
use mathlib.Core.Path.{◌≡◌, refl}
use Prim.Native.Nat.{ℕ}
use seplogic.Ra.Ura.{Ura}
use base.Logic.{SProp, sep, emp}
use mir.Syntax.{Symbol}
use mir.Val.{Val}
use prog.Memory.{Memory}
use prog.Machine.{done}
use prog.Model.{Model}
use prog.Routine.{Routine, Callee, step}
use prog.Wired.{Code, Wired}
use prog.Linked.{Entry, Has, Has-Wired, tie, tie-Follows}
use contract.Adequate.{Satisfies}
use types.Logic.{Logic}
use contract.Lifetimes.{Lfts}
use contract.Monad.{Fun}
use contract.Running.{Running, strict, tables}
use denote.Signature.{Signature}
use denote.Triple.Adequate.{adequate}
use denote.Triple.Entry.{Args}
use denote.Triple.Spec.{Spec, triple_of, Meets}
use Rattle.engine.proofs.fresh as fresh_proof
use Rattle.engine.specs.contracts.fresh as fresh_contract
use Rattle.engine.proofs.apply as apply_proof
use Rattle.engine.specs.contracts.apply as apply_contract
use Rattle.judging.proofs.rest_sound as rest_sound_proof
use Rattle.judging.specs.contracts.rest_sound as rest_sound_contract
use Rattle.judging.proofs.judge_tested as judge_tested_proof
use Rattle.judging.specs.contracts.judge_tested as judge_tested_contract
use Rattle.judging.proofs.judge as judge_proof
use Rattle.judging.specs.contracts.judge as judge_contract
use Rattle.engine.proofs.write_stores as write_stores_proof
use Rattle.engine.specs.contracts.write_stores as write_stores_contract
use Rattle.engine.proofs.sound as sound_proof
use Rattle.engine.specs.contracts.sound as sound_contract
use Rattle.engine.proofs.contactor as contactor_proof
use Rattle.engine.specs.contracts.contactor as contactor_contract
use Rattle.event_reader.proofs.read_event as read_event_proof
use Rattle.event_reader.specs.contracts.read_event as read_event_contract
use Rattle.entry_reader.proofs.read_entry as read_entry_proof
use Rattle.entry_reader.specs.contracts.read_entry as read_entry_contract
use Rattle.event_writer.proofs.write_event as write_event_proof
use Rattle.event_writer.specs.contracts.write_event as write_event_contract
use Rattle.entry_writer.proofs.write_entry as write_entry_proof
use Rattle.entry_writer.specs.contracts.write_entry as write_entry_contract
use Rattle.export.proofs.export_long as export_long_proof
use Rattle.export.specs.contracts.export_long as export_long_contract
use Rattle.export.proofs.export_short as export_short_proof
use Rattle.export.specs.contracts.export_short as export_short_contract
use Rattle.reader.proofs.starting_at as reader_starting_at_proof
use Rattle.reader.specs.contracts.starting_at as reader_starting_at_contract
use Rattle.reader.proofs.peek as reader_peek_proof
use Rattle.reader.specs.contracts.peek as reader_peek_contract
use Rattle.reader.proofs.next as reader_next_proof
use Rattle.reader.specs.contracts.next as reader_next_contract
use Rattle.reader.proofs.rest as reader_rest_proof
use Rattle.reader.specs.contracts.rest as reader_rest_contract
use Rattle.event_log.proofs.event_at as event_at_proof
use Rattle.event_log.specs.contracts.event_at as event_at_contract
use Rattle.block.proofs.apply_block as apply_block_proof
use Rattle.block.specs.contracts.apply_block as apply_block_contract

-- A function: its signature, the name that calls have for it, its code with the code of all that it calls, and its contract.
module _
    (M : Type 1)
    (S : Signature)
    (name : Callee)
    (code : Code)
    (spec : (𝓤 : Ura M) (𝓛 : Logic 𝓤) → (Memory → SProp 𝓤) → (Routine → Fun 𝓤) → Spec 𝓤 S) where
  -- A caller brings nothing but arguments of their types: the contract asks for no fact and no ghost value besides.
  abbrev pub AsksNothing : Type 2
  AsksNothing = (𝓤 : Ura M) (𝓛 : Logic 𝓤) (mem : Memory → SProp 𝓤) (run : Routine → Fun 𝓤) (κs : Lfts S.lifetimes) (args : Args S κs)
      → (g : (spec 𝓤 𝓛 mem run κs args).ghost) × ((spec 𝓤 𝓛 mem run κs args).requires g ≡ emp 𝓤)

  abbrev Stated : Type 2
  Stated = (𝓤 : Ura M) (𝓛 : Logic 𝓤) (𝓜 : Model 𝓤 𝓛.H) (𝓡 : Running 𝓤 𝓛.H 𝓜)
      → Wired 𝓡.env code → Meets 𝓛 S (𝓡.run (𝓡.env name)) (spec 𝓤 𝓛 𝓜.mem 𝓡.returns)

  -- In every model of the machine, in every environment that has the function's code, from every memory that holds the arguments as values of
  -- their types, beside anything else, the routine that the function's name means there is done after some number of steps, without a trap. The
  -- value that it returns is one that the contract allows, in a memory where the rest is as it was.
  abbrev pub Ends : Type 2
  Ends = (𝓤 : Ura M) (𝓛 : Logic 𝓤) (𝓜 : Model 𝓤 𝓛.H) (𝓡 : Running 𝓤 𝓛.H 𝓜) → Wired 𝓡.env code
      → let c = triple_of 𝓛 S (spec 𝓤 𝓛 𝓜.mem 𝓡.returns) in
      (x : c.Ghost) (before : Memory) (rest : SProp 𝓤) → Satisfies 𝓤 𝓛.H 𝓜 before (sep 𝓤 (c.pre x) rest)
      → ∥ ((steps : ℕ) × (v : Val) × (after : Memory) × (step (𝓡.env name) steps (c.args x) before ≡ done (v, after)) × Satisfies 𝓤 𝓛.H 𝓜 after (sep 𝓤 (c.post x v) rest)) ∥₁

  -- Such an environment is there for each look-up that finds this code: the one that does what the look-up says.
  abbrev pub IsThere : Type 0
  IsThere = (look : Symbol → Entry) → Has look code → Wired (tie look) code

  ends_by : Stated → Ends
  ends_by met 𝓤 𝓛 𝓜 𝓡 wired =
      let alone = strict 𝓤 𝓛.H 𝓜 𝓡 in
      adequate 𝓤 𝓛.H 𝓜 (tables 𝓤 𝓛.H 𝓜 alone 𝓡.env) (λ status none. none, tt) name (triple_of 𝓛 S (spec 𝓤 𝓛 𝓜.mem 𝓡.returns))
      (met 𝓤 𝓛 𝓜 alone wired)

  pub record EndsOnAll : Type 2 where
    pub asks_nothing : AsksNothing
    pub ends : Ends
    pub is_there : IsThere

  pub ends_on_all : AsksNothing → Stated → EndsOnAll
  ends_on_all asks met = record {
    asks_nothing = asks;
    ends = ends_by met;
    is_there = λ look has. Has-Wired look (tie look) (tie-Follows look) code has;
  }

-- each function that demand 1 covers
pub record EveryCallEnds (M : Type 1) : Type 2 where
  pub fresh : EndsOnAll M fresh_contract.signature fresh_proof.Symbol.name fresh_proof.Symbol.code (λ 𝓤 𝓛. fresh_contract.spec 𝓛)
  pub apply : EndsOnAll M apply_contract.signature apply_proof.Symbol.name apply_proof.Symbol.code (λ 𝓤 𝓛. apply_contract.spec 𝓛)
  pub rest_sound : EndsOnAll M rest_sound_contract.signature rest_sound_proof.Symbol.name rest_sound_proof.Symbol.code (λ 𝓤 𝓛. rest_sound_contract.spec 𝓛)
  pub judge_tested : EndsOnAll M judge_tested_contract.signature judge_tested_proof.Symbol.name judge_tested_proof.Symbol.code (λ 𝓤 𝓛. judge_tested_contract.spec 𝓛)
  pub judge : EndsOnAll M judge_contract.signature judge_proof.Symbol.name judge_proof.Symbol.code (λ 𝓤 𝓛. judge_contract.spec 𝓛)
  pub write_stores : EndsOnAll M write_stores_contract.signature write_stores_proof.Symbol.name write_stores_proof.Symbol.code (λ 𝓤 𝓛. write_stores_contract.spec 𝓛)
  pub sound : EndsOnAll M sound_contract.signature sound_proof.Symbol.name sound_proof.Symbol.code (λ 𝓤 𝓛. sound_contract.spec 𝓛)
  pub contactor : EndsOnAll M contactor_contract.signature contactor_proof.Symbol.name contactor_proof.Symbol.code (λ 𝓤 𝓛. contactor_contract.spec 𝓛)
  pub read_event : EndsOnAll M read_event_contract.signature read_event_proof.Symbol.name read_event_proof.Symbol.code (λ 𝓤 𝓛. read_event_contract.spec 𝓛)
  pub read_entry : EndsOnAll M read_entry_contract.signature read_entry_proof.Symbol.name read_entry_proof.Symbol.code (λ 𝓤 𝓛. read_entry_contract.spec 𝓛)
  pub write_event : EndsOnAll M write_event_contract.signature write_event_proof.Symbol.name write_event_proof.Symbol.code (λ 𝓤 𝓛. write_event_contract.spec 𝓛)
  pub write_entry : EndsOnAll M write_entry_contract.signature write_entry_proof.Symbol.name write_entry_proof.Symbol.code (λ 𝓤 𝓛. write_entry_contract.spec 𝓛)
  pub export_long : EndsOnAll M export_long_contract.signature export_long_proof.Symbol.name export_long_proof.Symbol.code (λ 𝓤 𝓛. export_long_contract.spec 𝓛)
  pub export_short : EndsOnAll M export_short_contract.signature export_short_proof.Symbol.name export_short_proof.Symbol.code (λ 𝓤 𝓛. export_short_contract.spec 𝓛)
  pub reader_starting_at : EndsOnAll M reader_starting_at_contract.signature reader_starting_at_proof.Symbol.name reader_starting_at_proof.Symbol.code (λ 𝓤 𝓛. reader_starting_at_contract.spec 𝓛)
  pub reader_peek : EndsOnAll M reader_peek_contract.signature reader_peek_proof.Symbol.name reader_peek_proof.Symbol.code (λ 𝓤 𝓛. reader_peek_contract.spec 𝓛)
  pub reader_next : EndsOnAll M reader_next_contract.signature reader_next_proof.Symbol.name reader_next_proof.Symbol.code (λ 𝓤 𝓛. reader_next_contract.spec 𝓛)
  pub reader_rest : EndsOnAll M reader_rest_contract.signature reader_rest_proof.Symbol.name reader_rest_proof.Symbol.code (λ 𝓤 𝓛. reader_rest_contract.spec 𝓛)
  pub event_at : EndsOnAll M event_at_contract.signature event_at_proof.Symbol.name event_at_proof.Symbol.code (λ 𝓤 𝓛. event_at_contract.spec 𝓛)
  pub apply_block : EndsOnAll M apply_block_contract.signature apply_block_proof.Symbol.name apply_block_proof.Symbol.code (λ 𝓤 𝓛. apply_block_contract.spec 𝓛)

-- by what its contract asks, and by its own theorem
pub each_ends : (M : Type 1) → EveryCallEnds M
each_ends M = record {
  fresh = ends_on_all _ _ _ _ _ (λ 𝓤 𝓛 mem run κs args. (tt, refl)) fresh_proof.Met.met;
  apply = ends_on_all _ _ _ _ _ (λ 𝓤 𝓛 mem run κs args. (tt, refl)) apply_proof.Met.met;
  rest_sound = ends_on_all _ _ _ _ _ (λ 𝓤 𝓛 mem run κs args. (tt, refl)) rest_sound_proof.Met.met;
  judge_tested = ends_on_all _ _ _ _ _ (λ 𝓤 𝓛 mem run κs args. (tt, refl)) judge_tested_proof.Met.met;
  judge = ends_on_all _ _ _ _ _ (λ 𝓤 𝓛 mem run κs args. (tt, refl)) judge_proof.Met.met;
  write_stores = ends_on_all _ _ _ _ _ (λ 𝓤 𝓛 mem run κs args. (tt, refl)) write_stores_proof.Met.met;
  sound = ends_on_all _ _ _ _ _ (λ 𝓤 𝓛 mem run κs args. (tt, refl)) sound_proof.Met.met;
  contactor = ends_on_all _ _ _ _ _ (λ 𝓤 𝓛 mem run κs args. (tt, refl)) contactor_proof.Met.met;
  read_event = ends_on_all _ _ _ _ _ (λ 𝓤 𝓛 mem run κs args. (tt, refl)) read_event_proof.Met.met;
  read_entry = ends_on_all _ _ _ _ _ (λ 𝓤 𝓛 mem run κs args. (tt, refl)) read_entry_proof.Met.met;
  write_event = ends_on_all _ _ _ _ _ (λ 𝓤 𝓛 mem run κs args. (tt, refl)) write_event_proof.Met.met;
  write_entry = ends_on_all _ _ _ _ _ (λ 𝓤 𝓛 mem run κs args. (tt, refl)) write_entry_proof.Met.met;
  export_long = ends_on_all _ _ _ _ _ (λ 𝓤 𝓛 mem run κs args. (tt, refl)) export_long_proof.Met.met;
  export_short = ends_on_all _ _ _ _ _ (λ 𝓤 𝓛 mem run κs args. (tt, refl)) export_short_proof.Met.met;
  reader_starting_at = ends_on_all _ _ _ _ _ (λ 𝓤 𝓛 mem run κs args. (tt, refl)) reader_starting_at_proof.Met.met;
  reader_peek = ends_on_all _ _ _ _ _ (λ 𝓤 𝓛 mem run κs args. (tt, refl)) reader_peek_proof.Met.met;
  reader_next = ends_on_all _ _ _ _ _ (λ 𝓤 𝓛 mem run κs args. (tt, refl)) reader_next_proof.Met.met;
  reader_rest = ends_on_all _ _ _ _ _ (λ 𝓤 𝓛 mem run κs args. (tt, refl)) reader_rest_proof.Met.met;
  event_at = ends_on_all _ _ _ _ _ (λ 𝓤 𝓛 mem run κs args. (tt, refl)) event_at_proof.Met.met;
  apply_block = ends_on_all _ _ _ _ _ (λ 𝓤 𝓛 mem run κs args. (tt, refl)) apply_block_proof.Met.met;
}
