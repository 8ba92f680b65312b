-- What code makes a process do, whatever other processes do meanwhile: it does what a tree says.
use Rattle.std.specs.Prelude.{◌≡◌, ℕ, suc, ◌+◌, ◌*◌, ◌^◌, ◌<◌, ◌≤◌, ◌⊎◌, ℤ, Bool, List, length, slice_get, Some, IsTrue}
use Rattle.prefix_decoder.specs.declared.function.Fun.{Fun}
use Rattle.module_format.specs.Order.{IsBytes}
use Rattle.machine_state.specs.declared.op.Op.TheVariants as ops
use Rattle.machine_state.specs.declared.instruction.Instruction.TheVariants.{Operate}
use Rattle.machine_state.specs.LocalStep.{address}
use Rattle.machine_state.specs.Memory.{Memory, byte_at, place_of}
use Rattle.machine_state.specs.World.{input_word, output_word}
use Rattle.scalar_ranges.specs.Environments.{Environment}
use Rattle.program_uses.specs.declared.uses.Direction.TheVariants as direction
use Rattle.program_uses.specs.Indices.{turn_by_turn}
use Rattle.program_meaning.specs.Links.{Port, message_length}
use Rattle.program_meaning.specs.Doing.{Doing, Leaves, Halts, Fails, Asks, Sends, doing_then, AllWell}
use Rattle.code_pieces.specs.Pieces.{Piece}
use Rattle.placed_code.specs.LaidCode.{LaidCode, Fetches, Lie}
use Rattle.placed_code.specs.Points.{Point, point, Executes, Steps, GoesTo}
use Rattle.placed_code.specs.StraightPieces.{Held, LeadOn, word_place}

-- ---- what is asked of others

-- `stopp` is next, and more code is after it
pub record Stops (c : LaidCode) (p : Point) : Type 0 where
  pub executes : Executes c p (Operate ops.StopProcess)
  pub inside : executes.behind < length c.code

-- it is next, and is the end of the code
pub record Finishes (c : LaidCode) (p : Point) : Type 0 where
  pub executes : Executes c p (Operate ops.StopProcess)
  pub ends : executes.behind ≡ length c.code

-- where the message is for which A has the length, and C the address
abbrev pub buffer : Point → ℕ
buffer p = place_of (address p.held.stack.c)

-- a byte of the three words below the workspace, which scheduling takes
abbrev pub IsScheduling : ℕ → ℕ → Type 0
IsScheduling depth place = (4 * depth ≤ place) × (place < word_place depth)

-- one of this count of bytes from a place on
abbrev pub IsAmong : ℕ → ℕ → ℕ → Type 0
IsAmong start count place = (start ≤ place) × (place < start + count)

-- the message lies in the address space, and beside the words that scheduling takes
pub record IsBuffer (c : LaidCode) (p : Point) (count : ℕ) : Type 0 where
  pub low : buffer p + count < 2 ^ 32
  pub beside : (buffer p + count ≤ 4 * c.footing.depth) ⊎ (word_place c.footing.depth ≤ buffer p)

-- `in` is next: a message of the port is asked for
pub record Receives (c : LaidCode) (p : Point) (port : Port) : Type 0 where
  pub executes : Executes c p (Operate ops.Input)
  pub way : port.way ≡ direction.Input
  pub link : port.link < 4
  pub count : address p.held.stack.a ≡ message_length port.carries
  pub channel : address p.held.stack.b ≡ input_word port.link
  pub lies : IsBuffer c p (message_length port.carries)

-- these bytes lie from a place on
abbrev pub Has : Memory → ℕ → List ℕ → Type 0
Has memory place bytes = (i byte : ℕ) → slice_get bytes i ≡ Some byte → byte_at memory (place + i) ≡ Some byte

-- `out` is next: this message goes to the port
pub record IsSending (c : LaidCode) (p : Point) (port : Port) (message : List ℕ) : Type 0 where
  pub executes : Executes c p (Operate ops.Output)
  pub way : port.way ≡ direction.Output
  pub link : port.link < 4
  pub count : address p.held.stack.a ≡ length message
  pub channel : address p.held.stack.b ≡ output_word port.link
  pub lies : IsBuffer c p (length message)
  pub has : Has p.held.memory (buffer p) message

-- The process goes on where its instruction ends, with any registers. Memory is as it was but in the words that
-- scheduling takes, and at these places.
pub record GoesOnBut (c : LaidCode) (p q : Point) (IsOther : ℕ → Type 0) : Type 0 where
  pub behind : (f : Fun) (e : ℤ) (to : ℕ) → Fetches c.code p.at f e to → q.at ≡ to
  pub size : length q.held.memory ≡ length p.held.memory
  pub same : (place : ℕ) → (IsScheduling c.footing.depth place → ⊥) → (IsOther place → ⊥)
      → byte_at q.held.memory place ≡ byte_at p.held.memory place

-- a message was sent
abbrev pub Waited : LaidCode → Point → Point → Type 0
Waited c p q = GoesOnBut c p q (λ place. ⊥)

-- one was received, of these bytes
pub record Filled (c : LaidCode) (p : Point) (bytes : List ℕ) (q : Point) : Type 0 where
  pub goes_on : GoesOnBut c p q (IsAmong (buffer p) (length bytes))
  pub has : Has q.held.memory (buffer p) bytes

-- ---- what code makes a process do

-- From a point the process does this, in so many instructions, and where it leaves an environment, something holds of
-- that and of the point to which it has come. What fails has no meaning, and anything may come of it.
pub data Behaves (c : LaidCode) (End : Environment → Point → Type 0) : Point → Doing → Type 0 where
  over : {p : Point} {env : Environment} → End env p → Behaves c End p (Leaves env)
  any : {p : Point} → Behaves c End p Fails
  halts : {p : Point} → Stops c p → Behaves c End p Halts
  steps : {p q : Point} {t : Doing} → Steps c p q → Behaves c End q t → Behaves c End p t
  asks : {p : Point} {port : Port} {next : List ℕ → Doing} → Receives c p port
      → ((bytes : List ℕ) (q : Point) → length bytes ≡ message_length port.carries → IsBytes bytes
      → Filled c p bytes q → Behaves c End q (next bytes))
      → Behaves c End p (Asks port next)
  sends : {p : Point} {port : Port} {message : List ℕ} {next : Doing} → IsSending c p port message
      → ((q : Point) → Waited c p q → Behaves c End q next) → Behaves c End p (Sends port message next)

-- where this test holds
abbrev pub Passes : (Environment → Point → Bool) → Environment → Point → Type 0
Passes test env p = IsTrue (test env p)

-- Laws of all tests. The lemmas that they rest on are of all relations.
pub record BehavioursCompose : Type 0 where
  -- one after the other, if something is known of all that the first one leaves
  pub following : (c : LaidCode) (end last : Environment → Point → Bool) (holds : Environment → Bool) (p : Point)
      (t : Doing) (f : Environment → Doing) → Behaves c (Passes end) p t → AllWell (λ env. IsTrue (holds env)) t
      → ((env : Environment) (q : Point) → Passes end env q → IsTrue (holds env) → Behaves c (Passes last) q (f env))
      → Behaves c (Passes last) p (doing_then t f)
  -- the same, if nothing is
  pub joining : (c : LaidCode) (end last : Environment → Point → Bool) (p : Point) (t : Doing)
      (f : Environment → Doing) → Behaves c (Passes end) p t
      → ((env : Environment) (q : Point) → Passes end env q → Behaves c (Passes last) q (f env))
      → Behaves c (Passes last) p (doing_then t f)
  -- turns, one after the other
  pub turns : (c : LaidCode) (end : ℕ → Environment → Point → Bool) (turn : ℕ → Environment → Doing) (n : ℕ)
      (p : Point) (env : Environment) → Passes (end 0) env p
      → ((k : ℕ) (e : Environment) (q : Point) → k < n → Passes (end k) e q
      → Behaves c (Passes (end (suc k))) q (turn k e))
      → Behaves c (Passes (end n)) p (turn_by_turn (λ k t. doing_then t (turn k)) n (Leaves env))
  -- instructions before
  pub steps : (c : LaidCode) (end : Environment → Point → Bool) (p q : Point) (t : Doing) → GoesTo c p q
      → Behaves c (Passes end) q t → Behaves c (Passes end) p t
  -- straight pieces before
  pub straight : (c : LaidCode) (end : Environment → Point → Bool) (at to : ℕ) (ps : List Piece) (h k : Held)
      (t : Doing) → Lie c at ps to → LeadOn c.footing ps h k → Behaves c (Passes end) (point to k) t
      → Behaves c (Passes end) (point at h) t
