-- A walk over the code: the states that it goes through are those of the verdict.
use Rattle.std.specs.Prelude.{◌≡◌, ℕ, ◌+◌, ◌-◌, ◌<◌, ◌≤◌, ◌^◌, ⊤, length, Option, Some, None, Result, Ok, Err}
use Rattle.prefix_decoder.specs.declared.decoding.DecodeFault.{DecodeFault}
use Rattle.prefix_decoder.specs.Fetching.{fetched}
use Rattle.module_format.specs.Contents.{Contents}
use Rattle.states.specs.declared.rule.Rule.{Rule}
use Rattle.states.specs.declared.rule.Rule.TheVariants as rules
use Rattle.states.specs.State.{State, root_state}
use Rattle.states.specs.Views.{state_of, BelongsTo}
use Rattle.certified_worlds.specs.Certified.{entering}
use Rattle.verifier.specs.declared.stop.Breach.{Breach}
use Rattle.verifier.specs.declared.walk.Walk.{Walk}
use Rattle.verifier.specs.declared.walk.Arrival.{Arrival}
use Rattle.verifier.specs.declared.walk.Place.{Place}
use Rattle.verifier.specs.declared.walk.Place.TheVariants as places
use Rattle.verifier.specs.Judge.{judge, verdict, judged_once, start_among}
use Rattle.verifier.specs.Judging.{falling_state, AreLeft, IsGiven}

-- the verdict on the whole module is that on the rest of it, which begins at the offset with this state
pub record OnTheWay (m : Contents) (at : ℕ) (before : Option State) : Type 0 where
  pub fuel : ℕ
  pub enough : length m.code ≤ at + fuel
  pub same : judge fuel m at before ≡ verdict m

-- the module that is walked over
abbrev pub walked : Walk → Contents
walked w = w.module.now

-- the state that falls into the offset, if one does; once the offset is entered, the state there
abbrev pub before_of : Walk → Option State
before_of w = falling_state w.is_reached (state_of w.state)

-- The walk is at an offset, of which nothing is known yet.
pub record IsWalk (w : Walk) : Type 0 where
  pub belongs : BelongsTo (walked w) w.state
  pub left : AreLeft (walked w) w.at w.rows

-- The walk begins.
pub record IsBegun (m : Contents) (w : Walk) : Type 0 where
  pub is : IsWalk w
  pub same : walked w ≡ m
  pub at : w.at ≡ 0
  pub state : before_of w ≡ Some (root_state m)

-- The walk is at this instruction.
pub record HasArrived (a : Arrival) (w : Walk) : Type 0 where
  pub belongs : BelongsTo (walked w) w.state
  pub left : AreLeft (walked w) (a.at + 1) w.rows
  pub inside : a.at < length (walked w).code
  pub spelled : fetched (walked w).code a.at ≡ Ok a.instr
  pub some : 1 ≤ a.instr.len
  pub ends : a.at + a.instr.len ≤ length (walked w).code
  pub few : length (walked w).code < 2 ^ 32
  pub given : IsGiven (walked w) a.at a.given

-- A walk that was at an offset is at this instruction, which begins there. The state is what it was.
pub record Arrives (old : Walk) (a : Arrival) (new : Walk) : Type 0 where
  pub arrived : HasArrived a new
  pub same : walked new ≡ walked old
  pub at : a.at ≡ old.at
  pub state : before_of new ≡ before_of old
  pub entered : a.entered ≡ entering (walked old) old.at (before_of old)

-- no instruction is spelled there
pub record IsUnspelled (w : Walk) : Type 0 where
  pub inside : w.at < length (walked w).code
  pub fault : DecodeFault
  pub unspelled : fetched (walked w).code w.at ≡ Err fault

-- what a walk that was at an offset finds there
abbrev pub Arriving : Walk → Walk → Place → Type 0
Arriving old new (places.Instruction a) = Arrives old a new
Arriving old new places.Unspelled = IsUnspelled old × (new ≡ old)
Arriving old new places.End = (length (walked old).code ≤ old.at) × (new ≡ old)

-- the next offset at which something falls, or the rule that the instruction breaks in the state there
abbrev pub judged_of : Walk → Arrival → Result (Option State) Rule
judged_of w a = judged_once (walked w) a.at a.entered a.instr (before_of w)

-- the first start that lies within the instruction
abbrev pub start_in : Walk → Arrival → Option ℕ
start_in w a = start_among (walked w) (a.at + 1) (a.instr.len - 1)

-- The walk is at the offset after the instruction, which breaks no rule.
pub record HasGoneOn (old : Walk) (a : Arrival) (new : Walk) : Type 0 where
  pub is : IsWalk new
  pub same : walked new ≡ walked old
  pub at : new.at ≡ a.at + a.instr.len
  pub some : 1 ≤ a.instr.len
  pub inside : new.at ≤ length (walked old).code
  pub judged : judged_of old a ≡ Ok (before_of new)
  pub none : start_in old a ≡ None

-- The instruction breaks the rule, or a start lies within it.
pub data Breaks (w : Walk) (a : Arrival) : Breach → Type 0 where
  by_rule : {rule : Rule} → judged_of w a ≡ Err rule → Breaks w a (record { rule = rule; offset = a.at })
  by_start : {inside : ℕ} {after : Option State} → judged_of w a ≡ Ok after → start_in w a ≡ Some inside
      → Breaks w a (record { rule = rules.InstructionStart; offset = inside })

-- what comes of an instruction
abbrev pub GoesOn : Walk → Arrival → Walk → Result ⊤ Breach → Type 0
GoesOn old a new (Ok _) = HasGoneOn old a new
GoesOn old a new (Err breach) = Breaks old a breach
