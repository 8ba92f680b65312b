-- What the components of the PARs in a process share, each at the line of its PAR.
use Rattle.std.specs.Prelude.{ℕ, zero, suc, Bool, false, List, length, ◌⊎◌}
use Rattle.occam_parser.specs.Lines.{Replicator, block_word}
use Rattle.occam_parser.specs.Blocks.{Process, Declared, Does, Construct, Act, Block, Replicated, Body, One, Part}
use Rattle.occam_parser.specs.Blocks.{Components, NoComponent, Further, Component, Plain, Chosen, Guarded}
use Rattle.scalar_ranges.specs.Entries.{Entry}
use Rattle.program_uses.specs.declared.indices.Turns.{Turns}
use Rattle.program_uses.specs.declared.telling.UsageFault.{UsageFault}
use Rattle.program_uses.specs.declared.uses.Use.{Use}
use Rattle.program_uses.specs.Actions.{Around, is_before}
use Rattle.program_uses.specs.Components.{BreakTurns, BreaksBlock, BreaksRepeated}
use Rattle.program_uses.specs.Declaring.{add_outline}
use Rattle.program_uses.specs.Indices.{is_seq, turns_of, in_turns}
use Rattle.program_uses.specs.Processes.{in_turn, uses_in_turn}
use Rattle.program_uses.specs.Telling.{At}

-- in one of this number of turns
abbrev pub InSomeTurn : (ℕ → UsageFault → Type 0) → ℕ → UsageFault → Type 0
InSomeTurn Breaks zero f = ⊥
InSomeTurn Breaks (suc n) f = InSomeTurn Breaks n f ⊎ Breaks n f

abbrev mutual
  pub Shares : Around → List Entry → Process → UsageFault → Type 0
  Shares a es (Declared d p) f = Shares a (add_outline d es) p f
  Shares a es (Does line c) f = SharesInConstruct a es line c f

  pub SharesInConstruct : Around → List Entry → ℕ → Construct → UsageFault → Type 0
  SharesInConstruct a es line (Act action) f = ⊥
  SharesInConstruct a es line (Block kind cs) f =
      SharesInComponents a es cs f ⊎ At line (BreaksBlock a (block_word kind) es cs) f
  SharesInConstruct a es line (Replicated r b) f = SharesInBody a es line r b f

  -- under a replicator, turn by turn
  pub SharesInBody : Around → List Entry → ℕ → Replicator → Body → UsageFault → Type 0
  SharesInBody a es line r (One kind c) f =
      let sequential = is_seq (block_word kind) in
      let turns = turns_of (is_before line a.uncounted) es sequential r in
      InSomeTurn (λ n. SharesInComponent a (in_turn r sequential turns.first n es) c) turns.count f
      ⊎ At line (BreaksRepeated a es line r (One kind c)) f

  pub SharesInComponents : {part : Part} → Around → List Entry → Components part → UsageFault → Type 0
  SharesInComponents a es NoComponent f = ⊥
  SharesInComponents a es (Further cs c) f = SharesInComponents a es cs f ⊎ SharesInComponent a es c f

  pub SharesInComponent : {part : Part} → Around → List Entry → Component part → UsageFault → Type 0
  SharesInComponent a es (Plain p) f = Shares a es p f
  SharesInComponent a es (Chosen line e p) f = Shares a es p f
  SharesInComponent a es (Guarded line g p) f = Shares a es p f

-- the one component under a replicator, in one turn
abbrev pub SharesInOne : Around → List Entry → Body → UsageFault → Type 0
SharesInOne a es (One kind c) = SharesInComponent a es c

-- the turns of a body
abbrev pub SharesInTurns : Around → List Entry → ℕ → Replicator → Bool → Body → UsageFault → Type 0
SharesInTurns a es line r sequential b f =
    let turns = turns_of (is_before line a.uncounted) es sequential r in
    InSomeTurn (λ n. SharesInOne a (in_turn r sequential turns.first n es) b) turns.count f

-- ---- the turns of a PAR

abbrev pub turns_apart : Around → List Entry → ℕ → Replicator → Turns
turns_apart a es line r = turns_of (is_before line a.uncounted) es false r

abbrev pub use_apart : Around → List Entry → ℕ → Replicator → Body → ℕ → List Use
use_apart a es line r b = uses_in_turn a es (turns_apart a es line r).first r.name b

abbrev pub uses_apart : Around → List Entry → ℕ → Replicator → Body → List Use
uses_apart a es line r b = in_turns (use_apart a es line r b) (turns_apart a es line r).count

abbrev pub SharesApart : Around → List Entry → ℕ → Replicator → Body → UsageFault → Type 0
SharesApart a es line r b f =
    SharesInTurns a es line r false b f
    ⊎ At line (BreakTurns (length es) (use_apart a es line r b) (turns_apart a es line r).count) f
