-- The rules that a process breaks, each at its line, but for what the components of its PARs share.
use Rattle.std.specs.Prelude.{ℕ, zero, suc, length, ◌⊎◌}
use Rattle.occam_layout.specs.declared.mark.Mark.TheVariants as mark
use Rattle.occam_parser.specs.Terminals.{Terminal, Mark}
use Rattle.occam_parser.specs.Lines.{Replicator, block_word}
use Rattle.occam_parser.specs.Blocks.{Process, Declared, Does, Construct, Act, Block, Replicated, Body, One, Part}
use Rattle.occam_parser.specs.Blocks.{Components, NoComponent, Further, Component, Plain, Chosen, Guarded}
use Rattle.scalar_ranges.specs.Moves.{Known}
use Rattle.program_uses.specs.Changes.{changed_by_body}
use Rattle.program_uses.specs.Actions.{Around, is_before}
use Rattle.program_uses.specs.Declaring.{add, add_declaration}
use Rattle.program_uses.specs.Indices.{is_seq, repeats_of, index_in, turn_by_turn}
use Rattle.usage_checks.specs.declared.channel_rules.Position.{Position}
use Rattle.program_uses.specs.declared.telling.UsageFault.{UsageFault}
use Rattle.usage_checks.specs.ActionRules.{BreaksAction, BreaksGuard}
use Rattle.usage_checks.specs.AfterProcesses.{begun, begun_body, chosen, after_components}
use Rattle.usage_checks.specs.AfterProcesses.{after_component}
use Rattle.usage_checks.specs.Following.{after_guard}
use Rattle.usage_checks.specs.Handing.{PassesTwice}
use Rattle.usage_checks.specs.LineRules.{BreaksCondition, BreaksReplicator}
use Rattle.usage_checks.specs.NameRules.{BreaksDeclared, with_entries}
use Rattle.program_uses.specs.Telling.{At}

-- Something is broken in one of this number of turns, after those before it.
abbrev pub BreaksInTurns : {A : Type 0} → (ℕ → A → A) → (ℕ → A → UsageFault → Type 0) → ℕ → A → UsageFault → Type 0
BreaksInTurns step Breaks zero x f = ⊥
BreaksInTurns step Breaks (suc n) x f = BreaksInTurns step Breaks n x f ⊎ Breaks n (turn_by_turn step n x) f

-- the position of the components of a block that begins with this number of names
abbrev pub position_in : Terminal → ℕ → Position → Position
position_in (Mark mark.Par) count p =
    record { formals = p.formals; declared = p.declared; parallel = count; is_main = p.is_main }
position_in word count p = p

abbrev mutual
  -- a process, before which there was this number of names
  pub BreaksIn : Around → Position → ℕ → Process → Known → UsageFault → Type 0
  BreaksIn a p first (Declared d q) k f =
      BreaksDeclared first d k.entries f ⊎ BreaksIn a p first q (with_entries (add_declaration d) k) f
  BreaksIn a p first (Does line c) k f = BreaksConstruct a p line c k f

  pub BreaksConstruct : Around → Position → ℕ → Construct → Known → UsageFault → Type 0
  BreaksConstruct a p line (Act action) k f =
      At line (PassesTwice a.signatures k.entries action) f ⊎ At line (BreaksAction p a.signatures k.entries action) f
  BreaksConstruct a p line (Block kind cs) k f =
      let word = block_word kind in
      BreakComponents a (position_in word (length k.entries) p) word cs (begun word k) f
  BreaksConstruct a p line (Replicated r b) k f =
      At line (BreaksReplicator k.entries r) f ⊎ BreaksBody a p line r b k f

  -- in some turn
  pub BreaksBody : Around → Position → ℕ → Replicator → Body → Known → UsageFault → Type 0
  BreaksBody a p line r (One kind c) k f =
      let word = block_word kind in
      let repeats = repeats_of (is_before line a.uncounted) k.entries (is_seq word) r in
      BreaksInTurns (λ n l. after_component a word c (with_entries (add r.name (index_in repeats n)) l))
      (λ n l. BreaksComponent a (position_in word (length k.entries) p) c
      (with_entries (add r.name (index_in repeats n)) l)) repeats.turns.count
      (begun_body word (changed_by_body a.signatures k.entries r (One kind c)) repeats.happens k) f

  pub BreakComponents : {part : Part} → Around → Position → Terminal → Components part → Known → UsageFault → Type 0
  BreakComponents a p word NoComponent k f = ⊥
  BreakComponents a p word (Further cs c) k f =
      BreakComponents a p word cs k f ⊎ BreaksComponent a p c (after_components a word cs k) f

  pub BreaksComponent : {part : Part} → Around → Position → Component part → Known → UsageFault → Type 0
  BreaksComponent a p (Plain q) k f = BreaksIn a p (length k.entries) q k f
  BreaksComponent a p (Chosen line e q) k f =
      At line (BreaksCondition k.entries e) f ⊎ BreaksIn a p (length (chosen e k).entries) q (chosen e k) f
  BreaksComponent a p (Guarded line g q) k f =
      let holds = with_entries (after_guard g) k in
      At line (BreaksGuard p k.entries g) f ⊎ BreaksIn a p (length holds.entries) q holds f
