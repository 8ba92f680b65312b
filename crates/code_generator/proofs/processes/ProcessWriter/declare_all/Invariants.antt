use Rattle.std.proofs.Common.{◌≡◌, ◌++◌, map, drop}
use Rattle.occam_parser.specs.LineViews.{declaration_of}
use Rattle.program_uses.specs.InTurn.{in_turn}
use Rattle.code_generator.specs.Processes.{with_declaration}
use Rattle.code_generator.specs.Written.{site_of, declarations_code}
use Rattle.code_generator.proofs.processes.ProcessWriter.declare_all.Given as goal

-- what is left to declare, after what was written
abbrev pub invariant-loop-declaration : goal.invariant-loop-declaration
invariant-loop-declaration l = record {
  code : l.self.listing
      ++ declarations_code (map declaration_of (drop l.declaration-index l.declarations)) (site_of l.self)
      ≡ l.initial.self.listing ++ declarations_code (map declaration_of l.declarations) (site_of l.initial.self);
  site : in_turn with_declaration (map declaration_of (drop l.declaration-index l.declarations)) (site_of l.self)
      ≡ in_turn with_declaration (map declaration_of l.declarations) (site_of l.initial.self);
}
