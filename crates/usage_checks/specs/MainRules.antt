-- The rule of the last item: it is the procedure main, whose formals are links.
use Rattle.std.specs.Prelude.{◌≡◌, ℕ, ◌-◌, nat_eq, Bool, true, false, ◌&&◌, List, [], ◌∷◌, length, Option, Some, None}
use Rattle.std.specs.List.{slice_get}
use Rattle.occam_parser.specs.declared.tree.FormalKind.{FormalKind}
use Rattle.occam_parser.specs.declared.tree.FormalKind.TheVariants as formal_kind
use Rattle.occam_parser.specs.Expressions.{Expression}
use Rattle.occam_parser.specs.Lines.{Formal}
use Rattle.occam_parser.specs.Blocks.{ProgramItem, GlobalConstant, GlobalProcedure, item_line}
use Rattle.program_uses.specs.declared.faults.TheConstants.{NO_MAIN}
use Rattle.program_uses.specs.declared.uses.Direction.{Direction}
use Rattle.program_uses.specs.declared.telling.UsageFault.{UsageFault}
use Rattle.program_uses.specs.LinkNames.{link_way}
use Rattle.program_uses.specs.Telling.{At}

abbrev pub is_link_name : Option Direction → Bool
is_link_name None = false
is_link_name (Some way) = true

-- a channel that is no array, with the name of a link
abbrev pub is_link_as : FormalKind → Option Expression → List ℕ → Bool
is_link_as formal_kind.Channel None name = is_link_name (link_way name)
is_link_as kind size name = false

abbrev pub are_links : List Formal → Bool
are_links [] = true
are_links (f ∷ fs) = is_link_as f.kind f.size f.name && are_links fs

-- "main"
abbrev pub is_main_name : List ℕ → Bool
is_main_name (a ∷ b ∷ c ∷ d ∷ []) = nat_eq a 109 && (nat_eq b 97 && (nat_eq c 105 && nat_eq d 110))
is_main_name name = false

-- That each link is there once is a rule of names.
abbrev pub is_main : ProgramItem → Bool
is_main (GlobalConstant c) = false
is_main (GlobalProcedure p) = is_main_name p.head.name && are_links p.head.formals

-- O19, at line 0 of a program without items
abbrev pub IsNoMain : Option ProgramItem → UsageFault → Type 0
IsNoMain None f = (f.line ≡ 0) × (f.number ≡ NO_MAIN)
IsNoMain (Some item) f = At (item_line item) (λ n. (is_main item ≡ false) × (n ≡ NO_MAIN)) f

abbrev pub BreaksMain : List ProgramItem → UsageFault → Type 0
BreaksMain items f = IsNoMain (slice_get items (length items - 1)) f
