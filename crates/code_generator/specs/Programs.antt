-- The code of a program: that of main, which may read what was declared before it.
use Rattle.std.specs.Prelude.{ℕ, ◌+◌, List, [], ◌∷◌, ◌++◌, length, map, Option, None, Some}
use Rattle.occam_parser.specs.Lines.{Constants, Formal}
use Rattle.occam_parser.specs.Blocks.{Procedure, ProgramItem, GlobalConstant, GlobalProcedure}
use Rattle.program_uses.specs.declared.uses.Direction.TheVariants as direction
use Rattle.program_meaning.specs.Links.{Port}
use Rattle.program_meaning.specs.Meaning.{port_for}
use Rattle.usage_checks.specs.ItemRules.{Outside, outermost, around_in, weighed, after_item, in_body}
use Rattle.code_pieces.specs.declared.operations.TheConstants.{STOP_PROCESS}
use Rattle.code_pieces.specs.Pieces.{operates, Code, closed_by}
use Rattle.line_pieces.specs.Homes.{Home, Nowhere, Link}
use Rattle.line_pieces.specs.Declarations.{Frame, with_home, declared}
use Rattle.code_generator.specs.Processes.{Site, Surroundings, process_code}
use Rattle.code_generator.specs.Calls.{Callee, where_called}

-- the words that a process has to itself: 0 and 1 are for the selection of an alternation and the block of a PAR
abbrev pub first_word : ℕ
first_word = 2

-- the links in follow those out
abbrev pub link_of : Port → ℕ
link_of p = elim p.way [ direction.Output ↦ p.link | direction.Input ↦ p.link + 4 ]

abbrev pub home_of_port : Option Port → Home
home_of_port None = Nowhere
home_of_port (Some p) = Link (link_of p)

abbrev pub with_links : List Formal → Frame → Frame
with_links fs f = record f { homes = f.homes ++ map (λ x. home_of_port (port_for x)) fs }

-- ---- items

-- the procedures that may be called after an item, before which this number of names is known
abbrev pub callable : ProgramItem → ℕ → List Callee → List Callee
callable (GlobalConstant c) names cs = cs
callable (GlobalProcedure p) names cs = cs ++ record { procedure = p; names = names } ∷ []

-- what is known after some items, and where what they declare is
abbrev pub framed : ProgramItem → Outside → Frame → Frame
framed (GlobalConstant c) o f = declared o.known.entries (Constants c) f
framed (GlobalProcedure p) o f = with_home Nowhere f

-- where the body of main begins
abbrev pub in_main : Procedure → Site → Site
in_main p s =
    record { frame = with_links p.head.formals s.frame; known = in_body p s.known; label = s.label }

-- after main the process stops
abbrev pub main_code : Surroundings → Procedure → Site → Option Code
main_code w p s = closed_by (operates STOP_PROCESS ∷ []) (process_code w p.body (in_main p s))

-- the last item, where these procedures may be called
abbrev pub last_item_code : ProgramItem → List Callee → Outside → Frame → Option Code
last_item_code (GlobalConstant c) cs o f = None
last_item_code (GlobalProcedure p) cs o f =
    main_code (where_called cs (around_in o) (length cs)) p (record { frame = f; known = o.known; label = 0 })

abbrev pub items_code : ProgramItem → List ProgramItem → List Callee → Outside → Frame → Option Code
items_code item [] cs o f = last_item_code item cs (weighed item o) f
items_code item (next ∷ items) cs o f =
    items_code next items (callable item (length f.homes) cs) (after_item item o) (framed item o f)

abbrev pub no_frame : Frame
no_frame = record { homes = []; top = first_word; outer = [] }

-- the code of a program, if neither main nor a procedure that it calls has a PAR or an ALT
abbrev pub code_of : List ProgramItem → Option Code
code_of [] = None
code_of (item ∷ items) = items_code item items [] outermost no_frame
