-- The rules of a program's items, and what is known after each of them.
use Rattle.std.specs.Prelude.{◌≡◌, ℕ, suc, ◌+◌, Bool, List, [], ◌∷◌, ◌++◌, length, ◌⊎◌, Option, Some, None}
use Rattle.occam_parser.specs.Lines.{Constants, Formal}
use Rattle.occam_parser.specs.Blocks.{Procedure, ProgramItem, GlobalConstant, GlobalProcedure}
use Rattle.scalar_ranges.specs.Entries as entries
use Rattle.scalar_ranges.specs.Entries.{Entry}
use Rattle.scalar_ranges.specs.Moves.{Known}
use Rattle.program_uses.specs.declared.ends.ChannelEnd.{ChannelEnd}
use Rattle.usage_checks.specs.declared.channel_rules.Position.{Position}
use Rattle.scalar_ranges.specs.declared.bounds.TheConstants.{OUT_OF_RANGE}
use Rattle.program_uses.specs.Actions.{Around}
use Rattle.program_uses.specs.Declaring.{add, add_declaration, formal_meaning, add_formals}
use Rattle.program_uses.specs.Ends.{sorted_ends, ends_at}
use Rattle.program_uses.specs.InTurn.{in_turn}
use Rattle.program_uses.specs.Processes.{uses_of}
use Rattle.program_uses.specs.Sharing.{Shares}
use Rattle.program_uses.specs.Signatures.{Parameter}
use Rattle.program_uses.specs.declared.telling.UsageFault.{UsageFault}
use Rattle.usage_checks.specs.AfterProcesses.{inside, left_to}
use Rattle.usage_checks.specs.FormalRules.{BreakSizes, BreakFormals}
use Rattle.usage_checks.specs.BrokenInTurn.{BreaksInTurn}
use Rattle.usage_checks.specs.MainRules.{is_main_name, BreaksMain}
use Rattle.usage_checks.specs.NameRules.{BreaksName, BreaksDeclared, with_entries}
use Rattle.usage_checks.specs.ProcessRules.{BreaksIn}
use Rattle.program_sizes.specs.LineSizes.{capped}
use Rattle.usage_checks.specs.Sizes.{Measured, total, measures_of_item, end_in}
use Rattle.program_uses.specs.Telling.{At}

-- where the body of a procedure begins
abbrev pub in_body : Procedure → Known → Known
in_body p k = with_entries (add_formals k.entries p.head.formals) k

-- the position of a body, by the first formal and the first name of the body
abbrev pub body_position : Bool → ℕ → ℕ → Position
body_position is_main formals declared =
    record { formals = formals; declared = declared; parallel = 0; is_main = is_main }

abbrev pub after_procedure : Around → Procedure → Known → Known
after_procedure a p k = left_to (length k.entries) (inside a p.body (in_body p k))

-- the formals, what the components of the PARs in the body share, and then the body
abbrev pub BreaksProcedure : Around → Procedure → Known → UsageFault → Type 0
BreaksProcedure a p k f =
    let formals = length k.entries in
    let declared = length (in_body p k).entries in
    (At p.line (BreakSizes k.entries p.head.formals) f
    ⊎ BreakFormals formals p.line k.entries p.head.formals k.entries f)
    ⊎ (Shares a (in_body p k).entries p.body f
    ⊎ BreaksIn a (body_position (is_main_name p.head.name) formals declared) declared p.body (in_body p k) f)

-- Its name is known after it, and not in it. The procedures are numbered in their order.
abbrev pub after_named : Around → Procedure → Known → Known
after_named a p k =
    with_entries (add p.head.name (entries.Procedure (length a.signatures))) (after_procedure a p k)

abbrev pub BreaksNamed : Around → Procedure → Known → UsageFault → Type 0
BreaksNamed a p k f = BreaksProcedure a p k f ⊎ BreaksName 0 p.line p.head.name (after_procedure a p k).entries f

-- ---- what those know of it that call it

-- parameters, by their numbers from this one on: what they denote, and the ends of those that are channels
abbrev pub parameters_from : List Entry → ℕ → List ChannelEnd → List Formal → List Parameter
parameters_from es number ds [] = []
parameters_from es number ds (f ∷ fs) =
    record { meaning = formal_meaning es f; ends = ends_at number ds } ∷ parameters_from es (suc number) ds fs

abbrev pub signature_of : Around → Procedure → Known → List Parameter
signature_of a p k =
    let ds = sorted_ends (uses_of a (in_body p k).entries p.body) in
    parameters_from k.entries (length k.entries) ds p.head.formals

-- ---- items

-- What is known after some items: of the names, of the procedures among them, how large they are, up to just above
-- the greatest size, and from which line on nothing is counted.
pub record Outside : Type 0 where
  pub known : Known
  pub signatures : List (List Parameter)
  pub size : ℕ
  pub uncounted : Option ℕ

-- of no items
abbrev pub outermost : Outside
outermost = record {
  known = record { entries = []; blocks = [] };
  signatures = [];
  size = 0;
  uncounted = None;
}

abbrev pub around_in : Outside → Around
around_in o = record { signatures = o.signatures; uncounted = o.uncounted }

-- an item is weighed before it is gone over, and nothing is weighed where counting has ended
abbrev pub after_weighing : Option ℕ → List Measured → Outside → Outside
after_weighing (Some line) ms o = o
after_weighing None ms o = record o { size = capped (o.size + total ms); uncounted = end_in o.size ms }

abbrev pub weighed : ProgramItem → Outside → Outside
weighed item o = after_weighing o.uncounted (measures_of_item o.signatures o.known.entries item) o

-- O16, on the line where counting ends
abbrev pub Ends : Option ℕ → Option ℕ → UsageFault → Type 0
Ends (Some line) after f = ⊥
Ends None None f = ⊥
Ends None (Some line) f = At line (λ n. n ≡ OUT_OF_RANGE) f

abbrev pub EndsCounting : ProgramItem → Outside → UsageFault → Type 0
EndsCounting item o f = Ends o.uncounted (weighed item o).uncounted f

abbrev pub after_walk : ProgramItem → Outside → Outside
after_walk (GlobalConstant c) o = record o { known = with_entries (add_declaration (Constants c)) o.known }
after_walk (GlobalProcedure p) o = record o {
  known = after_named (around_in o) p o.known;
  signatures = o.signatures ++ signature_of (around_in o) p o.known ∷ [];
}

abbrev pub BreaksWalk : ProgramItem → Outside → UsageFault → Type 0
BreaksWalk (GlobalConstant c) o f = BreaksDeclared 0 (Constants c) o.known.entries f
BreaksWalk (GlobalProcedure p) o f = BreaksNamed (around_in o) p o.known f

abbrev pub after_item : ProgramItem → Outside → Outside
after_item item o = after_walk item (weighed item o)

abbrev pub BreaksItem : ProgramItem → Outside → UsageFault → Type 0
BreaksItem item o f = EndsCounting item o f ⊎ BreaksWalk item (weighed item o) f

-- ---- a program

abbrev pub after_items : List ProgramItem → Outside
after_items items = in_turn after_item items outermost

abbrev pub BreaksProgram : List ProgramItem → UsageFault → Type 0
BreaksProgram items f = BreaksInTurn after_item BreaksItem items outermost f ⊎ BreaksMain items f

abbrev pub BreaksNoRule : List ProgramItem → Type 0
BreaksNoRule items = (f : UsageFault) → BreaksProgram items f → ⊥
