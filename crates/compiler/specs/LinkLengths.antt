-- How long the messages on the links of a program are.
use Rattle.std.specs.Prelude.{ℕ, ◌-◌, List, [], ◌∷◌, length, map, codes, bytes_eq, if◌then◌else◌, Option, Some, None}
use Rattle.std.specs.List.{slice_get}
use Rattle.occam_parser.specs.Lines.{Formal}
use Rattle.occam_parser.specs.Blocks.{ProgramItem, GlobalConstant, GlobalProcedure}
use Rattle.program_meaning.specs.Links.{message_length}

-- the links out, and then the links in
abbrev pub link_names : List (List ℕ)
link_names =
    codes "out0" ∷ codes "out1" ∷ codes "out2" ∷ codes "out3"
    ∷ codes "in0" ∷ codes "in1" ∷ codes "in2" ∷ codes "in3" ∷ []

-- of the link of this name: 0 if no parameter has it
abbrev pub length_on : List ℕ → List Formal → ℕ
length_on name [] = 0
length_on name (f ∷ fs) = if bytes_eq f.name name then message_length f.value_type else length_on name fs

abbrev pub lengths_of : List Formal → List ℕ
lengths_of fs = map (λ name. length_on name fs) link_names

abbrev pub formals_of : ProgramItem → List Formal
formals_of (GlobalConstant c) = []
formals_of (GlobalProcedure p) = p.head.formals

abbrev pub formals_in : Option ProgramItem → List Formal
formals_in None = []
formals_in (Some item) = formals_of item

-- The last item of a program is main.
abbrev pub link_lengths : List ProgramItem → List ℕ
link_lengths items = lengths_of (formals_in (slice_get items (length items - 1)))
