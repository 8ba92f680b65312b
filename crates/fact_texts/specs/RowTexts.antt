-- The rows of a module, in words: a line for each.
use Rattle.std.specs.Prelude.{ℕ, ℤ, Bool, true, false, ◌+◌, ◌==◌, nat_lt, if◌then◌else◌, pos}
use Rattle.std.specs.Prelude.{◌+ℤ◌, ◌-ℤ◌, [], ◌∷◌, ◌++◌, codes, List, length}
use Rattle.std.specs.List.{flat_map}
use Rattle.std.specs.Fmt.{decimal, signed_decimal}
use Rattle.module_format.specs.Rows.{Fact, Entry}
use Rattle.module_format.specs.declared.fact.Fact.TheVariants.{Unknown}
use Rattle.module_format.specs.declared.rows.Parameter.{Parameter}
use Rattle.module_format.specs.declared.rows.ParameterKind.{ParameterKind}
use Rattle.module_format.specs.declared.rows.ParameterKind.TheVariants.{Value, ReadRegion, WrittenRegion, Channels}
use Rattle.module_format.specs.declared.rows.Interval.{Interval}
use Rattle.module_format.specs.declared.rows.EndKind.{EndKind}
use Rattle.module_format.specs.declared.rows.EndKind.TheVariants as ends
use Rattle.module_format.specs.declared.rows.EndRow.{EndRow}
use Rattle.module_format.specs.declared.rows.Direction.{Direction}
use Rattle.module_format.specs.declared.rows.Direction.TheVariants.{In, Out}
use Rattle.module_format.specs.declared.rows.Ends.{Ends}
use Rattle.module_format.specs.declared.stack.Stack.{Stack}
use Rattle.module_format.specs.Contents.{Contents, Procedure, Label, Branch}
use Rattle.module_format.specs.Contexts.{first_branch}
use Rattle.fact_texts.specs.Texts.{Text, six_digits, range_text}
use Rattle.fact_texts.specs.FactTexts.{fact_text}

-- ---- contexts

-- context 0 is the root, those below `first` are procedures, and the others are branches
abbrev pub context_name : ℕ → ℕ → Text
context_name first n =
    if n == 0 then codes "root"
    else if nat_lt n first then codes "procedure " ++ decimal n else codes "branch " ++ decimal n

abbrev pub context_text : Contents → ℕ → Text
context_text m n = context_name (first_branch m) n

-- a context of this name that is entered at an offset
unfoldable pub entered_text : Text → ℕ → Text
entered_text name entry = six_digits entry ++ (codes " " ++ (name ++ codes ": "))

-- its line, which goes on with this
abbrev pub context_line : Contents → ℕ → ℕ → Text → Text
context_line m context entry rest = entered_text (context_text m context) entry ++ (rest ++ 10 ∷ [])

-- ---- labels

abbrev pub is_unknown : Fact → Bool
is_unknown Unknown = true
is_unknown fact = false

-- a register, where something is known of it
abbrev pub register_text : Text → Fact → Text
register_text name fact = if is_unknown fact then [] else codes ", " ++ (name ++ (codes " " ++ fact_text fact))

unfoldable pub registers_text : Stack Fact → Text
registers_text stack =
    register_text (codes "A") stack.a ++ (register_text (codes "B") stack.b ++ register_text (codes "C") stack.c)

-- the words of an entry, which are next to each other
abbrev pub entry_text : Entry → Text
entry_text entry =
    codes ", word " ++ (range_text entry.word (entry.word +ℤ pos entry.span -ℤ pos 1)
    ++ (codes ": " ++ fact_text entry.fact))

unfoldable pub label_head : Contents → Label → Text
label_head m t =
    six_digits t.offset ++ (codes " label: " ++ (context_text m t.context ++ (codes ", depth "
    ++ (signed_decimal t.depth ++ (codes ", number " ++ decimal t.number)))))

abbrev pub label_text : Contents → Label → Text
label_text m t = label_head m t ++ (registers_text t.stack ++ (flat_map entry_text t.entries ++ 10 ∷ []))

-- ---- procedures

abbrev pub ends_text : Ends → Text
ends_text ends =
    if ends.0 == 1 then codes "in" else if ends.0 == 2 then codes "out" else codes "in and out"

-- a number of bytes, whose words are numbers in a range
abbrev pub bytes_text : ℕ → ℤ → ℤ → Text
bytes_text size lo hi = decimal size ++ (codes " bytes of " ++ range_text lo hi)

abbrev pub kind_text : ParameterKind → Text
kind_text (Value lo hi) = range_text lo hi
kind_text (ReadRegion size lo hi) = codes "reads " ++ bytes_text size lo hi
kind_text (WrittenRegion size lo hi) = codes "writes " ++ bytes_text size lo hi
kind_text (Channels count len ends) =
    decimal count ++ (codes " channels " ++ (ends_text ends ++ (codes " of " ++ (decimal len ++ codes " bytes"))))

abbrev pub parameter_text : Parameter → Text
parameter_text p = codes "; parameter in word " ++ (decimal p.word ++ (codes ": " ++ kind_text p.kind))

-- the frame has the words from lo up to hi
unfoldable pub frame_and_number : Procedure → Text
frame_and_number p =
    codes "frame from " ++ (signed_decimal p.lo ++ (codes " up to " ++ (signed_decimal p.hi
    ++ (codes ", number " ++ decimal p.number))))

abbrev pub procedure_rest : Procedure → Text
procedure_rest p = frame_and_number p ++ flat_map parameter_text p.parameters

abbrev pub procedure_text : Contents → ℕ → Procedure → Text
procedure_text m context p = context_line m context p.entry (procedure_rest p)

-- ---- branches

-- the words of an interval, which ends before `hi`
abbrev pub interval_text : Interval → Text
interval_text i = codes " " ++ range_text i.lo (i.hi -ℤ pos 1)

abbrev pub number_text : ℕ → Text
number_text n = codes " " ++ decimal n

abbrev pub channel_text : EndKind → Text
channel_text (ends.FrameWord word) = codes "word " ++ signed_decimal word
channel_text (ends.Parameter number element) =
    codes "parameter " ++ (signed_decimal number ++ (codes " channel " ++ decimal element))
channel_text (ends.Link link) = codes "link " ++ decimal link

abbrev pub direction_text : Direction → Text
direction_text In = codes "in"
direction_text Out = codes "out"

abbrev pub end_text : EndRow → Text
end_text e = codes " " ++ (direction_text e.direction ++ (codes " " ++ channel_text e.kind))

-- a list, after the words for it
unfoldable pub list_text : {A : Type 0} → Text → (A → Text) → List A → Text
list_text words text_of items = words ++ flat_map text_of items

-- the same, unless the list is empty
unfoldable pub list_part : {A : Type 0} → Text → (A → Text) → List A → Text
list_part words text_of items = if length items == 0 then [] else list_text words text_of items

-- what a branch is given
abbrev pub gifts_text : Branch → Text
gifts_text b =
    list_part (codes "; writes words") interval_text b.writes
    ++ (list_part (codes "; reads words") interval_text b.reads
    ++ (list_part (codes "; writes parameters") number_text b.written_parameters
    ++ (list_part (codes "; reads parameters") number_text b.read_parameters
    ++ list_part (codes "; ends") end_text b.ends)))

abbrev pub branch_rest : Branch → Text
branch_rest b = codes "workspace " ++ (signed_decimal b.workspace ++ gifts_text b)

abbrev pub branch_text : Contents → ℕ → Branch → Text
branch_text m context b = context_line m context b.entry (branch_rest b)
