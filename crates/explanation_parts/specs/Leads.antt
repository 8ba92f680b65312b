-- The label to which an instruction leads, and what it wants that is not known.
use Rattle.std.specs.Prelude.{ℕ, if◌then◌else◌, ℤ, pos, ◌-ℤ◌, int_le, [], ◌++◌, codes, Option, Some, None}
use Rattle.module_format.specs.Rows.{Fact}
use Rattle.module_format.specs.declared.fact.Fact.TheVariants.{Number}
use Rattle.module_format.specs.declared.stack.Stack.{Stack}
use Rattle.module_format.specs.Contents.{Contents, Label, label_at}
use Rattle.machine_state.specs.declared.op.Op.TheVariants.{LoopEnd}
use Rattle.machine_state.specs.declared.instruction.Instruction.{Instruction}
use Rattle.machine_state.specs.declared.instruction.Instruction.TheVariants.{Jump, ConditionalJump, Operate}
use Rattle.machine_state.specs.LocalStep.{target}
use Rattle.states.specs.declared.known.Known.{Known}
use Rattle.states.specs.State.{State}
use Rattle.fact_texts.specs.Texts.{Text}
use Rattle.explanation_parts.specs.declared.ways.Way.{Way}
use Rattle.explanation_parts.specs.declared.ways.Way.TheVariants.{Jumps, Tests}
use Rattle.explanation_parts.specs.declared.lacks.Lack.{Lack}
use Rattle.explanation_parts.specs.declared.leads.Lead.{Lead}
use Rattle.explanation_parts.specs.Lacks.{subject_text, value_text, lack_of}

abbrev pub lead : Way → ℤ → Option Lead
lead way distance = Some (record { way = way; distance = distance })

-- how far back a loop turns
abbrev pub turns_back : Fact → Option Lead
turns_back (Number lo hi) = if int_le (pos 1) lo then lead Jumps (pos 0 -ℤ lo) else None
turns_back fact = None

-- where an instruction leads, if it is to one label
unfoldable pub lead_of : Instruction → ℤ → Stack Known → Option Lead
lead_of Jump e stack = lead Jumps e
lead_of ConditionalJump e stack = lead Tests e
lead_of (Operate LoopEnd) e stack = turns_back stack.a.fact
lead_of i e stack = None

-- what a label wants, and what is known
unfoldable pub lack_text : Lack → Text
lack_text lack =
    codes "the label wants " ++ (subject_text lack.subject ++ (codes ": " ++ (value_text lack.wanted
    ++ (codes "; it is " ++ value_text lack.found))))

abbrev pub lack_or : Option Lack → Text
lack_or (Some lack) = lack_text lack
lack_or None = codes "the label says no more"

-- what a label wants that is not known
unfoldable pub lack_part : Contents → Way → State → Label → Text
lack_part m way s t = lack_or (lack_of m way s t)

abbrev pub lack_at : Contents → Way → State → Option Label → Text
lack_at m way s None = codes "no label is there"
lack_at m way s (Some t) = lack_part m way s t

-- the same of the label at an offset, after something else
unfoldable pub after_way : Contents → Way → State → ℕ → Text
after_way m way s to = codes "; " ++ lack_at m way s (label_at m to)

abbrev pub lead_lack : Contents → ℕ → State → Option Lead → Text
lead_lack m next s None = []
lead_lack m next s (Some l) = after_way m l.way s (target next l.distance)
