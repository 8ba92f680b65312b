-- A sequential program that breaks no rule never comes to something without a value.
use Rattle.std.specs.Prelude.{◌≡◌, ◌≢◌, ℕ, Bool, true, List}
use Rattle.occam_parser.specs.Blocks.{ProgramItem}
use Rattle.occam_parser.specs.Words.{items_have_words}
use Rattle.program_meaning.specs.Meaning.{NoValue, meaning}
use Rattle.program_meaning.specs.Sequential.{IsSequentialProgram}
use Rattle.usage_checks.specs.ItemRules.{BreaksNoRule}

-- Whatever comes in on the links, and whoever listens, no expression is without a value and no subscript outside.
abbrev pub NeverStuck : List ProgramItem → Type 0
NeverStuck items = (inputs : List (List ℕ)) (listens : List Bool) → (meaning items inputs listens).ending ≢ NoValue

-- The literals of such a program are words and bytes, as those of every source are.
abbrev pub ProgramsGoOn : Type 0
ProgramsGoOn = (items : List ProgramItem) → BreaksNoRule items → IsSequentialProgram items
    → items_have_words items ≡ true → NeverStuck items
