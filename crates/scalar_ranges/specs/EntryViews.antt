-- The entries that the program declares, and what they mean.
use Rattle.word_arithmetic.specs.Range.{ends_of}
use Rattle.scalar_ranges.specs.declared.scope.Meaning as code_meaning
use Rattle.scalar_ranges.specs.declared.scope.Meaning.TheVariants as meanings
use Rattle.scalar_ranges.specs.declared.scope.Entry as code_entry
use Rattle.scalar_ranges.specs.Entries.{Meaning, Constant, Scalar, Array, Channel, Channels, Procedure, Entry}

abbrev pub meaning_of : code_meaning.Meaning → Meaning
meaning_of (meanings.Constant type value) = Constant type value
meaning_of (meanings.Scalar kind type range) = Scalar kind type (ends_of range)
meaning_of (meanings.Array kind type size range) = Array kind type size (ends_of range)
meaning_of (meanings.Channel type) = Channel type
meaning_of (meanings.Channels type size) = Channels type size
meaning_of (meanings.Proc number) = Procedure number

abbrev pub entry_of : code_entry.Entry → Entry
entry_of e = record { name = e.name.now; meaning = meaning_of e.meaning }
