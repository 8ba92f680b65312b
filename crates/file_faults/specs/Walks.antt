-- The field that comes after another one, by what that one has.
use Rattle.std.specs.Prelude.{ℕ, zero, suc, ◌-◌, ◌==◌, nat_lt, if◌then◌else◌}
use Rattle.file_faults.specs.declared.fields.Field.{Field}
use Rattle.file_faults.specs.declared.fields.Field.TheVariants as fields
use Rattle.file_faults.specs.declared.fields.Group.{Group}
use Rattle.file_faults.specs.declared.fields.Group.TheVariants as groups
use Rattle.file_faults.specs.declared.fields.Role.{Role}
use Rattle.file_faults.specs.declared.fields.Role.TheVariants as roles
use Rattle.file_faults.specs.declared.walks.Counts.{Counts}
use Rattle.file_faults.specs.declared.walks.Walk.{Walk}
use Rattle.file_faults.specs.Fields.{field_of, group_of}

-- ---- what is known

-- the number for a group
abbrev pub count_of : Counts → Group → ℕ
count_of c groups.File = 1
count_of c groups.Links = c.links
count_of c groups.Procedures = c.procedures
count_of c groups.Parameters = c.parameters
count_of c groups.Labels = c.labels
count_of c groups.Registers = c.registers
count_of c groups.Entries = c.entries
count_of c groups.Pars = c.pars
count_of c groups.Channels = c.channels
count_of c groups.Branches = c.branches
count_of c groups.Writes = c.writes
count_of c groups.Reads = c.reads
count_of c groups.WrittenParameters = c.written_parameters
count_of c groups.ReadParameters = c.read_parameters
count_of c groups.Ends = c.ends
count_of c groups.Tables = c.tables

-- the numbers with that for one group
unfoldable pub counted : Counts → Group → ℕ → Counts
counted c groups.File n = c
counted c groups.Links n = record c { links = n }
counted c groups.Procedures n = record c { procedures = n }
counted c groups.Parameters n = record c { parameters = n }
counted c groups.Labels n = record c { labels = n }
counted c groups.Registers n = record c { registers = n }
counted c groups.Entries n = record c { entries = n }
counted c groups.Pars n = record c { pars = n }
counted c groups.Channels n = record c { channels = n }
counted c groups.Branches n = record c { branches = n }
counted c groups.Writes n = record c { writes = n }
counted c groups.Reads n = record c { reads = n }
counted c groups.WrittenParameters n = record c { written_parameters = n }
counted c groups.ReadParameters n = record c { read_parameters = n }
counted c groups.Ends n = record c { ends = n }
counted c groups.Tables n = record c { tables = n }

-- what the number of a field is for: the magic of version 2 is TPM2, as a number
unfoldable pub noted : Walk → Role → ℕ → Walk
noted w roles.Version value = record w { is_two = value == 843927636 }
noted w roles.CodeSize value = record w { code = value }
noted w roles.ConstantsSize value = record w { constants = value }
noted w roles.DataWords value = record w { data_words = value }
noted w roles.Choice value = record w { choice = value }
noted w (roles.CountOf group) value = record w { counts = counted w.counts group value }
noted w role value = w

-- ---- turns

abbrev pub at_field : Walk → Field → Walk
at_field w field = record w { field = field }

-- the first field of a group of which some are left, or else what comes after the group
unfoldable pub at_group : Walk → Group → ℕ → Walk
at_group w group left =
    if nat_lt 0 left
    then record w { field = (group_of group).first; group = group; left = counted w.left group left }
    else record w { field = (group_of group).after; group = (group_of group).outer }

-- what a parameter of a kind begins with
abbrev pub of_kind : ℕ → Field
of_kind kind = if kind == 0 then fields.Lo else if (kind == 3) then fields.ChannelCount else fields.ParameterSize

-- what a fact of a tag begins with, or else what comes after it
abbrev pub of_tag : ℕ → Field
of_tag tag =
    if tag == 1 then fields.Lo else if (tag == 2) then fields.FactRegion
    else if (tag == 3) then fields.FactOffset else if (tag == 4) then fields.FactBase else fields.Next

-- one turn on, where the next field is chosen
unfoldable pub turn : Walk → Field → Walk
turn w fields.FlagOrCode = at_field w (if w.is_two then fields.Flag else fields.Code)
turn w fields.RangeOrNext = at_field w (if w.is_two then fields.Lo else fields.Next)
turn w fields.OfKind = at_field w (of_kind w.choice)
turn w fields.OfTag = at_field w (of_tag w.choice)
turn w (fields.First group) = at_group w group (count_of w.counts group)
turn w fields.Next = at_group w w.group (count_of w.left w.group - 1)
turn w field = w

-- the same after n turns
abbrev pub turned : ℕ → Walk → Walk
turned zero w = w
turned (suc n) w = turn (turned n w) (turned n w).field

-- the field after the one that is here, which has this value: more than 8 turns do not come between two fields
unfoldable pub next_field : Walk → ℕ → Walk
next_field w value = turned 8 (at_field (noted w (field_of w.field).role value) (field_of w.field).next)
