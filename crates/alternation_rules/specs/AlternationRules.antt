-- The rules of the operations of an alternation, by which a process takes the first message of several (T414 compiler
-- writer's guide). Their tests are in rising order of the numbers of rules.
use Rattle.std.specs.Prelude.{ℕ, ◌+◌, ◌==◌, not, Bool, if◌then◌else◌, pos, ◌+ℤ◌, List, [], ◌∷◌, ◌++◌}
use Rattle.std.specs.Prelude.{length, slice_set}
use Rattle.std.specs.List.{list_any, list_all}
use Rattle.module_format.specs.Rows.{Fact}
use Rattle.module_format.specs.declared.fact.Fact.TheVariants.{Unknown, Number}
use Rattle.module_format.specs.declared.rows.EndKind.{EndKind}
use Rattle.module_format.specs.declared.rows.Direction.TheVariants.{In}
use Rattle.module_format.specs.Stack.{of_empty, with_top}
use Rattle.certificate.specs.Rights.{has_end}
use Rattle.machine_state.specs.declared.op.Op.{Op}
use Rattle.machine_state.specs.declared.op.Op.TheVariants.{Alternate, EnableChannel, EnableSkip, AlternationWait}
use Rattle.machine_state.specs.declared.op.Op.TheVariants.{DisableChannel, DisableSkip}
use Rattle.states.specs.declared.rule.Rule.TheVariants as rules
use Rattle.states.specs.declared.known.Known.{Known}
use Rattle.states.specs.declared.known.Mode.{Mode}
use Rattle.states.specs.declared.known.Mode.TheVariants.{Plain, Enabling, Disabling, Starting}
use Rattle.states.specs.declared.known.Guard.{Guard}
use Rattle.states.specs.declared.known.GuardKind.{GuardKind}
use Rattle.states.specs.declared.known.GuardKind.TheVariants.{Channel, Skip}
use Rattle.states.specs.declared.known.GuardName.{GuardName}
use Rattle.states.specs.State.{State, unknown, known, written}
use Rattle.rulings.specs.Rulings.{Ruling, breaks, selects, Site, uses, wants, settles, writes_word, schedules, pays}
use Rattle.rulings.specs.Rulings.{goes_on, without_registers}
use Rattle.rulings.specs.Pointers.{is_near_pointer}
use Rattle.rulings.specs.Channels.{names_channel}
use Rattle.alternation_rules.specs.Guards.{name_of, may_name, guard_channel, distance_of, is_guard, is_named_by}
use Rattle.alternation_rules.specs.Guards.{is_new, has_room}
use Rattle.alternation_rules.specs.Guards.{enabled_guard, guard_at, disabled_guard, exits, leads_to_label}
use Rattle.alternation_rules.specs.Guards.{leads_forward, is_below_exit, has_unpaid_exit}

-- ---- modes

-- an instruction that begins an alternation: a process is in the middle of nothing
unfoldable pub while_plain : Mode → Ruling → Ruling
while_plain Plain k = k
while_plain Enabling k = breaks rules.Alternation
while_plain (Disabling done) k = breaks rules.Alternation
while_plain (Starting row started) k = breaks rules.Alternation

-- one that is allowed between `alt` and `altwt` only
unfoldable pub while_enabling : Mode → Ruling → Ruling
while_enabling Plain k = breaks rules.Alternation
while_enabling Enabling k = k
while_enabling (Disabling done) k = breaks rules.Alternation
while_enabling (Starting row started) k = breaks rules.Alternation

-- one that is allowed between `altwt` and `altend` only, with this number of guards disabled
unfoldable pub while_disabling : Mode → (ℕ → Ruling) → Ruling
while_disabling Plain k = breaks rules.Alternation
while_disabling Enabling k = breaks rules.Alternation
while_disabling (Disabling done) k = k done
while_disabling (Starting row started) k = breaks rules.Alternation

-- ---- the channel of a guard

-- the state's context has the end by which a channel is received from
abbrev pub may_receive : Site → State → EndKind → Bool
may_receive site s kind = has_end site.contents s.context (record { kind = kind; direction = In })

-- ---- changes of the state

-- this in A, and nothing known of B and C
abbrev pub with_a_alone : Known → State → State
with_a_alone value s = record s { stack = with_top value (of_empty unknown) }

-- The context may write the word at the workspace, where the machine keeps what is selected: it is unknown afterwards.
unfoldable pub keeps_selection : Site → State → (State → Ruling) → Ruling
keeps_selection site s k =
    let word = s.depth +ℤ pos 0 in writes_word site s word (k (written word Unknown s))

-- one guard more; A stays, with where it comes from
abbrev pub with_enabled : GuardKind → GuardName → State → State
with_enabled kind name s =
    record (with_a_alone s.stack.a s) { guards = s.guards ++ enabled_guard kind name ∷ [] }

-- the guard of this number is disabled, and A says whether it is selected
abbrev pub with_disabled : ℕ → Guard → State → State
with_disabled done guard s = record (with_a_alone (known (Number (pos 0) (pos 1))) s) {
  mode = Disabling (done + 1);
  guards = slice_set s.guards done guard;
}

abbrev pub in_mode : Mode → State → State
in_mode mode s = record s { mode = mode }

-- ---- alt

-- alt: an alternation begins, with no guards
unfoldable pub alt_rule : Site → State → Ruling
alt_rule site s =
    while_plain s.mode (schedules site s (λ s. goes_on site (record s { mode = Enabling; guards = [] })))

-- ---- enbc, enbs

-- a guard that waits for this is enabled, by the name that A has
unfoldable pub enables : Site → State → GuardKind → Ruling
enables site s kind =
    while_enabling s.mode
    (wants (is_new kind s.guards) rules.Alternation
    (wants (has_room s.guards) rules.Alternation
    (settles (name_of s.stack.a) (λ name.
    wants (may_name site s name) rules.Alternation (goes_on site (with_enabled kind name s))))))

-- enbc: the channel that B names is enabled, if A is true
unfoldable pub enbc_rule : Site → State → Ruling
enbc_rule site s =
    uses s.stack.a (λ a. uses s.stack.b (λ b.
    names_channel b (λ kind. wants (may_receive site s kind) rules.Channel (enables site s (Channel kind)))))

-- enbs: a skip is enabled, if A is true
unfoldable pub enbs_rule : Site → State → Ruling
enbs_rule site s = uses s.stack.a (λ a. enables site s Skip)

-- ---- altwt

-- altwt: it waits until a guard is ready; the word that takes what is selected names none
unfoldable pub altwt_rule : Site → State → Ruling
altwt_rule site s =
    while_enabling s.mode
    (wants (not (list_any (is_named_by s.depth) s.guards)) rules.Alternation
    (schedules site s (λ s. keeps_selection site s (λ s. goes_on site (without_registers (in_mode (Disabling 0) s))))))

-- ---- disc, diss

-- The guard that is disabled next waits for this, and has the name that B has. If it is selected, the process goes on A
-- bytes after `altend`.
unfoldable pub disables : Site → State → GuardKind → Fact → Ruling
disables site s kind distance =
    while_disabling s.mode (λ done.
    settles (guard_at s.guards done) (λ guard.
    settles (name_of s.stack.b) (λ name.
    wants (is_guard kind name guard) rules.Alternation
    (settles (distance_of distance) (λ distance.
    keeps_selection site (with_disabled done (disabled_guard distance guard) s) (goes_on site))))))

-- disc: the guard of the channel that C names is disabled. If the context does not have the end, the guard waits for
-- another one.
unfoldable pub disc_rule : Site → State → Ruling
disc_rule site s =
    uses s.stack.a (λ a. uses s.stack.b (λ b. uses s.stack.c (λ c.
    wants (is_near_pointer c) rules.Pointer
    (settles (guard_channel c) (λ kind.
    wants (may_receive site s kind) rules.Alternation (disables site s (Channel kind) a))))))

-- diss: a skip is disabled
unfoldable pub diss_rule : Site → State → Ruling
diss_rule site s = uses s.stack.a (λ a. uses s.stack.b (λ b. disables site s Skip a))

-- ---- altend

-- A state may go on where each guard leads. If not, the lowest rule of all is the one that is broken.
unfoldable pub leaves_by_exits : Site → List Guard → State → Ruling
leaves_by_exits site guards s =
    if list_all (is_below_exit site s) guards then selects (exits site guards)
    else breaks (if list_any (has_unpaid_exit site s) guards then rules.Budget else rules.Label)

-- altend: each guard is disabled, and the process goes on where the one that is selected leads
unfoldable pub altend_rule : Site → State → Ruling
altend_rule site s =
    while_disabling s.mode (λ done.
    wants (done == length s.guards) rules.Alternation
    (wants (list_all (leads_to_label site) s.guards) rules.Alternation
    (wants (list_all leads_forward s.guards) rules.Forward
    (pays site (in_mode Plain s) (leaves_by_exits site s.guards)))))

-- ---- all

-- the rule of an operation of this family that goes on after itself; another one has none here
unfoldable pub alternation_rule : Site → Op → State → Ruling
alternation_rule site Alternate s = alt_rule site s
alternation_rule site EnableChannel s = enbc_rule site s
alternation_rule site EnableSkip s = enbs_rule site s
alternation_rule site AlternationWait s = altwt_rule site s
alternation_rule site DisableChannel s = disc_rule site s
alternation_rule site DisableSkip s = diss_rule site s
alternation_rule site _ s = breaks rules.Spelling
