-- How one event changes tasks, roles, channels and links: the few ways, each with what the tests say that were passed.
-- A law of these four parts has one clause for each way.
use Rattle.std.proofs.Common.{◌≡◌, ◌≢◌, ℕ, ◌+◌, ◌<◌, Bool, true, false, if◌then◌else◌, ◌⊎◌, inl, inr, ℤ, List, [], ◌∷◌}
use Rattle.std.proofs.Common.{◌++◌, length, Option, Some, None, is_some, refl, sym, ap, ◌∙◌, subst, slice_get, arith}
use Rattle.std.proofs.Common.{eqb-true}
use Rattle.std.specs.Prelude.{◌%◌, ◌^◌, ◌==◌, filter, not, slice_set}
use Rattle.std.proofs.lemmas.Bool.{or_cases}
use Rattle.small_laws.proofs.Options.{same_some}
use Rattle.module_format.specs.Contents.{Contents, Par}
use Rattle.module_format.specs.declared.rows.Direction.{Direction}
use Rattle.module_format.specs.declared.rows.Direction.TheVariants.{In, Out}
use Rattle.machine_state.specs.declared.event.Event.{Event}
use Rattle.machine_state.specs.declared.link.InputLink.{InputLink}
use Rattle.machine_state.specs.declared.link.OutputLink.{OutputLink}
use Rattle.machine_state.specs.declared.process.Channel.{Channel}
use Rattle.machine_state.specs.declared.process.Registers.{Registers}
use Rattle.machine_state.specs.declared.process.Task.{Task}
use Rattle.machine_state.specs.declared.process.Mode.{Mode}
use Rattle.machine_state.specs.declared.process.Mode.TheVariants.{Plain, Enabling, Disabling, Starting}
use Rattle.machine_state.specs.declared.process.Condition.{Condition}
use Rattle.machine_state.specs.declared.process.Condition.TheVariants.{Ready, Sending, Receiving, OnLink, Alternating}
use Rattle.machine_state.specs.declared.process.Condition.TheVariants.{Stopped, Ended}
use Rattle.machine_state.specs.declared.process.Exchange.{Exchange}
use Rattle.machine_state.specs.Memory.{Memory, place_of, with_byte}
use Rattle.machine_state.specs.Holding.{Holding, nothing, has_end}
use Rattle.machine_state.specs.World.{World, Links, Role, Join, holding_at, input_word, output_word, loaded}
use Rattle.machine_state.specs.Site.{Site, Local, Outcome}
use Rattle.machine_state.specs.Moves.{put, on_task, wake, leave, dispatch, rouse, rouse_task, rouse_enabling, cell_of}
use Rattle.machine_state.specs.Moves.{channel_at, fill, link_index, with_channel, with_input, with_output}
use Rattle.machine_state.specs.Turn.{Here, Turn, at_here, between}
use Rattle.machine_state.specs.Exchanges.{condition_of, waits_at}
use Rattle.machine_state.specs.Alternations.{chosen, ready_or, is_by, has_enabled}
use Rattle.machine_state.specs.Joins as join
use Rattle.machine_state.specs.StartPlans as plans
use Rattle.machine_state.specs.Joins.{member_joined, closed_task, started, new_task, with_channels, without_channels}
use Rattle.machine_state.specs.Joins.{opened}
use Rattle.machine_state.specs.Joins.{ended, given_back, join_after}
use Rattle.machine_state.specs.JoinLookups.{opened_by, Found, found_at}
use Rattle.machine_state.specs.StartPlans.{later_plan, Plan, first_fault, first_faults, share_by}
use Rattle.machine_state.specs.BranchShares.{holding_of}
use Rattle.machine_state.specs.Happens.{site_of, turn, world_after}
use Rattle.machine_state.specs.Waiting.{IsOver, is_member, AllReady, line_of, WaitsOn}
use Rattle.machine_state.specs.EnabledLaws.{Enables, Disables}
use Rattle.prefix_decoder.specs.Functions.{nibble}
use Rattle.prefix_decoder.specs.Operand.{with_nibble}
use Rattle.machine_state.proofs.Lines.{got_set, got_other}
use Rattle.machine_state.proofs.MovesLeaveAlone.{OnlyRoles, wake_only, rouse_only, on_task_only, on_task_is, chooses}
use Rattle.machine_state.proofs.MovesLeaveAlone.{on_role_only, on_role_is, tasks_of_equal, roles_of_equal, without}
use Rattle.machine_state.proofs.MovesLeaveAlone.{is_last}
use Rattle.machine_state.proofs.MovesLeaveAlone.{with_opened, member_gone, joined_either}
use Rattle.machine_state.proofs.Among.{filter_keeps, none_among}
use Rattle.machine_state.specs.Ownership.{IsAmong}
use Rattle.machine_state.proofs.Claims.{not_some}
use Rattle.machine_state.proofs.EveryInstruction.{Wants, OfAsked, wants_asked, each_step}
use Rattle.machine_state.proofs.Modes.{IsOutside, Fits, steps_fit}
use Rattle.machine_state.specs.Endings as turns
use Rattle.machine_state.proofs.Turns.{turn_happens}
use Rattle.machine_state.specs.Endings.{Moved, TurnsInto, Happened, local_here, plan_of}
use Rattle.machine_state.proofs.Waiting.{WaitsIn, reached, link_found, link_low, input_words, output_words, has_role}
use Rattle.machine_state.proofs.Waiting.{filled}
use Rattle.machine_state.proofs.EveryWorld.{every_world}
use Rattle.machine_state.proofs.Roles.{set_twice, told_of, field_at}
use Rattle.machine_state.proofs.EndedApart.{is_not}

-- ---- a message that is asked for, or what is enabled: its end is held

abbrev pub AsksHeld : Site → Outcome → Type 0
AsksHeld s = OfAsked (λ e l. has_end s.holding (record { address = e.channel; direction = In }) ≡ true)
    (λ e l. has_end s.holding (record { address = e.channel; direction = Out }) ≡ true)
    (λ address. has_end s.holding (record { address = address; direction = In }) ≡ true)

pub asks_held : (s : Site) (r : Registers) (old : Memory)
    → Wants s r old old (λ r m n. m ≡ n) (λ o other. AsksHeld s o)
asks_held s r old =
    wants_asked s r old _ _ _ (λ e asked own. asked.end) (λ e asked defined. asked.end) (λ at held. held)

-- ---- what is known of the running process and of who opened its join

-- the channel at an address
pub channel_there : (w : World) (address : ℕ) (c : Channel) → channel_at w address ≡ Some c
    → slice_get w.channels (cell_of address) ≡ Some (Some c)
channel_there w address c is = on (slice_get w.channels (cell_of address)) is
  where
    on : (o : Option (Option Channel))
        → elim o as (λ o. Option Channel) [ None ↦ None | Some cell ↦ cell ] ≡ Some c → o ≡ Some (Some c)
    on None is = absurd (cc)
    on (Some cell) is = ap (λ (x : Option Channel). Some x) is

member_among : (members : List ℕ) (p : ℕ) → is_member members p ≡ true → IsAmong p members
member_among [] p member = absurd (cc)
member_among (q ∷ qs) p member = elim (or_cases (q == p) _ member) [
  | inl here ↦ inl (eqb-true q p here)
  | inr there ↦ inr (member_among qs p there)
]

-- the running process is ready
pub running_is_ready : (h : Here) (w : World) → w.queue.running ≡ Some h.process
    → slice_get w.tasks h.process ≡ Some h.from → WaitsIn w → h.from.condition ≡ Ready
running_is_ready h w runs there keeps = on w.queue.running runs keeps.line.ready
  where
    on : (o : Option ℕ) → o ≡ Some h.process → AllReady w.tasks (line_of o w.queue.ready) → h.from.condition ≡ Ready
    on None is all = absurd (cc)
    on (Some p) is all =
        let e : p ≡ h.process = cc in
        let same = same_some (slice_get w.tasks h.process) all.0.task h.from
        (subst (λ n. slice_get w.tasks n ≡ Some all.0.task) e all.0.here) there in
        ap (λ (t : Task). t.condition) (sym same) ∙ all.0.ready

-- who has the join open that is over has ended
pub opener_is_over : (w : World) → WaitsIn w → (gone o : ℕ) (r : Role) (j : Join) → slice_get w.roles o ≡ Some r
    → r.opened ≡ Some j → gone ≢ o → is_last gone j ≡ true → IsOver w.tasks o
opener_is_over w keeps gone o r j here is differ none = elim (keeps.rest.joins o r j here is) [
  | inl member ↦ absurd (none_among (filter (λ q. not (q == gone)) j.members) o none
      (filter_keeps (λ q. not (q == gone)) j.members o (member_among j.members o member)
      (is_not o gone (λ e. differ (sym e)))))
  | inr over ↦ over
]

-- ---- the parts of the world that are changed

-- the tasks in which the process has these registers, this mode and this condition
abbrev pub going : Here → World → Registers → Mode → Condition → List Task
going h w r mode c = slice_set w.tasks h.process (record { registers = r; mode = mode; condition = c })

abbrev pub cell_is : World → ℕ → Channel → Type 0
cell_is w address c = slice_get w.channels (cell_of address) ≡ Some (Some c)

abbrev pub with_cell : World → ℕ → Channel → List (Option Channel)
with_cell w address c = slice_set w.channels (cell_of address) (Some c)

abbrev pub with_link : World → ℕ → InputLink → Links
with_link w k link = record w.links { inputs = slice_set w.links.inputs k link }

abbrev pub with_sender : World → ℕ → Option ℕ → Links
with_sender w k o = record w.links { outputs = slice_set w.links.outputs k (record { waiting = o }) }

-- the process holds this end
abbrev pub HoldsEnd : Here → World → ℕ → Direction → Type 0
HoldsEnd h w address direction =
    has_end (holding_at w.roles h.process) (record { address = address; direction = direction }) ≡ true

-- ---- what the process does

-- what becomes of its mode and its condition where it needs no other one
pub data Onward (h : Here) (w : World) : Mode → Condition → Type 0 where
  as_before : Onward h w h.from.mode h.from.condition
  stops : h.from.mode ≡ Plain → Onward h w h.from.mode Stopped
  begins : h.from.mode ≡ Plain → Onward h w (Enabling false) h.from.condition
  enables : Enables h.from.mode → (b : Bool) → Onward h w (ready_or h.from.mode b) h.from.condition
  is_ready : Enables h.from.mode → Onward h w (Disabling None) h.from.condition
  alternates : Enables h.from.mode → (h.from.mode ≡ Enabling true → ⊥) → Onward h w (Disabling None) Alternating
  disables : Disables h.from.mode → (mode : Mode) → Disables mode → Onward h w mode h.from.condition
  ends_alternation : Disables h.from.mode → has_enabled w h.process ≡ false → Onward h w Plain h.from.condition

-- what is so of the condition in each of these cases
pub onward_condition : (P : Condition → Type 0) (h : Here) (w : World) → P h.from.condition → P Stopped → P Alternating
    → (mode : Mode) (c : Condition) → Onward h w mode c → P c
onward_condition P h w same stopped waits mode c as_before = same
onward_condition P h w same stopped waits mode c (stops is) = stopped
onward_condition P h w same stopped waits mode c (begins is) = same
onward_condition P h w same stopped waits mode c (enables is b) = same
onward_condition P h w same stopped waits mode c (is_ready is) = same
onward_condition P h w same stopped waits mode c (alternates is unready) = waits
onward_condition P h w same stopped waits mode c (disables is later further) = same
onward_condition P h w same stopped waits mode c (ends_alternation is none) = same

-- another process that waits
pub record Partner (h : Here) (w : World) (other : ℕ) (c : Condition) : Type 0 where
  pub task : Task
  pub here : slice_get w.tasks other ≡ Some task
  pub waits : task.condition ≡ c
  pub differ : h.process ≢ other

-- what becomes of its condition and of the link where it receives: no byte is kept, the last one, or another one
pub data Receives (h : Here) (e : Exchange) (link : InputLink) : Condition → InputLink → Type 0 where
  no_byte : link.kept ≡ None → Receives h e link (OnLink e 0) (record link { waiting = Some h.process })
  the_last : Receives h e link h.from.condition (record link { kept = None })
  one_of_more : Receives h e link (OnLink e 1) (record link { kept = None; waiting = Some h.process })

-- the channels once a branch has started: those of its PAR come with the first branch
pub data Opening (h : Here) (w : World) : List (Option Channel) → Type 0 where
  by_first : (target workspace : ℕ) (found : Found) → found_at h.contents target ≡ Some found
      → opened_by w h.process ≡ None
      → first_fault (first_faults h.contents w.memory (holding_at w.roles h.process) (plan_of h w found) found
      workspace) ≡ None → Opening h w (with_channels h.process (plan_of h w found).base
      (plan_of h w found).par.channels w.channels)
  by_later : Opening h w w.channels

-- the roles once a member of a join of this opener has given back what it held: the opener itself, or a branch
pub data GivesBack (h : Here) (w : World) : ℕ → List Role → Type 0 where
  itself : GivesBack h w h.process w.roles
  a_branch : (o : ℕ) (role : Role) → slice_get w.roles h.process ≡ Some role → role.opener ≡ Some o
      → role.opened ≡ None → h.process ≢ o
      → GivesBack h w o (slice_set w.roles h.process (record role { own = nothing }))

-- and what the opener has open
pub record Leaves (h : Here) (w : World) (o : ℕ) (roles : List Role) : Type 0 where
  pub outside : IsOutside h.from.mode
  pub back : GivesBack h w o roles
  pub role : Role
  pub here : slice_get roles o ≡ Some role
  pub join : Join
  pub is_open : role.opened ≡ Some join

-- the tasks once this process, if any, was roused
pub data Roused (tasks : List Task) : Option ℕ → List Task → Type 0 where
  nobody : {o : Option ℕ}
      → ((q : ℕ) (t : Task) → o ≡ Some q → slice_get tasks q ≡ Some t → Enables t.mode ⊎ (t.condition ≡ Alternating)
      → ⊥) → Roused tasks o tasks
  who_enables : (q : ℕ) (t : Task) → slice_get tasks q ≡ Some t → Enables t.mode → (t.condition ≡ Alternating → ⊥)
      → Roused tasks (Some q) (slice_set tasks q (record t { mode = Enabling true }))
  who_waits : (q : ℕ) (t : Task) → slice_get tasks q ≡ Some t → t.condition ≡ Alternating
      → Roused tasks (Some q) (slice_set tasks q (record t { condition = Ready }))

-- the tasks, roles, channels and links after an instruction
pub data Changed (h : Here) (w : World) : List Task → List Role → List (Option Channel) → Links → Type 0 where
  goes_on : (r : Registers) (mode : Mode) (c : Condition) → Onward h w mode c
      → Changed h w (going h w r mode c) w.roles w.channels w.links
  -- it comes first to a channel
  waits_to_receive : (r : Registers) (e : Exchange) (c : Channel) → h.from.mode ≡ Plain → HoldsEnd h w e.channel In
      → cell_is w e.channel c → c.waiting ≡ None
      → Changed h w (going h w r h.from.mode (Receiving e)) w.roles
      (with_cell w e.channel (record c { waiting = Some h.process })) w.links
  waits_to_send : (r : Registers) (e : Exchange) (c : Channel) (tasks : List Task) → h.from.mode ≡ Plain
      → HoldsEnd h w e.channel Out → cell_is w e.channel c → c.waiting ≡ None
      → Roused (going h w r h.from.mode (Sending e)) c.enabled tasks
      → Changed h w tasks w.roles (with_cell w e.channel (record c { waiting = Some h.process })) w.links
  -- or comes to one where another process waits, which becomes ready
  meets_sender : (r : Registers) (e sent : Exchange) (c : Channel) (other : ℕ) → h.from.mode ≡ Plain
      → HoldsEnd h w e.channel In → cell_is w e.channel c → c.waiting ≡ Some other
      → (x : Partner h w other (Sending sent))
      → Changed h w (slice_set (going h w r h.from.mode h.from.condition) other (record x.task { condition = Ready }))
      w.roles (with_cell w sent.channel (record c { waiting = None })) w.links
  meets_receiver : (r : Registers) (e wanted : Exchange) (c : Channel) (other : ℕ) → h.from.mode ≡ Plain
      → HoldsEnd h w e.channel Out → cell_is w e.channel c → c.waiting ≡ Some other
      → (x : Partner h w other (Receiving wanted))
      → Changed h w (slice_set (going h w r h.from.mode h.from.condition) other (record x.task { condition = Ready }))
      w.roles (with_cell w e.channel (record c { waiting = None })) w.links
  -- it comes to a link
  receives_outside : (r : Registers) (e : Exchange) (k : ℕ) (link new : InputLink) (c : Condition)
      → h.from.mode ≡ Plain → HoldsEnd h w e.channel In → e.channel ≡ input_word k
      → slice_get w.links.inputs k ≡ Some link → Receives h e link c new
      → Changed h w (going h w r h.from.mode c) w.roles w.channels (with_link w k new)
  sends_outside : (r : Registers) (e : Exchange) (k : ℕ) → h.from.mode ≡ Plain → HoldsEnd h w e.channel Out
      → e.channel ≡ output_word k → k < 4
      → Changed h w (going h w r h.from.mode (OnLink e 0)) w.roles w.channels (with_sender w k (Some h.process))
  -- it starts a branch, or is a member of a join and ends
  starts : (r : Registers) (role : Role) (j : Join) (own : Holding) (child : Task) (cells : List (Option Channel))
      → IsOutside h.from.mode → slice_get w.roles h.process ≡ Some role → child.mode ≡ Plain
      → child.condition ≡ Ready → Opening h w cells
      → Changed h w (going h w r Starting h.from.condition ++ child ∷ [])
      (slice_set w.roles h.process (with_opened (Some j) role)
      ++ record { own = own; opener = Some h.process; opened = None } ∷ []) cells w.links
  leaves_join : (r : Registers) (o : ℕ) (roles : List Role) (x : Leaves h w o roles)
      → is_last h.process x.join ≡ false
      → Changed h w (going h w r Plain Ended)
      (slice_set roles o (with_opened (Some (without h.process x.join)) x.role)) w.channels w.links
  closes_join : (r : Registers) (o : ℕ) (roles : List Role) (x : Leaves h w o roles)
      → is_last h.process x.join ≡ true → (par : Par) (t : Task) → slice_get (going h w r Plain Ended) o ≡ Some t
      → t.condition ≡ Ended
      → Changed h w (slice_set (going h w r Plain Ended) o (closed_task x.join par t))
      (slice_set roles o (with_opened None x.role)) (without_channels o w.channels) w.links
  -- it enables or disables
  enables_a_channel : (r : Registers) (address : ℕ) (c : Channel) → Enables h.from.mode → HoldsEnd h w address In
      → cell_is w address c → is_some c.enabled ≡ false
      → Changed h w (going h w r (ready_or h.from.mode (is_some c.waiting)) h.from.condition) w.roles
      (with_cell w address (record c { enabled = Some h.process })) w.links
  enables_a_link : (r : Registers) (k : ℕ) (link : InputLink) → Enables h.from.mode → HoldsEnd h w (input_word k) In
      → slice_get w.links.inputs k ≡ Some link → is_some link.enabled ≡ false
      → Changed h w (going h w r (ready_or h.from.mode (is_some link.kept)) h.from.condition) w.roles w.channels
      (with_link w k (record link { enabled = Some h.process }))
  disables_a_channel : (r : Registers) (mode : Mode) (address : ℕ) (c : Channel) → Disables h.from.mode → Disables mode
      → cell_is w address c → is_by c.enabled h.process ≡ true
      → Changed h w (going h w r mode h.from.condition) w.roles (with_cell w address (record c { enabled = None }))
      w.links
  disables_a_link : (r : Registers) (mode : Mode) (k : ℕ) (link : InputLink) → Disables h.from.mode → Disables mode
      → slice_get w.links.inputs k ≡ Some link → is_by link.enabled h.process ≡ true
      → Changed h w (going h w r mode h.from.condition) w.roles w.channels
      (with_link w k (record link { enabled = None }))

-- the tasks, roles, channels and links after an event
pub data Passed (m : Contents) (w : World) : List Task → List Role → List (Option Channel) → Links → Type 0 where
  nothing_happens : Passed m w w.tasks w.roles w.channels w.links
  it_runs : {tasks : List Task} {roles : List Role} {channels : List (Option Channel)} {links : Links} (p pick : ℕ)
      (task : Task) → w.queue.running ≡ Some p → slice_get w.tasks p ≡ Some task
      → Changed (at_here m p task pick) w tasks roles channels links → Passed m w tasks roles channels links
  -- a byte arrives for a process that waits for it: the last one, or another one
  fills_last : (p k : ℕ) (link : InputLink) → slice_get w.links.inputs k ≡ Some link → link.waiting ≡ Some p
      → (x : WaitsOn w.tasks p (input_word k))
      → Passed m w (slice_set w.tasks p (record x.task { condition = Ready })) w.roles w.channels
      (with_link w k (record link { waiting = None }))
  fills_more : (p k : ℕ) (x : WaitsOn w.tasks p (input_word k))
      → Passed m w (slice_set w.tasks p (record x.task { condition = OnLink x.exchange (x.done + 1) })) w.roles
      w.channels w.links
  -- a byte is kept, or a message is acknowledged
  keeps_byte : (k byte : ℕ) (link : InputLink) (tasks : List Task) → slice_get w.links.inputs k ≡ Some link
      → link.kept ≡ None → Roused w.tasks link.enabled tasks
      → Passed m w tasks w.roles w.channels (with_link w k (record link { kept = Some byte }))
  acknowledges : (p k : ℕ) (link : OutputLink) → slice_get w.links.outputs k ≡ Some link → link.waiting ≡ Some p
      → (x : WaitsOn w.tasks p (output_word k))
      → Passed m w (slice_set w.tasks p (record x.task { condition = Ready })) w.roles w.channels (with_sender w k None)

-- ---- who is roused

pub rouses : (o : Option ℕ) (v : World) → Roused v.tasks o (rouse o v).tasks
rouses None v = nobody (λ q t is here may. absurd (cc))
rouses (Some q) v = on (slice_get v.tasks q) refl
  where
    changed : (f : Task → Task) (t : Task) → slice_get v.tasks q ≡ Some t
        → Roused v.tasks (Some q) (slice_set v.tasks q (f t)) → Roused v.tasks (Some q) (on_task q f v).tasks
    changed f t here x =
        subst (λ (ts : List Task). Roused v.tasks (Some q) ts) (sym (tasks_of_equal (on_task_is q f v t here))) x

    deaf : (t : Task) → slice_get v.tasks q ≡ Some t → (Enables t.mode → ⊥) → (t.condition ≡ Alternating → ⊥)
        → Roused v.tasks (Some q) v.tasks
    deaf t here quiet calm = nobody (λ p x is at may.
        let e = same_some (Some q) q p refl is in
        let same = same_some (slice_get v.tasks p) t x (subst (λ n. slice_get v.tasks n ≡ Some t) e here) at in
        elim (subst (λ (y : Task). Enables y.mode ⊎ (y.condition ≡ Alternating)) (sym same) may) [
          | inl mode ↦ quiet mode
          | inr waits ↦ calm waits
        ])

    on_mode : (t : Task) → slice_get v.tasks q ≡ Some t → (t.condition ≡ Alternating → ⊥) → (mode : Mode)
        → t.mode ≡ mode → Roused v.tasks (Some q) (rouse_enabling q mode v).tasks
    on_mode t here calm Plain is = deaf t here (λ e. let x : Plain ≡ Enabling e.0 = sym is ∙ e.1 in cc) calm
    on_mode t here calm (Enabling b) is = changed (λ task. record task { mode = Enabling true }) t here
        (who_enables q t here (b, is) calm)
    on_mode t here calm (Disabling selection) is =
        deaf t here (λ e. let x : Disabling selection ≡ Enabling e.0 = sym is ∙ e.1 in cc) calm
    on_mode t here calm Starting is = deaf t here (λ e. let x : Starting ≡ Enabling e.0 = sym is ∙ e.1 in cc) calm

    on_condition : (t : Task) → slice_get v.tasks q ≡ Some t → (c : Condition) → t.condition ≡ c
        → Roused v.tasks (Some q) (rouse_task q t.mode c v).tasks
    on_condition t here Alternating is =
        changed (λ task. record task { condition = Ready }) t here (who_waits q t here is)
    on_condition t here Ready is = on_mode t here (λ e. let x : Ready ≡ Alternating = sym is ∙ e in cc) t.mode refl
    on_condition t here (Sending e) is =
        on_mode t here (λ a. let x : Sending e ≡ Alternating = sym is ∙ a in cc) t.mode refl
    on_condition t here (Receiving e) is =
        on_mode t here (λ a. let x : Receiving e ≡ Alternating = sym is ∙ a in cc) t.mode refl
    on_condition t here (OnLink e done) is =
        on_mode t here (λ a. let x : OnLink e done ≡ Alternating = sym is ∙ a in cc) t.mode refl
    on_condition t here Stopped is = on_mode t here (λ e. let x : Stopped ≡ Alternating = sym is ∙ e in cc) t.mode refl
    on_condition t here Ended is = on_mode t here (λ e. let x : Ended ≡ Alternating = sym is ∙ e in cc) t.mode refl

    on : (o : Option Task) → slice_get v.tasks q ≡ o → Roused v.tasks (Some q) (elim o as (λ o. World) [
      | None ↦ v
      | Some task ↦ rouse_task q task.mode task.condition v
    ]).tasks
    on None none = nobody (λ p x is at may.
        not_some x (sym none ∙ (ap (λ n. slice_get v.tasks n) (same_some (Some q) q p refl is) ∙ at)))
    on (Some t) here = on_condition t here t.condition refl

-- ---- an instruction of the running process

module _ (h : Here) (w : World) (runs : w.queue.running ≡ Some h.process)
    (there : slice_get w.tasks h.process ≡ Some h.from) (keeps : WaitsIn w) where
  -- the parts of this world are these
  parts : (v : World) (tasks : List Task) (roles : List Role) (channels : List (Option Channel)) (links : Links)
      → Changed h w tasks roles channels links → v.tasks ≡ tasks → v.roles ≡ roles → v.channels ≡ channels
      → v.links ≡ links → Changed h w v.tasks v.roles v.channels v.links
  parts v tasks roles channels links x a b c d =
      subst (λ (ts : List Task). Changed h w ts v.roles v.channels v.links) (sym a)
      (subst (λ (rs : List Role). Changed h w tasks rs v.channels v.links) (sym b)
      (subst (λ (cs : List (Option Channel)). Changed h w tasks roles cs v.links) (sym c)
      (subst (λ (ls : Links). Changed h w tasks roles channels ls) (sym d) x)))

  partner : (other : ℕ) (c : Condition) → condition_of w other ≡ c → (c ≡ Ready → ⊥) → Partner h w other c
  partner other c is waits = on (slice_get w.tasks other) refl is
    where
      on : (o : Option Task) → slice_get w.tasks other ≡ o
          → elim o as (λ o. Condition) [ None ↦ Ready | Some task ↦ task.condition ] ≡ c → Partner h w other c
      on None here is = absurd (waits (sym is))
      on (Some t) here is = record {
        task = t;
        here = here;
        waits = is;
        differ = λ e. waits (sym is ∙ (ap (λ (x : Task). x.condition) (same_some (slice_get w.tasks other) t h.from here
            (subst (λ n. slice_get w.tasks n ≡ Some h.from) e there)) ∙ running_is_ready h w runs there keeps));
      }

  -- the process goes on, and the other one becomes ready
  woken : (r : Registers) (m : Memory) (cells : List (Option Channel)) (other : ℕ) (c : Condition)
      → condition_of w other ≡ c → (c ≡ Ready → ⊥)
      → ((x : Partner h w other c) → Changed h w
      (slice_set (going h w r h.from.mode h.from.condition) other (record x.task { condition = Ready }))
      w.roles cells w.links) → let v = wake other (record w {
        memory = m;
        tasks = going h w r h.from.mode h.from.condition;
        channels = cells;
      }) in Changed h w v.tasks v.roles v.channels v.links
  woken r m cells other c is waits changed =
      let x = partner other c is waits in
      let u = record h.from { registers = r } in
      let v = record w { memory = m; tasks = slice_set w.tasks h.process u; channels = cells } in
      let only = wake_only other v in
      parts (wake other v) _ _ _ _ (changed x)
      (tasks_of_equal (on_task_is other (λ task. record task { condition = Ready }) v x.task
      (got_other w.tasks h.process other u x.differ ∙ x.here))) only.roles only.channels only.links

  -- a branch starts
  begins_branch : IsOutside h.from.mode → (plan : Plan) (found : Found) (workspace : ℕ) (l : Local)
      (cells : List (Option Channel)) → Opening h w cells
      → let v = started h plan found workspace l (record w { channels = cells }) in
      Changed h w v.tasks v.roles v.channels v.links
  begins_branch outside plan found workspace l cells opening =
      let role = has_role w h.process h.from there keeps.rest.size in
      let j = join_after (length w.memory) plan found (length w.tasks) in
      let own = holding_of h.contents (length w.memory) (share_by plan found.branch) in
      let child = new_task found.branch workspace in
      let before = put h.process (record h.from { registers = between h.next l.registers; mode = Starting })
      (join.without_words (plans.scheduling_addresses workspace) l.memory) (record w { channels = cells }) in
      let only = on_role_only h.process (with_opened (Some j)) before in
      parts (started h plan found workspace l (record w { channels = cells })) _ _ _ _
      (starts (between h.next l.registers) role.0 j own child cells outside role.1 refl refl opening)
      (ap (λ (ts : List Task). ts ++ child ∷ []) only.tasks)
      (ap (λ (rs : List Role). rs ++ record { own = own; opener = Some h.process; opened = None } ∷ [])
      (roles_of_equal (on_role_is h.process (with_opened (Some j)) before role.0 role.1))) only.channels only.links

  -- a member of a join ends
  ends : (r : Registers) (o : ℕ) (roles : List Role) (x : Leaves h w o roles) (par : Par) (v : World)
      → v.tasks ≡ going h w r Plain Ended → v.roles ≡ roles → v.channels ≡ w.channels → v.links ≡ w.links
      → (is_last h.process x.join ≡ true → IsOver (going h w r Plain Ended) o)
      → let after = member_joined h o x.join par v in Changed h w after.tasks after.roles after.channels after.links
  unfolding dispatch
  ends r o roles x par v tasks as_roles channels links over =
      joined_either (λ (after : World). Changed h w after.tasks after.roles after.channels after.links) h o x.join par v
      (λ none.
      let it = over none in
      let only = on_task_only o (closed_task x.join par) gone in
      let shut = on_role_only o (with_opened None) (on_task o (closed_task x.join par) gone) in
      parts (join.closed o x.join par gone) _ _ _ _ (closes_join r o roles x none par it.task it.here it.over)
      (shut.tasks ∙ (tasks_of_equal (on_task_is o (closed_task x.join par) gone it.task
      (ap (λ (ts : List Task). slice_get ts o) same_tasks ∙ it.here))
      ∙ ap (λ (ts : List Task). slice_set ts o (closed_task x.join par it.task)) same_tasks))
      (roles_of_equal (on_role_is o (with_opened None) (on_task o (closed_task x.join par) gone) fewer
      (ap (λ (rs : List Role). slice_get rs o) (only.roles ∙ same_roles) ∙ got_set roles o x.role fewer x.here))
      ∙ (ap (λ (rs : List Role). slice_set rs o (with_opened None fewer)) (only.roles ∙ same_roles)
      ∙ set_twice roles o fewer (with_opened None fewer)))
      (ap (λ (cs : List (Option Channel)). without_channels o cs) (shut.channels ∙ (only.channels ∙ same.channels
      ∙ channels)))
      (shut.links ∙ (only.links ∙ (same.links ∙ links))))
      (λ some. parts (dispatch h.pick (leave gone)) _ _ _ _ (leaves_join r o roles x some) same_tasks same_roles
      (same.channels ∙ channels) (same.links ∙ links))
    where
      fewer : Role
      fewer = with_opened (Some (without h.process x.join)) x.role

      gone : World
      gone = member_gone h o x.join v

      same : OnlyRoles v gone
      same = on_role_only o (with_opened (Some (without h.process x.join))) v

      same_tasks : gone.tasks ≡ going h w r Plain Ended
      same_tasks = same.tasks ∙ tasks

      same_roles : gone.roles ≡ slice_set roles o fewer
      same_roles = roles_of_equal (on_role_is o (with_opened (Some (without h.process x.join))) v x.role
          (ap (λ (rs : List Role). slice_get rs o) as_roles ∙ x.here))
          ∙ ap (λ (rs : List Role). slice_set rs o fewer) as_roles

  disables_nothing : Disables h.from.mode → (b : Bool) (distance : ℤ) (l : Local)
      → let v = chosen h b distance l w in Changed h w v.tasks v.roles v.channels v.links
  disables_nothing fits b distance l =
      chooses h w l (λ (v : World). Changed h w v.tasks v.roles v.channels v.links)
      (λ r mode m same further. goes_on r mode h.from.condition (disables fits mode (further fits))) b distance

  moved : (o : Outcome) (v : World) → Moved h w o v → AsksHeld (site_of h w) o → Fits h.from.mode o
      → Changed h w v.tasks v.roles v.channels v.links
  unfolding dispatch
  moved o v (turns.it_goes l) asks fits = goes_on (between h.next l.registers) _ _ as_before
  moved o v (turns.it_jumps to l) asks fits = goes_on (between to l.registers) _ _ as_before
  moved o v (turns.it_is_sliced to l) asks fits = goes_on (between to l.registers) _ _ as_before
  moved o v (turns.it_lands to l) asks fits = goes_on (between to l.registers) _ _ as_before
  moved o v (turns.it_stops l) asks fits = goes_on (between h.next l.registers) _ _ (stops fits)
  moved o v (turns.receives_first e l c inside here none) asks fits =
      waits_to_receive (between h.next l.registers) e c fits asks (channel_there w e.channel c here) none
  moved o v (turns.receives_from e l c other sent inside here waits is same) asks fits =
      woken (between h.next l.registers) _ (with_cell w sent.channel (record c { waiting = None })) other (Sending sent)
      is (λ e. cc) (meets_sender (between h.next l.registers) e sent c other fits asks
      (channel_there w e.channel c here) waits)
  moved o v (turns.receives_none e l k link on here none) asks fits =
      receives_outside (between h.next l.registers) e k link _ _ fits asks
      (link_found (input_word 0) e.channel k on ∙ input_words k) here (no_byte none)
  moved o v (turns.receives_last e l k link byte on here kept one) asks fits =
      receives_outside (between h.next l.registers) e k link _ _ fits asks
      (link_found (input_word 0) e.channel k on ∙ input_words k) here the_last
  moved o v (turns.receives_one e l k link byte on here kept more) asks fits =
      receives_outside (between h.next l.registers) e k link _ _ fits asks
      (link_found (input_word 0) e.channel k on ∙ input_words k) here one_of_more
  moved o v (turns.sends_first e l c inside here none) asks fits =
      let x = waits_at h (Sending e) e.channel c l w in
      let only = rouse_only c.enabled x in
      parts v v.tasks w.roles x.channels w.links
      (waits_to_send (between h.next l.registers) e c v.tasks fits asks (channel_there w e.channel c here) none
      (rouses c.enabled x)) refl only.roles only.channels only.links
  moved o v (turns.sends_to e l c other wanted inside here waits is same) asks fits =
      woken (between h.next l.registers) _ (with_cell w e.channel (record c { waiting = None })) other
      (Receiving wanted) is (λ e. cc) (meets_receiver (between h.next l.registers) e wanted c other fits asks
      (channel_there w e.channel c here) waits)
  moved o v (turns.starts_first target workspace l found is none tests) asks fits =
      let plan = plan_of h w found in
      begins_branch fits plan found workspace (opened h plan l w).0
      (with_channels h.process plan.base plan.par.channels w.channels) (by_first target workspace found is none tests)
  moved o v (turns.starts_later target workspace l found j is is_open same tests) asks fits =
      begins_branch fits (later_plan h.contents j found.par) found workspace l w.channels by_later
  moved o v (turns.joins_own block l j par is row whole) asks fits =
      let r = between h.next l.registers in
      let role = told_of (λ (x : Role). x.opened) w.roles h.process j is in
      let x : Leaves h w h.process w.roles = record {
        outside = fits;
        back = itself;
        role = role.0;
        here = role.1;
        join = j;
        is_open = role.2;
      } in
      ends r h.process w.roles x par (ended h l w) refl refl refl refl (λ none. record {
        task = record { registers = r; mode = Plain; condition = Ended };
        here = got_set w.tasks h.process h.from _ there;
        over = refl;
      })
  moved o v (turns.joins_opener block l opener j par none by is row same) asks fits =
      let r = between h.next l.registers in
      let gives : Role → Role = λ role. record role { own = nothing } in
      let mine = told_of (λ (x : Role). x.opener) w.roles h.process opener by in
      let theirs = told_of (λ (x : Role). x.opened) w.roles opener j is in
      let low = keeps.rest.openers h.process mine.0 opener mine.1 mine.2 in
      let differ : h.process ≢ opener = λ e. omega (arith, low, e) in
      let shut : mine.0.opened ≡ None = sym (field_at (λ (x : Role). x.opened) None w.roles h.process mine.0 mine.1)
      ∙ none in
      let roles = slice_set w.roles h.process (gives mine.0) in
      let only = on_role_only h.process gives (ended h l w) in
      let x : Leaves h w opener roles = record {
        outside = fits;
        back = a_branch opener mine.0 mine.1 mine.2 shut differ;
        role = theirs.0;
        here = got_other w.roles h.process opener (gives mine.0) differ ∙ theirs.1;
        join = j;
        is_open = theirs.2;
      } in
      ends r opener roles x par (given_back h (ended h l w)) only.tasks
      (roles_of_equal (on_role_is h.process gives (ended h l w) mine.0 mine.1)) only.channels only.links (λ empty.
      let over = opener_is_over w keeps h.process opener theirs.0 j theirs.1 theirs.2 differ empty in
      record {
        task = over.task;
        here = got_other w.tasks h.process opener _ differ ∙ over.here;
        over = over.over;
      })
  moved o v (turns.it_begins l) asks fits = goes_on (between h.next l.registers) _ _ (begins fits)
  moved o v (turns.it_enables guard address l s holds (turns.on_channel c inside here) once) asks fits =
      enables_a_channel (between h.next l.registers) address c fits asks (channel_there w address c here) once
  moved o v (turns.it_enables guard address l s holds (turns.on_link k link on here) once) asks fits =
      enables_a_link (between h.next l.registers) k link fits
      (subst (λ a. HoldsEnd h w a In) (link_found (input_word 0) address k on ∙ input_words k) asks) here once
  moved o v (turns.it_enables_nothing guard address l off) asks fits =
      goes_on (between h.next l.registers) _ _ as_before
  moved o v (turns.it_enables_a_skip guard l) asks fits =
      goes_on (between h.next l.registers) _ _ (enables fits guard)
  moved o v (turns.it_is_ready l is) asks fits = goes_on (between h.next l.registers) _ _ (is_ready fits)
  moved o v (turns.it_waits l is) asks fits = goes_on (between h.next l.registers) _ _ (alternates fits is)
  moved o v (turns.it_disables guard address distance l s holds (turns.on_channel c inside here) mine) asks fits =
      let new : Channel = record c { enabled = None } in
      chooses h w l (λ (v : World). let x = with_channel address new v in
      Changed h w x.tasks x.roles x.channels x.links) (λ r mode m same further.
      disables_a_channel r mode address c fits (further fits) (channel_there w address c here) mine)
      (is_some c.waiting) distance
  moved o v (turns.it_disables guard address distance l s holds (turns.on_link k link on here) mine) asks fits =
      let new : InputLink = record link { enabled = None } in
      chooses h w l (λ (v : World). let x = with_input k new v in
      Changed h w x.tasks x.roles x.channels x.links)
      (λ r mode m same further. disables_a_link r mode k link fits (further fits) here mine)
      (is_some link.kept) distance
  moved o v (turns.it_disables_nothing guard address distance l off) asks fits =
      disables_nothing fits false distance l
  moved o v (turns.it_disables_a_skip guard distance l) asks fits =
      disables_nothing fits guard distance l
  moved o v (turns.it_ends_alternation to l none) asks fits =
      goes_on (between to l.registers) _ _ (ends_alternation fits none)

-- ---- every event

module _ (m : Contents) (w : World) (keeps : WaitsIn w) where
  -- the parts of this world are these
  these : (v : World) (tasks : List Task) (links : Links) → Passed m w tasks w.roles w.channels links
      → v.tasks ≡ tasks → v.roles ≡ w.roles → v.channels ≡ w.channels → v.links ≡ links
      → Passed m w v.tasks v.roles v.channels v.links
  these v tasks links x a b c d = subst (λ (ts : List Task). Passed m w ts v.roles v.channels v.links) (sym a)
      (subst (λ (rs : List Role). Passed m w tasks rs v.channels v.links) (sym b)
      (subst (λ (cs : List (Option Channel)). Passed m w tasks w.roles cs v.links) (sym c)
      (subst (λ (ls : Links). Passed m w tasks w.roles w.channels ls) (sym d) x)))

  -- a process that waits on a link takes a byte
  taken : (p k byte : ℕ) (link : InputLink) → slice_get w.links.inputs k ≡ Some link → link.waiting ≡ Some p
      → let v = fill p k byte link w in Passed m w v.tasks v.roles v.channels v.links
  taken p k byte link here waiting =
      subst (λ (v : World). Passed m w v.tasks v.roles v.channels v.links)
      (sym (filled w p (input_word k) k byte link x))
      (on (x.done + 1 == x.exchange.length))
    where
      x : WaitsOn w.tasks p (input_word k)
      x = keeps.rest.waiters.inputs k link p here waiting

      memory : Memory
      memory = with_byte w.memory (place_of ((x.exchange.address + x.done) % 2 ^ 32)) (Some byte)

      waits : Task → Task
      waits task = record task { condition = OnLink x.exchange (x.done + 1) }

      on : (b : Bool) → let v : World = if b
          then wake p (with_input k (record link { waiting = None }) (record w { memory = memory }))
          else on_task p waits (record w { memory = memory })
          in Passed m w v.tasks v.roles v.channels v.links
      on true =
          let v = with_input k (record link { waiting = None }) (record w { memory = memory }) in
          let only = wake_only p v in
          these (wake p v) _ _ (fills_last p k link here waiting x)
          (tasks_of_equal (on_task_is p (λ task. record task { condition = Ready }) v x.task x.here)) only.roles
          only.channels only.links
      on false =
          let v = record w { memory = memory } in
          let only = on_task_only p waits v in
          these (on_task p waits v) _ _ (fills_more p k x) (tasks_of_equal (on_task_is p waits v x.task x.here))
          only.roles only.channels only.links

  ended_so : (p pick : ℕ) (task : Task) → w.queue.running ≡ Some p → slice_get w.tasks p ≡ Some task
      → (o : Outcome) (t : Turn) → TurnsInto (at_here m p task pick) w o t
      → AsksHeld (site_of (at_here m p task pick) w) o → Fits task.mode o
      → Passed m w t.world.tasks t.world.roles t.world.channels t.world.links
  unfolding dispatch
  ended_so p pick task runs here o t (turns.at_fault refused) asks fits = nothing_happens
  ended_so p pick task runs here o t (turns.has_run {after = v} x) asks fits =
      it_runs p pick task runs here (moved (at_here m p task pick) w runs here keeps o v x asks fits)
  ended_so p pick task runs here o t (turns.has_emitted e l k on same) asks fits =
      it_runs p pick task runs here (sends_outside (between (task.registers.at + 1) l.registers) e k fits asks
      (link_found (output_word 0) e.channel k on ∙ output_words k) (link_low (output_word 0) e.channel k on))

  pub passes : (e : Event) (t : Turn) → Happened m w e t
      → Passed m w t.world.tasks t.world.roles t.world.channels t.world.links
  unfolding dispatch
  passes e t (turns.was_at_fault f is) = nothing_happens
  passes e t (turns.it_rests rests) = nothing_happens
  passes e t (turns.is_outside p task why runs here) = nothing_happens
  passes e t (turns.is_prefix {pick = pick} p task byte operand runs here at none it next) =
      it_runs p pick task runs here
      (goes_on (record task.registers { at = task.registers.at + 1; operand = operand }) _ _ as_before)
  passes e t (turns.is_step {pick = pick} p task byte f runs here at is ends) =
      let h = at_here m p task pick in
      let operand = with_nibble task.registers.operand (nibble byte) in
      ended_so p pick task runs here _ t ends
      (each_step (site_of h w) task.registers w.memory w.memory (λ r m n. m ≡ n)
      (λ o other. AsksHeld (site_of h w) o) (asks_held (site_of h w) task.registers w.memory) refl f operand)
      (steps_fit (site_of h w) f operand (local_here task w))
  passes e t (turns.is_taken {link = link} {byte = byte} input p here waiting) =
      taken p (link_index link) byte input here waiting
  passes e t (turns.is_kept {link = link} {byte = byte} input here none empty) =
      let k = link_index link in
      let v = with_input k (record input { kept = Some byte }) w in
      let only = rouse_only input.enabled v in
      these (rouse input.enabled v) (rouse input.enabled v).tasks (with_link w k (record input { kept = Some byte }))
      (keeps_byte k byte input (rouse input.enabled v).tasks here empty (rouses input.enabled v)) refl only.roles
      only.channels only.links
  passes e t (turns.is_acknowledged {link = link} output p here waiting) =
      let k = link_index link in
      let x = keeps.rest.waiters.outputs k output p here waiting in
      let v = with_output k (record { waiting = None }) w in
      let only = wake_only p v in
      these (wake p v) _ _ (acknowledges p k output here waiting x)
      (tasks_of_equal (on_task_is p (λ task. record task { condition = Ready }) v x.task x.here))
      only.roles only.channels
      only.links

-- what is so of the loaded parts and kept by each event is so of the parts of every world that events lead to
pub of_every_world : (m : Contents) (P : List Task → List Role → List (Option Channel) → Links → Type 0)
    → P (loaded m).tasks (loaded m).roles (loaded m).channels (loaded m).links
    → ((es : List Event) (tasks : List Task) (roles : List Role) (channels : List (Option Channel)) (links : Links)
    → let w = world_after m es in P w.tasks w.roles w.channels w.links → Passed m w tasks roles channels links
    → P tasks roles channels links) → (es : List Event)
    → let w = world_after m es in P w.tasks w.roles w.channels w.links
of_every_world m P first kept = every_world m (λ w. P w.tasks w.roles w.channels w.links) first (λ es e all.
    let w = world_after m es in
    let t = turn m w e in
    kept es t.world.tasks t.world.roles t.world.channels t.world.links all
    (passes m w (reached m es) e t (turn_happens m w e)))
