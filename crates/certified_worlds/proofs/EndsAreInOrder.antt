-- No fault of an end comes: a process that ends a PAR has started all its branches or is one of them, and names its
-- block.
use Rattle.std.proofs.Common.{◌≡◌, ℕ, ◌-◌, ◌<◌, ◌==◌, true, false, Bool, Option, cond, inl, inr, ℤ, pos, ◌+ℤ◌, List}
use Rattle.std.proofs.Common.{length, Some, None, refl, sym, ap, ◌∙◌, subst, arith}
use Rattle.std.proofs.lemmas.Bool.{cases_lt, eq-eqb, lt-ltb, and_from}
use Rattle.std.specs.Prelude.{slice_get}
use Rattle.std.specs.Int.{w32, cast_unsigned}
use Rattle.small_laws.proofs.Options.{same_some}
use Rattle.module_format.specs.declared.rows.EndKind.TheVariants.{FrameWord}
use Rattle.module_format.specs.Contents.{Contents, Par, Branch}
use Rattle.module_format.specs.Contexts.{first_branch}
use Rattle.module_format.specs.Places.{branches_of}
use Rattle.certificate.specs.Branches.{numbered_branch}
use Rattle.machine_state.specs.declared.fault.FaultKind.{FaultKind}
use Rattle.machine_state.specs.declared.process.Condition.{Condition}
use Rattle.machine_state.specs.declared.process.Condition.TheVariants.{Ready, Ended}
use Rattle.machine_state.specs.declared.process.Mode as machine
use Rattle.machine_state.specs.declared.process.Mode.TheVariants as machine_modes
use Rattle.machine_state.specs.declared.process.Task.{Task}
use Rattle.machine_state.specs.Endings.{Refused, no_code_follows, joins_own_without_row, joins_own_too_early}
use Rattle.machine_state.specs.Endings.{joins_nobody, joins_no_join, joins_without_row, joins_other_block}
use Rattle.machine_state.specs.Holding.{Holding}
use Rattle.machine_state.specs.JoinLookups.{opened_by, opener_of}
use Rattle.machine_state.specs.Memory.{Memory, data_start}
use Rattle.machine_state.specs.Site.{Local, joins}
use Rattle.machine_state.specs.Turn.{at_here}
use Rattle.machine_state.specs.Waiting.{Branches, Starters, HasOpened, IsGone, IsCounted, IsOver}
use Rattle.machine_state.specs.World.{World, Role, Join}
use Rattle.states.specs.declared.known.Mode as states
use Rattle.states.specs.declared.known.Mode.TheVariants as states_modes
use Rattle.rulings.specs.Fitting.{Caller}
use Rattle.rulings.specs.Meaning.{Layout, Activation, SameMode, both_plain, both_enabling, both_disabling}
use Rattle.rulings.specs.Meaning.{both_starting, word_of, place_in}
use Rattle.rulings.specs.Regions.{channel_address}
use Rattle.certified_worlds.specs.Point.{Began, Behind, nobody_waits, one_waits}
use Rattle.certified_worlds.specs.Lives.{awaits, Lives, Meets, it_lives, it_stopped, it_ended}
use Rattle.certified_worlds.specs.ParLabels.{EndsAPar, has_started, is_branch}
use Rattle.certified_worlds.specs.Pending.{StartsHere}
use Rattle.certified_worlds.specs.Invariant.{Process, Opener, Holds}
use Rattle.rulings.proofs.Within.{is_starting}
use Rattle.certified_worlds.proofs.BehindKeeps.{behind_of}
use Rattle.certified_worlds.proofs.ParsStay.{opener_is, opened_is}
use Rattle.certified_worlds.proofs.Steps.{plain_process}

-- ---- contexts of branches

-- the context of a branch comes after those of the root and the procedures
pub after_procedures : (m : Contents) (n : ℕ) (par : Par) (b : Branch) → numbered_branch m n ≡ Some (par, b)
    → length m.procedures < n
after_procedures m n par b is = elim (cases_lt n (first_branch m)) [
  | inl low ↦
      let no' : ◌≡◌ {A = Option (Par × Branch)} None (Some (par, b)) =
      sym (ap (λ (t : Bool). cond t None (slice_get (branches_of m.pars) (n - first_branch m)))
      (lt-ltb n (first_branch m) low)) ∙ is in
      absurd (cc)
  | inr high ↦ omega (arith, high)
]

-- so an activation of a branch is the one that its process began with
pub began_so : {m : Contents} {h : Holding} {began : Began} {context : ℕ} {layout : Layout} {memory : Memory}
    {callers : List Caller} → length m.procedures < context → Behind m h began context layout memory callers
    → (context ≡ began.context) × (layout ≡ began.layout)
began_so after (nobody_waits same there procedure) = (same, there)
began_so after (one_waits some few reached going lengths base lends resumes rest) = absurd (omega (arith, after, few))

-- the address of a frame word goes by where the frame lies
pub same_address : (layout other : Layout) (k : ℤ) → layout.origin ≡ other.origin
    → channel_address layout (FrameWord k) ≡ channel_address other (FrameWord k)
same_address layout other k same = ap (λ (z : ℤ). cast_unsigned w32 (word_of (pos data_start +ℤ place_in z k))) same

-- a process is in the mode of its state
is_starting_mode : {p : states.Mode} {q : machine.Mode} {row started : ℕ} → SameMode p q
    → p ≡ states_modes.Starting row started → q ≡ machine_modes.Starting
is_starting_mode both_plain e = absurd (cc)
is_starting_mode both_enabling e = absurd (cc)
is_starting_mode both_disabling e = absurd (cc)
is_starting_mode both_starting e = refl

-- ---- how a process ends a PAR

-- a process that has stopped or ended ends no PAR
abbrev pub EndsIn : {m : Contents} {h : Holding} {start : Began} {memory : Memory} {t : Task} {due : ℕ}
    → Meets m h start memory t due → ℕ → Type 0
EndsIn {m = m} (it_lives l) block = EndsAPar m l.point.state l.point.act.layout block
EndsIn (it_stopped e) block = ⊥
EndsIn (it_ended e) block = ⊥

-- among the starts of a row, all of whose branches are started, or as a branch; with the address of the block
data EndsAs (m : Contents) (t : Task) (start : Began) (block : ℕ)
    (Starts : Par → Join → Activation → Type 0) : Type 0 where
  as_starter : t.mode ≡ machine_modes.Starting → (par : Par) → ((other : Par) (j : Join) (act : Activation)
      → Starts other j act → slice_get m.pars j.row ≡ Some other
      → (par ≡ other) × (length other.branches ≡ j.started)
      × (block ≡ channel_address act.layout (FrameWord other.block)))
      → EndsAs m t start block Starts
  as_branch : t.mode ≡ machine_modes.Plain → (par : Par) (b : Branch) → numbered_branch m start.context ≡ Some (par, b)
      → block ≡ channel_address start.layout (FrameWord par.block) → EndsAs m t start block Starts

-- a process that is ready is in the mode of its state
same_mode : {m : Contents} {g : Holding} {start : Began} {memory : Memory} {t : Task} {due : ℕ} → t.condition ≡ Ready
    → (l : Lives m g start memory t due) → SameMode l.point.state.mode t.mode
same_mode {memory = memory} ready l = (l.claim memory refl (λ place held free. refl) (λ place awaited.
    let no' : false ≡ true = sym (ap (λ (c : Condition). awaits c place) ready) ∙ awaited in
    absurd (cc))).here.same_mode

module _ {m : Contents} {g : Holding} {start : Began} {memory : Memory} {t : Task} {due block : ℕ}
    (ready : t.condition ≡ Ready) where
  tells : (meets : Meets m g start memory t due) → EndsIn meets block
      → EndsAs m t start block (λ par j act. StartsHere meets par j act)
  tells (it_stopped e) ends = absurd ends
  tells (it_ended e) ends = absurd ends
  tells (it_lives l) (has_started row par mode at is) =
      as_starter (is_starting_mode (same_mode ready l) mode) par (λ other j act s at_row.
      let both : states_modes.Starting j.row j.started ≡ states_modes.Starting row (length par.branches) =
      sym s.mode ∙ mode in
      let row_is : row ≡ j.row = cc in
      let all : length par.branches ≡ j.started = cc in
      let par_is : par ≡ other =
      same_some (slice_get m.pars j.row) par other (subst (λ (n : ℕ). slice_get m.pars n ≡ Some par) row_is at)
      at_row in (
        par_is,
        subst (λ (par : Par). length par.branches ≡ j.started) par_is all,
        is
            ∙ ap (λ (par : Par). channel_address l.point.act.layout (FrameWord par.block)) par_is
            ∙ same_address l.point.act.layout act.layout other.block s.origin,
      ))
  tells (it_lives l) (is_branch par b mode numbered is) =
      let behind = behind_of {m = m} {h = g} {began = start} l.point.state.mode {context = l.point.state.context}
      {layout = l.point.act.layout} {memory = memory} {callers = l.point.callers} (ap is_starting mode) l.behind in
      let began = began_so (after_procedures m l.point.state.context par b numbered) behind in
      as_branch (plain_process (same_mode ready l) mode) par b
      (subst (λ (n : ℕ). numbered_branch m n ≡ Some (par, b)) began.0 numbered)
      (is ∙ ap (λ (layout : Layout). channel_address layout (FrameWord par.block)) began.1)

-- ---- no fault

module _ (m : Contents) (w : World) (h : Holds m w) (branches : Branches w.tasks w.roles)
    (starters : Starters w.tasks w.roles) (p : ℕ) (t : Task) (here : slice_get w.tasks p ≡ Some t)
    (ready : t.condition ≡ Ready) (pick block : ℕ) (l : Local) where
  abbrev row : Process m w h.began h.dues p t
  row = h.table.each p t here

  -- the opener of a join, which goes on at the label after a PAR
  module _ (q : ℕ) (role : Role) (j other : Join) (has : slice_get w.roles q ≡ Some role) (is : role.opened ≡ Some j)
      (found : opened_by w q ≡ Some other) where
    abbrev opener : Opener m w h.began h.dues h.pending_dues h.table q role j
    opener = h.pending q role j has is

    same_join : j ≡ other
    same_join = same_some (opened_by w q) j other (opened_is w.roles q role has ∙ is) found

    has_row : slice_get m.pars other.row ≡ Some opener.after.par
    has_row = subst (λ (j : Join). slice_get m.pars j.row ≡ Some opener.after.par) same_join opener.after.row

    no_row : slice_get m.pars other.row ≡ None → ⊥
    no_row none = let no' = sym has_row ∙ none in cc

    -- the block is there
    its_block : block ≡ channel_address opener.after.act.layout (FrameWord opener.after.par.block)
        → (other.block == block) ≡ true
    its_block named = eq-eqb other.block block
        (subst (λ (j : Join). j.block ≡ channel_address opener.after.act.layout (FrameWord opener.after.par.block))
        same_join opener.after.block ∙ sym named)

  not_over : IsOver w.tasks p → ⊥
  not_over over =
      let same = same_some (slice_get w.tasks p) over.task t over.here here in
      let no' : Ended ≡ Ready = sym over.over ∙ (ap (λ (t : Task). t.condition) same ∙ ready) in
      cc

  -- a process in plain mode has no join open
  pub none_open : t.mode ≡ machine_modes.Plain → (j : Join) → opened_by w p ≡ Some j → ⊥
  none_open plain j opens = elim (starters.openers p (record {
    role = row.role;
    here = row.has_role;
    join = j;
    is_open = sym (opened_is w.roles p row.role row.has_role) ∙ opens;
  })) [
    | inl starting ↦
        let same = same_some (slice_get w.tasks p) starting.task t starting.here here in
        let no' : machine_modes.Starting ≡ machine_modes.Plain =
        sym starting.starting ∙ (ap (λ (t : Task). t.mode) same ∙ plain) in
        cc
    | inr over ↦ not_over over
  ]

  module _ (opened : HasOpened w.roles p) (par : Par) (tell : (other : Par) (j : Join) (act : Activation)
      → StartsHere row.meets other j act → slice_get m.pars j.row ≡ Some other
      → (par ≡ other) × (length other.branches ≡ j.started)
      × (block ≡ channel_address act.layout (FrameWord other.block))) where
    abbrev mine : Opener m w h.began h.dues h.pending_dues h.table p opened.role opened.join
    mine = h.pending p opened.role opened.join opened.here opened.is_open

    its : opened_by w p ≡ Some opened.join
    its = opened_is w.roles p opened.role opened.here ∙ opened.is_open

    told : (par ≡ mine.after.par) × (length mine.after.par.branches ≡ opened.join.started)
        × (block ≡ channel_address mine.after.act.layout (FrameWord mine.after.par.block))
    told = tell mine.after.par opened.join mine.after.act (mine.starter t here) mine.after.row

    starter_ends : {kind : FaultKind} → Refused (at_here m p t pick) w (joins block l) kind → ⊥
    starter_ends (no_code_follows needs none) = elim needs [ ]
    starter_ends (joins_own_without_row b k j opens none) =
        no_row p opened.role opened.join j opened.here opened.is_open opens none
    starter_ends (joins_own_too_early b k j other opens at refused) =
        let par_is = same_some (slice_get m.pars j.row) mine.after.par other
        (has_row p opened.role opened.join j opened.here opened.is_open opens) at in
        let same = same_join p opened.role opened.join j opened.here opened.is_open opens in
        let all : j.started ≡ length other.branches =
        ap (λ (j : Join). j.started) (sym same)
        ∙ (sym told.1 ∙ ap (λ (par : Par). length par.branches) par_is) in
        let passes = and_from (j.block == block) (j.started == length other.branches)
        (its_block p opened.role opened.join j opened.here opened.is_open opens told.2)
        (eq-eqb j.started (length other.branches) all) in
        let no' : true ≡ false = sym passes ∙ refused in
        cc
    starter_ends (joins_nobody b k none alone) = let no' = sym its ∙ none in cc
    starter_ends (joins_no_join b k o none up closed) = let no' = sym its ∙ none in cc
    starter_ends (joins_without_row b k o j none up opens no_par) = let no' = sym its ∙ none in cc
    starter_ends (joins_other_block b k o j other none up opens at refused) = let no' = sym its ∙ none in cc

  module _ (plain : t.mode ≡ machine_modes.Plain) (par : Par) (b : Branch)
      (numbered : numbered_branch m row.start.context ≡ Some (par, b))
      (at_block : block ≡ channel_address row.start.layout (FrameWord par.block)) where
    -- a branch has an opener
    has_opener : row.role.opener ≡ None → ⊥
    has_opener none =
        let after = after_procedures m row.start.context par b numbered in
        let zero_is = row.root none in
        omega (arith, after, zero_is)

    by : (o : ℕ) → opener_of w p ≡ Some o → row.role.opener ≡ Some o
    by o up = opener_is w.roles p row.role (Some o) row.has_role up

    live : IsGone w.tasks row.role p → ⊥
    live gone = not_over gone.1

    counted : (o : ℕ) → opener_of w p ≡ Some o → IsCounted w.roles o p
    counted o up = elim (branches.counted p row.role o row.has_role (by o up)) [
      | inl gone ↦ absurd (live gone)
      | inr counts ↦ counts
    ]

    -- and its opener the block
    right_block : (o : ℕ) (j : Join) → opener_of w p ≡ Some o → opened_by w o ≡ Some j → (j.block == block) ≡ true
    right_block o j up opens =
        let c = counted o up in
        let theirs = h.pending o c.role c.join c.here c.is_open in
        let member = theirs.members p row.role row.start row.has_role (by o up) live row.has_start in
        let both : ◌≡◌ {A = Par × Branch} (par, b) (theirs.after.par, member.branch) =
        same_some (numbered_branch m row.start.context) (par, b) (theirs.after.par, member.branch) numbered member.is in
        let par_is : par ≡ theirs.after.par = ap (λ (x : Par × Branch). x.0) both in
        its_block o c.role c.join j c.here c.is_open opens
        (at_block ∙ ap (λ (par : Par). channel_address row.start.layout (FrameWord par.block)) par_is
        ∙ same_address row.start.layout theirs.after.act.layout theirs.after.par.block member.lent.alike.origin)

    branch_ends : {kind : FaultKind} → Refused (at_here m p t pick) w (joins block l) kind → ⊥
    branch_ends (no_code_follows needs none) = elim needs [ ]
    branch_ends (joins_own_without_row x k j opens none) = none_open plain j opens
    branch_ends (joins_own_too_early x k j other opens at refused) = none_open plain j opens
    branch_ends (joins_nobody x k none alone) =
        has_opener (opener_is w.roles p row.role None row.has_role alone)
    branch_ends (joins_no_join x k o none up closed) =
        let c = counted o up in
        let no' : None ≡ Some c.join = sym closed ∙ (opened_is w.roles o c.role c.here ∙ c.is_open) in
        cc
    branch_ends (joins_without_row x k o j none up opens no_par) =
        let c = counted o up in no_row o c.role c.join j c.here c.is_open opens no_par
    branch_ends (joins_other_block x k o j other none up opens at refused) =
        let no' : true ≡ false = sym (right_block o j up opens) ∙ refused in cc

  -- A process that ends a PAR, as its rule says, passes the tests of the end.
  pub ends_pass : EndsIn row.meets block → {kind : FaultKind}
      → Refused (at_here m p t pick) w (joins block l) kind → ⊥
  ends_pass ends refused = on (tells {block = block} ready row.meets ends)
    where
      on : EndsAs m t row.start block (λ par j act. StartsHere row.meets par j act) → ⊥
      on (as_starter mode par tell) = starter_ends (starters.starters p t here mode) par tell refused
      on (as_branch mode par b numbered at) = branch_ends mode par b numbered at refused
