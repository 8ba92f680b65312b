-- What comes of a process over links, in a run of an accepted module where it is the only process.
use Rattle.std.specs.Prelude.{◌≡◌, ℕ, zero, suc, pos, ◌+◌, ◌*◌, ◌^◌, ◌<◌, true, false, Bool, List, [], ◌∷◌, length}
use Rattle.std.specs.Prelude.{take, replicate, unwrap_or, nat_le, Option, Some, None}
use Rattle.module_format.specs.Contents.{Contents}
use Rattle.module_format.specs.Keeping.{Keeps}
use Rattle.module_format.specs.Stack.{of_empty}
use Rattle.module_format.specs.Order.{IsBytes}
use Rattle.machine_state.specs.declared.link.Link.{Link}
use Rattle.machine_state.specs.Memory.{data_start}
use Rattle.machine_state.specs.Moves.{link_index}
use Rattle.link_runs.specs.ByLink.{ByLink, of_link}
use Rattle.link_runs.specs.FirstInFirstOut.{Supply, RunMoment, IsRun, IsOver, next_of, beginning}
use Rattle.agreement.specs.Agrees.{PlainMachine, PlainInput}
use Rattle.agreement.specs.Loading.{loaded_bytes}
use Rattle.plain_machine.specs.Plain.{defined}
use Rattle.verifier.specs.Headline.{RunsWell}
use Rattle.code_pieces.specs.declared.modules.TheConstants.{BASE}
use Rattle.code_pieces.specs.Pieces.{Piece}
use Rattle.code_pieces.specs.LaidModule.{Says, laid_module}
use Rattle.plain_run.specs.RunningAlone.{point_on}
use Rattle.accepted_runs.specs.Running.{AgreesOn}
use Rattle.scalar_ranges.specs.Environments.{Environment, item_at}
use Rattle.program_meaning.specs.Links.{Port, Links, incoming_at, after_reading, after_writing, message_length}
use Rattle.program_meaning.specs.Running.{Outcome, Goes, Waits, Stuck}
use Rattle.program_meaning.specs.Doing.{Doing, over_links}
use Rattle.placed_code.specs.Behaves.{Behaves, Passes, Stops, Finishes, Waited, IsSending, Filled, Receives}
use Rattle.placed_code.specs.LaidCode.{LaidCode, laid_code}
use Rattle.placed_code.specs.Points.{Point, GoesTo, plain_point}
use Rattle.placed_code.specs.StraightPieces.{Footing}

-- the code of a module, where labels are at these offsets
abbrev pub code_of : Contents → (ℕ → ℕ) → Footing → LaidCode
code_of m labels footing = record {
  start = data_start + 4 * m.data_words;
  code = m.code;
  labels = labels;
  footing = footing;
}

-- ---- moments

-- the moment after a number of turns more, if the run is not over before
abbrev pub moment_from : Contents → ByLink Bool → RunMoment → ℕ → Option RunMoment
moment_from m writers s zero = Some s
moment_from m writers s (suc n) = next_of m writers (moment_from m writers s n)

-- such a moment comes
pub record ComesToBe (m : Contents) (writers : ByLink Bool) (s : RunMoment) (Is : RunMoment → Type 0) : Type 0 where
  pub turns : ℕ
  pub moment : RunMoment
  pub comes : moment_from m writers s turns ≡ Some moment
  pub is : Is moment

-- turns after a run are more of it
abbrev pub RunsGoOn : Type 0
RunsGoOn = (m : Contents) (inputs : ByLink Supply) (writers : ByLink Bool) (n k : ℕ) (s t : RunMoment)
    → IsRun m inputs writers n s → moment_from m writers s k ≡ Some t → IsRun m inputs writers (n + k) t

-- ---- what was read and written

-- the bytes that a link has still to give
abbrev pub bytes_left : Supply → List ℕ
bytes_left None = []
bytes_left (Some bytes) = bytes

abbrev pub written_at : ℕ → Links → List ℕ
written_at link l = unwrap_or (item_at link l.written) []

-- the links have read and written this, and have these bytes to give
pub record HasLinks (l : Links) (s : RunMoment) : Type 0 where
  pub four_in : length l.incoming ≡ 4
  pub four_out : length l.written ≡ 4
  pub read : (link : Link) → of_link s.read link ≡ length (incoming_at (link_index link) l).read
  pub left : (link : Link) → bytes_left (of_link s.left link) ≡ (incoming_at (link_index link) l).unread
  pub written : (link : Link) → of_link s.written link ≡ written_at (link_index link) l
  pub are_bytes : (link : Link) → IsBytes (incoming_at (link_index link) l).unread

-- ---- a process that is the only one

-- nobody waits on a link
abbrev pub idle_input : PlainInput
idle_input = record { kept = None; waiting = None; enabled = None }

-- One process runs at this point, no other is ready, nobody waits on a link, and what was read and written is this.
pub record At (m : Contents) (c : LaidCode) (p : Point) (l : Links) (s : RunMoment) : Type 0 where
  pub machine : PlainMachine
  pub on : AgreesOn m machine s.world
  pub running : machine.is_running ≡ true
  pub here : point_on machine ≡ plain_point c p
  pub ready : machine.ready ≡ []
  pub outputs : machine.outputs ≡ replicate 4 None
  pub inputs : machine.inputs ≡ replicate 4 idle_input
  pub unfinished : machine.counters.is_finished ≡ false
  pub links : HasLinks l s

-- The run is over, is finished or not, and this was read and written.
pub record IsOverAs (finished : Bool) (m : Contents) (writers : ByLink Bool) (l : Links) (s : RunMoment) : Type 0 where
  pub over : IsOver m writers s
  pub is_finished : s.world.counters.is_finished ≡ finished
  pub links : HasLinks l s

-- it is over without being finished
abbrev pub IsOverWith : Contents → ByLink Bool → Links → RunMoment → Type 0
IsOverWith m writers l s = IsOverAs false m writers l s

-- it has come to its end with this environment
pub record HasEnded (m : Contents) (c : LaidCode) (End : Environment → Point → Type 0) (env : Environment) (l : Links)
    (s : RunMoment) : Type 0 where
  pub point : Point
  pub ends : End env point
  pub at : At m c point l s

-- From a moment on the outcome comes to be: the process comes to its end, or waits for ever. Of what is stuck nothing
-- is said.
abbrev pub Closed : Contents → ByLink Bool → LaidCode → (Environment → Point → Type 0) → Outcome → RunMoment → Type 0
Closed m writers c End (Goes env l) s = ComesToBe m writers s (HasEnded m c End env l)
Closed m writers c End (Waits l) s = ComesToBe m writers s (IsOverWith m writers l)
Closed m writers c End Stuck s = Unit {0}

-- whether something listens on each link
abbrev pub in_order : ByLink Bool → List Bool
in_order writers = writers.first ∷ writers.second ∷ writers.third ∷ writers.fourth ∷ []

-- instructions that ask nothing of others
abbrev pub PointsComeToBe : Type 0
PointsComeToBe = (m : Contents) (writers : ByLink Bool) (labels : ℕ → ℕ) (footing : Footing) (p q : Point) (l : Links)
    (s : RunMoment) → let c = code_of m labels footing in GoesTo c p q → At m c p l s
    → ComesToBe m writers s (At m c q l)

-- `stopp`, in a module that finishes at the end of its code: there, and before it
pub record StopsComeToBe : Type 0 where
  pub finishes : (m : Contents) (writers : ByLink Bool) (labels : ℕ → ℕ) (footing : Footing) (p : Point) (l : Links)
      (s : RunMoment) → let c = code_of m labels footing in m.finish ≡ length m.code → Finishes c p → At m c p l s
      → ComesToBe m writers s (IsOverAs true m writers l)
  pub stops : (m : Contents) (writers : ByLink Bool) (labels : ℕ → ℕ) (footing : Footing) (p : Point) (l : Links)
      (s : RunMoment) → let c = code_of m labels footing in m.finish ≡ length m.code → Stops c p → At m c p l s
      → ComesToBe m writers s (IsOverWith m writers l)

-- a message is sent: the process has waited for the acknowledgement, and goes on
pub record HasWaited (m : Contents) (c : LaidCode) (p : Point) (l : Links) (s : RunMoment) : Type 0 where
  pub point : Point
  pub waited : Waited c p point
  pub at : At m c point l s

-- something listens on a link
abbrev pub listens : ByLink Bool → ℕ → Bool
listens writers link = unwrap_or (item_at link (in_order writers)) false

-- `out`, by whether something listens on the link
pub record SendsComeToBe : Type 0 where
  pub goes : (m : Contents) (writers : ByLink Bool) (labels : ℕ → ℕ) (footing : Footing) (p : Point) (port : Port)
      (message : List ℕ) (l : Links) (s : RunMoment) → let c = code_of m labels footing in footing.depth < 2 ^ 28
      → IsSending c p port message → At m c p l s → listens writers port.link ≡ true
      → ComesToBe m writers s (HasWaited m c p (after_writing port.link message l))
  pub waits : (m : Contents) (writers : ByLink Bool) (labels : ℕ → ℕ) (footing : Footing) (p : Point) (port : Port)
      (message : List ℕ) (l : Links) (s : RunMoment) → let c = code_of m labels footing in footing.depth < 2 ^ 28
      → IsSending c p port message → At m c p l s → listens writers port.link ≡ false
      → ComesToBe m writers s (IsOverWith m writers l)

-- a message of these bytes is received: the process has waited for them, and goes on
pub record HasFilled (m : Contents) (c : LaidCode) (p : Point) (bytes : List ℕ) (l : Links) (s : RunMoment) : Type 0
  where
    pub point : Point
    pub filled : Filled c p bytes point
    pub at : At m c point l s

-- `in`, by whether the bytes of a message are left
pub record ReceivesComeToBe : Type 0 where
  pub goes : (m : Contents) (writers : ByLink Bool) (labels : ℕ → ℕ) (footing : Footing) (p : Point) (port : Port)
      (l : Links) (s : RunMoment) → let c = code_of m labels footing in
      let unread = (incoming_at port.link l).unread in
      let count = message_length port.carries in
      footing.depth < 2 ^ 28 → Receives c p port → At m c p l s → nat_le count (length unread) ≡ true
      → ComesToBe m writers s (HasFilled m c p (take count unread) (after_reading port.link count l))
  pub waits : (m : Contents) (writers : ByLink Bool) (labels : ℕ → ℕ) (footing : Footing) (p : Point) (port : Port)
      (l : Links) (s : RunMoment) → let c = code_of m labels footing in
      let unread = (incoming_at port.link l).unread in
      footing.depth < 2 ^ 28 → Receives c p port → At m c p l s
      → nat_le (message_length port.carries) (length unread) ≡ false
      → ComesToBe m writers s (IsOverWith m writers (after_reading port.link (length unread) l))

-- What code makes a process do comes to be over links: from the moment at which it is there, the outcome of its tree.
-- This is of all tests of where it ends; the lemma that it rests on is of all relations.
abbrev pub BehavioursClose : Type 0
BehavioursClose = (m : Contents) (writers : ByLink Bool) (labels : ℕ → ℕ) (footing : Footing)
    (end : Environment → Point → Bool) (p : Point) (t : Doing) (l : Links) (s : RunMoment)
    → let c = code_of m labels footing in footing.depth < 2 ^ 28 → m.finish ≡ length m.code
    → Behaves c (Passes end) p t → At m c p l s
    → Closed m writers c (Passes end) (over_links (in_order writers) t l) s

-- ---- modules of pieces

-- the code of pieces is that of the module that says them
abbrev pub LaidCodeIsOfItsModule : Type 0
LaidCodeIsOfItsModule = (ps : List Piece) (labels : ℕ) (links bytes : List ℕ) (says : Says ps labels links bytes)
    (depth : ℕ) → let c = laid_code ps labels says.arrangement.lengths depth in
    c ≡ code_of (laid_module ps labels links says.arrangement) c.labels c.footing

-- that module finishes at the end of its code
abbrev pub LaidModulesFinish : Type 0
LaidModulesFinish = (ps : List Piece) (labels : ℕ) (links bytes : List ℕ) (says : Says ps labels links bytes)
    → let m = laid_module ps labels links says.arrangement in m.finish ≡ length m.code

-- ---- where a run begins

-- at the first byte of a module, with nothing in its registers
abbrev pub first_point : Contents → Point
first_point m = record {
  at = 0;
  held = record { stack = of_empty (pos 0); memory = defined (loaded_bytes m) };
}

-- A run of a valid module that runs well begins there, at the workspace that is its base.
abbrev pub RunsBegin : Type 0
RunsBegin = (m : Contents) (inputs : ByLink Supply) (labels : ℕ → ℕ) (footing : Footing) (l : Links) → Keeps m
    → ∥ RunsWell m ∥₁ → m.base ≡ BASE + footing.depth → HasLinks l (beginning m inputs)
    → At m (code_of m labels footing) (first_point m) l (beginning m inputs)
