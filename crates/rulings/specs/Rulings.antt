-- Where a rule leads, and the tests and changes of states that rules are made of. The tests are in rising order of the
-- numbers of rules.
use Rattle.std.specs.Prelude.{ℕ, ◌-◌, nat_lt, if◌then◌else◌, ℤ, pos, negsuc, ◌+ℤ◌, List, [], ◌∷◌, Option, Some, None}
use Rattle.std.specs.Prelude.{Ok, Err, Bool, Result}
use Rattle.module_format.specs.Rows.{Fact}
use Rattle.module_format.specs.declared.fact.Fact.TheVariants.{Unknown}
use Rattle.module_format.specs.Contents.{Contents, label_at}
use Rattle.module_format.specs.Stack.{of_empty, pushed, popped, reversed, with_top}
use Rattle.certificate.specs.Rights.{may_write_word, may_read_word}
use Rattle.states.specs.declared.rule.Rule.{Rule}
use Rattle.states.specs.declared.rule.Rule.TheVariants as rules
use Rattle.states.specs.declared.known.Known.{Known}
use Rattle.states.specs.declared.known.Mode.{Mode}
use Rattle.states.specs.declared.known.Mode.TheVariants.{Plain, Enabling, Disabling, Starting}
use Rattle.states.specs.State.{State, unknown, known, written}
use Rattle.states.specs.Below.{below}

-- where a rule leads
pub data Ruling : Type 0 where
  -- the process goes on after the instruction, in this state
  falls : State → Ruling
  -- it goes on at the label at this offset, and nothing falls through
  leads : ℕ → Ruling
  -- it goes on after the instruction in this state, or at the label at this offset
  falls_or_leads : State → ℕ → Ruling
  -- it calls the procedure that begins at this offset, and goes on after the instruction in this state, once that has
  -- returned
  calls : ℕ → State → Ruling
  -- it starts the branch at the first of these offsets, and goes on after the instruction in this state; where it is
  -- the first branch of a PAR, the second one is the offset after the PAR
  starts : State → List ℕ → Ruling
  -- it goes on at one of the labels at these offsets, and nothing falls through
  selects : List ℕ → Ruling
  -- it returns to where it was called
  returns : Ruling
  -- it stops
  ends : Ruling
  -- it breaks this rule
  breaks : Rule → Ruling

-- the state that a ruling lets fall into the next offset
abbrev pub falling : Ruling → Option State
falling (falls s) = Some s
falling (leads to) = None
falling (falls_or_leads s to) = Some s
falling (calls to s) = Some s
falling (starts s labels) = Some s
falling (selects labels) = None
falling returns = None
falling ends = None
falling (breaks broken) = None

-- the offsets of the labels whose states a ruling lets a process go on in
abbrev pub leading : Ruling → List ℕ
leading (falls s) = []
leading (leads to) = to ∷ []
leading (falls_or_leads s to) = to ∷ []
leading (calls to s) = []
leading (starts s labels) = labels
leading (selects labels) = labels
leading returns = []
leading ends = []
leading (breaks broken) = []

-- the place of an instruction: the module, and the offset and the bytes of the instruction
pub record Site : Type 0 where
  pub contents : Contents
  pub at : ℕ
  pub length : ℕ

-- ---- combinators, in rising order of the numbers of rules

-- a test that holds, else this rule is broken
unfoldable pub wants : Bool → Rule → Ruling → Ruling
wants holds rule next = if holds then next else breaks rule

-- what a result leads to, unless it is that a rule is broken
unfoldable pub settles : {A : Type 0} → Result A Rule → (A → Ruling) → Ruling
settles (Ok x) k = k x
settles (Err broken) k = breaks broken

-- an instruction that is not allowed in an alternation
unfoldable pub outside_alternation : Mode → Ruling → Ruling
outside_alternation Plain k = k
outside_alternation Enabling k = breaks rules.Alternation
outside_alternation (Disabling done) k = breaks rules.Alternation
outside_alternation (Starting row started) k = k

-- one that is not allowed among the starts of a PAR
unfoldable pub outside_starts : Mode → Ruling → Ruling
outside_starts Plain k = k
outside_starts Enabling k = k
outside_starts (Disabling done) k = k
outside_starts (Starting row started) k = breaks rules.Par

-- one that is allowed in neither
abbrev pub alone : Mode → Ruling → Ruling
alone mode k = outside_alternation mode (outside_starts mode k)

-- a register that is used is known
unfoldable pub uses : Known → (Fact → Ruling) → Ruling
uses known k = elim known.fact [ Unknown ↦ breaks rules.UnknownRegister | _ ↦ k known.fact ]

-- what is wanted of numbers holds
unfoldable pub in_bounds : Bool → Ruling → Ruling
in_bounds holds k = if holds then k else breaks rules.Number

-- the code offset that is e from the next instruction lies after it
unfoldable pub forward : ℤ → Ruling → Ruling
forward (pos n) k = k
forward (negsuc n) k = breaks rules.Forward

-- the state's context may write word k of its frame
unfoldable pub writes_word : Site → State → ℤ → Ruling → Ruling
writes_word site s k next = if may_write_word site.contents s.context k then next else breaks rules.OwnWord

-- the state's context may read word k of its frame
unfoldable pub reads_word : Site → State → ℤ → Ruling → Ruling
reads_word site s k next = if may_read_word site.contents s.context k then next else breaks rules.OwnWord

-- the context may write the three words below the workspace, and they are unknown afterwards
unfoldable pub schedules : Site → State → (State → Ruling) → Ruling
schedules site s k =
    let below = λ (n : ℕ). s.depth +ℤ negsuc n in
    writes_word site s (below 0) (writes_word site s (below 1) (writes_word site s (below 2)
    (k (written (below 2) Unknown (written (below 1) Unknown (written (below 0) Unknown s))))))

-- each byte of the instruction is paid from the number
unfoldable pub pays : Site → State → (State → Ruling) → Ruling
pays site s k =
    if nat_lt s.number site.length then breaks rules.Budget else k (record s { number = s.number - site.length })

-- there is a label at the offset, and the state is below it
unfoldable pub leads_to : Site → ℕ → State → Ruling
leads_to site to s = elim (label_at site.contents to) [
  | None ↦ breaks rules.Label
  | Some t ↦ elim (below s t) [ Ok cost ↦ leads to | Err broken ↦ breaks broken ]
]

-- there is a label at the offset, and the first state is below it: the process goes on there, or after the instruction
-- in the second state
unfoldable pub forks_to : Site → ℕ → State → State → Ruling
forks_to site to there here = elim (label_at site.contents to) [
  | None ↦ breaks rules.Label
  | Some t ↦ elim (below there t) [ Ok cost ↦ falls_or_leads here to | Err broken ↦ breaks broken ]
]

unfoldable pub goes_on : Site → State → Ruling
goes_on site s = pays site s falls

-- ---- registers

abbrev pub push : Known → State → State
push v s = record s { stack = pushed v s.stack }

abbrev pub pop : State → State
pop s = record s { stack = popped unknown s.stack }

abbrev pub reverse : State → State
reverse s = record s { stack = reversed s.stack }

abbrev pub with_a : Known → State → State
with_a v s = record s { stack = with_top v s.stack }

abbrev pub without_registers : State → State
without_registers s = record s { stack = of_empty unknown }

-- the process goes on at a label, where another one may run first; among the starts of a PAR none does so
abbrev pub goes_to : Site → ℕ → State → Ruling
goes_to site to s =
    outside_starts s.mode (schedules site s (λ s. pays site s (λ s. leads_to site to (without_registers s))))
