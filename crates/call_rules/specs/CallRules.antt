-- The rules of calls and returns: what a call wants of what is passed, and what is known after it.
use Rattle.std.specs.Prelude.{ℕ, zero, suc, ◌+◌, ◌-◌, ◌/◌, nat_lt, ◌==◌, ◌&&◌, ◌||◌, not, Bool, true, false}
use Rattle.std.specs.Prelude.{if◌then◌else◌, ℤ, pos, negsuc, ◌+ℤ◌, ◌-ℤ◌, int_le, int_lt, nat_abs, bit_and, List, []}
use Rattle.std.specs.Prelude.{◌∷◌, length, slice_get, Option, Some, None}
use Rattle.std.specs.List.{list_all}
use Rattle.module_format.specs.Rows.{Fact}
use Rattle.module_format.specs.declared.fact.Fact.TheVariants.{Unknown, Number, Pointer, ReturnAddress}
use Rattle.module_format.specs.declared.fact.Region.TheVariants as regions
use Rattle.module_format.specs.declared.fact.Step.TheVariants.{Word}
use Rattle.module_format.specs.declared.rows.Parameter.{Parameter}
use Rattle.module_format.specs.declared.rows.ParameterKind.{ParameterKind}
use Rattle.module_format.specs.declared.rows.ParameterKind.TheVariants.{Value, ReadRegion, WrittenRegion, Channels}
use Rattle.module_format.specs.declared.rows.EndKind.{EndKind}
use Rattle.module_format.specs.declared.rows.Direction.{Direction}
use Rattle.module_format.specs.declared.rows.Direction.TheVariants.{In, Out}
use Rattle.module_format.specs.Contents.{Contents, Procedure}
use Rattle.module_format.specs.Contexts.{first_branch, parameters_at}
use Rattle.module_format.specs.Regions.{is_frame, is_same_region}
use Rattle.module_format.specs.Places.{owner_at}
use Rattle.module_format.specs.Stack.{of_empty}
use Rattle.certificate.specs.Rights.{may_write_word, has_end}
use Rattle.certificate.specs.Starts.{Entered, procedure_at}
use Rattle.machine_state.specs.LocalStep.{target}
use Rattle.states.specs.declared.rule.Rule.TheVariants as rules
use Rattle.states.specs.declared.known.WordFact.{WordFact}
use Rattle.states.specs.declared.known.WordFact.TheVariants.{Alone}
use Rattle.states.specs.State.{State, Facts, Change, unknown, is_same_number, plain, changed, written}
use Rattle.states.specs.Below.{lies_within, implies}
use Rattle.states.specs.declared.span.Together.{Together}
use Rattle.states.specs.declared.span.Leaving.TheVariants.{Become}
use Rattle.certificate.specs.Words.{all_words}
use Rattle.states.specs.Spans.{together, on_span}
use Rattle.rulings.specs.Reach.{word_of_byte, may_read_bytes, may_write_bytes, constant_range}
use Rattle.rulings.specs.Channels.{message_length, channel_of, channels_meet, further, has_direction, is_length}
use Rattle.rulings.specs.Rulings.{Ruling, Site, calls, returns, breaks, alone, pays, wants}
use Rattle.rulings.specs.Pointers.{is_near, are_near}
use Rattle.call_rules.specs.declared.lent.Lent.{Lent}

-- ---- what is passed

-- the caller's word that is word k of the callee's frame
abbrev pub callee_word : State → ℤ → ℤ
callee_word s k = (s.depth +ℤ negsuc 3) +ℤ k

-- the word at this distance from the workspace has this fact from now on, if the context may write it
unfoldable pub learns_word : Contents → ℤ → Fact → State → State
learns_word m e fact s = if may_write_word m s.context (s.depth +ℤ e) then written (s.depth +ℤ e) fact s else s

-- the state once C, B, A and the return address lie in the four words below the workspace: of the last nothing is known
abbrev pub passing : Contents → State → State
passing m s = learns_word m (negsuc 3) Unknown (learns_word m (negsuc 2) s.stack.a.fact
    (learns_word m (negsuc 1) s.stack.b.fact (learns_word m (negsuc 0) s.stack.c.fact s)))

-- A call: the module, the state in which parameters are read, and the procedure.
pub record Calling : Type 0 where
  pub contents : Contents
  pub state : State
  pub callee : Procedure

-- what is known of the word in which a parameter is passed: A, B and C come first
abbrev pub given : Calling → Parameter → WordFact
given c p =
    if p.word == 1 then Alone c.state.stack.a.fact
    else if p.word == 2 then Alone c.state.stack.b.fact
    else if p.word == 3 then Alone c.state.stack.c.fact
    else c.state.frame (callee_word c.state (pos p.word))

-- ---- regions that are lent

-- where what is lent ends, which is not included
abbrev pub lent_end : Lent → ℤ
lent_end l = l.first +ℤ pos l.size

-- what an exact pointer to a word lends
unfoldable pub lent_from : ℕ → ℤ → ℤ → Bool → WordFact → Option Lent
lent_from size lo hi is_written (Alone (Pointer region low high Word)) = if is_same_number low high then Some (record {
  region = region;
  first = low;
  size = size;
  lo = lo;
  hi = hi;
  is_written = is_written;
}) else None
lent_from size lo hi is_written _ = None

-- what a parameter of this kind is lent
abbrev pub lent_to : ParameterKind → WordFact → Option Lent
lent_to (Value lo hi) fact = None
lent_to (ReadRegion size lo hi) fact = lent_from size lo hi false fact
lent_to (WrittenRegion size lo hi) fact = lent_from size lo hi true fact
lent_to (Channels count len ends) fact = None

abbrev pub lent : Calling → Parameter → Option Lent
lent c p = lent_to p.kind (given c p)

-- ---- numbers

-- a range of a region's words suits the callee: if it reads, the range lies within the callee's, and if it writes, it
-- is the same
abbrev pub suits : Lent → ℤ → ℤ → Bool
suits l low high = if l.is_written then is_same_number low l.lo
    && is_same_number high l.hi else lies_within low high l.lo l.hi

-- the range of a parameter's region suits
abbrev pub parameter_suits : Lent → Option Parameter → Bool
parameter_suits l None = true
parameter_suits l (Some p) = elim p.kind [
  | Value lo hi ↦ true
  | ReadRegion size lo hi ↦ suits l lo hi
  | WrittenRegion size lo hi ↦ suits l lo hi
  | Channels count len ends ↦ true
]

-- what is known together of the words of the frame that are lent
abbrev pub lent_words : Calling → Lent → Together
lent_words c l = together c.state.frame (word_of_byte l.first) (l.size / 4)

-- the numbers that are known of what is lent suit the callee
unfoldable pub numbers_suit : Calling → Lent → Bool
numbers_suit c l = elim l.region [
  | regions.Frame ↦ lies_within (lent_words c l).lo (lent_words c l).hi l.lo l.hi
  | regions.Constants ↦ lies_within (constant_range c.contents l.first (lent_end l)).lo
      (constant_range c.contents l.first (lent_end l)).hi l.lo l.hi
  | regions.Parameter j ↦ parameter_suits l (slice_get (parameters_at c.contents c.state.context) j)
]

-- a parameter is passed a number in its range, or what it is lent has numbers that suit
unfoldable pub numbers_fit : Calling → Parameter → Bool
numbers_fit c p = elim p.kind [
  | Value lo hi ↦ implies (plain (given c p)) (Number lo hi)
  | _ ↦ elim (lent c p) [ None ↦ true | Some l ↦ numbers_suit c l ]
]

-- ---- pointers

-- a pointer that is used has near offsets
abbrev pub is_near_fact : WordFact → Bool
is_near_fact (Alone (Pointer region lo hi step)) = are_near lo hi
is_near_fact _ = true

-- the `count` words from this one on are none of the callee's frame
abbrev pub is_off_callee : Calling → ℤ → ℕ → Bool
is_off_callee c first count =
    int_le (first +ℤ pos count) (callee_word c.state c.callee.lo) || int_le (callee_word c.state c.callee.hi) first

-- the caller may use what is lent so
abbrev pub may_use : Calling → Lent → Bool
may_use c l =
    if l.is_written then may_write_bytes c.contents c.state.context l.region l.first (lent_end l)
    else may_read_bytes c.contents c.state.context l.region l.first (lent_end l)

-- words of the frame are numbers, where they are written in no loop, and none of the callee's frame
unfoldable pub words_fit : Calling → Lent → Bool
words_fit c l =
    (lent_words c l).are_numbers && (not l.is_written || (lent_words c l).are_alone)
    && is_off_callee c (word_of_byte l.first) (l.size / 4)

-- what is lent may be used so, and of the frame it is numbers that the callee's frame does not hold
unfoldable pub may_lend : Calling → Lent → Bool
may_lend c l = is_near l.first && may_use c l && (if is_frame l.region then words_fit c l else true)

-- a parameter that names a region is lent one
unfoldable pub pointers_fit : Calling → Parameter → Bool
pointers_fit c p = elim p.kind [
  | Value lo hi ↦ true
  | Channels count len ends ↦ is_near_fact (given c p)
  | _ ↦ elim (lent c p) [ None ↦ false | Some l ↦ may_lend c l ]
]

-- ---- regions that meet

-- two are lent so that one may be written that the other has bytes of
abbrev pub clash : Lent → Lent → Bool
clash l k =
    (l.is_written || k.is_written) && is_same_region l.region k.region && int_lt l.first (lent_end k)
    && int_lt k.first (lent_end l)

abbrev pub are_apart : Option Lent → Option Lent → Bool
are_apart None other = true
are_apart (Some l) None = true
are_apart (Some l) (Some k) = not (clash l k)

-- each two of a list pass a test
abbrev pub each_two : {A : Type 0} → (A → A → Bool) → List A → Bool
each_two test [] = true
each_two test (p ∷ ps) = list_all (test p) ps && each_two test ps

-- no region that is written meets another
unfoldable pub regions_are_apart : Calling → Bool
regions_are_apart c = each_two (λ p q. are_apart (lent c p) (lent c q)) c.callee.parameters

-- ---- channels

-- each number below a count passes a test
unfoldable pub all_below : ℕ → (ℕ → Bool) → Bool
all_below zero test = true
all_below (suc n) test = test n && all_below n test

-- the context has the ends of `count` channels from this one on
abbrev pub holds_ends : Contents → ℕ → EndKind → ℕ → ℕ → Bool
holds_ends m context first count ends =
    let holds = λ (direction : Direction). not (has_direction ends direction)
    || all_below count (λ n. has_end m context (record { kind = further first n; direction = direction })) in
    holds In && holds Out

-- a parameter that brings channels is passed some whose ends the context has
unfoldable pub ends_are_held : Calling → Parameter → Bool
ends_are_held c p = elim p.kind [
  | Channels count len ends ↦ elim (channel_of (given c p)) [
    | None ↦ false
    | Some first ↦ holds_ends c.contents c.state.context first count ends.0
  ]
  | _ ↦ true
]

-- the channels have messages of the length that the callee wants
unfoldable pub lengths_fit : Calling → Parameter → Bool
lengths_fit c p = elim p.kind [
  | Channels count len ends ↦ elim (channel_of (given c p)) [
    | None ↦ true
    | Some first ↦
        all_below count (λ n. is_length len (message_length c.contents c.state.context (further first n)))
  ]
  | _ ↦ true
]

-- no end is given to both of two parameters, which are of these kinds and are passed these
abbrev pub kinds_give_other_ends : ParameterKind → WordFact → ParameterKind → WordFact → Bool
kinds_give_other_ends kind fact other_kind other_fact = elim kind [
  | Channels count len ends ↦ elim other_kind [
    | Channels more length others ↦ elim (channel_of fact) [
      | None ↦ true
      | Some first ↦ elim (channel_of other_fact) [
        | None ↦ true
        | Some other ↦ (bit_and ends.0 others.0 == 0) || not (channels_meet first count other more)
      ]
    ]
    | _ ↦ true
  ]
  | _ ↦ true
]

-- no end is given to both parameters
unfoldable pub give_other_ends : Calling → Parameter → Parameter → Bool
give_other_ends c p q = kinds_give_other_ends p.kind (given c p) q.kind (given c q)

unfoldable pub ends_are_given : Calling → Bool
ends_are_given c = list_all (ends_are_held c) c.callee.parameters && each_two (give_other_ends c) c.callee.parameters

-- ---- which procedures a context may call

-- The root and its branches may call any procedure, and a procedure and its branches those before it.
abbrev pub may_call : Contents → ℕ → ℕ → Bool
may_call m context callee = elim (owner_at m context) [
  | None ↦ false
  | Some owner ↦ (owner == 0) || nat_lt callee owner
]

-- how many words the callee's frame has
abbrev pub frame_size : Procedure → ℕ
frame_size p = nat_abs (p.hi -ℤ p.lo)

-- the callee's frame lies in words that the caller may write
unfoldable pub frame_is_own : Calling → Bool
frame_is_own c =
    all_words (may_write_word c.contents c.state.context) (callee_word c.state c.callee.lo) (frame_size c.callee)

-- ---- what is known after a call

-- a region of the frame that was lent to be written is numbers in its range
abbrev pub with_lent : Option Lent → Facts → Facts
with_lent None facts = facts
with_lent (Some l) facts =
    if l.is_written && is_frame l.region
    then changed (on_span (word_of_byte l.first) (l.size / 4) (Become (Number l.lo l.hi))) facts else facts

abbrev pub with_all_lent : Calling → List Parameter → Facts → Facts
with_all_lent c [] facts = facts
with_all_lent c (p ∷ ps) facts = with_all_lent c ps (with_lent (lent c p) facts)

-- the words of the callee's frame are unknown
abbrev pub callee_span : Calling → Change
callee_span c = on_span (callee_word c.state c.callee.lo) (frame_size c.callee) (Become Unknown)

-- the state after the call, when the procedure has returned
unfoldable pub behind_call : Calling → State
behind_call c = record c.state {
  stack = of_empty unknown;
  frame = with_all_lent c c.callee.parameters (changed (callee_span c) c.state.frame);
}

-- ---- the instructions

-- this price is paid
unfoldable pub spends : ℕ → State → (State → Ruling) → Ruling
spends price s k = if nat_lt s.number price then breaks rules.Budget else k (record s { number = s.number - price })

-- what is passed suits the parameters
abbrev pub passes_all : Calling → Ruling → Ruling
passes_all c next =
    wants (list_all (numbers_fit c) c.callee.parameters) rules.Number
    (wants (list_all (pointers_fit c) c.callee.parameters) rules.Pointer
    (wants (regions_are_apart c) rules.RegionsMeet
    (wants (ends_are_given c) rules.Channel
    (wants (list_all (lengths_fit c) c.callee.parameters) rules.MessageLength next))))

-- the call of a procedure that begins at an offset
unfoldable pub calls_procedure : Site → ℕ → State → Entered → Ruling
calls_procedure site to s found =
    let c : Calling = record { contents = site.contents; state = passing site.contents s; callee = found.procedure } in
    passes_all c
    (alone s.mode
    (wants (may_call site.contents s.context found.context) rules.Call
    (wants (frame_is_own c) rules.OwnWord
    (spends (site.length + c.callee.number) (behind_call c) (calls to)))))

unfoldable pub call_rule : Site → ℤ → State → Ruling
call_rule site e s =
    let to = target (site.at + site.length) e in
    elim (procedure_at site.contents to) [
      | None ↦ alone s.mode (breaks rules.Call)
      | Some found ↦ calls_procedure site to s found
    ]

-- a procedure that may return here: it is no branch, its workspace is where it was when it was called, and its word 0
-- has its return address still
abbrev pub is_return_address : WordFact → Bool
is_return_address (Alone ReturnAddress) = true
is_return_address _ = false

abbrev pub may_return : Contents → State → Bool
may_return m s =
    nat_lt 0 s.context && nat_lt s.context (first_branch m) && is_same_number s.depth (pos 0)
    && is_return_address (s.frame (pos 0))

unfoldable pub return_rule : Site → State → Ruling
return_rule site s = alone s.mode (wants (may_return site.contents s) rules.Call (pays site s (λ s. returns)))
