-- A call in memory, as the call that it is, and what its changes want.
use Rattle.std.specs.Prelude.{◌≡◌, ⊤, ℕ, Bool, ◌≤◌, ◌<◌, ◌/◌, ℤ, pos, ◌+ℤ◌, ◌≤ℤ◌, ◌<ℤ◌, true, List, [], ◌∷◌, Option}
use Rattle.std.specs.Prelude.{false, Some, None, map, slice_get, take, drop, ◌+◌, ◌&&◌, ◌||◌, not, if◌then◌else◌}
use Rattle.std.specs.List.{AllByRecursion, list_all}
use Rattle.module_format.specs.declared.rows.EndKind.{EndKind}
use Rattle.module_format.specs.declared.rows.Direction.{Direction}
use Rattle.module_format.specs.declared.rows.Parameter.{Parameter}
use Rattle.module_format.specs.declared.rows.ParameterKind.{ParameterKind}
use Rattle.module_format.specs.declared.rows.ParameterKind.TheVariants.{Channels}
use Rattle.module_format.specs.Rows.{ProcedureRow}
use Rattle.module_format.specs.declared.fact.Region.TheVariants as regions
use Rattle.module_format.specs.Contents.{Contents, procedure_of}
use Rattle.module_format.specs.Contexts.{context_at}
use Rattle.module_format.specs.Regions.{is_frame}
use Rattle.certificate.specs.Rights.{has_word}
use Rattle.certificate.specs.Starts.{Entered}
use Rattle.certificate.specs.declared.runs.ChannelRun.{ChannelRun}
use Rattle.states.specs.declared.state.State.{State as InState}
use Rattle.states.specs.State.{Facts, plain}
use Rattle.states.specs.Spans.{together}
use Rattle.states.specs.declared.rule.Rule.TheVariants as rules
use Rattle.states.specs.Views.{state_of}
use Rattle.call_rules.specs.declared.lent.Lent.{Lent}
use Rattle.call_rules.specs.declared.passed.Passed.{Passed}
use Rattle.call_rules.specs.declared.passed.Summed.{Summed}
use Rattle.call_rules.specs.declared.calling.Calling.{Calling as InMemory}
use Rattle.rulings.specs.Reach.{word_of_byte}
use Rattle.call_rules.specs.declared.calling.Touched.{Touched}
use Rattle.call_rules.specs.declared.calling.Wanted.{Wanted}
use Rattle.call_rules.specs.declared.calling.Wanted.TheVariants as wanted
use Rattle.rulings.specs.Rulings.{Ruling, alone, wants}
use Rattle.call_rules.specs.CallRules.{Calling, callee_word, given, lent, lent_words, passes_all, may_call}
use Rattle.call_rules.specs.CallRules.{frame_is_own, frame_size, kinds_give_other_ends}
use Rattle.call_rules.specs.CallRules.{with_lent, are_apart, numbers_fit, pointers_fit, ends_are_held, lengths_fit}
use Rattle.rulings.specs.Channels.{has_end_further, further, message_length}

abbrev pub calling_of : InMemory → Calling
calling_of c =
    record { contents = c.place.module.now; state = state_of c.state.now; callee = procedure_of c.callee.now }

-- the call of a procedure, in the state in which its parameters are read
abbrev pub call_in : Contents → InState → ProcedureRow → Calling
call_in m s row = record { contents = m; state = state_of s; callee = procedure_of row }

-- a procedure that is entered, with its number as a context
abbrev pub entered : ℕ → ProcedureRow → Entered
entered context row = record { context = context; procedure = procedure_of row }

-- how many words of the frame are lent: none, if it is another region
abbrev pub frame_words : Lent → ℕ
frame_words l = if is_frame l.region then l.size / 4 else 0

-- the first word of the frame that is lent: word 0, if nothing is
abbrev pub first_lent : Option Lent → ℤ
first_lent None = pos 0
first_lent (Some l) = word_of_byte l.first

-- how many words of the frame are lent, if anything is
abbrev pub count_lent : Option Lent → ℕ
count_lent None = 0
count_lent (Some l) = frame_words l

-- the words of the frame that are lent, and what is known of them together
abbrev pub summed : Facts → Option Lent → Summed
summed facts o = record {
  first = first_lent o;
  count = count_lent o;
  all = together facts (first_lent o) (count_lent o);
}

-- what a parameter is passed
abbrev pub passed_to : Calling → Parameter → Passed
passed_to c p = record {
  parameter = p;
  fact = given c p;
  plain = plain (given c p);
  lent = lent c p;
  words = (summed c.state.frame (lent c p)).all;
}

-- the parameter is passed this
pub record IsPassedSo (c : Calling) (x : Passed) : Type 0 where
  pub fact : x.fact ≡ given c x.parameter
  pub plain : x.plain ≡ plain (given c x.parameter)
  pub lent : x.lent ≡ lent c x.parameter
  pub words : (l : Lent) → x.lent ≡ Some l → l.region ≡ regions.Frame → x.words ≡ lent_words c l

-- a region, if it is written, meets none of these others
abbrev pub is_apart_if_written : Option Lent → List (Option Lent) → Bool
is_apart_if_written None others = true
is_apart_if_written (Some l) others = not l.is_written || list_all (are_apart (Some l)) others

-- it meets none of those before it and after it
abbrev pub is_apart_from_others : Option (Option Lent) → List (Option Lent) → List (Option Lent) → Bool
is_apart_from_others None earlier later = true
is_apart_from_others (Some one) earlier later = is_apart_if_written one earlier && is_apart_if_written one later

-- the region of this number, if it is written, meets none of the others
abbrev pub is_apart_at : List (Option Lent) → ℕ → Bool
is_apart_at all i = is_apart_from_others (slice_get all i) (take i all) (drop (i + 1) all)

-- a parameter of this kind brings channels
abbrev pub brings_channels : ParameterKind → Bool
brings_channels (Channels count len ends) = true
brings_channels _ = false

-- no end is given to both of two parameters that are passed these
abbrev pub are_passed_other_ends : Passed → Passed → Bool
are_passed_other_ends x y = kinds_give_other_ends x.parameter.kind x.fact y.parameter.kind y.fact

-- a parameter is passed what is wanted of each
abbrev pub fits : Wanted → Calling → Parameter → Bool
fits wanted.Numbers = numbers_fit
fits wanted.Pointers = pointers_fit
fits wanted.Ends = ends_are_held
fits wanted.Lengths = lengths_fit

-- the first `count` numbers pass a test
pub record HasAll (count : ℕ) (test : ℕ → Bool) : Type 0 where
  pub each : (i : ℕ) → i < count → test i ≡ true

-- a context has the ends, in a direction, of a run of channels from this one on, with the run's length of messages
pub record HasRun (m : Contents) (context : ℕ) (first : EndKind) (direction : Direction) (run : ChannelRun)
    : Type 0 where
  pub ends : HasAll run.count (has_end_further m context first direction)
  pub lengths : (i : ℕ) → i < run.count → message_length m context (further first i) ≡ run.length

-- what is known of the frame after a call to which this was lent, parameter by parameter
abbrev pub with_each : List (Option Lent) → Facts → Facts
with_each [] facts = facts
with_each (lent ∷ more) facts = with_each more (with_lent lent facts)

-- words that are one of a context's frame each, one at least
pub record OwnsWords (m : Contents) (context : ℕ) (first : ℤ) (count : ℕ) : Type 0 where
  pub some : 0 < count
  pub each : (k : ℤ) → first ≤ℤ k → k <ℤ (first +ℤ pos count) → has_word (context_at m context) k ≡ true

-- what is lent of the frame to be written are words of the context's frame
abbrev pub OwnsLent : Contents → ℕ → Option Lent → Type 0
OwnsLent m context None = ⊤
OwnsLent m context (Some l) =
    l.is_written ≡ true → l.region ≡ regions.Frame → OwnsWords m context (word_of_byte l.first) (l.size / 4)

-- the caller may call the procedure, which has this number as a context, and pass it what it passes
abbrev pub admits : Calling → ℕ → Ruling → Ruling
admits c context next =
    passes_all c (alone c.state.mode (wants (may_call c.contents c.state.context context) rules.Call
    (wants (frame_is_own c) rules.OwnWord next)))

-- a call may change the callee's frame and what it lends
pub record Touches (c : Calling) (t : Touched) : Type 0 where
  pub first : t.first ≡ callee_word c.state c.callee.lo
  pub count : t.count ≡ frame_size c.callee
  pub some : 0 < t.count
  pub lent : t.lent.items ≡ map (lent c) c.callee.parameters
  pub own : AllByRecursion (OwnsLent c.contents c.state.context) t.lent.items
