-- The condition of a start that is named is not met.
use Rattle.std.proofs.Common.{◌≡◌, ℕ, zero, suc, ℤ, pos, negsuc, ◌+ℤ◌, ◌==◌, ◌&&◌, ◌||◌, not, Bool, true, false, cond, List}
use Rattle.std.proofs.Common.{[], ◌∷◌, Option, Some, None, refl, ap, subst, ◌∙◌, slice_get, length}
use Rattle.std.specs.Prelude.{is_some, option_map, nat_abs, ◌-ℤ◌}
use Rattle.std.specs.Option.{option_or}
use Rattle.std.specs.List.{list_any, list_all}
use Rattle.std.proofs.lemmas.Bool.{and_parts, or_parts, not-true, eqb-true, eq-eqb, false_from_ne_true}
use Rattle.module_format.specs.Rows.{Fact, Entry}
use Rattle.module_format.specs.declared.fact.Fact.TheVariants as facts
use Rattle.module_format.specs.declared.rows.Interval.{Interval}
use Rattle.module_format.specs.declared.rows.ChannelRow.{ChannelRow}
use Rattle.module_format.specs.declared.rows.EndKind.{EndKind}
use Rattle.module_format.specs.declared.rows.EndKind.TheVariants as ends
use Rattle.module_format.specs.declared.rows.EndRow.{EndRow}
use Rattle.module_format.specs.declared.rows.Parameter.{Parameter}
use Rattle.module_format.specs.Contents.{Contents, Par, Branch, Label, label_at}
use Rattle.module_format.specs.Contexts.{parameters_at}
use Rattle.word_arithmetic.specs.Word.{least_word}
use Rattle.certificate.specs.Rights.{may_write_word, may_read_word}
use Rattle.certificate.specs.Words.{all_words, all_within}
use Rattle.certificate.specs.Starting.{may_give_words, says_of_hidden, is_about}
use Rattle.certificate.specs.Starting as starting
use Rattle.certificate.specs.Siblings.{leaves_hidden_words}
use Rattle.machine_state.specs.BranchContexts.{context_of}
use Rattle.machine_state.specs.JoinLookups.{Found}
use Rattle.states.specs.declared.known.Mode.{Mode}
use Rattle.states.specs.declared.known.Mode.TheVariants.{Plain, Enabling, Disabling, Starting}
use Rattle.states.specs.declared.known.WordFact.TheVariants.{Alone}
use Rattle.states.specs.State.{State, is_same_number, is_silent}
use Rattle.states.specs.Below.{is_plain}
use Rattle.rulings.specs.Reach.{readable_bytes, writable_bytes}
use Rattle.par_rules.specs.Gifts.{may_give_parameters}
use Rattle.par_rules.specs.Openings.{is_code_address, is_start_of, block_is_prepared, channel_is_empty, is_as_given}
use Rattle.par_rules.specs.Openings.{end_is_as_given, named_are_as_given, is_prepared}
use Rattle.par_rules.specs.ParRules.{is_next, is_in_turn, may_give, at_first, may_open, is_workspace}
use Rattle.par_rules.specs.Comparisons.{is_after}
use Rattle.fact_texts.specs.RowTexts.{is_unknown}
use Rattle.found_parts.specs.declared.faults.Wanted.{Wanted}
use Rattle.found_parts.specs.declared.faults.Wanted.TheVariants as wants
use Rattle.found_parts.specs.declared.faults.StartFault.{StartFault}
use Rattle.found_parts.specs.declared.faults.StartFault.TheVariants as faults
use Rattle.found_parts.specs.Firsts.{first_of}
use Rattle.found_parts.specs.Asked.{failing, first_failing, failing_within}
use Rattle.found_parts.specs.Openings.{is_wanted, unlike, unwritable, unreadable, prepared, block_fault, channel_fault, given_from}
use Rattle.found_parts.specs.Openings.{given_fault, end_fault, listed_fault, named_fault, opening_fault}
use Rattle.found_parts.specs.Successors.{said_word, hidden_word, label_fault, successor_fault, word_fault}
use Rattle.found_parts.specs.Successors.{register_fault, context_fault, depth_fault}
use Rattle.found_parts.specs.Gifts as gifts
use Rattle.found_parts.specs.Starts as starts
use Rattle.found_parts.specs.Asking.{forked, IsThere, may_start}
use Rattle.found_parts.proofs.Nothing.{found_unless, found_where, neither, none_of, none_of_failing, none_mapped}

-- ---- words

no_word : (test : ℤ → Bool) (first : ℤ) (n : ℕ) → all_words test first n ≡ true → first_failing test first n ≡ None
no_word test first zero all = refl
no_word test first (suc more) all =
    let parts = and_parts (test (first +ℤ pos more)) (all_words test first more) all in
    neither (first_failing test first more) (failing test (first +ℤ pos more))
    (no_word test first more parts.1) (found_unless (test (first +ℤ pos more)) (first +ℤ pos more) parts.0)

no_word_within : (test : ℤ → Bool) (is : List Interval) → list_all (all_within test) is ≡ true
    → first_of (failing_within test) is ≡ None
no_word_within test is all =
    none_of (failing_within test) (all_within test) (λ i e. no_word test i.lo (nat_abs (i.hi -ℤ i.lo)) e) is all

-- ---- gifts

module _ (m : Contents) (s : State) where
  gifts_there : (b : Branch) → may_give_words m s.context b ≡ true → may_give_parameters m s.context b ≡ true
      → gifts.gifts_fault m s.context b ≡ None
  gifts_there b words parameters =
      let w = and_parts (list_all (all_within (may_write_word m s.context)) b.writes) _ words in
      let p = and_parts (list_all (λ j. is_some (writable_bytes m s.context j)) b.written_parameters) _ parameters in
      neither _ (gifts.parameters_fault m s.context b)
      (neither (gifts.written_words_fault m s.context b.writes) (gifts.read_words_fault m s.context b.reads)
      (none_mapped faults.Unwritable _ (no_word_within (may_write_word m s.context) b.writes w.0))
      (none_mapped faults.Unreadable _ (no_word_within (may_read_word m s.context) b.reads w.1)))
      (neither _ _
      (none_of (gifts.parameter_fault true m s.context) (λ j. is_some (writable_bytes m s.context j))
      (λ j e. found_unless (is_some (writable_bytes m s.context j)) (faults.UnwritableParameter (pos j)) e)
      b.written_parameters p.0)
      (none_of (gifts.parameter_fault false m s.context) (λ j. is_some (readable_bytes m s.context j))
      (λ j e. found_unless (is_some (readable_bytes m s.context j)) (faults.UnreadableParameter (pos j)) e)
      b.read_parameters p.1))

  none_hidden : (context : ℕ) (par : Par) → leaves_hidden_words m context par ≡ true
      → gifts.hidden_fault m context par ≡ None
  none_hidden context par leaves =
      let parts = and_parts (not (may_read_word m context par.block)
      && not (may_read_word m context (par.block +ℤ pos 1))) _ leaves in
      let block = and_parts (not (may_read_word m context par.block)) _ parts.0 in
      let kept = λ (k : ℤ) (e : not (may_read_word m context k) ≡ true).
      found_where (may_read_word m context k) (faults.Given k) (not-true _ e) in
      neither (gifts.block_word m context par) _
      (neither (gifts.given_word m context par.block) (gifts.given_word m context (par.block +ℤ pos 1))
      (kept par.block block.0) (kept (par.block +ℤ pos 1) block.1))
      (none_of (λ (c : ChannelRow). gifts.given_word m context c.word)
      (λ (c : ChannelRow). not (may_read_word m context c.word)) (λ c e. kept c.word e) par.channels parts.1)

  -- ---- the first start

  word_prepared : (k : ℤ) (wanted : Wanted) → may_write_word m s.context k ≡ true
      → is_wanted wanted (s.frame k) ≡ true → prepared m s k wanted ≡ None
  word_prepared k wanted write is =
      neither (unwritable m s k) (unlike s k wanted)
      (found_unless (may_write_word m s.context k) (faults.Unwritable k) write)
      (found_unless _ (faults.Word k wanted (s.frame k)) is)

  block_prepared : (par : Par) → block_is_prepared m s par ≡ true → block_fault m s par ≡ None
  block_prepared par is =
      let parts = and_parts (may_write_word m s.context par.block
      && is_code_address (s.frame par.block) par.successor) _ is in
      let first = and_parts (may_write_word m s.context par.block) _ parts.0 in
      let second = and_parts (may_write_word m s.context (par.block +ℤ pos 1)) _ parts.1 in
      neither (prepared m s par.block (wants.Code par.successor)) _
      (word_prepared par.block (wants.Code par.successor) first.0 first.1)
      (word_prepared (par.block +ℤ pos 1) (wants.Number (pos (length par.branches) +ℤ pos 1)) second.0 second.1)

  channel_prepared : (c : ChannelRow) → channel_is_empty m s c ≡ true → channel_fault m s c ≡ None
  unfolding channel_fault
  channel_prepared c is =
      let parts = and_parts (may_write_word m s.context c.word) _ is in
      word_prepared c.word (wants.Number least_word) parts.0 parts.1

  given_here : (j : ℕ) → is_as_given m s j ≡ true → given_fault m s (pos j) ≡ None
  unfolding given_fault
  given_here j is = on (slice_get (parameters_at m s.context) j) is
    where
      on : (o : Option Parameter) → (elim o as (λ o. Bool) [
        | None ↦ false
        | Some p ↦ may_read_word m s.context (pos p.word)
            && is_start_of j (s.frame (pos p.word))
      ]) ≡ true → given_from m s (pos j) (option_map (λ (p : Parameter). pos p.word) o) ≡ None
      on None is = absurd (cc)
      on (Some p) is =
          let parts = and_parts (may_read_word m s.context (pos p.word)) _ is in
          neither (unreadable m s (pos p.word)) (unlike s (pos p.word) (wants.Parameter (pos j)))
          (found_unless _ (faults.Unreadable (pos p.word)) parts.0)
          (found_unless _ (faults.Word (pos p.word) (wants.Parameter (pos j)) (s.frame (pos p.word))) parts.1)

  end_given : (kind : EndKind) → end_is_as_given m s kind ≡ true → end_fault m s kind ≡ None
  unfolding end_fault
  end_given (ends.Parameter (pos j) element) is = given_here j is
  end_given (ends.Parameter (negsuc j) element) is = absurd (cc)
  end_given (ends.FrameWord word) is = refl
  end_given (ends.Link link) is = refl

  all_named : (b : Branch) → named_are_as_given m s b ≡ true → named_fault m s b ≡ None
  unfolding named_fault
  all_named b is =
      let parts = and_parts (list_all (is_as_given m s) b.written_parameters
      && list_all (is_as_given m s) b.read_parameters) _ is in
      let both = and_parts (list_all (is_as_given m s) b.written_parameters) _ parts.0 in
      neither _ (first_of (λ (e : EndRow). end_fault m s e.kind) b.ends)
      (neither (first_of (listed_fault m s) b.written_parameters) (first_of (listed_fault m s) b.read_parameters)
      (none_of (listed_fault m s) (is_as_given m s) given_here b.written_parameters both.0)
      (none_of (listed_fault m s) (is_as_given m s) given_here b.read_parameters both.1))
      (none_of (λ (e : EndRow). end_fault m s e.kind) (λ (e : EndRow). end_is_as_given m s e.kind)
      (λ e is. end_given e.kind is) b.ends parts.1)

  all_prepared : (par : Par) → is_prepared m s par ≡ true → opening_fault m s par ≡ None
  all_prepared par is =
      let parts = and_parts (block_is_prepared m s par && list_all (channel_is_empty m s) par.channels) _ is in
      let both = and_parts (block_is_prepared m s par) _ parts.0 in
      neither _ (first_of (named_fault m s) par.branches)
      (neither (block_fault m s par) (first_of (channel_fault m s) par.channels)
      (block_prepared par both.0)
      (none_of (channel_fault m s) (channel_is_empty m s) channel_prepared par.channels both.1))
      (none_of (named_fault m s) (named_are_as_given m s) all_named par.branches parts.1)

-- ---- the label after the PAR

silent_unknown : (fact : Fact) → is_silent (Alone fact) ≡ true → is_unknown fact ≡ true
silent_unknown facts.Unknown e = refl
silent_unknown (facts.Number lo hi) e = absurd (cc)
silent_unknown (facts.Pointer region lo hi step) e = absurd (cc)
silent_unknown (facts.CodeAddress offset) e = absurd (cc)
silent_unknown (facts.Loop base count weight) e = absurd (cc)
silent_unknown facts.ReturnAddress e = absurd (cc)

-- where a test and one of three others are failed together, so are it and each of these
split : (known first second third : Bool) → (known && (first || second || third)) ≡ false
    → ((known && first) ≡ false) × (((known && second) ≡ false) × ((known && third) ≡ false))
split true first second third e =
    let parts = or_parts (first || second) third e in
    let both = or_parts first second parts.0 in (both.0, (both.1, parts.1))
split false first second third e = (refl, (refl, refl))

-- no channel's word is said of
channels_unsaid : (known : Bool) (about : ChannelRow → Bool) (cs : List ChannelRow) → (known && list_any about cs) ≡ false
    → first_of (λ (c : ChannelRow). cond (known && about c) (Some c.word) None) cs ≡ None
channels_unsaid true about cs e =
    none_of_failing (λ (c : ChannelRow). cond (about c) (Some c.word) None) about
    (λ c e. found_where (about c) c.word e) cs e
channels_unsaid false about [] e = refl
channels_unsaid false about (c ∷ cs) e = channels_unsaid false about cs refl

nothing_hidden : (par : Par) (entry : Entry) → says_of_hidden par entry ≡ false → hidden_word par entry ≡ None
unfolding said_word
nothing_hidden par entry e =
    let known = not (starting.is_unknown entry.fact) in
    let next = par.block +ℤ pos 1 in
    let about = λ (c : ChannelRow). is_about entry c.word in
    let parts = split known (is_about entry par.block) (is_about entry next) (list_any about par.channels) e in
    neither _ (first_of (λ (c : ChannelRow). said_word entry c.word) par.channels)
    (neither (said_word entry par.block) (said_word entry next)
    (found_where (known && is_about entry par.block) par.block parts.0)
    (found_where (known && is_about entry next) next parts.1.0))
    (channels_unsaid known about par.channels parts.1.1)

all_three : (a b c : Bool) → a ≡ true → b ≡ true → c ≡ true → (a && b && c) ≡ true
all_three true true true e f g = refl
all_three true true false e f g = absurd (cc)
all_three true false c e f g = absurd (cc)
all_three false b c e f g = absurd (cc)

label_after : (par : Par) (t : Label) → is_after par t ≡ true → label_fault par t ≡ None
label_after par t is =
    let e = and_parts _ (not (list_any (says_of_hidden par) t.entries)) is in
    let d = and_parts _ (is_silent (Alone t.stack.c)) e.0 in
    let c = and_parts _ (is_silent (Alone t.stack.b)) d.0 in
    let b = and_parts _ (is_silent (Alone t.stack.a)) c.0 in
    let a = and_parts (t.context == par.context) (is_same_number t.depth par.block) b.0 in
    let unsaid = all_three (is_unknown t.stack.a) (is_unknown t.stack.b) (is_unknown t.stack.c)
    (silent_unknown t.stack.a b.1) (silent_unknown t.stack.b c.1) (silent_unknown t.stack.c d.1) in
    neither _ (word_fault par t)
    (neither _ (register_fault par t)
    (neither (context_fault par t) (depth_fault par t)
    (found_unless (t.context == par.context) (faults.LabelContext par.successor) a.0)
    (found_unless (is_same_number t.depth par.block) _ a.1))
    (found_unless _ (faults.LabelRegister par.successor) unsaid))
    (none_mapped (faults.LabelWord par.successor) (first_of (hidden_word par) t.entries)
    (none_of_failing (hidden_word par) (says_of_hidden par) (nothing_hidden par) t.entries (not-true _ e.1)))

label_there : (par : Par) (o : Option Label)
    → (elim o as (λ o. Bool) [ None ↦ false | Some t ↦ is_after par t ]) ≡ true → successor_fault par o ≡ None
label_there par None is = absurd (cc)
label_there par (Some t) is = label_after par t is

-- ---- its turn

unless_same : (entry : ℕ) (o : Option ℕ) → o ≡ Some entry → starts.unless_next entry o ≡ None
unless_same entry None e = absurd (cc)
unless_same entry (Some other) e =
    let same : other ≡ entry = cc in
    found_unless (other == entry) (faults.OtherNext other) (eq-eqb other entry same)

-- the branch of a number begins where it does
entry_there : (branches : List Branch) (n : ℕ) (b : Branch) → slice_get branches n ≡ Some b
    → starts.entry_in branches n ≡ Some b.entry
entry_there branches n b e = ap (option_map (λ (b : Branch). b.entry)) e

module _ (m : Contents) (found : Found) (there : IsThere m found) where
  next_there : (mode : Mode) → is_next mode found ≡ true → starts.next_fault m mode (forked m found) ≡ None
  next_there Plain is =
      unless_same found.branch.entry _
      (entry_there found.par.branches 0 found.branch
      (subst (λ n. slice_get found.par.branches n ≡ Some found.branch) (eqb-true found.number 0 is) there.number))
  next_there Enabling is = absurd (cc)
  next_there (Disabling done) is = absurd (cc)
  next_there (Starting row started) is =
      let parts = and_parts (found.row == row) (found.number == started) is in
      let in_row : slice_get m.pars row ≡ Some found.par =
      subst (λ n. slice_get m.pars n ≡ Some found.par) (eqb-true found.row row parts.0) there.row in
      let numbered : slice_get found.par.branches started ≡ Some found.branch =
      subst (λ n. slice_get found.par.branches n ≡ Some found.branch) (eqb-true found.number started parts.1)
      there.number in
      unless_same found.branch.entry _
      (ap (λ o. starts.started_after o started) in_row ∙ entry_there found.par.branches started found.branch numbered)

  turn_there : (s : State) → is_in_turn s s.stack.a.fact found ≡ true
      → starts.turn_fault m s (forked m found) ≡ None
  turn_there s is =
      let d = and_parts _ (is_workspace found.branch.workspace s.stack.a.fact) is in
      let c = and_parts _ (is_same_number found.par.depth s.depth) d.0 in
      let b = and_parts (is_next s.mode found) (found.par.context == s.context) c.0 in
      neither _ (starts.workspace_fault s found.branch)
      (neither (starts.next_fault m s.mode (forked m found)) _
      (next_there s.mode b.0)
      (neither (starts.context_fault m s found.par) (starts.depth_fault s found.par)
      (found_unless (found.par.context == s.context) _ b.1)
      (found_unless (is_same_number found.par.depth s.depth) _ c.1)))
      (found_unless (is_workspace found.branch.workspace s.stack.a.fact) _ d.1)

-- ---- all

at_first_there : (m : Contents) (s : State) (par : Par) → at_first s.mode (may_open m s par) ≡ true
    → starts.first_fault m s par ≡ None
at_first_there m s par is = on (is_plain s.mode) is
  where
    opened : may_open m s par ≡ true
        → option_or (opening_fault m s par) (successor_fault par (label_at m par.successor)) ≡ None
    opened may =
        let parts = and_parts (is_prepared m s par) _ may in
        neither (opening_fault m s par) _ (all_prepared m s par parts.0)
        (label_there par (label_at m par.successor) parts.1)

    on : (b : Bool) → (not b || may_open m s par) ≡ true
        → cond b (option_or (opening_fault m s par) (successor_fault par (label_at m par.successor))) None ≡ None
    on true is = opened is
    on false is = refl

entry_labelled : (b : Branch) (o : Option Label) → is_some o ≡ true → starts.entry_fault b o ≡ None
entry_labelled b None is = absurd (cc)
entry_labelled b (Some t) is = refl

-- Nothing is named where all is so that `startp` asks by rule V12.
nothing_named : (m : Contents) (s : State) (found : Found) → IsThere m found → may_start m s found ≡ true
    → starts.start_fault m s (forked m found) ≡ None
unfolding starts.start_fault
nothing_named m s found there may =
    let d = and_parts _ (is_some (label_at m found.branch.entry)) may in
    let c = and_parts _ (at_first s.mode (may_open m s found.par)) d.0 in
    let b = and_parts (is_in_turn s s.stack.a.fact found) (may_give m s found) c.0 in
    let given = and_parts _ (leaves_hidden_words m (context_of m found) found.par) b.1 in
    let gifts_are = and_parts (may_give_words m s.context found.branch) _ given.0 in
    neither _ (starts.entry_fault found.branch (label_at m found.branch.entry))
    (neither _ (starts.first_fault m s found.par)
    (neither (starts.turn_fault m s (forked m found)) (starts.given_fault m s (forked m found))
    (turn_there m found there s b.0)
    (neither (gifts.gifts_fault m s.context found.branch) _
    (gifts_there m s found.branch gifts_are.0 gifts_are.1)
    (none_hidden m s (context_of m found) found.par given.1)))
    (at_first_there m s found.par c.1))
    (entry_labelled found.branch (label_at m found.branch.entry) d.1)

-- Where a condition is named, not all is so.
pub named_is_unmet : (m : Contents) (s : State) (found : Found) (fault : StartFault) → IsThere m found
    → starts.start_fault m s (forked m found) ≡ Some fault → may_start m s found ≡ false
named_is_unmet m s found fault there named =
    false_from_ne_true (may_start m s found)
    (λ may. let none = nothing_named m s found there may in absurd (cc))
