-- A line that the command takes asks for something: its subcommand is there, and has the path.
use Rattle.std.proofs.Common.{◌≡◌, ℕ, zero, suc, ◌≤◌, ◌||◌, ◌&&◌, Bool, true, false, cond, not, List, [], ◌∷◌}
use Rattle.std.proofs.Common.{◌++◌, length, find, Option, Some, None, is_some, option_map, option_and_then, slice_get}
use Rattle.std.proofs.Common.{drop, fold, codes, refl, ap, subst, sym, ◌∙◌, arith, length-append}
use Rattle.std.specs.Option.{option_map_or}
use Rattle.std.specs.Str.{bytes_eq, chars}
use Rattle.std.specs.Prelude.{encode_utf8}
use Rattle.clap.specs.Lexer.{long_of, short_of}
use Rattle.clap.specs.Kinds.{Kinds, or_else, check_kinds}
use Rattle.clap.specs.Walk.{Text, Row, Rule, Held, Outcome, done, waits, plain, refused, Waiting, idle, option}
use Rattle.clap.specs.Walk.{positional, Step, next, trailing, subcommand, value, Walk, arg_by_id, arg_by_long}
use Rattle.clap.specs.Walk.{arg_by_short, arg_by_index, at_row, with_values, more_values, without, used_by_id, settled}
use Rattle.clap.specs.Walk.{settled_rows, reacted, pushed, option_met, long_met, short_met, bundle_step, bundle_met}
use Rattle.clap.specs.Walk.{attached_value, option_word, plain_word, after_flag, long_or_other, subcommand_met}
use Rattle.clap.specs.Walk.{subcommand_or_other, word_met, positional_held, is_pending, bundle, short_or_plain}
use Rattle.clap.specs.Walk.{walked_from, takes_several, to_positional, after_step, walked, walk, walk_from}
use Rattle.clap.specs.Walk.{nothing_held, first_of, finished}
use Rattle.clap.specs.Simple.{Shape, built, built_leaf, inherited, on_top, marked_built, new_rule, filled}
use Rattle.clap.specs.Simple.{with_index, help_rule, entered, rows_at, names_of, argument_words}
use Rattle.clap.specs.Walk.{rows_after, answers_to, with_default, default_rows, has_row, reading_by}
use Rattle.clap.specs.Facts.{explicit_source}
use Rattle.clap.specs.Takes.{is_given}
use Rattle.clap.specs.declared.builder.value_parser.Reading.{Reading}
use Rattle.clap.specs.declared.parser.matches.ValueSource.{ValueSource}
use Rattle.clap.specs.declared.parser.matches.ValueSource.TheVariants.{CommandLine, DefaultValue}
use Rattle.clap.specs.declared.builder.action.ArgAction.TheVariants.{Set, SetTrue}
use Rattle.clap.specs.declared.builder.value_parser.ValueParser.TheVariants as vp
use Rattle.clap.specs.Faults.{fault_of, entered_fault, level_fault, check_fault, walk_fault, turn_fault, step_fault}
use Rattle.clap.specs.Faults.{word_fault, other_fault, flag_word_fault, positional_fault, use_fault, settle_fault}
use Rattle.clap.specs.Faults.{react_fault, option_fault, long_fault, short_fault, bundle_step_fault, flags_fault}
use Rattle.clap.specs.Faults.{bundle_fault, stray_fault, defaults_fault}
use Rattle.command_line.specs.Links.{input_names, output_names}
use Rattle.command_line.specs.Asked.{Asked, compiles, upgrades, verifies, runs, debugs, lists, explains}
use Rattle.command_line.specs.CommandLine.{path_rule, paths_given, flag_given}
use Rattle.command_line.specs.CommandLine.{compile_shape, upgrade_shape, subcommand_shape, run_shape, debug_shape, tpm}
use Rattle.command_line.specs.CommandLine.{named, option_rule, flag_rule, entered_by, unless_faulty, compiled_by}
use Rattle.command_line.specs.CommandLine.{upgraded_by, debugged_by, of_module, taken_for}

-- ---- the arguments of a subcommand

-- an argument that is filled in, and takes one value in each use
abbrev value_rule : Text → Option Text → Option ℕ → ℕ → Bool → Rule
value_rule id long index names required = record (new_rule id) {
  long = long;
  index = index;
  action = Some Set;
  range = Some (record { start_inclusive = 1; end_inclusive = 1 });
  value_names = names;
  parser = Some vp.String;
  required = required;
}

abbrev help_flag : Rule
help_flag = filled help_rule

-- a flag that is true where it is used
abbrev used_flag : Text → Rule
used_flag name = filled (flag_rule name)

-- the arguments that a look-up can find
data IsOurs : Option Rule → Type 0 where
  no_rule : IsOurs None
  a_value : (id : Text) (long : Option Text) (index : Option ℕ) (names : ℕ) (required : Bool)
      → IsOurs (Some (value_rule id long index names required))
  a_flag : (name : Text) → IsOurs (Some (used_flag name))
  the_flag : IsOurs (Some help_flag)

abbrev AllOurs : List Rule → Type 0
AllOurs [] = Unit {0}
AllOurs (r ∷ rs) = IsOurs (Some r) × AllOurs rs

either : (b : Bool) (o other : Option Rule) → IsOurs o → IsOurs other → IsOurs (cond b o other)
either true o other is later = is
either false o other is later = later

-- what is found among them is one of them
found_ours : (passes : Rule → Bool) (rs : List Rule) → AllOurs rs → IsOurs (find passes rs)
found_ours passes [] all = no_rule
found_ours passes (r ∷ rs) all =
    either (passes r) (Some r) (find passes rs) all.0 (found_ours passes rs all.1)

-- ---- rows with values

-- each row has a value
abbrev AllValued : List Row → Type 0
AllValued [] = Unit {0}
AllValued (r ∷ rs) = (1 ≤ length r.values) × AllValued rs

valued-append : (xs ys : List Row) → AllValued xs → AllValued ys → AllValued (xs ++ ys)
valued-append [] ys a b = b
valued-append (x ∷ xs) ys a b = (a.0, valued-append xs ys a.1 b)

valued-cond : (b : Bool) (xs ys : List Row) → AllValued xs → AllValued ys → AllValued (cond b xs ys)
valued-cond true xs ys a b = a
valued-cond false xs ys a b = b

valued-at_row : (id : Text) (change : Row → List Row) (missing rows : List Row)
    → ((r : Row) → 1 ≤ length r.values → AllValued (change r)) → AllValued missing
    → AllValued rows → AllValued (at_row id change missing rows)
valued-at_row id change missing [] changes misses all = misses
valued-at_row id change missing (r ∷ rs) changes misses all =
    valued-cond (bytes_eq r.id id) (change r ++ rs) (r ∷ at_row id change missing rs)
    (valued-append (change r) rs (changes r all.0) all.1)
    (all.0, valued-at_row id change missing rs changes misses all.1)

-- a use that adds at least one value
valued-with_values : (id : Text) (how : Reading) (s : ValueSource) (v : Text) (vs : List Text) (rows : List Row)
    → AllValued rows
    → AllValued (with_values id how s (v ∷ vs) rows)
valued-with_values id how s v vs rows all =
    valued-at_row id (more_values s (v ∷ vs))
    (record { id = id; values = v ∷ vs; count = None; source = Some s; reading = how } ∷ []) rows
    (λ r has. let more : 1 ≤ length (r.values ++ v ∷ vs) = rw length-append (omega arith) in (more, tt))
    (omega arith, tt) all

-- a use of an argument
valued-used : (o : Option Rule) (again : Bool) (values : List Text) (rows : List Row) → IsOurs o
    → option_map_or (λ a. use_fault again a values rows) o [] ≡ []
    → AllValued rows → AllValued (used_by_id o values rows)
valued-used o again values rows no_rule fault all = all
valued-used o again values rows the_flag fault all = all
valued-used o again [] rows (a_flag name) fault all =
    valued-with_values name _ CommandLine (codes "true") [] (without name rows)
    (valued-at_row name (λ _. []) [] rows (λ r has. tt) tt all)
valued-used o again (v ∷ vs) rows (a_flag name) fault all =
    valued-with_values name _ CommandLine v vs (without name rows)
    (valued-at_row name (λ _. []) [] rows (λ r has. tt) tt all)
valued-used o again [] rows (a_value id long index names required) fault all = absurd (cc)
valued-used o again (v ∷ vs) rows (a_value id long index names required) fault all =
    valued-with_values id _ CommandLine v vs (without id rows)
    (valued-at_row id (λ _. []) [] rows (λ r has. tt) tt all)

both_empty : (a b : Kinds) → or_else a b ≡ [] → (a ≡ []) × (b ≡ [])
both_empty [] b e = (refl, e)
both_empty (k ∷ ks) b e = absurd (cc)

-- a subcommand's arguments
module _ (rules : List Rule) (ours : AllOurs rules) where
  by_id : (id : Text) → IsOurs (arg_by_id rules id)
  by_id id = found_ours _ rules ours

  by_long : (name : Text) → IsOurs (arg_by_long rules name)
  by_long name = found_ours _ rules ours

  by_short : (x : ℕ) → IsOurs (arg_by_short rules x)
  by_short x = found_ours _ rules ours

  -- the pending argument is used
  valued-settled : (again : Bool) (h : Held) → settle_fault rules again h ≡ [] → AllValued h.rows
      → AllValued (settled rules h).rows
  valued-settled again h = go h.pending
    where
      go : (p : Option (Text × List Text))
          → option_map_or (λ q. option_map_or (λ a. use_fault again a q.1 h.rows) (arg_by_id rules q.0) []) p [] ≡ []
          → AllValued h.rows → AllValued (settled_rows rules p h.rows)
      go None fault all = all
      go (Some q) fault all = valued-used (arg_by_id rules q.0) again q.1 h.rows (by_id q.0) fault all

  -- and then this one
  valued-reacted : (again : Bool) (a : Rule) (values : List Text) (h : Held) → IsOurs (Some a)
      → react_fault rules again a values h ≡ []
      → AllValued h.rows → AllValued (reacted rules a values h).rows
  valued-reacted again a values h is fault all =
      let parts = both_empty (settle_fault rules again h) (use_fault again a values (settled rules h).rows) fault in
      valued-used (Some a) again values (settled rules h).rows is parts.1 (valued-settled again h parts.0 all)

  -- ---- words

  -- an option with or without a value attached
  valued-option : (a : Rule) (again : Bool) (v : Option Text) (h : Held) → IsOurs (Some a)
      → option_fault rules again a v h ≡ [] → AllValued h.rows
      → AllValued ((option_met rules a v h).0).rows
  valued-option a again None h is fault all = valued-settled again h fault all
  valued-option a again (Some v) h is fault all = valued-reacted again a (v ∷ []) h is fault all

  -- `--name`
  valued-long : (o : Option Rule) (again : Bool) (v : Option Text) (h : Held) → IsOurs o
      → long_fault rules again o v h ≡ [] → AllValued h.rows
      → AllValued ((long_met rules o v h).0).rows
  valued-long o again v h no_rule fault all = all
  valued-long o again v h (a_value id long index names required) fault all =
      valued-option (value_rule id long index names required) again v h (a_value id long index names required) fault all
  valued-long o again None h (a_flag name) fault all = valued-reacted again (used_flag name) [] h (a_flag name) fault all
  valued-long o again (Some v) h (a_flag name) fault all = all
  valued-long o again None h the_flag fault all = valued-reacted again help_flag [] h the_flag fault all
  valued-long o again (Some v) h the_flag fault all = all

  -- one letter of `-abc`
  valued-short : (o : Option Rule) (again : Bool) (rest : Text) (h : Held) (after : Held → Held × Outcome)
      (after_fault : Held → Kinds) → IsOurs o
      → ((k : Held) → after_fault k ≡ [] → AllValued k.rows → AllValued ((after k).0).rows)
      → short_fault rules again o rest h after_fault ≡ [] → AllValued h.rows
      → AllValued ((short_met rules o rest h after).0).rows
  valued-short o again rest h after after_fault no_rule later fault all = all
  valued-short o again rest h after after_fault (a_value id long index names required) later fault all =
      valued-option (value_rule id long index names required) again (attached_value rest) h
      (a_value id long index names required) fault all
  valued-short o again rest h after after_fault (a_flag name) later fault all =
      let flag = used_flag name in
      let parts = both_empty (react_fault rules again flag [] h) (after_fault (reacted rules flag [] h)) fault in
      later (reacted rules flag [] h) parts.1 (valued-reacted again flag [] h (a_flag name) parts.0 all)
  valued-short o again rest h after after_fault the_flag later fault all =
      let parts =
      both_empty (react_fault rules again help_flag [] h) (after_fault (reacted rules help_flag [] h)) fault in
      later (reacted rules help_flag [] h) parts.1 (valued-reacted again help_flag [] h the_flag parts.0 all)

  valued-letter : (o : Option ℕ) (again : Bool) (flags : Text) (skip : ℕ) (so_far : Outcome) (h : Held)
      (after : Text → ℕ → Outcome → Held → Held × Outcome)
      (after_fault : Text → ℕ → Held → Kinds)
      → ((t : Text) (n : ℕ) (s : Outcome) (k : Held) → after_fault t n k ≡ [] → AllValued k.rows
      → AllValued ((after t n s k).0).rows)
      → bundle_step_fault rules again o flags skip h after_fault ≡ [] → AllValued h.rows
      → AllValued ((bundle_step rules o flags skip so_far h after).0).rows
  valued-letter None again flags skip so_far h after after_fault later fault all = all
  valued-letter (Some x) again flags zero so_far h after after_fault later fault all =
      let rest = drop (length (encode_utf8 x)) flags in
      valued-short (arg_by_short rules x) again rest h (after rest 0 done) (after_fault rest 0) (by_short x)
      (later rest 0 done) fault all
  valued-letter (Some x) again flags (suc skip) so_far h after after_fault later fault all =
      later _ skip so_far h fault all

  valued-bundle : (again : Bool) (k : ℕ) (flags : Text) (skip : ℕ) (so_far : Outcome) (h : Held)
      → flags_fault rules again k flags skip h ≡ [] → AllValued h.rows
      → AllValued ((bundle_met rules k flags skip so_far h).0).rows
  unfolding bundle_met flags_fault
  valued-bundle again zero flags skip so_far h fault all = all
  valued-bundle again (suc k) flags skip so_far h fault all =
      valued-letter (slice_get (chars flags) 0) again flags skip so_far h (bundle_met rules k)
      (flags_fault rules again k) (valued-bundle again k) fault all

  -- a word that is no flag
  valued-plain : (waiting : Waiting) (word : Text) (h : Held) → AllValued h.rows
      → AllValued ((plain_word rules waiting word h).0).rows
  valued-plain idle word h all = all
  valued-plain positional word h all = all
  valued-plain (option id) word h all = go (arg_by_id rules id)
    where
      go : (o : Option Rule) → AllValued ((option_word o id word h).0).rows
      go None = all
      go (Some a) = all

  valued-after_flag : (waiting : Waiting) (word : Text) (h : Held) (outcome : Outcome) → AllValued h.rows
      → AllValued ((after_flag rules waiting word h outcome).0).rows
  valued-after_flag waiting word h done all = all
  valued-after_flag waiting word h (waits id) all = all
  valued-after_flag waiting word h plain all = valued-plain waiting word h all
  valued-after_flag waiting word h refused all = valued-plain waiting word h all

  valued-other : (again : Bool) (o : Option (Text × Option Text)) (waiting : Waiting) (word : Text) (h : Held)
      → flag_word_fault rules again o word h ≡ []
      → AllValued h.rows → AllValued ((long_or_other rules waiting word o h).0).rows
  valued-other again (Some p) waiting word h fault all =
      let met = long_met rules (arg_by_long rules p.0) p.1 h in
      valued-after_flag waiting word met.0 met.1
      (valued-long (arg_by_long rules p.0) again p.1 h (by_long p.0) fault all)
  valued-other again None waiting word h fault all = go (short_of word) fault
    where
      go : (s : Option Text) → option_map_or (λ flags. bundle_fault rules again flags h) s [] ≡ []
          → AllValued ((short_or_plain rules waiting word s h).0).rows
      go None f = valued-plain waiting word h all
      go (Some flags) f =
          let met = bundle rules flags h in
          valued-after_flag waiting word met.0 met.1
          (valued-bundle again (length flags) flags h.skip plain (record h { skip = 0 }) f all)

  -- the word goes to a positional
  valued-positional : (again : Bool) (a : Rule) (word : Text) (h : Held) → positional_fault rules again a h ≡ []
      → AllValued h.rows
      → AllValued (positional_held rules a word h).rows
  valued-positional again a word h = go (is_pending a h.pending && takes_several a)
    where
      go : (b : Bool) → cond b [] (settle_fault rules again h) ≡ [] → AllValued h.rows
          → AllValued (pushed a.id word (cond b h (settled rules h))).rows
      go true fault all = all
      go false fault all = valued-settled again h fault all

-- ---- the walk over a subcommand's words

no_subcommand : (waiting : Waiting) (word : Text) → subcommand_met [] waiting word ≡ None
no_subcommand idle word = refl
no_subcommand (option id) word = refl
no_subcommand positional word = refl

module _ (s : Shape) (ours : AllOurs s.rules) where
  valued-word : (is_trailing : Bool) (waiting : Waiting) (position : ℕ) (word : Text) (h : Held)
      → word_fault s [] is_trailing waiting word h ≡ []
      → AllValued h.rows → AllValued ((word_met s.rules [] is_trailing waiting position word h).0).rows
  valued-word true waiting position word h fault all = all
  valued-word false waiting position word h fault all =
      go (subcommand_met [] waiting word) (no_subcommand waiting word) fault
    where
      dashes : (b : Bool) → cond b [] (flag_word_fault s.rules s.args_override_self (long_of word) word h) ≡ []
          → AllValued ((cond b (h, trailing position) (long_or_other s.rules waiting word (long_of word) h)).0).rows
      dashes true f = all
      dashes false f = valued-other s.rules ours s.args_override_self (long_of word) waiting word h f all

      go : (o : Option Text) → o ≡ None → other_fault s o word h ≡ []
          → AllValued ((subcommand_or_other s.rules o waiting position word h).0).rows
      go None is f = dashes (bytes_eq word (45 ∷ 45 ∷ [])) f
      go (Some found) is f = absurd (cc)

  valued-step : (word : Text) (w : Walk) (h : Held) (step : Step) → step_fault s w.position h step ≡ []
      → AllValued h.rows
      → AllValued (after_step s.rules word w h step).held.rows
  valued-step word w h (next waiting) fault all = all
  valued-step word w h (trailing position) fault all = all
  valued-step word w h (subcommand found) fault all = all
  valued-step word w h value fault all = go (arg_by_index s.rules w.position) fault
    where
      go : (o : Option Rule)
          → option_map_or (λ a. positional_fault s.rules s.args_override_self a h) o (stray_fault s) ≡ []
          → AllValued (to_positional s.rules o word w h).held.rows
      go None f = all
      go (Some a) f = valued-positional s.rules ours s.args_override_self a word h f all

  valued-turn : (word : Text) (w : Walk) → turn_fault s [] w word ≡ [] → AllValued w.held.rows
      → AllValued (walked s.rules [] w word).held.rows
  unfolding walked
  valued-turn word w fault all = go w.stopped fault
    where
      met : Held × Step
      met = word_met s.rules [] w.is_trailing w.waiting w.position word w.held

      go : (o : Option (Text × List Text))
          → cond (is_some o) [] (or_else (word_fault s [] w.is_trailing w.waiting word w.held)
          (step_fault s w.position met.0 met.1)) ≡ []
          → AllValued (walked_from s.rules [] o w word).held.rows
      go (Some p) f = all
      go None f =
          let parts = both_empty (word_fault s [] w.is_trailing w.waiting word w.held)
          (step_fault s w.position met.0 met.1) f in
          valued-step word w met.0 met.1 parts.1
          (valued-word w.is_trailing w.waiting w.position word w.held parts.0 all)

  valued-walk : (words : List Text) (w : Walk) → walk_fault s [] w words ≡ []
      → AllValued w.held.rows
      → AllValued (fold (walked s.rules []) w words).held.rows
  unfolding walk_fault
  valued-walk [] w fault all = all
  valued-walk (word ∷ words) w fault all =
      let parts = both_empty (turn_fault s [] w word)
      (walk_fault s [] (walked s.rules [] w word) words) fault in
      valued-walk words (walked s.rules [] w word) parts.1 (valued-turn word w parts.0 all)

-- a default is a value
valued-default : (r : Rule) (rows : List Row) → IsOurs (Some r) → AllValued rows → AllValued (with_default rows r)
valued-default r rows (a_value id long index names required) all = valued-cond (has_row id rows) rows rows all all
valued-default r rows (a_flag name) all =
    let how = reading_by (used_flag name) in
    valued-cond (has_row name rows) rows (default_rows name how (codes "false" ∷ []) rows) all
    (valued-with_values name how DefaultValue (codes "false") [] rows all)
valued-default r rows the_flag all = valued-cond (has_row (codes "help") rows) rows rows all all

valued-defaults : (rules : List Rule) → AllOurs rules → (rows : List Row) → AllValued rows
    → AllValued (fold with_default rows rules)
valued-defaults [] ours rows all = all
valued-defaults (r ∷ rs) ours rows all =
    valued-defaults rs ours.1 (with_default rows r) (valued-default r rows ours.0 all)

-- ---- what is given

-- what is given has a value
given_value : (id : Text) (rows : List Row) → AllValued rows → is_given id rows ≡ true
    → (text : Text) × (first_of id rows ≡ Some text)
given_value id [] all is = absurd (cc)
given_value id (r ∷ rs) all is = go (bytes_eq r.id id) (given_value id rs all.1) r.values all.0 is
  where
    go : (b : Bool) → (is_given id rs ≡ true → (text : Text) × (first_of id rs ≡ Some text)) → (values : List Text)
        → 1 ≤ length values
        → option_map_or (λ x. explicit_source x.source) (cond b (Some r) (find (λ x. bytes_eq x.id id) rs)) false ≡ true
        → (text : Text) × (option_and_then (λ (x : Row). slice_get x.values 0)
        (cond b (Some (record r { values = values })) (find (λ x. bytes_eq x.id id) rs)) ≡ Some text)
    go true later [] has e = absurd (omega arith)
    go true later (v ∷ vs) has e = (v, refl)
    go false later values has e = later e

-- a required argument that is not missed is given
is_there : (b : Bool) → check_kinds false false (not b || false) ≡ [] → b ≡ true
is_there true fault = refl
is_there false fault = cc

-- the first and the second one of two
first_there : (b c : Bool) → check_kinds false false (not b || (not c || false)) ≡ [] → b ≡ true
first_there true c fault = refl
first_there false c fault = cc

second_there : (b c : Bool) → check_kinds false false (not b || (not c || false)) ≡ [] → c ≡ true
second_there true true fault = refl
second_there true false fault = cc
second_there false c fault = absurd (cc)

-- a subcommand that requires this path
record IsLeaf (id : Text) (s : Shape) : Type 0 where
  ours : AllOurs s.rules
  misses : (rows : List Row) → check_fault s rows false ≡ [] → is_given id rows ≡ true

path_given : (id : Text) (s : Shape) (words : List Text) → IsLeaf id s
    → level_fault s [] nothing_held words false [] ≡ []
    → (path : Text) × (first_of id (rows_after s.rules [] words) ≡ Some path)
path_given id s words is fault =
    let end = (walk s.rules [] nothing_held words).held in
    let outer = both_empty (walk_fault s [] (walk_from nothing_held) words) _ fault in
    let inner = both_empty (settle_fault s.rules s.args_override_self end) _ outer.1 in
    let last = both_empty (defaults_fault (settled s.rules end).rows s.rules) _ inner.1 in
    let all = valued-settled s.rules is.ours s.args_override_self end inner.0
    (valued-walk s is.ours words (walk_from nothing_held) outer.0 tt) in
    let valued : AllValued (finished s.rules end) =
    valued-defaults s.rules is.ours (settled s.rules end).rows all in
    given_value id (finished s.rules end) valued (is.misses (finished s.rules end) last.1)

-- ---- the subcommands

-- a subcommand as it is when the command is built
abbrev leaf : Shape → Shape
leaf s = built_leaf (inherited (on_top marked_built tpm).top s)

abbrev plain_leaf : Text → Shape
plain_leaf name = leaf (subcommand_shape name)

abbrev run_leaf : Shape
run_leaf = leaf run_shape

abbrev debug_leaf : Shape
debug_leaf = leaf debug_shape

abbrev compile_leaf : Shape
compile_leaf = leaf compile_shape

abbrev upgrade_leaf : Shape
upgrade_leaf = leaf upgrade_shape

path_ours : (name : Text) (index : ℕ) → IsOurs (Some (with_index index (filled (path_rule name))))
path_ours name index = a_value name None (Some index) 0 true

two_ours : (read written : Text)
    → AllOurs (with_index 1 (filled (path_rule read)) ∷ with_index 2 (filled (path_rule written)) ∷ help_flag ∷ [])
two_ours read written = (path_ours read 1, (path_ours written 2, (the_flag, tt)))

-- a subcommand that requires two paths
two_required : (read written : Text) (s : Shape) → AllOurs s.rules
    → ((rows : List Row) → check_fault s rows false
    ≡ check_kinds false false (not (is_given read rows) || (not (is_given written rows) || false)))
    → IsLeaf read s × IsLeaf written s
two_required read written s ours faults = (
  record {
    ours = ours;
    misses = λ rows fault. first_there (is_given read rows) (is_given written rows) (sym (faults rows) ∙ fault);
  },
  record {
    ours = ours;
    misses = λ rows fault. second_there (is_given read rows) (is_given written rows) (sym (faults rows) ∙ fault);
  },
)

compile_is_leaf : IsLeaf (codes "SRC") compile_leaf × IsLeaf (codes "OUT") compile_leaf
compile_is_leaf =
    two_required (codes "SRC") (codes "OUT") compile_leaf (two_ours (codes "SRC") (codes "OUT")) (λ rows. refl)

upgrade_is_leaf : IsLeaf (codes "OLD") upgrade_leaf × IsLeaf (codes "NEW") upgrade_leaf
upgrade_is_leaf =
    two_required (codes "OLD") (codes "NEW") upgrade_leaf (two_ours (codes "OLD") (codes "NEW")) (λ rows. refl)

option_ours : (name : Text) → IsOurs (Some (filled (option_rule name)))
option_ours name = a_value name (Some name) None 1 false

plain_is_leaf : (name : Text) → IsLeaf (codes "MOD") (plain_leaf name)
plain_is_leaf name = record {
  ours = (path_ours (codes "MOD") 1, (the_flag, tt));
  misses = λ rows. is_there (is_given (codes "MOD") rows);
}

-- the options for the links, before these arguments
links_ours : (rules : List Rule) → AllOurs rules
    → AllOurs (filled (option_rule (codes "in0")) ∷ filled (option_rule (codes "in1"))
    ∷ filled (option_rule (codes "in2")) ∷ filled (option_rule (codes "in3")) ∷ filled (option_rule (codes "out0"))
    ∷ filled (option_rule (codes "out1")) ∷ filled (option_rule (codes "out2")) ∷ filled (option_rule (codes "out3"))
    ∷ rules)
links_ours rules ours = (
  option_ours (codes "in0"),
  (
    option_ours (codes "in1"),
    (
      option_ours (codes "in2"),
      (
        option_ours (codes "in3"),
        (
          option_ours (codes "out0"),
          (
            option_ours (codes "out1"),
            (
              option_ours (codes "out2"),
              (option_ours (codes "out3"), ours),
            ),
          ),
        ),
      ),
    ),
  ),
)

run_is_leaf : IsLeaf (codes "MOD") run_leaf
run_is_leaf = record {
  ours = (path_ours (codes "MOD") 1, links_ours (help_flag ∷ []) (the_flag, tt));
  misses = λ rows. is_there (is_given (codes "MOD") rows);
}

debug_is_leaf : IsLeaf (codes "FILE") debug_leaf
debug_is_leaf = record {
  ours = (
    path_ours (codes "FILE") 1,
    links_ours (filled (option_rule (codes "bytes")) ∷ used_flag (codes "trace") ∷ help_flag ∷ [])
        (option_ours (codes "bytes"), (a_flag (codes "trace"), (the_flag, tt))),
  );
  misses = λ rows. is_there (is_given (codes "FILE") rows);
}

-- ---- the whole line

-- the subcommand that has the name, by which one has
abbrev among : Bool → Bool → Bool → Bool → Bool → Bool → Bool → Option Shape
among a b c g d x u =
    cond a (Some compile_leaf)
    (cond b (Some (plain_leaf (codes "verify")))
    (cond c (Some run_leaf)
    (cond g (Some debug_leaf)
    (cond d (Some (plain_leaf (codes "list")))
    (cond x (Some (plain_leaf (codes "explain"))) (cond u (Some upgrade_leaf) None))))))

-- what is asked for where both paths are given
both_given : (ask : Text → Text → Asked) (read_name written_name : Text) (rows : List Row) (read written : Text)
    → first_of read_name rows ≡ Some read → first_of written_name rows ≡ Some written
    → option_and_then (λ r. option_map (ask r) (first_of written_name rows)) (first_of read_name rows)
    ≡ Some (ask read written)
both_given ask read_name written_name rows read written is_read is_written =
    ap (option_and_then (λ r. option_map (ask r) (first_of written_name rows))) is_read
    ∙ ap (option_map (ask read)) is_written

-- the rows that a subcommand has at its words
abbrev rows_of_leaf : Shape → List Text → List Row
rows_of_leaf s words = rows_after s.rules [] words

-- what a subcommand that requires two paths asks for
two_given : (ask : Text → Text → Asked) (read_name written_name : Text) (s : Shape) (words : List Text)
    → IsLeaf read_name s × IsLeaf written_name s → level_fault s [] nothing_held words false [] ≡ []
    → (asked : Asked) × (option_and_then (λ r. option_map (ask r) (first_of written_name (rows_of_leaf s words)))
    (first_of read_name (rows_of_leaf s words)) ≡ Some asked)
two_given ask read_name written_name s words required fault =
    let read = path_given read_name s words required.0 fault in
    let written = path_given written_name s words required.1 fault in (
      ask read.0 written.0,
      both_given ask read_name written_name (rows_of_leaf s words) read.0 written.0 read.1 written.1,
    )

-- what a subcommand that asks one thing of the module of its path asks for
one_given : (name : Text) (ask : Text → Asked) (words : List Text)
    → ((path : Text) → named name (rows_of_leaf (plain_leaf name) words) path ≡ Some (ask path))
    → level_fault (plain_leaf name) [] nothing_held words false [] ≡ []
    → (asked : Asked) × (of_module name (rows_of_leaf (plain_leaf name) words) ≡ Some asked)
one_given name ask words asks fault =
    let path = path_given (codes "MOD") (plain_leaf name) words (plain_is_leaf name) fault in (
      ask path.0,
      ap (option_and_then (named name (rows_of_leaf (plain_leaf name) words))) path.1 ∙ asks path.0,
    )

entered_given : (stop : Option (Text × List Text)) → entered_fault (built tpm) stop ≡ []
    → is_some (entered (built tpm) stop) ≡ true
    → (asked : Asked) × (option_and_then entered_by (entered (built tpm) stop) ≡ Some asked)
entered_given None fault is = absurd (cc)
entered_given (Some p) fault is = go (answers_to p.0 (codes "compile", [])) (answers_to p.0 (codes "verify", []))
    (answers_to p.0 (codes "run", [])) (answers_to p.0 (codes "debug", [])) (answers_to p.0 (codes "list", []))
    (answers_to p.0 (codes "explain", [])) (answers_to p.0 (codes "upgrade", [])) fault is
  where
    go : (a b c g d x u : Bool)
        → option_map_or (λ s. level_fault s [] nothing_held p.1 false []) (among a b c g d x u) [] ≡ []
        → is_some (option_map (λ s. rows_at s p.1) (among a b c g d x u)) ≡ true
        → (asked : Asked)
        × (option_and_then entered_by (option_map (λ s. rows_at s p.1) (among a b c g d x u)) ≡ Some asked)
    go true b c g d x u f e =
        two_given compiles (codes "SRC") (codes "OUT") compile_leaf p.1 compile_is_leaf f
    go false true c g d x u f e =
        one_given (codes "verify") verifies p.1 (λ path. refl) f
    go false false true g d x u f e =
        let path = path_given (codes "MOD") run_leaf p.1 run_is_leaf f in
        let rows = rows_of_leaf run_leaf p.1 in (
          runs path.0 (paths_given input_names rows) (paths_given output_names rows),
          ap (option_and_then (named (codes "run") rows)) path.1,
        )
    go false false false true d x u f e =
        let path = path_given (codes "FILE") debug_leaf p.1 debug_is_leaf f in
        let rows = rows_of_leaf debug_leaf p.1 in (
          debugs path.0 (paths_given input_names rows) (paths_given output_names rows)
              (first_of (codes "bytes") rows) (flag_given (codes "trace") rows),
          ap (option_map (λ file. debugs file (paths_given input_names rows) (paths_given output_names rows)
              (first_of (codes "bytes") rows) (flag_given (codes "trace") rows))) path.1,
        )
    go false false false false true x u f e =
        one_given (codes "list") lists p.1 (λ path. refl) f
    go false false false false false true u f e =
        one_given (codes "explain") explains p.1 (λ path. refl) f
    go false false false false false false true f e =
        two_given upgrades (codes "OLD") (codes "NEW") upgrade_leaf p.1 upgrade_is_leaf f
    go false false false false false false false f e = absurd (cc)

-- a subcommand that is not missed is there
is_entered : (rows : List Row) (b : Bool) → check_fault (built tpm).top rows b ≡ [] → b ≡ true
is_entered rows true fault = refl
is_entered rows false fault = absurd (cc)

pub given : (words : List Text) → fault_of tpm words ≡ [] → (asked : Asked) × (taken_for words ≡ Some asked)
given words fault =
    let a = built tpm in
    let args = argument_words tpm words in
    let end = walk a.top.rules (names_of a) nothing_held args in
    let outer = both_empty (walk_fault a.top (names_of a) (walk_from nothing_held) args) _ fault in
    let inner = both_empty (entered_fault a end.stopped) _ outer.1 in
    let settling = both_empty (settle_fault a.top.rules a.top.args_override_self end.held) _ inner.1 in
    let last = both_empty (defaults_fault (settled a.top.rules end.held).rows a.top.rules) _ settling.1 in
    let asked = entered_given end.stopped inner.0 (is_entered (finished a.top.rules end.held)
    (is_some (entered a end.stopped)) last.1) in (
      asked.0,
      ap (λ (kinds : Kinds). unless_faulty kinds (option_and_then entered_by (entered a end.stopped))) fault
          ∙ asked.1,
    )
