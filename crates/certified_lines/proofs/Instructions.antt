-- What each rule of straight code leaves, by its definition.
use Rattle.std.proofs.Common.{◌≡◌, ℕ, ◌*◌, ◌-◌, ◌≤◌, ℤ, pos, ◌+ℤ◌, ◌-ℤ◌, ◌*ℤ◌, Bool, true, false, cond}
use Rattle.std.proofs.Common.{if◌then◌else◌, Some, None, Option, refl, sym, ap, subst, arith}
use Rattle.std.proofs.lemmas.Bool.{le-ltb, le-leb}
use Rattle.std.proofs.lemmas.Bool.Decides.{Decides-int_eq}
use Rattle.std.proofs.lemmas.Int.{ints}
use Rattle.std.specs.Option.{option_map}
use Rattle.std.specs.Ordering.{int_eq}
use Rattle.prefix_decoder.specs.declared.function.Fun.{Fun}
use Rattle.prefix_decoder.specs.declared.function.Fun.TheVariants as fun
use Rattle.word_arithmetic.specs.Word.{least_word}
use Rattle.word_arithmetic.specs.Range.{Ends}
use Rattle.word_arithmetic.specs.Binary.{result_range}
use Rattle.word_arithmetic.specs.Unary.{unary_result_range}
use Rattle.word_arithmetic.specs.declared.binary.Binary.TheVariants as binary
use Rattle.word_arithmetic.specs.declared.unary.Unary.TheVariants as unary
use Rattle.module_format.specs.Rows.{Fact}
use Rattle.module_format.specs.declared.fact.Fact.TheVariants.{Unknown, Number}
use Rattle.certificate.specs.Rights.{may_write_word, may_read_word}
use Rattle.machine_state.specs.Instructions.{instruction_of, op_of}
use Rattle.states.specs.declared.known.Known.{Known}
use Rattle.states.specs.declared.known.Source.{Source}
use Rattle.states.specs.declared.known.Source.TheVariants.{Nowhere}
use Rattle.states.specs.declared.rule.Rule.TheVariants as rules
use Rattle.states.specs.State.{State, written}
use Rattle.rulings.specs.Rulings.{Ruling, Site, falls, breaks, outside_alternation, outside_starts, uses, reads_word}
use Rattle.rulings.specs.Rulings.{writes_word, pays, goes_on, pop}
use Rattle.local_rules.specs.LocalRules.{local_operation_rule, local_rule}
use Rattle.local_rules.specs.WordRules.{known_constant, becomes, range_of, number_in, unary_result_fact}
use Rattle.local_rules.specs.WordRules.{shift_range, word_as_known, result_fact, fact_of_two, result_source}
use Rattle.local_rules.specs.WordRules.{constant_source}
use Rattle.rulings.specs.Pointers.{near}
use Rattle.facts.specs.Rules.{rule, rule_of, instruction_rule, operation_rule}
use Rattle.code_pieces.specs.declared.operations.TheConstants.{MINIMUM_INTEGER}
use Rattle.code_pieces.specs.Pieces.{Direct, operates}
use Rattle.code_pieces.specs.Laying.{operand_at}
use Rattle.certified_lines.specs.StraightRules.{Setting, Told, done, next, table, state_of, with_pushed}
use Rattle.certified_lines.specs.Instructions.{with_a, with_result}
use Rattle.certified_lines.specs.Instructions.{PieceFalls, is_told, LeastWordIsKnown, ConstantsAreKnown}
use Rattle.certified_lines.specs.Instructions.{LoadedWordsAreKnown, StoredWordsAreKnown, AddressesAreKnown}
use Rattle.certified_lines.specs.Instructions.{TablesAreKnown, RegistersAreReversed, SumsWithConstantsAreKnown}
use Rattle.certified_lines.specs.Instructions.{ComparedConstantsAreKnown, TurnedBitsAreKnown, ResultsAreKnown}
use Rattle.certified_lines.specs.Instructions.{ShiftedWordsAreKnown, WaitingIsKnownBelow}
use Rattle.certified_lines.proofs.StraightRules.{fall_both}

-- an instruction whose rule leaves this, wherever it is
pub falls_by : {g : Setting} {f : Fun} {e : ℤ} {s t : Told}
    → ((at size number : ℕ) → size ≤ number
    → rule (record { contents = g.contents; at = at; length = size }) f (operand_at (pos g.depth) f e)
    (state_of g s number) ≡ falls (state_of g t (number - size)))
    → PieceFalls g (Direct f e) s t
falls_by leaves = next (record { falls = leaves }) done

-- ---- what rules are made of

told_by : (fact : Fact) (rest : Ruling) → is_told fact ≡ true
    → (elim fact as (λ f. Ruling) [ Unknown ↦ breaks rules.UnknownRegister | _ ↦ rest ]) ≡ rest
told_by Unknown rest told = absurd (cc)
told_by fact rest told = refl

-- a register of which something is known may be used
pub uses_told : (k : Known) (rest : Fact → Ruling) → is_told k.fact ≡ true → uses k rest ≡ rest k.fact
unfolding uses
uses_told k rest told = told_by k.fact (rest k.fact) told

reads_open : (site : Site) (s : State) (k : ℤ) (rest : Ruling) → may_read_word site.contents s.context k ≡ true
    → reads_word site s k rest ≡ rest
unfolding reads_word
reads_open site s k rest may = ap (λ (b : Bool). cond b rest (breaks rules.OwnWord)) may

pub writes_open : (site : Site) (s : State) (k : ℤ) (rest : Ruling) → may_write_word site.contents s.context k ≡ true
    → writes_word site s k rest ≡ rest
unfolding writes_word
writes_open site s k rest may = ap (λ (b : Bool). cond b rest (breaks rules.OwnWord)) may

-- an operand names its word at each workspace
word_named : (depth word : ℕ) → pos depth +ℤ (pos word -ℤ pos depth) ≡ pos word
word_named depth word = grind (arith, ints)

-- ---- constants and words of the frame

pub least_word_is_known : LeastWordIsKnown
unfolding rule rule_of instruction_rule operation_rule local_operation_rule instruction_of op_of outside_starts goes_on
    pays
least_word_is_known g s = falls_by (λ at size number pays. rw (le-ltb number size pays) refl)

pub constants_are_loaded : (g : Setting) (v : ℤ) (s : Told)
    → PieceFalls g (Direct fun.LoadConstant v) s (with_pushed (known_constant v) s)
unfolding rule rule_of instruction_rule local_rule instruction_of goes_on pays
constants_are_loaded g v s = falls_by (λ at size number pays. rw (le-ltb number size pays) refl)

constant_by : (g : Setting) (v : ℤ) (s : Told) (is_least : Bool) → (is_least ≡ true → v ≡ least_word)
    → PieceFalls g (if is_least then operates MINIMUM_INTEGER else Direct fun.LoadConstant v) s
    (with_pushed (known_constant v) s)
constant_by g v s true least =
    subst (λ (u : ℤ). PieceFalls g (operates MINIMUM_INTEGER) s (with_pushed (known_constant u) s)) (sym (least refl))
    (least_word_is_known g s)
constant_by g v s false least = constants_are_loaded g v s

pub constants_are_known : ConstantsAreKnown
constants_are_known g v s = constant_by g v s (int_eq v least_word) (λ is. (Decides-int_eq v least_word).0 is)

pub loaded_words_are_known : LoadedWordsAreKnown
unfolding rule rule_of instruction_rule local_rule instruction_of outside_starts goes_on pays
loaded_words_are_known g word s counts may =
    falls_by (λ at size number pays. rw (counts, word_named, reads_open, le-ltb number size pays) refl)

pub stored_words_are_known : StoredWordsAreKnown
unfolding rule rule_of instruction_rule local_rule instruction_of outside_alternation outside_starts written goes_on
    pays
stored_words_are_known g word s counts may told =
    falls_by (λ at size number pays. rw (uses_told, counts, word_named, writes_open, le-ltb number size pays) refl)

-- an address of a word is near
pub addresses_are_known : AddressesAreKnown
unfolding rule rule_of instruction_rule local_rule instruction_of near goes_on pays
addresses_are_known g word s counts small =
    let at_word : pos 4 *ℤ pos word ≡ pos (4 * word) = refl in
    falls_by (λ at size number pays. rw (
      counts,
      word_named,
      at_word,
      le-leb (4 * word) 16777216 small,
      le-ltb number size pays,
    ) refl)

pub tables_are_known : TablesAreKnown
tables_are_known g values s = table done

-- ---- operators

pub registers_are_reversed : RegistersAreReversed
unfolding rule rule_of instruction_rule operation_rule local_operation_rule instruction_of op_of outside_alternation
    outside_starts goes_on pays
registers_are_reversed g s = falls_by (λ at size number pays. rw (le-ltb number size pays) refl)

-- a number whose range leads to a fact is told
first_told : (fact : Fact) (results : Ends → Option Fact) (result : Fact)
    → (elim (range_of fact) as (λ o. Option Fact) [ None ↦ None | Some r ↦ results r ]) ≡ Some result
    → is_told fact ≡ true
first_told Unknown results result is = absurd (cc)
first_told fact results result is = refl

second_told : (o : Option Ends) (fact : Fact) (results : Ends → Ends → Option Fact) (result : Fact)
    → (elim o as (λ o. Option Fact) [
      | None ↦ None
      | Some r ↦ elim (range_of fact) as (λ o. Option Fact) [ None ↦ None | Some s ↦ results r s ]
    ]) ≡ Some result → is_told fact ≡ true
second_told None fact results result is = absurd (cc)
second_told (Some r) fact results result is = first_told fact (results r) result is

left_is_told : (results : Ends → Ends → Option Ends) (left right result : Fact)
    → fact_of_two results left right ≡ Some result → is_told left ≡ true
unfolding fact_of_two
left_is_told results left right result is = first_told left (λ r. elim (range_of right) as (λ o. Option Fact) [
  | None ↦ None
  | Some s ↦ option_map number_in (results r s)
]) result is

right_is_told : (results : Ends → Ends → Option Ends) (left right result : Fact)
    → fact_of_two results left right ≡ Some result → is_told right ≡ true
unfolding fact_of_two
right_is_told results left right result is =
    second_told (range_of left) right (λ r s. option_map number_in (results r s)) result is

module _ (g : Setting) (s : Told) (fact : Fact) (source : Source) (at size number : ℕ) (enough : size ≤ number) where
  abbrev site : Site
  site = record { contents = g.contents; at = at; length = size }

  -- A becomes what is found of it
  found_falls : (found : Fact → Option Fact) → is_told s.stack.a.fact ≡ true → found s.stack.a.fact ≡ Some fact
      → uses s.stack.a (λ a. becomes site (found a) source (state_of g s number))
      ≡ falls (state_of g (with_a (record { fact = fact; source = source }) s) (number - size))
  unfolding outside_alternation outside_starts becomes goes_on pays
  found_falls found told is = rw (uses_told, is, le-ltb number size enough) refl

  -- a result is in the place of B and A
  result_falls : (results : Ends → Ends → Option Ends) → fact_of_two results s.stack.b.fact s.stack.a.fact ≡ Some fact
      → uses s.stack.a (λ a. uses s.stack.b (λ b.
      becomes site (fact_of_two results b a) source (pop (state_of g s number))))
      ≡ falls (state_of g (with_result (record { fact = fact; source = source }) s) (number - size))
  unfolding outside_alternation outside_starts becomes goes_on pays
  result_falls results is =
      let left = left_is_told results s.stack.b.fact s.stack.a.fact fact is in
      let right = right_is_told results s.stack.b.fact s.stack.a.fact fact is in
      rw (uses_told, uses_told, is, le-ltb number size enough) refl

pub sums_with_constants_are_known : SumsWithConstantsAreKnown
unfolding rule rule_of instruction_rule local_rule instruction_of
sums_with_constants_are_known g e fact s is =
    let told = left_is_told (result_range binary.Add) s.stack.a.fact (Number e e) fact is in
    falls_by (λ at size number pays.
    found_falls g s fact Nowhere at size number pays (λ a. result_fact binary.Add a (Number e e)) told is)

pub compared_constants_are_known : ComparedConstantsAreKnown
unfolding rule rule_of instruction_rule local_rule instruction_of
compared_constants_are_known g e fact s is =
    let told = left_is_told (result_range binary.Equal) s.stack.a.fact (Number e e) fact is in
    falls_by (λ at size number pays.
    found_falls g s fact (constant_source binary.Equal s.stack.a e) at size number pays
    (λ a. result_fact binary.Equal a (Number e e)) told is)

pub turned_bits_are_known : TurnedBitsAreKnown
unfolding rule rule_of instruction_rule operation_rule local_operation_rule instruction_of op_of unary_result_fact
turned_bits_are_known g fact s is =
    let told = first_told s.stack.a.fact (λ r. option_map number_in (unary_result_range unary.Not r)) fact is in
    falls_by (λ at size number pays.
    found_falls g s fact Nowhere at size number pays (unary_result_fact unary.Not) told is)

pub results_are_known : ResultsAreKnown
unfolding rule rule_of instruction_rule operation_rule local_operation_rule instruction_of
results_are_known g operation op fact s named is =
    falls_by (λ at size number pays.
    rw named
    (result_falls g s fact (result_source op s.stack.b s.stack.a) at size number pays (result_range op) is))

pub shifted_words_are_known : ShiftedWordsAreKnown
unfolding rule rule_of instruction_rule operation_rule local_operation_rule instruction_of
shifted_words_are_known g operation op fact s named is =
    falls_by (λ at size number pays. rw named (result_falls g s fact Nowhere at size number pays (shift_range op) is))

pub ruleset words = (
  least_word_is_known,
  constants_are_known,
  loaded_words_are_known,
  stored_words_are_known,
  addresses_are_known,
  tables_are_known,
)

pub ruleset operators = (
  registers_are_reversed,
  sums_with_constants_are_known,
  compared_constants_are_known,
  turned_bits_are_known,
  results_are_known,
  shifted_words_are_known,
)

-- ---- several

pub waiting_is_known_below : WaitingIsKnownBelow
waiting_is_known_below g word s counts may =
    fall_both (loaded_words_are_known g word s counts may)
    (registers_are_reversed g (with_pushed (word_as_known (pos word) (s.frame (pos word))) s))
