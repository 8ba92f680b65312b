-- What the rules leave that use an address.
use Rattle.std.proofs.Common.{◌≡◌, ℕ, ◌-◌, ◌≤◌, ℤ, pos, ◌*ℤ◌, Bool, true, false, cond, Result, Ok, refl, ap}
use Rattle.std.proofs.lemmas.Bool.{le-ltb}
use Rattle.module_format.specs.Rows.{Fact}
use Rattle.module_format.specs.declared.fact.Fact.TheVariants.{Unknown}
use Rattle.module_format.specs.declared.fact.Region.{Region}
use Rattle.module_format.specs.declared.fact.Step.{Step}
use Rattle.module_format.specs.declared.fact.Step.TheVariants.{Byte, Word}
use Rattle.module_format.specs.Regions.{is_frame}
use Rattle.module_format.specs.Stack.{mapped}
use Rattle.machine_state.specs.Instructions.{instruction_of, op_of}
use Rattle.states.specs.declared.rule.Rule.{Rule}
use Rattle.states.specs.declared.rule.Rule.TheVariants as rules
use Rattle.states.specs.declared.span.Leaving.{Leaving}
use Rattle.states.specs.Spans.{after_change, on_span, is_in_span}
use Rattle.states.specs.State.{State, known, forgets, changed}
use Rattle.rulings.specs.declared.pointers.Pointed.{Pointed}
use Rattle.rulings.specs.declared.pointers.Bounds.{Bounds}
use Rattle.rulings.specs.Rulings.{Ruling, Site, breaks, outside_alternation, outside_starts, settles}
use Rattle.rulings.specs.Rulings.{in_bounds, pays, goes_on, falls}
use Rattle.rulings.specs.Reach.{word_of_byte, words_touched, may_read_bytes, may_write_bytes}
use Rattle.rulings.specs.Pointers.{pointer_of, exact_pointer, bounds_of, constant_of, reads_bytes, writes_bytes}
use Rattle.rulings.specs.Pointers.{leaves_words, word_read, byte_read}
use Rattle.local_rules.specs.LocalRules.{local_operation_rule, local_rule}
use Rattle.local_rules.specs.MemoryRules.{shifted, element_of, subscripts}
use Rattle.facts.specs.Rules.{rule, rule_of, instruction_rule, operation_rule}
use Rattle.certified_lines.specs.StraightRules.{Setting, Told, state_of}
use Rattle.certified_lines.specs.Instructions.{is_told, with_result}
use Rattle.certified_lines.specs.Addresses.{with_left, FurtherAddressesAreKnown, SelectedWordsAreKnown}
use Rattle.certified_lines.specs.Addresses.{SelectedBytesAreKnown, DistantWordsAreKnown, DistantStoresAreKnown}
use Rattle.certified_lines.specs.Addresses.{LoadedBytesAreKnown, StoredBytesAreKnown}
use Rattle.certified_lines.proofs.Instructions.{falls_by, uses_told}

-- ---- what is asked of facts is asked of facts that are told

-- Only of a fact that is told something is found.
abbrev pub NeedsTold : {A : Type 0} → (Fact → Result A Rule) → Type 0
NeedsTold {A} found = (fact : Fact) (x : A) → found fact ≡ Ok x → is_told fact ≡ true

needs_told : {A : Type 0} (found : Fact → Result A Rule) → ((x : A) → found Unknown ≡ Ok x → ⊥) → NeedsTold found
needs_told found none Unknown x is = absurd (none x is)
needs_told found none fact x is = refl

-- what rules ask of facts
pub record AskTold : Type 0 where
  pub pointer : NeedsTold pointer_of
  pub exact : NeedsTold exact_pointer
  pub bounds : NeedsTold bounds_of
  pub constant : NeedsTold constant_of
  pub shifts : (by : ℤ) → NeedsTold (shifted by)

pub ask_told : AskTold
unfolding pointer_of exact_pointer bounds_of constant_of shifted
ask_told = record {
  pointer = needs_told pointer_of (λ p is. cc);
  exact = needs_told exact_pointer (λ p is. cc);
  bounds = needs_told bounds_of (λ r is. cc);
  constant = needs_told constant_of (λ v is. cc);
  shifts = λ by. needs_told (shifted by) (λ result is. cc);
}

-- ---- what rules are made of

pub settles_ok : {A : Type 0} (r : Result A Rule) (x : A) (rest : A → Ruling) → r ≡ Ok x → settles r rest ≡ rest x
unfolding settles
settles_ok {A} r x rest is = ap (λ (r : Result A Rule). settles r rest) is

pub read_open : (site : Site) (s : State) (region : Region) (first end : ℤ) (rest : Ruling)
    → may_read_bytes site.contents s.context region first end ≡ true
    → reads_bytes site s region first end rest ≡ rest
unfolding reads_bytes
read_open site s region first end rest may = ap (λ (b : Bool). cond b rest (breaks rules.Pointer)) may

pub write_open : (site : Site) (s : State) (region : Region) (first end : ℤ) (rest : Ruling)
    → may_write_bytes site.contents s.context region first end ≡ true
    → writes_bytes site s region first end rest ≡ rest
unfolding writes_bytes
write_open site s region first end rest may = ap (λ (b : Bool). cond b rest (breaks rules.Pointer)) may

left_by_region : (g : Setting) (first : ℤ) (count : ℕ) (leaving : Leaving) (t : Told) (number : ℕ) (in_frame : Bool)
    → (cond in_frame (after_change (on_span first count leaving) (state_of g t number)) (state_of g t number))
    ≡ state_of g (cond in_frame (record {
      stack = mapped (forgets (is_in_span first count)) t.stack;
      frame = changed (on_span first count leaving) t.frame;
    }) t) number
unfolding after_change
left_by_region g first count leaving t number true = refl
left_by_region g first count leaving t number false = refl

-- words are left so whatever there is to pay from
pub left_words : (g : Setting) (p : Pointed) (end : ℤ) (leaving : Leaving) (t : Told) (number : ℕ)
    → leaves_words p end leaving (state_of g t number) ≡ state_of g (with_left p end leaving t) number
unfolding leaves_words
left_words g p end leaving t number =
    left_by_region g (word_of_byte p.lo) (words_touched p.lo end) leaving t number (is_frame p.region)

-- ---- addresses

pub further_addresses_are_known : FurtherAddressesAreKnown
unfolding rule rule_of instruction_rule local_rule instruction_of outside_starts settles goes_on pays
further_addresses_are_known g e fact s is =
    let told = ask_told.shifts (pos 4 *ℤ e) s.stack.a.fact fact is in
    falls_by (λ at size number pays. rw (uses_told, is, le-ltb number size pays) refl)

subscripts_fall : (g : Setting) (element : Step) (r : Bounds) (p : Pointed) (fact : Fact) (s : Told)
    (at size number : ℕ) → bounds_of s.stack.b.fact ≡ Ok r → pointer_of s.stack.a.fact ≡ Ok p
    → element_of element p r ≡ Ok fact → size ≤ number
    → subscripts element (record { contents = g.contents; at = at; length = size }) (state_of g s number)
    ≡ falls (state_of g (with_result (known fact) s) (number - size))
unfolding outside_alternation outside_starts settles goes_on pays
subscripts_fall g element r p fact s at size number bounds pointer is enough =
    let a = ask_told.pointer s.stack.a.fact p pointer in
    let b = ask_told.bounds s.stack.b.fact r bounds in
    rw (uses_told, uses_told, bounds, pointer, is, le-ltb number size enough) refl

pub selected_words_are_known : SelectedWordsAreKnown
unfolding rule rule_of instruction_rule operation_rule local_operation_rule instruction_of op_of
selected_words_are_known g r p fact s bounds pointer is =
    falls_by (λ at size number pays. subscripts_fall g Word r p fact s at size number bounds pointer is pays)

pub selected_bytes_are_known : SelectedBytesAreKnown
unfolding rule rule_of instruction_rule operation_rule local_operation_rule instruction_of op_of
selected_bytes_are_known g r p fact s bounds pointer is =
    falls_by (λ at size number pays. subscripts_fall g Byte r p fact s at size number bounds pointer is pays)

-- ---- words and bytes

pub distant_words_are_known : DistantWordsAreKnown
unfolding rule rule_of instruction_rule local_rule instruction_of outside_alternation outside_starts settles word_read
    goes_on pays
distant_words_are_known g e p s to may =
    let told = ask_told.pointer s.stack.a.fact to.from to.is in
    falls_by (λ at size number pays.
    rw (uses_told, to.is, to.further, read_open, le-ltb number size pays) refl)

pub distant_stores_are_known : DistantStoresAreKnown
unfolding rule rule_of instruction_rule local_rule instruction_of outside_alternation outside_starts settles in_bounds
    goes_on pays
distant_stores_are_known g e p s to b stores may =
    let a = ask_told.pointer s.stack.a.fact to.from to.is in
    falls_by (λ at size number pays.
    rw (uses_told, uses_told, stores, to.is, to.further, write_open, left_words, le-ltb number size pays) refl)

pub loaded_bytes_are_known : LoadedBytesAreKnown
unfolding rule rule_of instruction_rule operation_rule local_operation_rule instruction_of op_of outside_alternation
    outside_starts settles byte_read goes_on pays
loaded_bytes_are_known g p s pointer may =
    let told = ask_told.pointer s.stack.a.fact p pointer in
    falls_by (λ at size number pays. rw (uses_told, pointer, read_open, le-ltb number size pays) refl)

pub stored_bytes_are_known : StoredBytesAreKnown
unfolding rule rule_of instruction_rule operation_rule local_operation_rule instruction_of op_of outside_alternation
    outside_starts settles in_bounds goes_on pays
stored_bytes_are_known g p s pointer b stores may =
    let a = ask_told.pointer s.stack.a.fact p pointer in
    falls_by (λ at size number pays.
    rw (uses_told, uses_told, stores, pointer, write_open, left_words, le-ltb number size pays) refl)

pub ruleset addresses = (
  further_addresses_are_known,
  selected_words_are_known,
  selected_bytes_are_known,
  distant_words_are_known,
  distant_stores_are_known,
  loaded_bytes_are_known,
  stored_bytes_are_known,
)
