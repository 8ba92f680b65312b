-- What is known where a message is exchanged over a link, and that scheduling disturbs no scope.
use Rattle.std.proofs.Common.{◌≡◌, ℕ, suc, ◌+◌, ◌/◌, ◌-◌, ◌<◌, ◌≤◌, ◌⊎◌, inl, inr, ℤ, pos, negsuc, ◌+ℤ◌, ◌-ℤ◌}
use Rattle.std.proofs.Common.{◌*ℤ◌, Bool, true, false, cond, not, ◌||◌, nat_eq, List, [], ◌∷◌, ◌++◌, length, Option}
use Rattle.std.proofs.Common.{Some, None, Ok, Err, refl, sym, ap, subst, ◌∙◌, arith}
use Rattle.std.specs.Prelude.{slice_get, int_lt}
use Rattle.std.proofs.lemmas.Bool.{and_from, eqb-true}
use Rattle.std.proofs.lemmas.Int.{ints}
use Rattle.small_laws.proofs.Comparisons.{le-int_le, lt-int_lt}
use Rattle.prefix_decoder.specs.declared.function.Fun.TheVariants as fun
use Rattle.word_arithmetic.specs.Word.{least_word}
use Rattle.word_arithmetic.specs.Range.{Ends, full}
use Rattle.module_format.specs.Rows.{Fact}
use Rattle.module_format.specs.declared.fact.Fact.TheVariants.{Unknown, Number, Pointer}
use Rattle.module_format.specs.declared.fact.Region.TheVariants as regions
use Rattle.module_format.specs.declared.fact.Step.{Step}
use Rattle.module_format.specs.declared.rows.Direction.{Direction}
use Rattle.module_format.specs.declared.rows.Direction.TheVariants.{In, Out}
use Rattle.states.specs.declared.rule.Rule.TheVariants as rules
use Rattle.states.specs.Spans.{together}
use Rattle.states.specs.State.{Facts, known, one_word, with_fact}
use Rattle.rulings.specs.declared.pointers.Pointed.{Pointed}
use Rattle.rulings.specs.Filling.{are_numbers}
use Rattle.rulings.specs.Pointers.{are_near, byte_read, is_number_in, takes_any}
use Rattle.rulings.specs.Reach.{word_of_byte, words_touched}
use Rattle.local_rules.specs.MemoryRules.{is_of_a_word, shifted, word_fact}
use Rattle.local_rules.specs.WordRules.{known_constant}
use Rattle.message_rules.specs.MessageRules.{begins_behind, ends_before, is_off_scheduling}
use Rattle.occam_parser.specs.declared.tree.ValueType.{ValueType}
use Rattle.occam_parser.specs.declared.tree.ValueType.TheVariants as value_type
use Rattle.occam_parser.specs.Lines.{Place}
use Rattle.scalar_ranges.specs.Entries.{Meaning, Constant, Scalar, Array, Channel, Channels, Procedure, Entry}
use Rattle.scalar_ranges.specs.Entries.{meaning_in}
use Rattle.program_meaning.specs.Links.{message_length}
use Rattle.code_pieces.specs.declared.operations.TheConstants.{INPUT, MINIMUM_INTEGER, OUTPUT}
use Rattle.code_pieces.specs.Pieces.{Direct, constant, operates}
use Rattle.line_pieces.specs.Actions.{carried, channel_code, exchange, length_of, link_code}
use Rattle.line_pieces.specs.Homes as home
use Rattle.line_pieces.specs.Homes.{Home, Nowhere, Word, Block, Link, Passed}
use Rattle.certified_lines.specs.StraightRules.{Setting, Told, FallOn, with_pushed}
use Rattle.certified_lines.specs.Addresses.{told_state, MayReadBytes, MayWriteBytes}
use Rattle.certified_lines.specs.Scopes.{Scene, EachNameHas, IsNumber, HoldsScope}
use Rattle.certified_lines.proofs.StraightRules.{fall_both}
use Rattle.certified_lines.proofs.Addresses.{further_addresses_are_known}
use Rattle.certified_lines.proofs.Elements.{bytes_touched}
use Rattle.certified_lines.proofs.Instructions.{constants_are_known, least_word_is_known}
use Rattle.certified_lines.proofs.MovingWords.{all_numbers_here, or_second}
use Rattle.certified_lines.proofs.Operands.{other_word}
use Rattle.certified_actions.specs.Exchanging.{IsOff, IsPort, IsUndisturbed, RootsAreUndisturbed}
use Rattle.certified_actions.specs.Keeping.{NumbersStay, WordsThere}
use Rattle.certified_actions.specs.Messages.{MayExchange, exchanged, link_address, scheduled, with_received}
use Rattle.certified_actions.proofs.Bytes.{more_bytes}
use Rattle.certified_actions.proofs.Keeping.{numbers_both, numbers_kept, untouched_stay}
use Rattle.certified_actions.proofs.Messages.{received_bytes_are_known, sent_bytes_are_known}

-- ---- scheduling

-- a word that is none of the three below the workspace
off_word : (depth v n : ℕ) → n < 3 → IsOff depth v → pos v ≡ pos depth +ℤ negsuc n → ⊥
off_word depth v n less (inl before) same = absurd (omega (arith, ints, less, before, same))
off_word depth v n less (inr behind) same = absurd (omega (arith, ints, less, behind, same))

-- where nothing is known of one word any more, those of other words stay
silent_stays : (depth n : ℕ) (f : Facts) → n < 3
    → NumbersStay (IsOff depth) f (with_fact (pos depth +ℤ negsuc n) Unknown f)
silent_stays depth n f less =
    let at : ℤ = pos depth +ℤ negsuc n in
    untouched_stay (IsOff depth) (one_word at Unknown) f (λ k off. other_word (pos k) at (off_word depth k n less off))

-- so those beside the three words stay
pub scheduling_stays : (depth : ℕ) (f : Facts) → NumbersStay (IsOff depth) f (scheduled depth f)
scheduling_stays depth f =
    let one : Facts = with_fact (pos depth +ℤ negsuc 0) Unknown f in
    let two : Facts = with_fact (pos depth +ℤ negsuc 1) Unknown one in
    numbers_both (IsOff depth) f one (scheduled depth f) (silent_stays depth 0 f (omega arith))
    (numbers_both (IsOff depth) one two (scheduled depth f) (silent_stays depth 1 one (omega arith))
    (silent_stays depth 2 two (omega arith)))

-- a scope is held once a process has waited
pub undisturbed_holds : (g : Scene) (es : List Entry) (f : Facts)
    → EachNameHas (WordsThere (IsOff g.setting.depth)) g.homes es → HoldsScope g es f
    → HoldsScope g es (scheduled g.setting.depth f)
undisturbed_holds g es f names holds =
    numbers_kept g (IsOff g.setting.depth) f (scheduled g.setting.depth f) (scheduling_stays g.setting.depth f) es names
    holds

-- what holds of every word holds of those of names
all_words : (P : ℕ → Type 0) → ((v : ℕ) → P v) → (h : Option Home) (k : Meaning) → WordsThere P h k
all_words P each None k = tt
all_words P each (Some h) (Constant type value) = tt
all_words P each (Some h) (Channel type) = tt
all_words P each (Some h) (Channels type size) = tt
all_words P each (Some h) (Procedure number) = tt
all_words P each (Some Nowhere) (Scalar kind type range) = tt
all_words P each (Some (Word w)) (Scalar kind type range) = each w
all_words P each (Some (Block w head)) (Scalar kind type range) = (each w, each (w + 1))
all_words P each (Some (Link n)) (Scalar kind type range) = tt
all_words P each (Some (home.Table values)) (Scalar kind type range) = tt
all_words P each (Some (Passed w)) (Scalar kind type range) = tt
all_words P each (Some Nowhere) (Array kind type size range) = tt
all_words P each (Some (Word w)) (Array kind type None range) = tt
all_words P each (Some (Word w)) (Array kind type (Some size) range) = λ n less. each (w + n)
all_words P each (Some (Block w head)) (Array kind type size range) = tt
all_words P each (Some (Link n)) (Array kind type size range) = tt
all_words P each (Some (home.Table values)) (Array kind type size range) = tt
all_words P each (Some (Passed w)) (Array kind type size range) = tt

each_name : (P : ℕ → Type 0) → ((v : ℕ) → P v) → (hs : List Home) (es : List Entry) → EachNameHas (WordsThere P) hs es
each_name P each hs [] = tt
each_name P each hs (e ∷ es) = (all_words P each (slice_get hs (length es)) e.meaning, each_name P each hs es)

pub roots_are_undisturbed : RootsAreUndisturbed
roots_are_undisturbed g top es root may = record {
  free = omega (arith, root);
  names = each_name (IsOff g.setting.depth) (λ v. inr (omega (arith, root))) g.homes es;
  may = may;
}

-- ---- the bytes of a message

-- words beside the three below the workspace lie all before them or all behind
beside_words : (depth a b : ℕ) → a ≤ b → ((v : ℕ) → a ≤ v → v ≤ b → IsOff depth v) → (b + 3 < depth) ⊎ (depth ≤ a)
beside_words depth a b up off = elim (off a (omega arith) up) [
  | inr behind ↦ inr behind
  | inl before ↦ elim (off b up (omega arith)) [
    | inl last ↦ inl (omega (arith, last))
    | inr after ↦ elim (off (depth - 1) (omega (arith, before)) (omega (arith, before, after))) [
      | inl less ↦ absurd (omega (arith, less, before))
      | inr more ↦ absurd (omega (arith, more, before))
    ]
  ]
]

-- Bytes of the frame from the first up to the last one, of words beside those.
pub off_is : (g : Setting) (s : Told) (first last m : ℕ) (step : Step) → first ≤ last
    → ((v : ℕ) → first / 4 ≤ v → v ≤ (last + m) / 4 → IsOff g.depth v)
    → is_off_scheduling (told_state g s)
    (record { region = regions.Frame; lo = pos first; hi = pos last; step = step }) (pos last +ℤ pos (suc m)) ≡ true
off_is g s first last m step up off =
    by (beside_words g.depth (first / 4) ((last + m) / 4) (omega (arith, up)) off)
  where
    end : pos last +ℤ pos (suc m) -ℤ pos 1 ≡ pos (last + m)
    end = omega (arith, ints)

    by : ((last + m) / 4 + 3 < g.depth) ⊎ (g.depth ≤ first / 4)
        → (ends_before (pos g.depth) (pos last +ℤ pos (suc m)) || begins_behind (pos g.depth) (pos first)) ≡ true
    by (inl before) =
        ap (λ (b : Bool). b || begins_behind (pos g.depth) (pos first))
        (ap (λ (z : ℤ). int_lt (word_of_byte z) (pos g.depth -ℤ pos 3)) end
        ∙ lt-int_lt (pos ((last + m) / 4)) (pos g.depth -ℤ pos 3) (omega (arith, ints, before)))
    by (inr behind) =
        or_second (ends_before (pos g.depth) (pos last +ℤ pos (suc m))) (begins_behind (pos g.depth) (pos first))
        (le-int_le (pos g.depth) (pos (first / 4)) (omega (arith, ints, behind)))

-- bytes of words that are numbers
pub numbers_are : (g : Setting) (s : Told) (first last m : ℕ) (step : Step) → first ≤ last
    → ((v : ℕ) → first / 4 ≤ v → v ≤ (last + m) / 4 → (r : Ends) × IsNumber s.frame v r)
    → are_numbers (told_state g s) (record { region = regions.Frame; lo = pos first; hi = pos last; step = step })
    (pos (suc m)) ≡ true
unfolding byte_read
numbers_are g s first last m step up each =
    let end : pos last +ℤ pos (suc m) -ℤ pos 1 +ℤ pos 1 ≡ pos (last + m) +ℤ pos 1 = omega (arith, ints) in
    ap (λ (b : Bool). is_number_in full (cond (not b) Unknown (Number (pos 0) (pos 255))))
    (ap (λ (n : ℕ). (together s.frame (pos (first / 4)) n).are_numbers)
    (ap (words_touched (pos first)) end ∙ bytes_touched first (last + m) (omega (arith, up)))
    ∙ all_numbers_here s.frame (first / 4) (suc ((last + m) / 4 - first / 4))
    (λ n less. each (first / 4 + n) (omega arith) (omega (arith, less, up))))

-- ---- the channel and the length

-- the address of a link is a word
address_shifted : (link : ℕ) → link < 8
    → shifted (pos 4 *ℤ pos link) (Number least_word least_word) ≡ Ok (Number (link_address link) (link_address link))
unfolding shifted word_fact
address_shifted link few =
    let z : ℤ = link_address link in
    let fits : is_of_a_word z ≡ true =
    and_from _ _ (le-int_le least_word z (omega (arith, ints)))
    (le-int_le z (pos 2147483647) (omega (arith, ints, few))) in
    ap (λ (b : Bool). cond b (Ok (Number z z)) (Err rules.Number)) (and_from _ _ fits fits)

-- the address of a link, in a register
abbrev link_known : ℕ → Fact
link_known link = Number (link_address link) (link_address link)

link_by : (test : Bool) (g : Setting) (link : ℕ) (s : Told) → nat_eq link 0 ≡ test → link < 8
    → FallOn g (operates MINIMUM_INTEGER ∷ cond test [] (Direct fun.LoadNonLocalPointer (pos link) ∷ [])) s
    (with_pushed (known (link_known link)) s)
link_by true g link s test few =
    let none = eqb-true link 0 test in
    let same : least_word ≡ link_address link = omega (arith, ints, none) in
    subst (λ (z : ℤ). FallOn g (operates MINIMUM_INTEGER ∷ []) s (with_pushed (known (Number z z)) s)) same
    (least_word_is_known g s)
link_by false g link s test few =
    fall_both (least_word_is_known g s)
    (further_addresses_are_known g (pos link) (link_known link) (with_pushed (known_constant least_word) s)
    (address_shifted link few))

-- the registers once the channel and the length are pushed
abbrev pub with_channel : (link count : ℕ) → Told → Told
with_channel link count s = with_pushed (known_constant (pos count)) (with_pushed (known (link_known link)) s)

length_is : (type : ValueType) → length_of type ≡ pos (message_length type)
length_is value_type.Int = refl
length_is value_type.Byte = refl

-- `in` or `out` behind the address of a message
pub exchange_falls : (g : Scene) (es : List Entry) (way : Direction) (channel : Place) (type : ValueType) (op : ℤ)
    (port : IsPort g es way channel type) (s t : Told)
    → FallOn g.setting (operates op ∷ []) (with_channel port.link (message_length type) s) t
    → FallOn g.setting (exchange g.homes es channel op) s t
exchange_falls g es way channel type op port s t falls =
    subst (λ (o : Option Home). FallOn g.setting
    (channel_code o ++ constant (length_of (carried (meaning_in channel.name es))) ∷ operates op ∷ []) s t)
    (sym port.at)
    (subst (λ (z : ℤ). FallOn g.setting (link_code port.link ++ constant z ∷ operates op ∷ []) s t)
    (sym (ap length_of port.carries ∙ length_is type))
    (fall_both (link_by (nat_eq port.link 0) g.setting port.link s refl port.inside)
    (fall_both (constants_are_known g.setting (pos (message_length type)) (with_pushed (known
    (link_known port.link)) s))
    falls)))

-- ---- messages

module _ (g : Scene) (top : ℕ) (es : List Entry) (undisturbed : IsUndisturbed g top es) (channel : Place)
    (type : ValueType) (k : Told) (first last : ℕ) (step : Step)
    (leads : k.stack.a.fact ≡ Pointer regions.Frame (pos first) (pos last) step)
    (near : are_near (pos first) (pos last) ≡ true) (up : first ≤ last) where
  abbrev pub here : Pointed
  here = record { region = regions.Frame; lo = pos first; hi = pos last; step = step }

  abbrev pub bytes : ℕ
  bytes = message_length type

  -- what is asked of a message that goes one way, beside the words that scheduling takes
  exchanged_there : (way : Direction) (port : IsPort g es way channel type)
      → ((v : ℕ) → first / 4 ≤ v → v ≤ (last + (more_bytes type).0) / 4 → IsOff g.setting.depth v)
      → MayExchange g.setting way (with_channel port.link bytes k) bytes port.link here
  exchanged_there way port off =
      let is = (more_bytes type).1 in
      let few = (more_bytes type).2 in
      let s : Told = with_channel port.link bytes k in
      record {
        a = refl;
        b = refl;
        c = leads;
        near = near;
        some = omega (arith, is);
        few = omega (arith, is, few);
        inside = port.inside;
        end = port.end;
        length = port.length;
        schedules = undisturbed.may;
        off = subst (λ (n : ℕ). is_off_scheduling (told_state g.setting s) here (pos last +ℤ pos n) ≡ true) (sym is)
            (off_is g.setting s first last (more_bytes type).0 step up off);
      }

  -- the message goes from bytes of numbers, beside the words that scheduling takes
  pub out_falls : IsPort g es Out channel type
      → ((v : ℕ) → first / 4 ≤ v → v ≤ (last + (more_bytes type).0) / 4 → IsOff g.setting.depth v)
      → ((v : ℕ) → first / 4 ≤ v → v ≤ (last + (more_bytes type).0) / 4 → (r : Ends) × IsNumber k.frame v r)
      → MayReadBytes g.setting regions.Frame (pos first) (pos last +ℤ pos (suc (more_bytes type).0))
      → (after : Told) × FallOn g.setting (exchange g.homes es channel OUTPUT) k after
      × (after.frame ≡ scheduled g.setting.depth k.frame)
  out_falls port off numbers may =
      let m = (more_bytes type).0 in
      let is = (more_bytes type).1 in
      let s : Told = with_channel port.link bytes k in (
        exchanged g.setting s,
        exchange_falls g es Out channel type OUTPUT port k (exchanged g.setting s)
            (sent_bytes_are_known g.setting s bytes port.link here (exchanged_there Out port off)
            (subst (λ (n : ℕ). are_numbers (told_state g.setting s) here (pos n) ≡ true) (sym is)
            (numbers_are g.setting s first last m step up numbers))
            (subst (λ (n : ℕ). MayReadBytes g.setting regions.Frame (pos first) (pos last +ℤ pos n)) (sym is) may)),
        refl,
      )

  -- a message comes to bytes that may be written
  pub in_falls : ((v : ℕ) → first / 4 ≤ v → v ≤ (last + (more_bytes type).0) / 4 → IsOff g.setting.depth v)
      → MayWriteBytes g.setting regions.Frame (pos first) (pos last +ℤ pos (suc (more_bytes type).0))
      → (port : IsPort g es In channel type)
      → FallOn g.setting (exchange g.homes es channel INPUT) k
      (exchanged g.setting (with_received here (pos last +ℤ pos bytes) (with_channel port.link bytes k)))
  unfolding takes_any
  in_falls off may port =
      let is = (more_bytes type).1 in
      let s : Told = with_channel port.link bytes k in
      exchange_falls g es In channel type INPUT port k
      (exchanged g.setting (with_received here (pos last +ℤ pos bytes) s))
      (received_bytes_are_known g.setting s bytes port.link here (exchanged_there In port off)
      (ap (takes_any g.setting.contents g.setting.context) leads)
      (subst (λ (n : ℕ). MayWriteBytes g.setting regions.Frame (pos first) (pos last +ℤ pos n)) (sym is) may))
