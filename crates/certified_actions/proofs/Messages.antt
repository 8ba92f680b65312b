-- What the rules of `in`, `out` and `stopp` leave, by their definitions.
use Rattle.std.proofs.Common.{◌≡◌, ℕ, ◌-◌, ◌*◌, ◌/◌, ◌%◌, ◌<◌, ◌≤◌, ◌==◌, ℤ, pos, negsuc, ◌+ℤ◌, ◌-ℤ◌, Bool, true}
use Rattle.std.proofs.Common.{false, cond, ◌&&◌, Option, Some, None, Ok, Err, refl, ap, ◌∙◌, arith}
use Rattle.std.specs.Prelude.{nat_lt}
use Rattle.std.proofs.lemmas.Bool.{and_from, le-ltb, lt-ltb}
use Rattle.std.proofs.lemmas.Int.{ints}
use Rattle.small_laws.proofs.Comparisons.{le-int_le}
use Rattle.word_arithmetic.specs.Word.{least_word}
use Rattle.word_arithmetic.specs.Range.{full}
use Rattle.module_format.specs.Rows.{Fact}
use Rattle.module_format.specs.declared.fact.Fact.TheVariants.{Unknown, Number}
use Rattle.module_format.specs.declared.rows.Direction.{Direction}
use Rattle.module_format.specs.declared.rows.Direction.TheVariants.{In, Out}
use Rattle.module_format.specs.declared.rows.EndKind.{EndKind}
use Rattle.module_format.specs.declared.rows.EndKind.TheVariants.{Link}
use Rattle.module_format.specs.Contents.{Contents, link_length}
use Rattle.module_format.specs.Regions.{is_frame}
use Rattle.module_format.specs.Stack.{mapped}
use Rattle.certificate.specs.Rights.{may_write_word}
use Rattle.machine_state.specs.Instructions.{instruction_of, op_of}
use Rattle.states.specs.declared.rule.Rule.{Rule}
use Rattle.states.specs.declared.rule.Rule.TheVariants as rules
use Rattle.states.specs.declared.span.Leaving.TheVariants.{Become}
use Rattle.states.specs.Spans.{after_change, is_in_span, on_span}
use Rattle.states.specs.State.{State, changed, forgets, is_same_number, written}
use Rattle.rulings.specs.declared.pointers.Pointed.{Pointed}
use Rattle.rulings.specs.Channels.{channel_of, link_at, names_channel}
use Rattle.rulings.specs.Filling.{are_numbers, become_numbers, filled, word_behind, words_within}
use Rattle.rulings.specs.Pointers.{byte_read, constant_of, leaves_words, number_within, pointer_of, reads_bytes}
use Rattle.rulings.specs.Pointers.{stored_byte, takes_any}
use Rattle.rulings.specs.Rulings.{Ruling, Site, breaks, ends, falls, goes_on, in_bounds, outside_alternation}
use Rattle.rulings.specs.Rulings.{outside_starts}
use Rattle.rulings.specs.Rulings.{pays, schedules, settles, uses, wants, without_registers, writes_word}
use Rattle.local_rules.specs.LocalRules.{local_operation_rule}
use Rattle.message_rules.specs.MessageRules.{exchanges, gives, has_length, holds_end, in_rule, is_message}
use Rattle.message_rules.specs.MessageRules.{is_off_scheduling, message_rule, out_rule, over_channel}
use Rattle.message_rules.specs.MessageRules.{received, receives, receives_some, sends, sends_some, takes}
use Rattle.facts.specs.Rules.{instruction_rule, operation_rule, rule, rule_of}
use Rattle.certified_lines.specs.StraightRules.{Setting, Told, state_of}
use Rattle.certified_lines.specs.Addresses.{with_left}
use Rattle.certified_lines.specs.Instructions.{is_told}
use Rattle.certified_lines.proofs.Addresses.{left_words, read_open, settles_ok, write_open}
use Rattle.certified_lines.proofs.Elements.{pointer_is}
use Rattle.certified_lines.proofs.Instructions.{falls_by, uses_told, writes_open}
use Rattle.certified_lines.proofs.Operands.{same_word}
use Rattle.certified_actions.specs.Messages.{exchanged, link_address, MayExchange, MaySchedule, ReceivedBytesAreKnown}
use Rattle.certified_actions.specs.Messages.{SentBytesAreKnown, StopsEnd, with_numbers, with_received}

-- ---- the state

numbers_told : (g : Setting) (p : Pointed) (end : ℤ) (t : Told) (number : ℕ)
    → become_numbers p end (state_of g t number) ≡ state_of g (with_numbers p end t) number
unfolding become_numbers after_change
numbers_told g p end t number = by (is_frame p.region && nat_lt 0 (words_within p.lo end))
  where
    by : (b : Bool)
        → cond b (after_change (on_span (word_behind p.lo) (words_within p.lo end) (Become (number_within full)))
        (state_of g t number)) (state_of g t number)
        ≡ state_of g (cond b (record {
          stack = mapped (forgets (is_in_span (word_behind p.lo) (words_within p.lo end))) t.stack;
          frame =
              changed (on_span (word_behind p.lo) (words_within p.lo end) (Become (number_within full))) t.frame;
        }) t) number
    by true = refl
    by false = refl

-- words are left so whatever there is to pay from
received_told : (g : Setting) (p : Pointed) (end : ℤ) (t : Told) (number : ℕ)
    → received p end (state_of g t number) ≡ state_of g (with_received p end t) number
unfolding received filled
received_told g p end t number = by (is_same_number p.lo p.hi)
  where
    by : (b : Bool)
        → cond b (become_numbers p end (leaves_words p end stored_byte (state_of g t number)))
        (leaves_words p end stored_byte (state_of g t number))
        ≡ state_of g (cond b (with_numbers p end (with_left p end stored_byte t))
        (with_left p end stored_byte t)) number
    by true =
        ap (become_numbers p end) (left_words g p end stored_byte t number)
        ∙ numbers_told g p end (with_left p end stored_byte t) number
    by false = left_words g p end stored_byte t number

-- ---- what rules are made of

true_one : {A : Type 0} (b : Bool) (x y : A) → b ≡ true → cond b x y ≡ x
true_one {A} b x y is = ap (λ (c : Bool). cond c x y) is

wants_open : (b : Bool) (broken : Rule) (rest : Ruling) → b ≡ true → wants b broken rest ≡ rest
unfolding wants
wants_open b broken rest is = true_one b rest (breaks broken) is

bounds_open : (b : Bool) (rest : Ruling) → b ≡ true → in_bounds b rest ≡ rest
unfolding in_bounds
bounds_open b rest is = true_one b rest (breaks rules.Number) is

-- the words below the workspace are written
schedules_open : (g : Setting) (site : Site) (t : Told) (number : ℕ) (rest : State → Ruling)
    → site.contents ≡ g.contents → MaySchedule g
    → schedules site (state_of g t number) rest
    ≡ rest (written (pos g.depth +ℤ negsuc 2) Unknown
    (written (pos g.depth +ℤ negsuc 1) Unknown (written (pos g.depth +ℤ negsuc 0) Unknown (state_of g t number))))
unfolding schedules
schedules_open g site t number rest same may =
    let s : State = state_of g t number in
    let after : State = written (pos g.depth +ℤ negsuc 2) Unknown
    (written (pos g.depth +ℤ negsuc 1) Unknown (written (pos g.depth +ℤ negsuc 0) Unknown s)) in
    let here : (n : ℕ) → n < 3 → may_write_word site.contents g.context (pos g.depth +ℤ negsuc n) ≡ true =
    λ n less. ap (λ (m : Contents). may_write_word m g.context (pos g.depth +ℤ negsuc n)) same ∙ may n less in
    writes_open site s (pos g.depth +ℤ negsuc 0)
    (writes_word site s (pos g.depth +ℤ negsuc 1) (writes_word site s (pos g.depth +ℤ negsuc 2) (rest after)))
    (here 0 (omega arith))
    ∙ (writes_open site s (pos g.depth +ℤ negsuc 1) (writes_word site s (pos g.depth +ℤ negsuc 2) (rest after))
    (here 1 (omega arith))
    ∙ writes_open site s (pos g.depth +ℤ negsuc 2) (rest after) (here 2 (omega arith)))

-- ---- the channel

named_by : (link : ℕ) (v : ℤ) → v -ℤ least_word ≡ pos (4 * link) → link < 8 → link_at v ≡ Some (Link link)
named_by link v far inside =
    let even : (4 * link) % 4 ≡ 0 = omega arith in
    let whole : (4 * link) / 4 ≡ link = omega arith in
    ap (λ (z : ℤ). elim z as (λ z. Option EndKind) [
      | pos n ↦ cond ((n % 4 == 0) && nat_lt n 32) (Some (Link (n / 4))) None
      | negsuc n ↦ None
    ]) far
    ∙ (true_one ((4 * link % 4 == 0) && nat_lt (4 * link) 32) (Some (Link (4 * link / 4))) None
    (and_from _ _ (ap (λ (n : ℕ). n == 0) even) (lt-ltb (4 * link) 32 (omega (arith, inside))))
    ∙ ap (λ (n : ℕ). Some (Link n)) whole)

-- the address of a link names it
link_named : (link : ℕ) (next : EndKind → Ruling) → link < 8
    → names_channel (Number (link_address link) (link_address link)) next ≡ next (Link link)
unfolding names_channel channel_of wants
link_named link next inside =
    let far : link_address link -ℤ least_word ≡ pos (4 * link) = omega (arith, ints) in
    ap (λ (o : Option EndKind). elim o as (λ o. Ruling) [ None ↦ breaks rules.Channel | Some kind ↦ next kind ])
    (true_one (is_same_number (link_address link) (link_address link)) (link_at (link_address link)) None
    (same_word (link_address link))
    ∙ named_by link (link_address link) far inside)

module _ (g : Setting) (at size : ℕ) (way : Direction) (s : Told) (count link : ℕ) (p : Pointed)
    (x : MayExchange g way s count link p) (number : ℕ) where
  abbrev here : Site
  here = record { contents = g.contents; at = at; length = size }

  abbrev now : State
  now = state_of g s number

  is_long : is_message (pos count) ≡ true
  is_long =
      let some = x.some in
      let few = x.few in
      and_from _ _ (le-int_le (pos 1) (pos count) (omega (arith, ints, some)))
      (le-int_le (pos count) (pos 4096) (omega (arith, ints, few)))

  -- the context has the end, and messages have this length
  over_open : (next : Ruling) → over_channel here now s.stack.b.fact way (pos count) next ≡ next
  unfolding over_channel
  over_open next =
      let long : is_same_number (pos count) (pos (link_length g.contents link)) ≡ true =
      ap (λ (n : ℕ). is_same_number (pos count) (pos n)) x.length ∙ same_word (pos count) in
      ap (λ (f : Fact). over_channel here now f way (pos count) next) x.b
      ∙ (link_named link (λ kind. wants (holds_end here now kind way) rules.Channel
      (wants (has_length here now kind (pos count)) rules.MessageLength next)) x.inside
      ∙ (wants_open (holds_end here now (Link link) way) rules.Channel
      (wants (has_length here now (Link link) (pos count)) rules.MessageLength next) x.end
      ∙ wants_open (has_length here now (Link link) (pos count)) rules.MessageLength next long))

  -- what the registers say
  count_is : constant_of s.stack.a.fact ≡ Ok (pos count)
  unfolding constant_of
  count_is =
      ap constant_of x.a
      ∙ ap (λ (b : Bool). cond b (Ok (pos count)) (Err rules.Number)) (same_word (pos count))

  place_is : pointer_of s.stack.c.fact ≡ Ok p
  place_is = ap pointer_of x.c ∙ pointer_is p.region p.lo p.hi p.step x.near

  -- a rule that takes all registers, and where A is a constant
  abbrev Taking : Type 0
  Taking = Fact → ℤ → Fact → Ruling

  registers_open : (next : Taking)
      → uses s.stack.a (λ a. uses s.stack.b (λ b. uses s.stack.c (λ c. settles (constant_of a) (λ n. next b n c))))
      ≡ next s.stack.b.fact (pos count) s.stack.c.fact
  registers_open next =
      uses_told s.stack.a
      (λ a. uses s.stack.b (λ b. uses s.stack.c (λ c. settles (constant_of a) (λ n. next b n c)))) (ap is_told x.a)
      ∙ (uses_told s.stack.b (λ b. uses s.stack.c (λ c. settles (constant_of s.stack.a.fact) (λ n. next b n c)))
      (ap is_told x.b)
      ∙ (uses_told s.stack.c (λ c. settles (constant_of s.stack.a.fact) (λ n. next s.stack.b.fact n c))
      (ap is_told x.c)
      ∙ settles_ok (constant_of s.stack.a.fact) (pos count) (λ n. next s.stack.b.fact n s.stack.c.fact) count_is))

-- the process goes on with its registers lost
exchanges_told : (g : Setting) (at size number : ℕ) (t : Told) → MaySchedule g → size ≤ number
    → exchanges (record { contents = g.contents; at = at; length = size }) (state_of g t number)
    ≡ falls (state_of g (exchanged g t) (number - size))
unfolding outside_alternation outside_starts written goes_on pays
exchanges_told g at size number t may enough =
    let here : Site = record { contents = g.contents; at = at; length = size } in
    schedules_open g here t number (λ s. goes_on here (without_registers s)) refl may
    ∙ rw (le-ltb number size enough) refl

pub received_bytes_are_known : ReceivedBytesAreKnown
unfolding rule rule_of instruction_rule operation_rule message_rule instruction_of op_of in_rule receives_some receives
    takes
received_bytes_are_known g s count link p x any may =
    falls_by (λ at size number enough.
    let here : Site = record { contents = g.contents; at = at; length = size } in
    let now : State = state_of g s number in
    let end : ℤ = p.hi +ℤ pos count in
    let goes : Ruling = exchanges here (received p end now) in
    let over : Ruling = over_channel here now s.stack.b.fact In (pos count) goes in
    let buffer : Ruling = settles (pointer_of s.stack.c.fact) (λ q. receives here now s.stack.b.fact (pos count) q) in
    registers_open g at size In s count link p x number (λ b n c. receives_some here now b n c)
    ∙ (true_one (is_message (pos count)) (in_bounds (takes_any g.contents g.context s.stack.c.fact) buffer)
    (over_channel here now s.stack.b.fact In (pos count) (breaks rules.MessageLength))
    (is_long g at size In s count link p x number)
    ∙ (bounds_open (takes_any g.contents g.context s.stack.c.fact) buffer any
    ∙ (settles_ok (pointer_of s.stack.c.fact) p (λ q. receives here now s.stack.b.fact (pos count) q)
    (place_is g at size In s count link p x number)
    ∙ (write_open here now p.region p.lo end (wants (is_off_scheduling now p end) rules.Pointer over) may
    ∙ (wants_open (is_off_scheduling now p end) rules.Pointer over x.off
    ∙ (over_open g at size In s count link p x number goes
    ∙ (ap (exchanges here) (received_told g p end s number)
    ∙ exchanges_told g at size number (with_received p end s) x.schedules enough))))))))

pub sent_bytes_are_known : SentBytesAreKnown
unfolding rule rule_of instruction_rule operation_rule message_rule instruction_of op_of out_rule sends_some sends gives
    byte_read
sent_bytes_are_known g s count link p x numbers may =
    falls_by (λ at size number enough.
    let here : Site = record { contents = g.contents; at = at; length = size } in
    let now : State = state_of g s number in
    let end : ℤ = p.hi +ℤ pos count in
    let goes : Ruling = exchanges here now in
    let over : Ruling = over_channel here now s.stack.b.fact Out (pos count) goes in
    let off : Ruling = wants (is_off_scheduling now p end) rules.Pointer over in
    registers_open g at size Out s count link p x number (λ b n c. sends_some here now b n c)
    ∙ (true_one (is_message (pos count))
    (settles (pointer_of s.stack.c.fact) (λ q. sends here now s.stack.b.fact (pos count) q))
    (over_channel here now s.stack.b.fact Out (pos count) (breaks rules.MessageLength))
    (is_long g at size Out s count link p x number)
    ∙ (settles_ok (pointer_of s.stack.c.fact) p (λ q. sends here now s.stack.b.fact (pos count) q)
    (place_is g at size Out s count link p x number)
    ∙ (wants_open (are_numbers now p (pos count)) rules.UnknownRegister
    (reads_bytes here now p.region p.lo end off) numbers
    ∙ (read_open here now p.region p.lo end off may
    ∙ (wants_open (is_off_scheduling now p end) rules.Pointer over x.off
    ∙ (over_open g at size Out s count link p x number goes
    ∙ exchanges_told g at size number s x.schedules enough)))))))

pub stops_end : StopsEnd
unfolding rule rule_of instruction_rule operation_rule local_operation_rule instruction_of op_of outside_alternation
    outside_starts pays written
stops_end g s at size number may enough =
    let here : Site = record { contents = g.contents; at = at; length = size } in
    schedules_open g here s number (λ t. pays here t (λ u. ends)) refl may ∙ rw (le-ltb number size enough) refl
