-- What the rules of `j`, `stopp` and `lend` leave in the root, for whoever can pay.
use Rattle.std.proofs.Common.{◌≡◌, ◌≢◌, ℕ, ◌+◌, ◌-◌, ◌*◌, ◌/◌, ◌^◌, ◌<◌, ◌≤◌, ◌&&◌, ℤ, pos, ◌+ℤ◌, ◌-ℤ◌}
use Rattle.std.proofs.Common.{Bool, true, false, cond}
use Rattle.std.proofs.Common.{List, Option, Some, None, Result, Ok, Err, inl, inr, refl, sym, ap, subst, ◌∙◌, arith}
use Rattle.std.specs.Prelude.{nat_lt, int_le, option_map, option_and_then}
use Rattle.std.specs.Ordering.{int_eq}
use Rattle.std.proofs.lemmas.Bool.{le-ltb, le-leb, cases_Bool}
use Rattle.std.proofs.lemmas.Bool.Decides.{Decides-int_eq}
use Rattle.std.proofs.lemmas.Int.{ints}
use Rattle.prefix_decoder.specs.declared.function.Fun.{Fun}
use Rattle.prefix_decoder.specs.declared.function.Fun.TheVariants as fun
use Rattle.module_format.specs.Rows.{Fact}
use Rattle.module_format.specs.declared.fact.Fact.TheVariants.{Unknown, Number, Pointer, CodeAddress, Loop}
use Rattle.module_format.specs.declared.fact.Fact.TheVariants.{ReturnAddress}
use Rattle.module_format.specs.Contents.{Contents, Label, label_at, Par}
use Rattle.module_format.specs.Stack.{of_empty, mapped}
use Rattle.certificate.specs.Rights.{may_write_word}
use Rattle.machine_state.specs.Instructions.{instruction_of, op_of}
use Rattle.machine_state.specs.LocalStep.{target}
use Rattle.states.specs.declared.rule.Rule.{Rule}
use Rattle.states.specs.declared.rule.Rule.TheVariants as rules
use Rattle.states.specs.declared.known.Loop.{Loop as CountedLoop}
use Rattle.states.specs.declared.known.WordFact.{WordFact}
use Rattle.states.specs.declared.known.WordFact.TheVariants.{Index, Count}
use Rattle.states.specs.declared.known.Mode.{Mode}
use Rattle.states.specs.declared.known.Mode.TheVariants.{Plain}
use Rattle.states.specs.State.{State, unknown, forgets, is_at, is_same_number, written}
use Rattle.states.specs.Below.{view, compared, below}
use Rattle.rulings.specs.Rulings.{Ruling, Site, falls, leads, falls_or_leads, ends, breaks, falling}
use Rattle.rulings.specs.Rulings.{outside_alternation, outside_starts, uses, wants, forward, writes_word}
use Rattle.rulings.specs.Rulings.{schedules, pays}
use Rattle.rulings.specs.Rulings.{leads_to}
use Rattle.local_rules.specs.declared.loops.Block.{Block}
use Rattle.local_rules.specs.LocalRules.{local_rule, local_operation_rule}
use Rattle.local_rules.specs.LoopRules.{word_pointed, last_index, loop_block, block_of_loop, provided}
use Rattle.local_rules.specs.LoopRules.{is_beside_workspace, block_at, block_of, Beginning, begins_at, beginning_at}
use Rattle.local_rules.specs.LoopRules.{beginning, finds, after_loop, turns}
use Rattle.local_rules.specs.WordRules.{known_constant}
use Rattle.par_rules.specs.ParRules.{endp_rule, ended_par, is_at_word, leaves_agreed}
use Rattle.rulings.specs.Pointers.{is_near_pointer}
use Rattle.facts.specs.Rules.{rule, rule_of, instruction_rule, operation_rule}
use Rattle.code_pieces.specs.declared.operations.TheConstants.{STOP_PROCESS, END_PROCESS, LOOP_END}
use Rattle.code_pieces.specs.Laying.{operand_at}
use Rattle.code_pieces.specs.Numbers.{is_stop}
use Rattle.certified_lines.specs.StraightRules.{Setting, Told, Falls, state_of, with_pushed}
use Rattle.certified_lines.specs.Instructions.{is_told, word_pointer}
use Rattle.certified_lines.proofs.Instructions.{uses_told, writes_open}
use Rattle.certified_lines.proofs.Jumps.{leads_behind}
use Rattle.certified_lines.proofs.Operands.{same_loop, same_word}
use Rattle.certified_modules.specs.Passing.{after_turns}
use Rattle.certified_modules.proofs.Scheduling.{word_below, scheduled}
use Rattle.certified_modules.proofs.TablesPlaced.{stepped}

-- ---- what rules are made of

pays_on : (site : Site) (s : State) (rest : State → Ruling) → site.length ≤ s.number
    → pays site s rest ≡ rest (record s { number = s.number - site.length })
unfolding pays
pays_on site s rest enough =
    ap (λ (b : Bool). cond b (breaks rules.Budget) (rest (record s { number = s.number - site.length })))
    (le-ltb s.number site.length enough)

leads_is : (site : Site) (to : ℕ) (s : State) (row : Label) (cost : ℕ) → label_at site.contents to ≡ Some row
    → below s row ≡ Ok cost → leads_to site to s ≡ leads to
unfolding leads_to
leads_is site to s row cost row_is cost_is =
    ap (λ (o : Option Label). elim o as (λ o. Ruling) [
      | None ↦ breaks rules.Label
      | Some t ↦ elim (below s t) as (λ r. Ruling) [ Ok cost ↦ leads to | Err broken ↦ breaks broken ]
    ]) row_is
    ∙ ap (λ (r : Result ℕ Rule). elim r as (λ r. Ruling) [ Ok cost ↦ leads to | Err broken ↦ breaks broken ]) cost_is

-- a jump leads back to a place before it
leads_back : (next back : ℕ) → back ≤ next → next < 2 ^ 31 → target next (pos 0 -ℤ pos (next - back)) ≡ back
leads_back next back before small = omega (arith, ints, before, small)

-- ---- rulings that do not fall

-- nothing falls on behind the instruction
abbrev NeverFalls : Ruling → Type 0
NeverFalls r = (s : State) → r ≢ falls s

never_if : (b : Bool) (r : Ruling) (broken : Rule) → NeverFalls r → NeverFalls (cond b r (breaks broken))
never_if true r broken never = never
never_if false r broken never = λ s is. cc

never_unless : (b : Bool) (r : Ruling) (broken : Rule) → NeverFalls r → NeverFalls (cond b (breaks broken) r)
never_unless true r broken never = λ s is. cc
never_unless false r broken never = never

never_by : (fact : Fact) (rest : Ruling) → NeverFalls rest
    → NeverFalls (elim fact as (λ f. Ruling) [ Unknown ↦ breaks rules.UnknownRegister | _ ↦ rest ])
never_by Unknown rest never = λ s is. cc
never_by (Number lo hi) rest never = never
never_by (Pointer region lo hi step) rest never = never
never_by (CodeAddress offset) rest never = never
never_by (Loop base count weight) rest never = never
never_by ReturnAddress rest never = never

never_ended : (o : Option Par) (rest : Par → Ruling) → ((par : Par) → NeverFalls (rest par))
    → NeverFalls (elim o as (λ o. Ruling) [ None ↦ breaks rules.Par | Some par ↦ rest par ])
never_ended None rest never = λ s is. cc
never_ended (Some par) rest never = never par

end_never : (site : Site) (s : State) → s.mode ≡ Plain → NeverFalls (endp_rule site s)
unfolding endp_rule uses wants outside_alternation pays
end_never site s plain =
    never_by s.stack.a.fact _ (never_if (is_near_pointer s.stack.a.fact) _ rules.Pointer
    (subst (λ (mode : Mode). NeverFalls (outside_alternation mode
    (elim (ended_par site.contents s.context mode) as (λ o. Ruling) [
      | None ↦ breaks rules.Par
      | Some par ↦
          wants (is_at_word par.block s.stack.a.fact) rules.Par
          (pays site s (λ (u : State). wants (leaves_agreed site.contents par u) rules.Label ends))
    ]))) (sym plain)
    (never_ended (ended_par site.contents s.context Plain) _ (λ par.
    never_if (is_at_word par.block s.stack.a.fact) _ rules.Par
    (never_unless (nat_lt s.number site.length) _ rules.Budget
    (never_if (leaves_agreed site.contents par (record s { number = s.number - site.length })) ends rules.Label
    (λ t is. cc)))))))

-- ---- the root

-- What falls goes on with this, and breaks no rule.
pub record FallsInto (ruling : Ruling) (after : State) : Type 0 where
  pub falls : falling ruling ≡ Some after
  pub unbroken : (broken : Rule) → ruling ≢ breaks broken

module _ (m : Contents) (tables : List ℤ → ℕ) where
  abbrev root : Setting
  root = record { contents = m; context = 0; depth = 0; tables = tables }

  abbrev site : ℕ → ℕ → Site
  site at size = record { contents = m; at = at; length = size }

  -- what is known once the words below the workspace are taken
  abbrev took : Told → Told
  took s = record {
    stack = mapped (forgets (is_at (word_below 2))) (mapped (forgets (is_at (word_below 1)))
        (mapped (forgets (is_at (word_below 0))) s.stack));
    frame = scheduled s.frame;
  }

  -- and once registers are lost
  abbrev pub gone : Told → Told
  gone s = record { stack = of_empty unknown; frame = scheduled s.frame }

  module _ (may : (n : ℕ) → n < 3 → may_write_word m 0 (word_below n) ≡ true) where
    schedules_on : (at size number : ℕ) (s : Told) (rest : State → Ruling)
        → schedules (site at size) (state_of root s number) rest ≡ rest (state_of root (took s) number)
    unfolding schedules written
    schedules_on at size number s rest =
        let before : State = state_of root s number in
        let third : Ruling = rest (state_of root (took s) number) in
        let second : Ruling = writes_word (site at size) before (word_below 2) third in
        let first : Ruling = writes_word (site at size) before (word_below 1) second in
        writes_open (site at size) before (word_below 0) first (may 0 (omega arith))
        ∙ writes_open (site at size) before (word_below 1) second (may 1 (omega arith))
        ∙ writes_open (site at size) before (word_below 2) third (may 2 (omega arith))

    pub jump_leads : (at size number bytes cost : ℕ) (s : Told) (row : Label) → at + size + bytes < 2 ^ 32
        → size ≤ number → label_at m (at + size + bytes) ≡ Some row
        → below (state_of root (gone s) (number - size)) row ≡ Ok cost
        → rule (site at size) fun.Jump (pos bytes) (state_of root s number) ≡ leads (at + size + bytes)
    unfolding rule rule_of instruction_rule local_rule instruction_of outside_alternation outside_starts forward
    jump_leads at size number bytes cost s row small enough row_is cost_is =
        let to : ℕ = target (at + size) (pos bytes) in
        let is : to ≡ at + size + bytes = leads_behind (at + size) bytes small in
        let goes : State → Ruling = λ (t : State). leads_to (site at size) to (record t { stack = of_empty unknown }) in
        schedules_on at size number s (λ (t : State). pays (site at size) t goes)
        ∙ pays_on (site at size) (state_of root (took s) number) goes enough
        ∙ ap (λ (n : ℕ). leads_to (site at size) n (state_of root (gone s) (number - size))) is
        ∙ leads_is (site at size) (at + size + bytes) (state_of root (gone s) (number - size)) row cost row_is cost_is

    pub stop_ends : (at size number : ℕ) (s : Told) → size ≤ number
        → rule (site at size) fun.Operate STOP_PROCESS (state_of root s number) ≡ ends
    unfolding rule rule_of instruction_rule operation_rule local_operation_rule instruction_of op_of
        outside_alternation outside_starts
    stop_ends at size number s enough =
        schedules_on at size number s (λ (t : State). pays (site at size) t (λ (u : State). ends))
        ∙ pays_on (site at size) (state_of root (took s) number) (λ (u : State). ends) enough

    -- what falls is no instruction after which nothing goes on
    stop_no : (e : ℤ) (s t : Told) → Falls root fun.Operate e s t → e ≡ STOP_PROCESS → ⊥
    stop_no e s t x is =
        let falling : rule (site 0 0) fun.Operate STOP_PROCESS (state_of root s 0) ≡ falls (state_of root t (0 - 0)) =
        subst (λ (z : ℤ). rule (site 0 0) fun.Operate z (state_of root s 0) ≡ falls (state_of root t (0 - 0))) is
        (x.falls 0 0 0 (omega arith)) in
        let ending = stop_ends 0 0 0 s (omega arith) in
        let no : ends ≡ falls (state_of root t (0 - 0)) = sym ending ∙ falling in
        cc

    end_no : (e : ℤ) (s t : Told) → Falls root fun.Operate e s t → e ≡ END_PROCESS → ⊥
    unfolding rule rule_of instruction_rule operation_rule instruction_of op_of
    end_no e s t x is =
        end_never (site 0 0) (state_of root s 0) refl (state_of root t (0 - 0))
        (subst (λ (z : ℤ). rule (site 0 0) fun.Operate z (state_of root s 0) ≡ falls (state_of root t (0 - 0))) is
        (x.falls 0 0 0 (omega arith)))

    pub no_stop : (f : Fun) (e : ℤ) (s t : Told) → Falls root f (operand_at (pos 0) f e) s t → is_stop f e ≡ false
    no_stop fun.Operate e s t x = elim (cases_Bool (int_eq e STOP_PROCESS)) [
      | inl stop ↦ absurd (stop_no e s t x ((Decides-int_eq e STOP_PROCESS).0 stop))
      | inr other ↦ elim (cases_Bool (int_eq e END_PROCESS)) [
        | inl end ↦ absurd (end_no e s t x ((Decides-int_eq e END_PROCESS).0 end))
        | inr none ↦ rw (other, none) refl
      ]
    ]
    no_stop f e s t x = refl

    -- ---- lend

    word_found : (word : ℕ) → word_pointed (word_pointer word) ≡ Some (pos word)
    unfolding word_pointed
    word_found word =
        let quarter : (4 * word) / 4 ≡ word = omega arith in
        rw (same_word, stepped) (ap (λ (n : ℕ). Some (pos n)) quarter)

    block_found : (at size number : ℕ) (s : Told) (fact : Fact) (word : ℕ) (loop : CountedLoop) (last : ℤ)
        → fact ≡ word_pointer word → s.frame (pos word) ≡ Index loop → s.frame (pos (word + 1)) ≡ Count loop
        → last_index loop ≡ Some last → may_write_word m 0 (pos word) ≡ true
        → may_write_word m 0 (pos (word + 1)) ≡ true
        → block_of (site at size) (state_of root s number) fact
        ≡ Some (record { word = pos word; turning = loop; last = last })
    unfolding block_at provided loop_block
    block_found at size number s fact word loop last is index count last_is may_index may_count =
        let next : pos word +ℤ pos 1 ≡ pos (word + 1) = omega (arith, ints) in
        let beside : is_beside_workspace (pos 0) (pos word) ≡ true =
        ap (λ (b : Bool). b) (grind (arith, ints)) in
        let before : State = state_of root s number in
        let found : Option Block = Some (record { word = pos word; turning = loop; last = last }) in
        ap (λ (x : Fact). block_of (site at size) before x) is
        ∙ ap (λ (o : Option ℤ). option_and_then (block_at (site at size) before) o) (word_found word)
        ∙ ap (λ (b : Bool). provided b (provided (may_write_word m 0 (pos word +ℤ pos 1))
        (provided (is_beside_workspace (pos 0) (pos word))
        (loop_block (pos word) (s.frame (pos word)) (s.frame (pos word +ℤ pos 1)))))) may_index
        ∙ ap (λ (k : ℤ). provided (may_write_word m 0 k) (provided (is_beside_workspace (pos 0) (pos word))
        (loop_block (pos word) (s.frame (pos word)) (s.frame k)))) next
        ∙ ap (λ (b : Bool). provided b (provided (is_beside_workspace (pos 0) (pos word))
        (loop_block (pos word) (s.frame (pos word)) (s.frame (pos (word + 1)))))) may_count
        ∙ ap (λ (b : Bool). provided b (loop_block (pos word) (s.frame (pos word)) (s.frame (pos (word + 1))))) beside
        ∙ ap (λ (w : WordFact). loop_block (pos word) w (s.frame (pos (word + 1)))) index
        ∙ ap (λ (w : WordFact). loop_block (pos word) (Index loop) w) count
        ∙ ap (λ (b : Bool). cond b (block_of_loop (pos word) loop) None) (same_loop loop)
        ∙ ap (λ (o : Option ℤ). option_map (λ (last : ℤ).
        record { word = pos word; turning = loop; last = last }) o) last_is

    begins_there : (at size head : ℕ) (row : Label) → head ≤ at → head < at + size → at + size < 2 ^ 31
        → label_at m head ≡ Some row
        → beginning (site at size) (Number (pos (at + size - head)) (pos (at + size - head)))
        ≡ Some (begins_at head row)
    unfolding beginning
    begins_there at size head row before some small row_is =
        let d : ℕ = at + size - head in
        let back : target (at + size) (pos 0 -ℤ pos d) ≡ head =
        leads_back (at + size) head (omega (arith, some)) small in
        let far : int_le (pos 1) (pos d) ≡ true = grind (arith, ints) in
        let passes : (is_same_number (pos d) (pos d) && int_le (pos 1) (pos d)) ≡ true = rw (same_word, far) refl in
        ap (λ (b : Bool). cond b (beginning_at (site at size) (target (at + size) (pos 0 -ℤ pos d))) None) passes
        ∙ ap (λ (n : ℕ). beginning_at (site at size) n) back
        ∙ ap (λ (b : Bool). cond b (option_map (begins_at head) (label_at m head)) None) (le-leb head at before)
        ∙ ap (λ (o : Option Label). option_map (begins_at head) o) row_is

    -- the loop turns where it may, or ends
    turned_by : (turns_more : Bool) (block : Block) (begins : Beginning) (s : State) (cost : ℕ) (r : Result ℕ Rule)
        → r ≡ Ok cost
        → FallsInto (cond turns_more (elim r as (λ r. Ruling) [
          | Ok cost ↦ falls_or_leads (after_loop block s) begins.at
          | Err broken ↦ breaks broken
        ]) (falls (after_loop block s))) (after_loop block s)
    turned_by false block begins s cost r is = record { falls = refl; unbroken = λ broken no. cc }
    turned_by true block begins s cost r is =
        subst (λ (x : Result ℕ Rule). FallsInto (elim x as (λ r. Ruling) [
          | Ok cost ↦ falls_or_leads (after_loop block s) begins.at
          | Err broken ↦ breaks broken
        ]) (after_loop block s)) (sym is) (record { falls = refl; unbroken = λ broken no. cc })

    pub loop_turns : (at size number head word cost : ℕ) (s : Told) (row : Label) (loop : CountedLoop) (last : ℤ)
        → head ≤ at → head < at + size → at + size < 2 ^ 31 → size ≤ number → label_at m head ≡ Some row
        → s.stack.a.fact ≡ word_pointer word → s.frame (pos word) ≡ Index loop
        → s.frame (pos (word + 1)) ≡ Count loop → last_index loop ≡ Some last
        → may_write_word m 0 (pos word) ≡ true → may_write_word m 0 (pos (word + 1)) ≡ true
        → below (state_of root (gone s) (number - size + loop.weight)) row ≡ Ok cost
        → FallsInto (rule (site at size) fun.Operate LOOP_END
        (state_of root (with_pushed (known_constant (pos (at + size - head))) s) number))
        (state_of root (record { stack = of_empty unknown; frame = after_turns word last (scheduled s.frame) })
        (number - size))
    unfolding rule rule_of instruction_rule operation_rule local_operation_rule instruction_of op_of
        outside_alternation outside_starts finds turns below written uses
    loop_turns at size number head word cost s row loop last before some small enough row_is is index count last_is
        may_index may_count cost_is =
        let t : Told = with_pushed (known_constant (pos (at + size - head))) s in
        let here : State = state_of root t number in
        let begins : Beginning = begins_at head row in
        let block : Block = record { word = pos word; turning = loop; last = last } in
        let goes : State → Ruling = λ (u : State). turns block begins (record u { stack = of_empty unknown }) in
        let then_turns : Block → Beginning → Ruling = λ (y : Block) (x : Beginning). schedules (site at size) here
        (λ (u : State). pays (site at size) u (λ (v : State). turns y x (record v { stack = of_empty unknown }))) in
        let told : is_told s.stack.a.fact ≡ true = ap is_told is in
        let found = block_found at size number t s.stack.a.fact word loop last is index count last_is may_index
        may_count in
        let there = begins_there at size head row before some small row_is in
        let scheduling : Ruling = schedules (site at size) here (λ (u : State). pays (site at size) u goes) in
        let ruling : rule (site at size) fun.Operate LOOP_END here
        ≡ turns block begins (state_of root (gone s) (number - size)) =
        uses_told s.stack.a (λ (b : Fact). finds (beginning (site at size)
        (Number (pos (at + size - head)) (pos (at + size - head)))) (λ (x : Beginning).
        finds (block_of (site at size) here b) (λ (y : Block). then_turns y x))) told
        ∙ ap (λ (o : Option Beginning). finds o (λ (x : Beginning).
        finds (block_of (site at size) here s.stack.a.fact) (λ (y : Block). then_turns y x))) there
        ∙ ap (λ (o : Option Block). finds o (λ (y : Block). then_turns y begins)) found
        ∙ schedules_on at size number t (λ (u : State). pays (site at size) u goes)
        ∙ pays_on (site at size) (state_of root (took t) number) goes enough in
        let next : pos word +ℤ pos 1 ≡ pos (word + 1) = omega (arith, ints) in
        let result = turned_by (nat_lt 1 loop.count) block begins (state_of root (gone s) (number - size)) cost
        (compared (number - size + loop.weight) (view (state_of root (gone s) (number - size))) row) cost_is in
        subst (λ (r : Ruling). FallsInto r
        (state_of root (record { stack = of_empty unknown; frame = after_turns word last (scheduled s.frame) })
        (number - size))) (sym ruling) result
