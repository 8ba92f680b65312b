-- Where what an operation leaves comes from, and that a chain of conditions comes from nowhere.
use Rattle.std.proofs.Common.{◌≡◌, ℕ, ℤ, pos, false, List, [], ◌∷◌, ◌++◌, Option, Some, None}
use Rattle.std.proofs.Common.{Ok, refl, sym, ap, subst, ◌∙◌, arith, append_assoc}
use Rattle.word_arithmetic.specs.Range.{truths}
use Rattle.word_arithmetic.specs.declared.binary.Binary.{Binary}
use Rattle.word_arithmetic.specs.declared.binary.Binary.TheVariants as binary
use Rattle.prefix_decoder.specs.declared.function.Fun.{Fun}
use Rattle.prefix_decoder.specs.declared.function.Fun.TheVariants as fun
use Rattle.module_format.specs.Rows.{Fact}
use Rattle.module_format.specs.declared.fact.Fact.TheVariants.{Unknown, Number, Pointer, CodeAddress, Loop}
use Rattle.module_format.specs.declared.fact.Fact.TheVariants.{ReturnAddress}
use Rattle.machine_state.specs.Instructions.{instruction_of}
use Rattle.states.specs.declared.known.Known.{Known}
use Rattle.states.specs.declared.known.Source.{Source}
use Rattle.states.specs.declared.known.Source.TheVariants.{Nowhere}
use Rattle.states.specs.declared.rule.Rule.TheVariants as rules
use Rattle.states.specs.State.{State}
use Rattle.rulings.specs.Rulings.{Ruling, Site, falls, breaks, falling, outside_alternation, outside_starts, uses}
use Rattle.rulings.specs.Rulings.{pays, goes_on, pop}
use Rattle.local_rules.specs.LocalRules.{local_operation_rule}
use Rattle.local_rules.specs.WordRules.{becomes, result_fact, result_source}
use Rattle.facts.specs.Rules.{rule, rule_of, instruction_rule, operation_rule}
use Rattle.occam_parser.specs.declared.tree.ChainOperator.TheVariants as chain
use Rattle.occam_parser.specs.declared.tree.Logic.{Logic}
use Rattle.occam_parser.specs.declared.tree.Logic.TheVariants as logic
use Rattle.occam_parser.specs.Expressions.{Chained, Terms, Two, Then}
use Rattle.scalar_ranges.specs.Bounds.{Bound, Within, bound_of_term, bound_of_terms, exact_value, chain_bound}
use Rattle.scalar_ranges.specs.Entries.{Entry}
use Rattle.scalar_ranges.specs.Fronts.{Front, count_of, front_in}
use Rattle.scalar_ranges.proofs.Parts.{both_ok, ok_same}
use Rattle.code_pieces.specs.Pieces.{Piece, Direct, Jump, JumpUnless, LoopBack, Distance, StartBranch, Select}
use Rattle.code_pieces.specs.Pieces.{TableAddress, Row, Place, Within as WithinPiece, Par, operates, word_after}
use Rattle.code_pieces.specs.Laying.{operand_at}
use Rattle.line_pieces.specs.Homes.{Home}
use Rattle.line_pieces.specs.Expressions.{term_code, terms_code, covered, constant_or, first_two}
use Rattle.line_pieces.specs.Expressions.{unless, is_known, beside, pushed, pushes_of, onto, chain_operation}
use Rattle.occam_parser.specs.declared.tree.PairOperator.TheVariants as pair
use Rattle.word_arithmetic.specs.declared.compare.Comparison.TheVariants as comparison
use Rattle.line_pieces.specs.Expressions.{is_small_term}
use Rattle.placed_code.specs.OperandsName.{IsBinary}
use Rattle.placed_code.proofs.OperandsName.{operands_name}
use Rattle.certified_lines.specs.StraightRules.{Setting, Told, Falls, FallOn, done, next, table, state_of}
use Rattle.certified_lines.specs.TestLaws.{ChainsTellNothing}
use Rattle.certified_lines.proofs.Fronts.{uncovered}
use Rattle.certified_lines.proofs.Induction.{expressions_tell}

-- ---- what comes last

-- the first piece of straight code is straight
IsStraight : List Piece → Type 0
IsStraight [] = Unit {0}
IsStraight (Direct f e ∷ ps) = Unit {0}
IsStraight (TableAddress values ∷ ps) = Unit {0}
IsStraight (p ∷ ps) = ⊥

straight_head : {g : Setting} {ps : List Piece} {s t : Told} → FallOn g ps s t → IsStraight ps
unfolding IsStraight
straight_head done = tt
straight_head (next x rest) = tt
straight_head (table rest) = tt

-- what falls over pieces falls over the last of them
pub last_falls : {g : Setting} (ps : List Piece) {qs : List Piece} {s t : Told} → FallOn g (ps ++ qs) s t
    → (m : Told) × FallOn g qs m t
unfolding IsStraight
last_falls [] {s = s} x = (s, x)
last_falls (Direct f e ∷ ps) (next x rest) = last_falls ps rest
last_falls (TableAddress values ∷ ps) (table rest) = last_falls ps rest
last_falls (Jump to ∷ ps) x = absurd (straight_head x)
last_falls (JumpUnless to ∷ ps) x = absurd (straight_head x)
last_falls (LoopBack head behind ∷ ps) x = absurd (straight_head x)
last_falls (Distance from to ∷ ps) x = absurd (straight_head x)
last_falls (StartBranch entry successor ∷ ps) x = absurd (straight_head x)
last_falls (Select targets ∷ ps) x = absurd (straight_head x)
last_falls (Row label entries ∷ ps) x = absurd (straight_head x)
last_falls (Place label ∷ ps) x = absurd (straight_head x)
last_falls (WithinPiece workspace ∷ ps) x = absurd (straight_head x)
last_falls (Par par ∷ ps) x = absurd (straight_head x)

pub one_falls : {g : Setting} {f : Fun} {e : ℤ} {m t : Told} → FallOn g (Direct f e ∷ []) m t
    → Falls g f (operand_at (pos g.depth) f e) m t
one_falls (next x done) = x

-- ---- where it comes from

-- where what is in A comes from after a rule that lets a state fall
unfoldable pub source_after : Ruling → Source
source_after r = elim (falling r) as (λ o. Source) [ None ↦ Nowhere | Some s ↦ s.stack.a.source ]

pub no_break : (broken : _) (s : State) → breaks broken ≡ falls s → ⊥
no_break broken s is = let none = ap falling is in absurd (cc)

-- a register that is used is known
used_by : (fact : Fact) (rest : Ruling) (s : State)
    → (elim fact as (λ f. Ruling) [ Unknown ↦ breaks rules.UnknownRegister | _ ↦ rest ]) ≡ falls s → rest ≡ falls s
used_by Unknown rest s is = absurd (no_break rules.UnknownRegister s is)
used_by (Number lo hi) rest s is = is
used_by (Pointer region lo hi step) rest s is = is
used_by (CodeAddress offset) rest s is = is
used_by (Loop base count weight) rest s is = is
used_by ReturnAddress rest s is = is

pub used : (k : Known) (rest : Fact → Ruling) (s : State) → uses k rest ≡ falls s → rest k.fact ≡ falls s
unfolding uses
used k rest s is = used_by k.fact (rest k.fact) s is

-- a result comes from where its rule says
result_from : (g : Setting) (m : Told) (o : Option Fact) (source : Source) (t : State)
    → becomes (record { contents = g.contents; at = 0; length = 0 }) o source (pop (state_of g m 0)) ≡ falls t
    → source ≡ t.stack.a.source
unfolding becomes outside_alternation outside_starts goes_on pays source_after
result_from g m None source t is = absurd (no_break rules.Number t is)
result_from g m (Some fact) source t is = ap source_after is

operation_from : (g : Setting) (operation : ℤ) (op : Binary) (m t : Told) → IsBinary operation op
    → Falls g fun.Operate operation m t → result_source op m.stack.b m.stack.a ≡ t.stack.a.source
unfolding rule rule_of instruction_rule operation_rule local_operation_rule instruction_of
operation_from g operation op m t named x =
    let site : Site = record { contents = g.contents; at = 0; length = 0 } in
    let source : Source = result_source op m.stack.b m.stack.a in
    let is : uses m.stack.a (λ a. uses m.stack.b (λ b.
    becomes site (result_fact op b a) source (pop (state_of g m 0)))) ≡ falls (state_of g t 0) =
    rw named at (x.falls 0 0 0 (omega arith)) in
    let first = used m.stack.a (λ a. uses m.stack.b (λ b.
    becomes site (result_fact op b a) source (pop (state_of g m 0)))) (state_of g t 0) is in
    let second = used m.stack.b (λ b.
    becomes site (result_fact op b m.stack.a.fact) source (pop (state_of g m 0))) (state_of g t 0) first in
    result_from g m (result_fact op m.stack.b.fact m.stack.a.fact) source (state_of g t 0) second

-- ---- chains of conditions

logic_names : (op : Logic) → (operation : Binary) × IsBinary (chain_operation (chain.Logic op)) operation
    × ((l r : Known) → result_source operation l r ≡ Nowhere)
logic_names logic.And = (binary.And, operands_name.and, λ l r. refl)
logic_names logic.Or = (binary.Or, operands_name.or, λ l r. refl)

logic_bound : (es : List Entry) (op : Logic) (ts : Terms) (b : Bound) → bound_of_terms es (chain.Logic op) ts ≡ Ok b
    → b ≡ Within truths
logic_bound es op (Two x y) b is =
    let d = both_ok (bound_of_term es x) (bound_of_term es y) (chain_bound (chain.Logic op)) b is in
    sym (ok_same (Within truths) b d.4)
logic_bound es op (Then ts x) b is =
    let d = both_ok (bound_of_terms es (chain.Logic op) ts) (bound_of_term es x) (chain_bound (chain.Logic op)) b is in
    sym (ok_same (Within truths) b d.4)

-- the code of a chain that is no constant ends with the operation
terms_end : (hs : List Home) (es : List Entry) (t : ℕ) (op : Logic) (front : Option Front) (ts : Terms)
    → covered front (count_of ts) ≡ None
    → (ps : List Piece)
    × (terms_code hs es t (chain.Logic op) front ts ≡ ps ++ operates (chain_operation (chain.Logic op)) ∷ [])
terms_end hs es t op front (Two x y) none = (
  pushed (pushes_of (pair.Comparison comparison.Equal) None None) t
      (beside es x (term_code hs es t x) (term_code hs es (word_after t 1) x))
      (beside es y (term_code hs es t y) (term_code hs es (word_after t 1) y)),
  ap (λ (o : Option ℤ). constant_or o (first_two t (chain.Logic op) None
      (beside es x (term_code hs es t x) (term_code hs es (word_after t 1) x))
      (beside es y (term_code hs es t y) (term_code hs es (word_after t 1) y)))) none,
)
terms_end hs es t op front (Then ts x) none =
    let code : List Piece = terms_code hs es t (chain.Logic op) front ts in
    let right : List Piece = onto false t (is_small_term es x) (term_code hs es (word_after t 1) x) in (
      code ++ right,
      ap (λ (o : Option ℤ). code ++ unless (is_known o)
          (right ++ operates (chain_operation (chain.Logic op)) ∷ [])) none
          ∙ sym (append_assoc code right (operates (chain_operation (chain.Logic op)) ∷ [])),
    )

pub chains_tell_nothing : ChainsTellNothing
chains_tell_nothing g top t es op ts type b before scope low few words typed is all holds =
    let told = expressions_tell g top es (Chained (chain.Logic op) ts) type b scope words typed is in
    let p = told.tells t low few all before holds in
    let none : exact_value (bound_of_terms es (chain.Logic op) ts) ≡ None = ap exact_value is
    ∙ ap (λ (e : Bound). exact_value (Ok e)) (logic_bound es op ts b is) in
    let ending = terms_end g.homes es t op (front_in es (chain.Logic op) ts) ts
    (uncovered es (chain.Logic op) ts none) in
    let code = ap (λ (o : Option ℤ). constant_or o (terms_code g.homes es t (chain.Logic op)
    (front_in es (chain.Logic op) ts) ts)) none ∙ ending.1 in
    let names = logic_names op in
    let last = last_falls ending.0 (subst (λ (ps : List Piece). FallOn g.setting ps before p.after) code p.falls) in
    let source = operation_from g.setting (chain_operation (chain.Logic op)) names.0 last.0 p.after names.1
    (one_falls last.1) in (
      told.range,
      told.ranged,
      record {
        after = p.after;
        falls = p.falls;
        fact = p.a;
        source = sym source ∙ names.2 last.0.stack.b last.0.stack.a;
        stay = p.stay;
      },
    )
