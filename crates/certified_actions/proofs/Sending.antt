-- What the code of outputs leaves known.
use Rattle.std.proofs.Common.{◌≡◌, ℕ, ◌+◌, ◌*◌, ◌/◌, ◌<◌, ◌≤◌, inr, ℤ, pos, List, [], ◌∷◌, ◌++◌, Option}
use Rattle.std.proofs.Common.{true, Some, None, refl, sym, ap, subst, ◌∙◌, arith}
use Rattle.word_arithmetic.specs.Range.{Ends, full}
use Rattle.module_format.specs.Rows.{Fact}
use Rattle.module_format.specs.declared.fact.Fact.TheVariants.{Pointer}
use Rattle.module_format.specs.declared.fact.Region.TheVariants as regions
use Rattle.module_format.specs.declared.fact.Step.{Step}
use Rattle.module_format.specs.declared.fact.Step.TheVariants.{Word as WordStep}
use Rattle.module_format.specs.declared.limits.TheConstants.{MAX_DATA_WORDS}
use Rattle.module_format.specs.declared.rows.Direction.TheVariants.{Out}
use Rattle.states.specs.declared.known.WordFact.TheVariants.{Alone}
use Rattle.states.specs.State.{known}
use Rattle.rulings.specs.Pointers.{are_near}
use Rattle.occam_parser.specs.declared.tree.ValueType.{ValueType}
use Rattle.occam_parser.specs.Expressions.{Expression, Alone as OneTerm, Element}
use Rattle.occam_parser.specs.Expressions.{Named}
use Rattle.occam_parser.specs.Lines.{Place}
use Rattle.scalar_ranges.specs.declared.scope.ScalarKind.{ScalarKind}
use Rattle.scalar_ranges.specs.Bounds.{Bound, bound_of, range_found}
use Rattle.scalar_ranges.specs.Entries.{Meaning, Array, Channel, Channels, Constant, Entry, Procedure, Scalar}
use Rattle.scalar_ranges.specs.Entries.{meaning_in}
use Rattle.scalar_ranges.specs.Types.{type_of_values}
use Rattle.code_pieces.specs.declared.operations.TheConstants.{OUTPUT}
use Rattle.code_pieces.specs.Pieces.{Piece, points, stores}
use Rattle.line_pieces.specs.Actions.{KnownElement, NoTarget, OtherElement, Target, exchange, message_code}
use Rattle.line_pieces.specs.Actions.{element_target, output_code, target_address, target_of, whole_target}
use Rattle.line_pieces.specs.Expressions.{Subscript, expression_code, is_leaf, is_small, single, subscript_of}
use Rattle.line_pieces.specs.Homes as home
use Rattle.line_pieces.specs.Homes.{Block, Home, Link, Nowhere, Passed, Word, home_of, words_for}
use Rattle.certified_lines.specs.StraightRules.{FallOn, Told, with_pushed}
use Rattle.certified_lines.specs.ElementLaws.{IsArray}
use Rattle.certified_lines.specs.ExpressionLaws.{IsTold}
use Rattle.certified_lines.specs.Instructions.{MayRead, is_told, word_pointer}
use Rattle.certified_lines.specs.Scopes.{AreKnownThere, HoldsScope, IsHousedThere, IsNumber, IsScope, MayReadAll, Scene}
use Rattle.certified_lines.specs.Telling.{AreAllowed}
use Rattle.certified_lines.proofs.StraightRules.{fall_both}
use Rattle.certified_lines.proofs.Induction.{expressions_tell}
use Rattle.certified_lines.proofs.Instructions.{addresses_are_known, stored_words_are_known}
use Rattle.certified_lines.proofs.Operands.{allowed_first, allowed_rest, stored_stay, stored_there}
use Rattle.certified_lines.proofs.Telling.{few_counted, name_has, scopes_stay}
use Rattle.certified_lines.proofs.Elements.{array_numbers, array_housed}
use Rattle.certified_actions.specs.Exchanging.{IsOff, IsPort, IsUndisturbed}
use Rattle.certified_actions.specs.Keeping.{FallsTo}
use Rattle.certified_actions.specs.Sending.{HasSource, IsElementOf, OutputsFall}
use Rattle.certified_actions.specs.Variables.{IsSubscript, is_computed, is_known}
use Rattle.certified_actions.proofs.Bytes.{more_bytes, message_read, one_word_has, words_have}
use Rattle.certified_actions.proofs.Addressing.{word_near}
use Rattle.certified_actions.proofs.Assigning.{scope_free}
use Rattle.certified_actions.proofs.Elements.{array_below, element, known_target, other_target}
use Rattle.certified_actions.proofs.ElementStores.{free_counts, temporary, waiting}
use Rattle.certified_actions.proofs.Exchanging.{out_falls, undisturbed_holds}
use Rattle.certified_actions.proofs.Locating.{Located, known_located, other_located}
use Rattle.certified_actions.proofs.Receiving.{words_off}

module _ (g : Scene) (top : ℕ) (es : List Entry) (channel : Place) (type : ValueType) (value : Expression)
    (b : Bound) (before : Told) (scope : IsScope g top es) (undisturbed : IsUndisturbed g top es)
    (port : IsPort g es Out channel type)
    (told : IsTold g top es (λ t. expression_code g.homes es t value) (is_leaf es value) (is_small es value)
    (type_of_values type) b) (holds : HoldsScope g es before.frame) where
  abbrev asked : List Piece
  asked = exchange g.homes es channel OUTPUT

  abbrev code : List Piece
  code = expression_code g.homes es top value

  abbrev more : ℕ
  more = (more_bytes type).0

  few_more : more ≤ 3
  few_more = let few = (more_bytes type).2 in omega (arith, few)

  -- a message of numbers is sent
  sent : (ps : List Piece) (k : Told) (first last : ℕ) (step : Step) → FallOn g.setting ps before k
      → HoldsScope g es k.frame → k.stack.a.fact ≡ Pointer regions.Frame (pos first) (pos last) step
      → are_near (pos first) (pos last) ≡ true → first ≤ last
      → ((v : ℕ) → first / 4 ≤ v → v ≤ (last + more) / 4 → IsOff g.setting.depth v)
      → ((v : ℕ) → first / 4 ≤ v → v ≤ (last + more) / 4 → (r : Ends) × IsNumber k.frame v r)
      → ((v : ℕ) → first / 4 ≤ v → v ≤ (last + more) / 4 → MayRead g.setting v) → FallsTo g top es (ps ++ asked) before
  sent ps k first last step falls kept a near up off numbers reads =
      let out = out_falls g top es undisturbed channel type k first last step a near up port off numbers
      (message_read g.setting first last more up reads) in
      record {
        after = out.0;
        falls = fall_both falls out.1;
        holds = subst (HoldsScope g es) (sym out.2) (undisturbed_holds g es k.frame undisturbed.names kept);
        scope = scope;
      }

  -- from a temporary
  stored_sent : AreAllowed g ((code ++ stores top ∷ points top ∷ []) ++ asked)
      → FallsTo g top es ((code ++ stores top ∷ points top ∷ []) ++ asked) before
  stored_sent all =
      let free = scope_free g top es scope in
      let ahead = allowed_first g (code ++ stores top ∷ points top ∷ []) asked all in
      let first = told.tells top (omega arith) free (allowed_first g code (stores top ∷ points top ∷ []) ahead) before
      holds in
      let here = temporary g top free (allowed_rest g code (stores top ∷ points top ∷ []) ahead).0 in
      let few = here.few in
      let k : Told = first.after in
      let stored : Told = waiting top k in
      let kept = scopes_stay g top top es before.frame k.frame scope (omega arith) first.stay holds in
      let there = stored_there top k.stack.a.fact k.frame ∙ ap (λ (f : Fact). Alone f) first.a in
      sent (code ++ stores top ∷ points top ∷ []) (with_pushed (known (word_pointer top)) stored) (4 * top) (4 * top)
      WordStep
      (fall_both first.falls
      (fall_both (stored_words_are_known g.setting top k (free_counts top free) here.writes (ap is_told first.a))
      (addresses_are_known g.setting top stored (free_counts top free) (omega (arith, few)))))
      (scopes_stay g top top es k.frame stored.frame scope (omega arith) (stored_stay top k.stack.a.fact k.frame) kept)
      refl (word_near top (omega (arith, few))) (omega arith)
      (one_word_has (IsOff g.setting.depth) top more (inr undisturbed.free) few_more)
      (one_word_has (λ v. (r : Ends) × IsNumber stored.frame v r) top more (told.range, there) few_more)
      (one_word_has (MayRead g.setting) top more here.reads few_more)

  -- from where a scalar is
  scalar_sent : (name : List ℕ) (kind : ScalarKind) (of : ValueType) (range : Ends) (w : ℕ)
      → meaning_in name es ≡ Some (Scalar kind of range) → home_of g.homes es name ≡ Some (Word w)
      → FallsTo g top es ((points w ∷ []) ++ asked) before
  scalar_sent name kind of range w means at =
      let m : Meaning = Scalar kind of range in
      let housed = subst (λ (o : Option Home). IsHousedThere g top o m) at
      (name_has (IsHousedThere g top) g.homes es name m scope.housed means) in
      let there = subst (λ (o : Option Home). AreKnownThere g before.frame o m) at
      (name_has (AreKnownThere g before.frame) g.homes es name m holds means) in
      let less = housed.1 in
      let most = scope.few in
      let inside : w < MAX_DATA_WORDS = omega (arith, less, most) in
      sent (points w ∷ []) (with_pushed (known (word_pointer w)) before) (4 * w) (4 * w) WordStep
      (addresses_are_known g.setting w before (few_counted w inside) (omega (arith, inside))) holds refl
      (word_near w (omega (arith, inside))) (omega arith)
      (one_word_has (IsOff g.setting.depth) w more
      (words_off g es name m w (IsOff g.setting.depth) undisturbed.names means at) few_more)
      (one_word_has (λ v. (r : Ends) × IsNumber before.frame v r) w more (range, there) few_more)
      (one_word_has (MayRead g.setting) w more housed.2 few_more)

  -- from where an element is
  module _ (name : List ℕ) (e : Expression) (size w : ℕ) (range : Ends)
      (x : IsArray g es name type (Word w) size range) where
    abbrev count : ℕ
    count = words_for type size

    reads_all : MayReadAll g.setting w count
    reads_all = (array_housed g top es name type size w range scope x).2

    located_sent : (ps : List Piece) → Located g.setting type w count top ps before → FallsTo g top es
        (ps ++ asked) before
    located_sent ps y =
        let k = y.after in
        let kept = scopes_stay g top top es before.frame k.frame scope (omega arith) y.stay holds in
        let numbers = array_numbers g es name type size w range k.frame x kept in
        sent ps k y.first y.last y.step y.falls kept y.a y.near y.lies.up
        (words_have (IsOff g.setting.depth) w count y.first y.last more y.lies
        (words_off g es name (Array x.kind type (Some size) range) w (IsOff g.setting.depth) undisturbed.names x.means
        x.at))
        (words_have (λ v. (r : Ends) × IsNumber k.frame v r) w count y.first y.last more y.lies
        (λ n less. (full, numbers n less)))
        (words_have (MayRead g.setting) w count y.first y.last more y.lies reads_all)

    array_few : w + count ≤ MAX_DATA_WORDS
    array_few =
        let below = array_below g top es name type size w range scope x in
        let few = scope.few in
        omega (arith, below, few)

    element_sent : IsSubscript g top es size e
        → AreAllowed g (message_code (target_of g.homes es top (element name e)) top code ++ asked)
        → FallsTo g top es (message_code (target_of g.homes es top (element name e)) top code ++ asked) before
    element_sent (is_known c less is) all =
        let target = known_target g es top name type size w e range x c is in
        subst (λ (y : Target). FallsTo g top es (message_code y top code ++ asked) before) (sym target)
        (located_sent (target_address (KnownElement type w c))
        (known_located g.setting type w c size top before less array_few))
    element_sent (is_computed is all_of start) all =
        let target = other_target g es top name type size w e range x is in
        let other : Target = OtherElement type w (subscript_of g.homes es top e) in
        let there = subst (λ (y : Target). AreAllowed g (message_code y top code ++ asked)) target all in
        subst (λ (y : Target). FallsTo g top es (message_code y top code ++ asked) before) (sym target)
        (located_sent (target_address other)
        (other_located g type w size top es e before array_few (scope_free g top es scope) all_of
        (allowed_first g (target_address other) asked there) holds))

  -- ---- which it is

  -- from a place, or from a temporary where there is none
  abbrev SentFrom : Target → Type 0
  SentFrom y = AreAllowed g (message_code y top code ++ asked) → FallsTo g top es
      (message_code y top code ++ asked) before

  named_sent : (name : List ℕ) (h : Option Home) (m : Option Meaning) → home_of g.homes es name ≡ h
      → meaning_in name es ≡ m → SentFrom (whole_target h m)
  named_sent name None m at means = stored_sent
  named_sent name (Some Nowhere) m at means = stored_sent
  named_sent name (Some (Block w head)) m at means = stored_sent
  named_sent name (Some (Link n)) m at means = stored_sent
  named_sent name (Some (home.Table values)) m at means = stored_sent
  named_sent name (Some (Word w)) None at means = stored_sent
  named_sent name (Some (Word w)) (Some (Constant of v)) at means = stored_sent
  named_sent name (Some (Word w)) (Some (Scalar kind of range)) at means =
      λ all. scalar_sent name kind of range w means at
  named_sent name (Some (Word w)) (Some (Array kind of size range)) at means = stored_sent
  named_sent name (Some (Word w)) (Some (Channel of)) at means = stored_sent
  named_sent name (Some (Word w)) (Some (Channels of size)) at means = stored_sent
  named_sent name (Some (Word w)) (Some (Procedure n)) at means = stored_sent
  named_sent name (Some (Passed w)) None at means = stored_sent
  named_sent name (Some (Passed w)) (Some (Constant of v)) at means = stored_sent
  named_sent name (Some (Passed w)) (Some (Scalar kind of range)) at means =
      absurd (subst (λ (o : Option Home). IsHousedThere g top o (Scalar kind of range)) at
      (name_has (IsHousedThere g top) g.homes es name (Scalar kind of range) scope.housed means))
  named_sent name (Some (Passed w)) (Some (Array kind of size range)) at means = stored_sent
  named_sent name (Some (Passed w)) (Some (Channel of)) at means = stored_sent
  named_sent name (Some (Passed w)) (Some (Channels of size)) at means = stored_sent
  named_sent name (Some (Passed w)) (Some (Procedure n)) at means = stored_sent

  module _ (name : List ℕ) (e : Expression) (x : IsElementOf g top es type name e) where
    abbrev m : Meaning
    m = Array x.kind type (Some x.size) x.range

    -- an element of what has no words is pushed
    not_there : (h : Home) → home_of g.homes es name ≡ Some h
        → ((o : Option ℤ) (s : Subscript) → element_target (Some h) (Some m) o s ≡ NoTarget)
        → SentFrom (target_of g.homes es top (element name e))
    not_there h at none =
        subst SentFrom
        (sym (ap (λ (o : Option Home). element_target o (meaning_in name es) (single (range_found (bound_of es e)))
        (subscript_of g.homes es top e)) at
        ∙ (ap (λ (k : Option Meaning). element_target (Some h) k (single (range_found (bound_of es e)))
        (subscript_of g.homes es top e)) x.means ∙ none (single (range_found (bound_of es e)))
        (subscript_of g.homes es top e))))
        stored_sent

    element_by : (o : Option Home) → home_of g.homes es name ≡ o → IsHousedThere g top o m
        → SentFrom (target_of g.homes es top (element name e))
    element_by None at housed = absurd housed
    element_by (Some (Word w)) at housed =
        element_sent name e x.size w x.range (record { kind = x.kind; means = x.means; at = at }) x.subscript
    element_by (Some Nowhere) at housed = not_there Nowhere at (λ o s. refl)
    element_by (Some (Block w head)) at housed = not_there (Block w head) at (λ o s. refl)
    element_by (Some (Link n)) at housed = not_there (Link n) at (λ o s. refl)
    element_by (Some (home.Table values)) at housed = not_there (home.Table values) at (λ o s. refl)
    element_by (Some (Passed w)) at housed = absurd housed

    element_of_sent : SentFrom (target_of g.homes es top (element name e))
    element_of_sent =
        element_by (home_of g.homes es name) refl
        (name_has (IsHousedThere g top) g.homes es name m scope.housed x.means)

pub outputs_fall : OutputsFall
outputs_fall g top es channel value before scope undisturbed x all holds = by value told x.source all
  where
    told : IsTold g top es (λ t. expression_code g.homes es t value) (is_leaf es value) (is_small es value)
        (type_of_values x.valued.type) x.valued.bound
    told =
        expressions_tell g top es value (type_of_values x.valued.type) x.valued.bound scope x.valued.words
        x.valued.typed x.valued.bounded

    by : (v : Expression) → IsTold g top es (λ t. expression_code g.homes es t v) (is_leaf es v) (is_small es v)
        (type_of_values x.valued.type) x.valued.bound → HasSource g top es x.valued.type v → AreAllowed g
        (output_code g.homes es top channel v)
        → FallsTo g top es (output_code g.homes es top channel v) before
    by (OneTerm (Named name)) told source =
        named_sent g top es channel x.valued.type (OneTerm
        (Named name)) x.valued.bound before scope undisturbed x.port told holds name
        (home_of g.homes es name) (meaning_in name es) refl refl
    by (OneTerm (Element name e)) told source =
        element_of_sent g top es channel x.valued.type (OneTerm (Element name e)) x.valued.bound before scope
        undisturbed x.port told holds name e source
    by v told source =
        stored_sent g top es channel x.valued.type v x.valued.bound before scope undisturbed x.port told holds
