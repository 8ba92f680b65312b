-- What the code of inputs leaves known.
use Rattle.std.proofs.Common.{◌≡◌, ℕ, suc, ◌+◌, ◌*◌, ◌/◌, ◌-◌, ◌<◌, ◌≤◌, inl, inr, ℤ, pos, ◌+ℤ◌, Bool, false}
use Rattle.std.proofs.Common.{cond, not, List, [], ◌∷◌, ◌++◌, Option, Some, None, refl, sym, ap, subst, ◌∙◌, arith}
use Rattle.word_arithmetic.specs.Range.{Ends, IsRange, full}
use Rattle.word_arithmetic.specs.Range as ranges
use Rattle.module_format.specs.Rows.{Fact}
use Rattle.module_format.specs.declared.fact.Fact.TheVariants.{Unknown, Number}
use Rattle.module_format.specs.declared.fact.Region.TheVariants as regions
use Rattle.module_format.specs.declared.fact.Step.TheVariants.{Word as WordStep}
use Rattle.module_format.specs.declared.limits.TheConstants.{MAX_DATA_WORDS}
use Rattle.module_format.specs.declared.rows.Direction.TheVariants.{In}
use Rattle.states.specs.declared.known.WordFact.{WordFact}
use Rattle.states.specs.declared.known.WordFact.TheVariants.{Alone, Index, Count}
use Rattle.states.specs.Spans.{together}
use Rattle.states.specs.State.{Facts, is_alone, is_same_number, known, one_word}
use Rattle.rulings.specs.Pointers.{byte_read}
use Rattle.rulings.proofs.Words.{word_test}
use Rattle.local_rules.specs.WordRules.{number_in}
use Rattle.occam_parser.specs.declared.tree.ValueType.{ValueType}
use Rattle.occam_parser.specs.declared.tree.ValueType.TheVariants as value_type
use Rattle.occam_parser.specs.Expressions.{Expression}
use Rattle.occam_parser.specs.Lines.{Place}
use Rattle.scalar_ranges.specs.declared.scope.ScalarKind.TheVariants as scalar
use Rattle.scalar_ranges.specs.Entries.{Meaning, Scalar, Array, Entry, meaning_in, type_range}
use Rattle.scalar_ranges.specs.Moves.{at_number, widened, with_meaning}
use Rattle.program_meaning.specs.Links.{message_length}
use Rattle.usage_checks.specs.Following.{after_input, receive_if}
use Rattle.code_pieces.specs.declared.operations.TheConstants.{INPUT}
use Rattle.code_pieces.specs.Pieces.{Piece, points}
use Rattle.line_pieces.specs.Actions.{Target, OwnWord, KnownElement, OtherElement, cleaned, exchange, input_code}
use Rattle.line_pieces.specs.Actions.{target_address}
use Rattle.line_pieces.specs.Expressions.{subscript_of}
use Rattle.line_pieces.specs.Homes.{Home, Word, home_of, words_for}
use Rattle.certified_lines.specs.StraightRules.{Told, FallOn, done, with_pushed}
use Rattle.certified_lines.specs.Addresses.{told_state}
use Rattle.certified_lines.specs.Instructions.{MayRead, MayWrite, is_told, with_a, with_word, without_a, word_pointer}
use Rattle.certified_lines.specs.Scopes.{AreKnownThere, Scene, EachNameHas, HoldsScope, IsNumber, IsScope}
use Rattle.certified_lines.specs.Telling.{AreAllowed}
use Rattle.certified_lines.proofs.StraightRules.{fall_both}
use Rattle.certified_lines.proofs.Addresses.{loaded_bytes_are_known}
use Rattle.certified_lines.proofs.Instructions.{addresses_are_known, stored_words_are_known}
use Rattle.certified_lines.proofs.NarrowedScopes.{changed_scopes_hold}
use Rattle.certified_lines.proofs.Ranges.{full_ranged}
use Rattle.certified_lines.proofs.Operands.{allowed_first, same_word, stored_there}
use Rattle.certified_lines.proofs.Telling.{few_counted, name_has, scopes_stay}
use Rattle.certified_lines.proofs.Elements.{array_numbers, bytes_touched}
use Rattle.certified_lines.proofs.Induction.{bytes_ranged}
use Rattle.certified_lines.proofs.MovingWords.{all_numbers_here}
use Rattle.certified_lines.proofs.Operands.{other_word}
use Rattle.certified_actions.specs.Exchanging.{IsOff, IsPort, IsUndisturbed}
use Rattle.certified_actions.specs.Keeping.{FallsTo, NumbersStay, WordsThere}
use Rattle.certified_actions.specs.Messages.{exchanged, with_received}
use Rattle.certified_actions.specs.Receiving.{InputsFall}
use Rattle.certified_actions.specs.Variables.{IsOwnArray, IsOwnScalar, IsSubscript, IsVariable, array_element}
use Rattle.certified_actions.specs.Variables.{is_computed}
use Rattle.certified_actions.specs.Variables.{is_known, whole_scalar}
use Rattle.certified_actions.proofs.Bytes.{more_bytes, message_read, message_written, one_word_has, words_have}
use Rattle.certified_actions.proofs.Addressing.{at_word, word_near, word_pointed}
use Rattle.certified_actions.proofs.Assigning.{scope_free}
use Rattle.certified_actions.proofs.Elements.{array_below, element, known_target, other_target}
use Rattle.certified_actions.proofs.Exchanging.{in_falls, scheduling_stays, undisturbed_holds}
use Rattle.certified_actions.proofs.Exchanging.{with_channel}
use Rattle.certified_actions.proofs.Keeping.{fewer_stay, kept_numbers_hold, numbers_both, numbers_kept, untouched_stay}
use Rattle.certified_actions.proofs.Locating.{Located, known_located, other_located}
use Rattle.certified_actions.proofs.Locating.{received_stays, some_bytes, word_received, WordReceived}
use Rattle.certified_actions.proofs.Scalars.{changed_is, each_changed, IsNumbered, scalar_housed, scalar_numbered}
use Rattle.certified_actions.proofs.Scalars.{scalar_target, scope_changed, variable_is, whole}

-- ---- the words of names

-- what holds of the words of each name holds of those of one that is found
pub words_off : (g : Scene) (es : List Entry) (name : List ℕ) (k : Meaning) (w : ℕ) (P : ℕ → Type 0)
    → EachNameHas (WordsThere P) g.homes es → meaning_in name es ≡ Some k → home_of g.homes es name ≡ Some (Word w)
    → WordsThere P (Some (Word w)) k
words_off g es name k w P names means at =
    subst (λ (o : Option Home). WordsThere P o k) at (name_has (WordsThere P) g.homes es name k names means)

-- ---- a scalar that has another number

module _ (g : Scene) (top : ℕ) (es : List Entry) (name : List ℕ) (type : ValueType) (w : ℕ)
    (x : IsOwnScalar g es name type w) (undisturbed : IsUndisturbed g top es) (r : Ends) (old new : Facts) where
  abbrev depth : ℕ
  depth = g.setting.depth

  abbrev IsSpared : ℕ → Type 0
  IsSpared v = IsOff depth v × (v ≡ w → ⊥)

  -- the word is this number, and nothing else is known anew
  put : Facts
  put z = cond (is_same_number z (pos w)) (Alone (number_in r)) (old z)

  put_there : put (pos w) ≡ Alone (number_in r)
  unfolding put
  put_there = ap (λ (b : Bool). cond b (Alone (number_in r)) (old (pos w))) (same_word (pos w))

  put_elsewhere : (z : ℤ) → (z ≡ pos w → ⊥) → put z ≡ old z
  unfolding put
  put_elsewhere z apart = ap (λ (b : Bool). cond b (Alone (number_in r)) (old z)) (other_word z (pos w) apart)

  module _ (there : IsNumber new w r) (stay : NumbersStay IsSpared old new) where
    alone_put : (k : ℕ) (q : Ends) → IsOff depth k → IsNumber put k q → IsNumber new k q
    alone_put k q off is = elim (word_test (pos k) (pos w)) [
      | inl same ↦ ap new same.1 ∙ (there ∙ (sym put_there ∙ (ap put (sym same.1) ∙ is)))
      | inr other ↦ stay.alone k q (off, λ at. other.1 (ap (λ (n : ℕ). pos n) at))
          (sym (put_elsewhere (pos k) other.1) ∙ is)
    ]

    -- a word of a loop is not the scalar's
    loop_elsewhere : (k : ℕ) (f : WordFact) → is_alone f ≡ false → put (pos k) ≡ f → pos k ≡ pos w → ⊥
    loop_elsewhere k f other is same =
        cc (ap is_alone (sym put_there ∙ (ap put (sym same) ∙ is)), other)

    put_stays : NumbersStay (IsOff depth) put new
    put_stays = record {
      alone = alone_put;
      loops = λ k i c off next index count.
          let first = loop_elsewhere k (Index i) refl index in
          let second = loop_elsewhere (k + 1) (Count c) refl count in
          stay.loops k i c (off, λ at. first (ap (λ (n : ℕ). pos n) at)) (next, λ at. second (ap (λ (n : ℕ). pos n) at))
          (sym (put_elsewhere (pos k) first) ∙ index) (sym (put_elsewhere (pos (k + 1)) second) ∙ count);
    }

    abbrev numbered : IsNumbered g es name w (Scalar scalar.Variable type x.range)
    numbered = scalar_numbered g es name type w x

    -- the scope with another range is held
    pub put_held : (m : Meaning → Meaning) → m (Scalar scalar.Variable type x.range) ≡ Scalar scalar.Variable type r
        → HoldsScope g es old → HoldsScope g (at_number (with_meaning m) numbered.number es) new
    put_held m same holds =
        let k : Meaning = Scalar scalar.Variable type x.range in
        let is = changed_is (λ q. r) m name numbered.number k es numbered.is numbered.means same in
        let held = changed_scopes_hold g es name w scalar.Variable type x.range (λ q. r) old put x.means x.at x.beside
        holds (record { there = put_there; others = λ z apart whole. put_elsewhere z apart }) in
        let here = subst (λ (o : Option Home). WordsThere (IsOff depth) o (m k)) (sym numbered.at)
        (subst (λ (j : Meaning). WordsThere (IsOff depth) (Some (Word w)) j) (sym same)
        (words_off g es name k w (IsOff depth) undisturbed.names x.means x.at)) in
        numbers_kept g (IsOff depth) put new put_stays (at_number (with_meaning m) numbered.number es)
        (each_changed (WordsThere (IsOff depth)) m g.homes numbered.number k es numbered.means here undisturbed.names)
        (subst (λ (ds : List Entry). HoldsScope g ds put) is held)

-- ---- inputs

module _ (g : Scene) (top : ℕ) (es : List Entry) (channel : Place) (type : ValueType) (before : Told)
    (scope : IsScope g top es) (undisturbed : IsUndisturbed g top es) (port : IsPort g es In channel type)
    (holds : HoldsScope g es before.frame) where
  abbrev asked : List Piece
  asked = exchange g.homes es channel INPUT

  abbrev more : ℕ
  more = (more_bytes type).0

  -- ---- an element

  module _ (name : List ℕ) (e : Expression) (size w : ℕ) (x : IsOwnArray g es name type size w) where
    abbrev count : ℕ
    count = words_for type size

    element_received : (ps : List Piece) → Located g.setting type w count top ps before
        → FallsTo g top es ((ps ++ asked) ++ []) before
    element_received ps y =
        let k = y.after in
        let kept = scopes_stay g top top es before.frame k.frame scope (omega arith) y.stay holds in
        let numbers = array_numbers g es name type size w x.range k.frame x.array kept in
        let off = words_have (IsOff g.setting.depth) w count y.first y.last more y.lies
        (words_off g es name (Array x.array.kind type (Some size) x.range) w (IsOff g.setting.depth)
        undisturbed.names x.array.means x.array.at) in
        let may = message_written g.setting y.first y.last more y.lies.up
        (words_have (MayWrite g.setting) w count y.first y.last more y.lies x.writes) in
        let s = with_channel port.link (message_length type) k in
        let came = with_received (some_bytes y.first y.last y.step) (pos y.last +ℤ pos (message_length type)) s in
        let stay = subst (λ (n : ℕ). NumbersStay (λ v. v < top) k.frame
        (with_received (some_bytes y.first y.last y.step) (pos y.last +ℤ pos n) s).frame) (sym (more_bytes type).1)
        (received_stays (λ v. v < top) w count y.first y.last more y.step y.lies s numbers) in
        record {
          after = exchanged g.setting came;
          falls = fall_both (fall_both y.falls
              (in_falls g top es undisturbed channel type k y.first y.last y.step y.a y.near
              y.lies.up off may port)) done;
          holds = undisturbed_holds g es came.frame undisturbed.names
              (kept_numbers_hold g top es k.frame came.frame scope stay kept);
          scope = scope;
        }

    array_few : w + count ≤ MAX_DATA_WORDS
    array_few =
        let below = array_below g top es name type size w x.range scope x.array in
        let few = scope.few in
        omega (arith, below, few)

    element_by : IsSubscript g top es size e → AreAllowed g (input_code g.homes es top channel (element name e))
        → FallsTo g top es (input_code g.homes es top channel (element name e)) before
    element_by (is_known c less is) all =
        let target = known_target g es top name type size w e x.range x.array c is in
        subst (λ (y : Target). FallsTo g top es ((target_address y ++ asked) ++ cleaned y) before) (sym target)
        (element_received (target_address (KnownElement type w c))
        (known_located g.setting type w c size top before less array_few))
    element_by (is_computed is all_of start) all =
        let target = other_target g es top name type size w e x.range x.array is in
        let other : Target = OtherElement type w (subscript_of g.homes es top e) in
        let there = subst (λ (y : Target). AreAllowed g ((target_address y ++ asked) ++ cleaned y)) target all in
        subst (λ (y : Target). FallsTo g top es ((target_address y ++ asked) ++ cleaned y) before) (sym target)
        (element_received (target_address other)
        (other_located g type w size top es e before array_few (scope_free g top es scope) all_of
        (allowed_first g (target_address other) asked (allowed_first g
        (target_address other ++ asked) [] there)) holds))

  -- ---- a scalar

  module _ (name : List ℕ) (w : ℕ) (x : IsOwnScalar g es name type w) where
    abbrev housed : IsRange x.range × (w < top) × MayRead g.setting w
    housed = scalar_housed g top es name type w scope x

    inside : w < MAX_DATA_WORDS
    inside = let less = housed.1 in let few = scope.few in omega (arith, less, few)

    word_off : IsOff g.setting.depth w
    word_off = words_off g es name (Scalar scalar.Variable type x.range) w (IsOff g.setting.depth) undisturbed.names
        x.means x.at

    word_known : IsNumber before.frame w x.range
    word_known =
        subst (λ (o : Option Home). AreKnownThere g before.frame o (Scalar scalar.Variable type x.range)) x.at
        (name_has (AreKnownThere g before.frame) g.homes es name (Scalar scalar.Variable type x.range) holds x.means)

    few_more : more ≤ 3
    few_more = let few = (more_bytes type).2 in omega (arith, few)

    abbrev pushed : Told
    pushed = with_pushed (known (word_pointer w)) before

    abbrev sent : Told
    sent = with_channel port.link (message_length type) pushed

    abbrev came : Told
    came = with_received (some_bytes (4 * w) (4 * w) WordStep) (pos (4 * w) +ℤ pos (message_length type)) sent

    abbrev waited : Told
    waited = exchanged g.setting came

    word_came : WordReceived w more few_more WordStep sent x.range housed.0 word_known came.frame
    word_came =
        subst (λ (n : ℕ). WordReceived w more few_more WordStep sent x.range housed.0 word_known
        (with_received (some_bytes (4 * w) (4 * w) WordStep) (pos (4 * w) +ℤ pos n) sent).frame)
        (sym (more_bytes type).1)
        (word_received w more few_more WordStep sent x.range housed.0 word_known)

    abbrev IsOther : ℕ → Type 0
    IsOther v = IsOff g.setting.depth v × (v ≡ w → ⊥)

    waited_there : IsNumber waited.frame w full
    waited_there = (scheduling_stays g.setting.depth came.frame).alone w full word_off word_came.there

    waited_others : NumbersStay IsOther before.frame waited.frame
    waited_others =
        numbers_both IsOther before.frame came.frame waited.frame
        (fewer_stay (λ v. v ≡ w → ⊥) IsOther before.frame came.frame (λ k both. both.1) word_came.others)
        (fewer_stay (IsOff g.setting.depth) IsOther came.frame waited.frame (λ k both. both.0)
        (scheduling_stays g.setting.depth came.frame))

    message_falls : FallOn g.setting ((points w ∷ []) ++ asked) before waited
    message_falls =
        fall_both (addresses_are_known g.setting w before (few_counted w inside) (let few = inside in omega
        (arith, few)))
        (in_falls g top es undisturbed channel type pushed (4 * w) (4 * w) WordStep refl
        (word_near w (let few = inside in omega (arith, few))) (omega arith)
        (one_word_has (IsOff g.setting.depth) w more word_off few_more)
        (message_written g.setting (4 * w) (4 * w) more (omega arith)
        (one_word_has (MayWrite g.setting) w more x.writes few_more)) port)

    abbrev numbered_here : IsNumbered g es name w (Scalar scalar.Variable type x.range)
    numbered_here = scalar_numbered g es name type w x

    after_is : at_number (with_meaning widened) numbered_here.number es ≡ after_input (whole name) es
    after_is = ap (λ (o : Option ℕ). receive_if o es)
        (sym (variable_is es name type x.range numbered_here.number x.means numbered_here.is))

    -- what is known of the word is what a number of the type is
    ends_so : (ps : List Piece) (after : Told) → FallOn g.setting ps before after
        → IsNumber after.frame w (type_range type) → NumbersStay IsOther before.frame after.frame
        → IsRange (type_range type) → FallsTo g top (after_input (whole name) es) ps before
    ends_so ps after falls there others ranged = record {
      after = after;
      falls = falls;
      holds = subst (λ (ds : List Entry). HoldsScope g ds after.frame) after_is
          (put_held g top es name type w x undisturbed
          (type_range type) before.frame after.frame there others widened refl
          holds);
      scope = subst (λ (ds : List Entry). IsScope g top ds) after_is
          (scope_changed g top es name type w widened (type_range type) scope x refl ranged);
    }

-- the byte of a word that is a number
byte_number : (g : Scene) (s : Told) (w : ℕ) (r : Ends) → IsNumber s.frame w r
    → byte_read (told_state g.setting s) regions.Frame (pos (4 * w)) (pos (4 * w)) ≡ number_in ranges.bytes
unfolding byte_read
byte_number g s w r is =
    let at : 4 * w / 4 ≡ w = omega arith in
    ap (λ (b : Bool). cond (not b) Unknown (Number (pos 0) (pos 255)))
    (ap (λ (n : ℕ). (together s.frame (pos (4 * w / 4)) n).are_numbers) (bytes_touched (4 * w) (4 * w) (omega arith))
    ∙ all_numbers_here s.frame (4 * w / 4) (suc (4 * w / 4 - 4 * w / 4))
    (λ n less.
    let same : w ≡ 4 * w / 4 + n = omega (arith, less) in
    (r, subst (λ (k : ℕ). IsNumber s.frame k r) same is)))

scalar_falls : (g : Scene) (top : ℕ) (es : List Entry) (channel : Place) (type : ValueType) (before : Told)
    (scope : IsScope g top es) (undisturbed : IsUndisturbed g top es) (port : IsPort g es In channel type)
    (holds : HoldsScope g es before.frame) (name : List ℕ) (w : ℕ) (x : IsOwnScalar g es name type w)
    → FallsTo g top (after_input (whole name) es)
    (((points w ∷ []) ++ exchange g.homes es channel INPUT) ++ cleaned (OwnWord type w)) before
scalar_falls g top es channel value_type.Int before scope undisturbed port holds name w x =
    ends_so g top es channel value_type.Int before scope undisturbed port holds name w x _ _
    (fall_both (message_falls g top es channel value_type.Int before scope undisturbed port holds name w x) done)
    (waited_there g top es channel value_type.Int before scope undisturbed port holds name w x)
    (waited_others g top es channel value_type.Int before scope undisturbed port holds name w x) full_ranged
scalar_falls g top es channel value_type.Byte before scope undisturbed port holds name w x =
    let t : Told = waited g top es channel value_type.Byte before scope undisturbed port holds name w x in
    let there = waited_there g top es channel value_type.Byte before scope undisturbed port holds name w x in
    let few : w < MAX_DATA_WORDS =
    inside g top es channel value_type.Byte before scope undisturbed port holds name w x in
    let reads = (scalar_housed g top es name value_type.Byte w scope x).2 in
    let again : Told = with_pushed (known (word_pointer w)) t in
    let fact : Fact = byte_read (told_state g.setting again) regions.Frame (pos (4 * w)) (pos (4 * w)) in
    let is : fact ≡ number_in ranges.bytes = byte_number g again w full there in
    let loaded : Told = with_a (known fact) again in
    let last : Told = without_a (with_word w fact loaded) in
    ends_so g top es channel value_type.Byte before scope undisturbed port holds name w x _ last
    (fall_both (message_falls g top es channel value_type.Byte before scope undisturbed port holds name w x)
    (fall_both (addresses_are_known g.setting w t (few_counted w few) (omega (arith, few)))
    (fall_both (loaded_bytes_are_known g.setting (at_word w) again (word_pointed w (omega (arith, few)))
    (message_read g.setting (4 * w) (4 * w) 0 (omega arith) (λ v from to.
    let same : w ≡ v = omega (arith, from, to) in subst (MayRead g.setting) same reads)))
    (stored_words_are_known g.setting w loaded (few_counted w few) x.writes (ap is_told is)))))
    (stored_there w fact t.frame ∙ ap (λ (f : Fact). Alone f) is)
    (numbers_both _ before.frame t.frame last.frame
    (waited_others g top es channel value_type.Byte before scope undisturbed port holds name w x)
    (untouched_stay _ (one_word (pos w) fact) t.frame (λ k both. elim (word_test (pos k) (pos w)) [
      | inl same ↦ absurd (both.1 (cc (same.1)))
      | inr other ↦ other.0
    ])))
    bytes_ranged

pub inputs_fall : InputsFall
inputs_fall g top es channel target before scope undisturbed x all holds =
    by target.name target.subscript x.variable all
  where
    by : (name : List ℕ) (o : Option Expression) → IsVariable g top es name x.type o
        → AreAllowed g (input_code g.homes es top channel (record { name = name; subscript = o }))
        → FallsTo g top (after_input (record { name = name; subscript = o }) es)
        (input_code g.homes es top channel (record { name = name; subscript = o })) before
    by name None (whole_scalar {w = w} y) all =
        subst (λ (t : Target). FallsTo g top (after_input (whole name) es)
        ((target_address t ++ exchange g.homes es channel INPUT) ++ cleaned t) before)
        (sym (scalar_target g es top name x.type w y))
        (scalar_falls g top es channel x.type before scope undisturbed x.port holds name w y)
    by name (Some e) (array_element {size = size} {w = w} y sub) all =
        element_by g top es channel x.type before scope undisturbed x.port holds name e size w y sub all
