-- A message is sent from where it lies.
use Rattle.std.proofs.Common.{◌≡◌, ℕ, ◌+◌, ◌*◌, ◌^◌, ◌<◌, ◌≤◌, ◌⊎◌, inl, inr, ℤ, pos, List, [], ◌∷◌, ◌++◌, length}
use Rattle.std.proofs.Common.{Option, Some, None, Result, Ok, Err, refl, sym, ap, subst, ◌∙◌, arith}
use Rattle.std.specs.Prelude.{option_and_then, slice_get}
use Rattle.machine_state.specs.Instructions.{instruction_of, op_of}
use Rattle.machine_state.specs.LocalStep.{address, word_of}
use Rattle.machine_state.specs.Memory.{Memory, place_of, byte_at}
use Rattle.machine_state.specs.World.{output_word}
use Rattle.prefix_decoder.specs.declared.function.Fun.TheVariants as fun
use Rattle.occam_parser.specs.declared.tree.ValueType.{ValueType}
use Rattle.occam_parser.specs.declared.tree.ValueType.TheVariants as value_type
use Rattle.occam_parser.specs.Expressions.{Expression, Alone, Prefixed, Paired, Chained, Term, Number, Byte, Truth}
use Rattle.occam_parser.specs.Expressions.{MostPos, MostNeg, Named, Element, Bracketed, Converted}
use Rattle.occam_parser.specs.Lines.{Place, Output}
use Rattle.scalar_ranges.specs.declared.scope.ScalarKind.{ScalarKind}
use Rattle.scalar_ranges.specs.declared.types.ExprType.{ExprType}
use Rattle.scalar_ranges.specs.declared.types.ExprType.TheVariants as types
use Rattle.scalar_ranges.specs.Bounds.{bound_of, range_found}
use Rattle.scalar_ranges.specs.Entries.{Meaning, Scalar, Array, Entry}
use Rattle.scalar_ranges.specs.Entries.{meaning_in, number_in}
use Rattle.scalar_ranges.specs.Environments as held
use Rattle.scalar_ranges.specs.Environments.{Nothing, One, Many, Environment, held_in, one_of}
use Rattle.scalar_ranges.specs.Environments.{element_of}
use Rattle.scalar_ranges.specs.Steps.{both}
use Rattle.scalar_ranges.specs.Types.{type_of, type_of_values, subscripted, named_type, element_type}
use Rattle.scalar_ranges.specs.Values.{number_of}
use Rattle.word_arithmetic.specs.Range.{Ends}
use Rattle.program_uses.specs.declared.uses.Direction.TheVariants as direction
use Rattle.program_meaning.specs.Links.{Port, message_of, message_length}
use Rattle.program_meaning.specs.Running.{port_of}
use Rattle.program_meaning.specs.Doing.{Doing, Leaves, Sends, or_fails, sending, acting}
use Rattle.code_pieces.specs.declared.operations.TheConstants.{OUTPUT}
use Rattle.code_pieces.specs.Pieces.{Piece, operates, stores, points, constant}
use Rattle.line_pieces.specs.Homes.{Home, Word, Link, Passed, home_of}
use Rattle.line_pieces.specs.Actions.{Target, NoTarget, KnownElement, OtherElement, length_of, channel_code}
use Rattle.line_pieces.specs.Actions.{channel_home, carried, exchange, link_code, message_code, source_of}
use Rattle.line_pieces.specs.Actions.{whole_target, element_target, target_address, output_code}
use Rattle.line_pieces.specs.Expressions.{expression_code, is_leaf, is_small, single, subscript_of}
use Rattle.placed_code.specs.StraightPieces.{Footing, Held, with_pushed, word_place, word_address}
use Rattle.placed_code.specs.LaidCode as laid
use Rattle.placed_code.specs.LaidCode.{LaidCode, Lie}
use Rattle.placed_code.specs.Points.{Point, point}
use Rattle.placed_code.specs.Behaves.{Behaves, over, sends, Has, IsScheduling, Waited}
use Rattle.placed_code.proofs.StraightPieces.{lead_both}
use Rattle.meant_lines.specs.Words.{IsInFrame, with_frame_word}
use Rattle.meant_lines.specs.Instructions.{with_memory, without_a}
use Rattle.meant_lines.specs.Carrying.{Ground, HoldsWord, HoldsElement, HoldsArray, IsScalarKept, IsKeptThere}
use Rattle.meant_lines.specs.Carrying.{Carries}
use Rattle.meant_lines.proofs.Words.{words_have_places, addresses_read_back, changes_writing}
use Rattle.meant_lines.proofs.Carrying.{names_are_kept, outer_words_stay}
use Rattle.meant_lines.proofs.Instructions.{constants_are_pushed, words_are_stored, addresses_are_pushed}
use Rattle.meant_lines.proofs.Pushing.{carries_after}
use Rattle.meant_lines.proofs.WrittenBytes.{message_there}
use Rattle.meant_actions.specs.Acting.{Begins, EndsAt, AreWithin, IsPushed, IsScalar, IsInWords}
use Rattle.meant_actions.specs.Exchanging.{IsPort, IsUndisturbed, OnlySchedulingChanges}
use Rattle.meant_actions.specs.Sending.{IsElementOf, HasSource, OutputsBehave}
use Rattle.meant_actions.proofs.Acting.{straight_behaves, lie_both, first_within, rest_within, temporary_within}
use Rattle.meant_actions.proofs.Exchanging.{link_pushed}
use Rattle.meant_actions.proofs.Locating.{IsLocated, scalar_located, known_located, other_located, fewer_beside}
use Rattle.meant_actions.proofs.Messages.{message_in_word, message_in_byte}
use Rattle.meant_actions.proofs.Variables.{element_place, element_target_is, array_holds}

-- the length of a message is what code pushes
length_is : (type : ValueType) (v : ℤ) → address (length_of type) ≡ length (message_of type v)
length_is value_type.Int v = refl
length_is value_type.Byte v = refl

long : (type : ValueType) (v : ℤ) → length (message_of type v) ≤ message_length type
long value_type.Int v = omega arith
long value_type.Byte v = omega arith

short : (type : ValueType) (v : ℤ) → length (message_of type v) ≤ 4
short value_type.Int v = omega arith
short value_type.Byte v = omega arith

module _ (c : LaidCode) (g : Ground) (top to : ℕ) (es : List Entry) (env : Environment) (port : Port) (v : ℤ)
    (footing : c.footing ≡ g.footing) (undisturbed : IsUndisturbed g top es) (way : port.way ≡ direction.Output)
    (few : port.link < 4) where
  abbrev message : List ℕ
  message = message_of port.carries v

  -- The message lies where A leads, beside the words that scheduling takes.
  pub record IsMessage (h : Held) : Type 0 where
    pub place : ℕ
    pub at : place_of (address h.stack.a) ≡ place
    pub low : place + length message < 2 ^ 32
    pub beside : (place + length message ≤ 4 * g.footing.depth) ⊎ (word_place g.footing.depth ≤ place)
    pub has : Has h.memory place message
    pub carries : Carries g top es env h.memory

  -- the process goes on with memory as it was, but for what scheduling takes
  ends_at : (at : ℕ) (h k : Held) (q : Point) → Waited c (point at k) q → k.memory ≡ h.memory → q.at ≡ to
      → IsMessage h → EndsAt g top es to env q
  ends_at at h k q went same is is_message =
      let changes : OnlySchedulingChanges g.footing.depth h.memory q.held.memory =
      record {
        size = went.size ∙ ap length same;
        same = λ place far.
            went.same place (λ x. far (subst (λ (w : Footing). IsScheduling w.depth place) footing x)) (λ x. x)
            ∙ ap (λ (m : Memory). byte_at m place) same;
      } in
      record {
        at = is;
        carries = undisturbed.carries env h.memory q.held.memory changes is_message.carries;
      }

  -- the channel and the length are pushed
  out_sends : (at : ℕ) (channel : ℤ) (h : Held) → laid.Fetches c.code at fun.Operate OUTPUT to → IsMessage h
      → address channel ≡ output_word port.link
      → Behaves c (EndsAt g top es to)
      (point at (with_pushed (length_of port.carries) (with_pushed channel h))) (Sends port message (Leaves env))
  unfolding instruction_of op_of
  out_sends at channel h fetches is_message is =
      sends (record {
        executes = record { function = fun.Operate; operand = OUTPUT; behind = to; fetches = fetches; is = refl };
        way = way;
        link = few;
        count = length_is port.carries v;
        channel = is;
        lies = record {
          low = subst (λ (p : ℕ). p + length message < 2 ^ 32) (sym is_message.at) is_message.low;
          beside = subst (λ (p : ℕ). (p + length message ≤ 4 * c.footing.depth) ⊎ (word_place c.footing.depth ≤ p))
              (sym is_message.at)
              (subst (λ (w : Footing). (is_message.place + length message ≤ 4 * w.depth)
              ⊎ (word_place w.depth ≤ is_message.place)) (sym footing) is_message.beside);
        };
        has = subst (λ (p : ℕ). Has h.memory p message) (sym is_message.at) is_message.has;
      })
      (λ q went.
      over (ends_at at h (with_pushed (length_of port.carries) (with_pushed channel h)) q went refl
      (went.behind fun.Operate OUTPUT to fetches) is_message))

  counted_sends : (at : ℕ) (channel : ℤ) (h : Held)
      → Lie c at (constant (length_of port.carries) ∷ operates OUTPUT ∷ []) to → IsMessage h
      → address channel ≡ output_word port.link
      → Behaves c (EndsAt g top es to) (point at (with_pushed channel h)) (Sends port message (Leaves env))
  counted_sends at channel h (laid.more {middle = n} first (laid.more {middle = m} out laid.none)) is_message is =
      straight_behaves c g footing (laid.more first laid.none)
      (constants_are_pushed g.footing (length_of port.carries) (with_pushed channel h))
      (out_sends n channel h out is_message is)

  pub exchange_sends : (at : ℕ) (channel : Place) (h : Held)
      → channel_home g.homes es channel ≡ Some (Link port.link) → carried (meaning_in channel.name es) ≡ port.carries
      → IsMessage h → Lie c at (exchange g.homes es channel OUTPUT) to
      → Behaves c (EndsAt g top es to) (point at h) (Sends port message (Leaves env))
  exchange_sends at channel h home carries is_message lie =
      let there : Lie c at
      (link_code port.link ++ (constant (length_of port.carries) ∷ operates OUTPUT ∷ [])) to =
      subst (λ (type : ValueType). Lie c at
      (link_code port.link ++ (constant (length_of type) ∷ operates OUTPUT ∷ [])) to) carries
      (subst (λ (o : Option Home). Lie c at
      (channel_code o
      ++ (constant (length_of (carried (meaning_in channel.name es))) ∷ operates OUTPUT ∷ [])) to) home lie) in
      let both = lie_both c at to (link_code port.link)
      (constant (length_of port.carries) ∷ operates OUTPUT ∷ []) there in
      let link = link_pushed g.footing port.link h (omega (arith, few)) in
      straight_behaves c g footing both.1 link.leads
      (counted_sends both.0 link.channel h both.2 is_message link.is)

-- ---- what is where a value is already

-- types whose values have the same type are the same
pub same_types : (a b : ValueType) → ◌≡◌ {A = Result ExprType ℕ} (Ok (type_of_values a)) (Ok (type_of_values b)) → a ≡ b
same_types value_type.Int value_type.Int is = refl
same_types value_type.Int value_type.Byte is = absurd (cc is)
same_types value_type.Byte value_type.Int is = absurd (cc is)
same_types value_type.Byte value_type.Byte is = refl

element_types : (a b : ValueType) (t : Result ExprType ℕ)
    → both (Ok (type_of_values a)) t subscripted ≡ Ok (type_of_values b) → a ≡ b
element_types a b (Ok types.Int) is = same_types a b is
element_types a b (Ok types.Byte) is = absurd (cc is)
element_types a b (Ok types.Condition) is = absurd (cc is)
element_types a b (Err n) is = absurd (cc is)

-- a name with a home has a number
numbered : (hs : List Home) (o : Option ℕ) (h : Home) → option_and_then (slice_get hs) o ≡ Some h
    → (n : ℕ) × (o ≡ Some n)
numbered hs None h is = absurd (cc is)
numbered hs (Some n) h is = (n, refl)

module _ (g : Ground) (top : ℕ) (es : List Entry) (env : Environment) (name : List ℕ) (v : ℤ) (m : Memory)
    (meets : held.Meets env es) (carries : Carries g top es env m) where
  -- what a name means is kept in its home
  kept_there : (k : Meaning) (h : Option Home) → meaning_in name es ≡ Some k → home_of g.homes es name ≡ h
      → IsKeptThere g m h k (held_in name env)
  kept_there k h means at =
      subst (λ (o : Option Home). IsKeptThere g m o k (held_in name env)) at
      (names_are_kept g m es env name k meets carries.kept means)

  -- ---- a scalar

  word_holds : (w : ℕ) (h : held.Held) → one_of h ≡ Some v → IsScalarKept g m (Word w) h → HoldsWord m w v
  word_holds w (One u) is kept = let same : u ≡ v = cc (is) in subst (HoldsWord m w) same kept
  word_holds w Nothing is kept = absurd kept
  word_holds w (Many vs) is kept = absurd kept

  -- the message of a scalar is in its word
  pub scalar_message : (type : ValueType) (n w : ℕ) → IsScalar g es name type n w → one_of (held_in name env) ≡ Some v
      → Has m (word_place w) (message_of type v)
  scalar_message type n w scalar is =
      let holds = word_holds w (held_in name env) is
      (kept_there (Scalar scalar.kind type scalar.range) (Some (Word w)) scalar.means scalar.at) in
      message_in_word m (word_place w) v holds.bytes type holds.is

  -- ---- an element

  element_message_by : (type : ValueType) (w i : ℕ) → HoldsElement type m w i v
      → Has m (element_place type w i) (message_of type v)
  element_message_by value_type.Int w i holds =
      message_in_word m (word_place (w + i)) v holds.bytes value_type.Int holds.is
  element_message_by value_type.Byte w i holds =
      subst (λ (x : ℤ). Has m (word_place w + i) (message_of value_type.Byte x)) (sym holds.1)
      (message_in_byte m (word_place w + i) holds.0 holds.3 holds.2)

  -- the message of an element is where it is
  pub element_message : (type : ValueType) (size n w i : ℕ) → IsInWords g es name type size n w
      → element_of (held_in name env) (pos i) ≡ Some v → Has m (element_place type w i) (message_of type v)
  element_message type size n w i array is =
      let found = array_holds g es env name type size n w meets array in
      let kept : HoldsArray type m w found.0 =
      subst (λ (h : held.Held). IsKeptThere g m (Some (Word w)) (Array array.kind type (Some size) array.range) h)
      found.1 (kept_there (Array array.kind type (Some size) array.range) (Some (Word w)) array.means array.at) in
      element_message_by type w i
      (kept i v (ap (λ (h : held.Held). element_of h (pos i)) (sym found.1) ∙ is))

-- ---- outputs

module _ (c : LaidCode) (g : Ground) (top at to : ℕ) (es : List Entry) (env : Environment) (h : Held)
    (ports : List (Option Port)) (channel : Place) (begins : Begins c g top es env h)
    (undisturbed : IsUndisturbed g top es) (port : Port)
    (is_port : IsPort g es env ports direction.Output channel port) (v : ℤ) where
  output_is : (value : Expression) → number_of env value ≡ Some v
      → acting ports (Output channel value) env ≡ Sends port (message_of port.carries v) (Leaves env)
  output_is value is =
      ap (λ (o : Option ℤ). or_fails o (λ v. sending (port_of ports env direction.Output channel) v env)) is
      ∙ ap (λ (o : Option Port). sending o v env) is_port.is

  -- from where the value is already
  sends_from : (value : Expression) (ps : List Piece) (place count : ℕ) → number_of env value ≡ Some v
      → (x : IsLocated g top ps place count h) → length (message_of port.carries v) ≤ count
      → ((m : Memory) → Carries g top es env m → Has m place (message_of port.carries v))
      → Lie c at (ps ++ exchange g.homes es channel OUTPUT) to
      → Behaves c (EndsAt g top es to) (point at h) (acting ports (Output channel value) env)
  sends_from value ps place count is x fits there lie =
      let k = x.addressed.after in
      let kept = outer_words_stay g top top g.words es env h.memory k.memory begins.meets (omega arith) (omega arith)
      x.addressed.changes begins.carries in
      let room = fewer_beside g.footing.depth g.words place count (length (message_of port.carries v)) fits x.room in
      let ends = room.before in
      let both = lie_both c at to ps (exchange g.homes es channel OUTPUT) lie in
      subst (λ (d : Doing). Behaves c (EndsAt g top es to) (point at h) d) (sym (output_is value is))
      (straight_behaves c g begins.footing both.1 x.addressed.leads
      (exchange_sends c g top to es env port v begins.footing undisturbed is_port.faces is_port.link both.0 channel k
      is_port.at is_port.carries
      (record {
        place = place;
        at = ap place_of x.addressed.at ∙ x.is;
        low = omega (arith, ends, kept.frame.few);
        beside = room.beside;
        has = there k.memory kept;
        carries = kept;
      })
      both.2))

  -- from a temporary
  sends_stored : (value : Expression) → IsPushed g top es env top value v
      → AreWithin g ((expression_code g.homes es top value ++ (stores top ∷ points top ∷ []))
      ++ exchange g.homes es channel OUTPUT)
      → Lie c at ((expression_code g.homes es top value ++ (stores top ∷ points top ∷ []))
      ++ exchange g.homes es channel OUTPUT) to
      → Behaves c (EndsAt g top es to) (point at h) (acting ports (Output channel value) env)
  sends_stored value pushed all lie =
      let code : List Piece = expression_code g.homes es top value in
      let ahead = first_within g (code ++ (stores top ∷ points top ∷ [])) (exchange g.homes es channel OUTPUT) all in
      let first = pushed.pushes (first_within g code (stores top ∷ points top ∷ []) ahead) h begins.carries in
      let k = first.after in
      let kept = carries_after g top top es env code (is_leaf es value) (is_small es value) v h begins.meets
      (omega arith) first begins.carries in
      let waits = rest_within g code (stores top ∷ points top ∷ []) ahead in
      let room : top < g.words = temporary_within g top es env k.memory kept waits.0 in
      let inside : IsInFrame top = omega (arith, room, kept.frame.few) in
      let stored : Held = with_memory (with_frame_word top k.stack.a k.memory) (without_a k) in
      let writes = changes_writing top g.words top k.memory k.stack.a (omega arith) room in
      let still = outer_words_stay g top top g.words es env k.memory stored.memory begins.meets (omega arith)
      (omega arith) writes kept in
      let both = lie_both c at to (code ++ (stores top ∷ points top ∷ [])) (exchange g.homes es channel OUTPUT) lie in
      let size : length (message_of port.carries v) ≤ 4 = short port.carries v in
      subst (λ (d : Doing). Behaves c (EndsAt g top es to) (point at h) d) (sym (output_is value pushed.is))
      (straight_behaves c g begins.footing both.1
      (lead_both first.leads (lead_both (words_are_stored g.footing top k kept.frame.workspace inside)
      (addresses_are_pushed g.footing top stored kept.frame.workspace inside)))
      (exchange_sends c g top to es env port v begins.footing undisturbed is_port.faces is_port.link both.0 channel
      (with_pushed (word_of (word_address top)) stored) is_port.at is_port.carries
      (record {
        place = word_place top;
        at = ap place_of (addresses_read_back.word top inside) ∙ words_have_places top inside;
        low = omega (arith, inside, size);
        beside = inr (let free = undisturbed.free in omega (arith, free));
        has = subst (λ (x : ℤ). Has (with_frame_word top x k.memory) (word_place top) (message_of port.carries v))
            (sym first.a)
            (message_there k.memory (word_place top) v
            (let long = kept.frame.inside in omega (arith, room, long)) port.carries);
        carries = still;
      })
      both.2))

  -- ---- by what the value is

  abbrev code_from : Expression → Target → List Piece
  code_from value t = message_code t top (expression_code g.homes es top value) ++ exchange g.homes es channel OUTPUT

  abbrev Sent : Expression → Type 0
  Sent value = Behaves c (EndsAt g top es to) (point at h) (acting ports (Output channel value) env)

  sends_none : (value : Expression) → source_of g.homes es top value ≡ NoTarget → IsPushed g top es env top value v
      → AreWithin g (code_from value (source_of g.homes es top value))
      → Lie c at (code_from value (source_of g.homes es top value)) to → Sent value
  sends_none value none pushed all lie =
      sends_stored value pushed (subst (λ (t : Target). AreWithin g (code_from value t)) none all)
      (subst (λ (t : Target). Lie c at (code_from value t) to) none lie)

  -- ---- a scalar

  module _ (name : List ℕ) where
    scalar_sends : (kind : ScalarKind) (type : ValueType) (range : Ends) (w : ℕ)
        → meaning_in name es ≡ Some (Scalar kind type range) → home_of g.homes es name ≡ Some (Word w)
        → type ≡ port.carries → number_of env (Alone (Named name)) ≡ Some v
        → Lie c at ((points w ∷ []) ++ exchange g.homes es channel OUTPUT) to → Sent (Alone (Named name))
    scalar_sends kind type range w means at_word same is lie =
        let n = numbered g.homes (number_in name es) (Word w) at_word in
        let scalar : IsScalar g es name port.carries n.0 w =
        record {
          kind = kind;
          range = range;
          means = means ∙ ap (λ (t : ValueType). Some (Scalar kind t range)) same;
          number = n.1;
          at = at_word;
        } in
        let x = scalar_located g top es env name port.carries h undisturbed begins.carries n.0 w scalar in
        sends_from (Alone (Named name)) (points w ∷ []) (word_place w) 4 is x (short port.carries v)
        (λ m carries. scalar_message g top es env name v m begins.meets carries port.carries n.0 w scalar is) lie

    named_sends : (o : Option Home) (k : Option Meaning) → home_of g.homes es name ≡ o → meaning_in name es ≡ k
        → type_of es (Alone (Named name)) ≡ Ok (type_of_values port.carries)
        → IsPushed g top es env top (Alone (Named name)) v
        → AreWithin g (code_from (Alone (Named name)) (source_of g.homes es top (Alone (Named name))))
        → Lie c at (code_from (Alone (Named name)) (source_of g.homes es top (Alone (Named name)))) to
        → Sent (Alone (Named name))
    named_sends (Some (Word w)) (Some (Scalar kind type range)) is means type_is pushed all lie =
        scalar_sends kind type range w means is
        (same_types type port.carries (sym (ap named_type means) ∙ type_is)) pushed.is
        (subst (λ (t : Target). Lie c at (code_from (Alone (Named name)) t) to)
        (ap (λ (h : Option Home). whole_target h (meaning_in name es)) is ∙ ap (whole_target (Some (Word w))) means)
        lie)
    named_sends (Some (Passed w)) (Some (Scalar kind type range)) is means type_is pushed all lie =
        absurd (kept_there g top es env name v h.memory begins.meets begins.carries
        (Scalar kind type range) (Some (Passed w)) means is)
    named_sends o k is means type_is pushed all lie =
        sends_none (Alone (Named name))
        (ap (λ (h : Option Home). whole_target h (meaning_in name es)) is ∙ ap (whole_target o) means) pushed all lie

  -- ---- an element

  module _ (name : List ℕ) (e : Expression) (sub : IsElementOf g top es env name e) where
    abbrev value_here : Expression
    value_here = Alone (Element name e)

    abbrev element_target_with : Option Home → Option Meaning → Target
    element_target_with o k = element_target o k (single (range_found (bound_of es e))) (subscript_of g.homes es top e)

    element_sends : (w : ℕ) → home_of g.homes es name ≡ Some (Word w) → sub.type ≡ port.carries
        → IsPushed g top es env top value_here v
        → AreWithin g (code_from value_here (source_of g.homes es top value_here))
        → Lie c at (code_from value_here (source_of g.homes es top value_here)) to → Sent value_here
    element_sends w at_word same pushed all lie =
        let n = numbered g.homes (number_in name es) (Word w) at_word in
        let array : IsInWords g es name port.carries sub.size n.0 w =
        record {
          kind = sub.kind;
          range = sub.range;
          means = sub.means ∙ ap (λ (t : ValueType). Some (Array sub.kind t (Some sub.size) sub.range)) same;
          number = n.1;
          at = at_word;
        } in
        by_target n.0 array
        (element_target_is g top es env top name port.carries sub.size n.0 w e sub.number array sub.subscript)
      where
        from_place : (n : ℕ) (array : IsInWords g es name port.carries sub.size n w) (ps : List Piece)
            → IsLocated g top ps (element_place port.carries w sub.number) (message_length port.carries) h
            → Lie c at (ps ++ exchange g.homes es channel OUTPUT) to → Sent value_here
        from_place n array ps x lie =
            sends_from value_here ps (element_place port.carries w sub.number) (message_length port.carries) pushed.is x
            (long port.carries v)
            (λ m carries.
            element_message g top es env name v m begins.meets carries port.carries sub.size n w sub.number array
            (sym (ap (option_and_then (element_of (held_in name env))) sub.subscript.pushed.is) ∙ pushed.is)) lie

        by_target : (n : ℕ) → IsInWords g es name port.carries sub.size n w
            → (source_of g.homes es top value_here ≡ KnownElement port.carries w sub.number)
            ⊎ (source_of g.homes es top value_here ≡ OtherElement port.carries w (subscript_of g.homes es top e))
            → Sent value_here
        by_target n array (inl known) =
            from_place n array (target_address (KnownElement port.carries w sub.number))
            (known_located g top es env name port.carries h undisturbed begins.carries sub.size n w sub.number e array
            sub.subscript) (subst (λ (t : Target). Lie c at (code_from value_here t) to) known lie)
        by_target n array (inr other) =
            from_place n array (target_address (OtherElement port.carries w (subscript_of g.homes es top e)))
            (other_located g top es env name port.carries h undisturbed begins.carries sub.size n w sub.number e array
            sub.subscript
            (first_within g (target_address (OtherElement port.carries w (subscript_of g.homes es top e)))
            (exchange g.homes es channel OUTPUT)
            (subst (λ (t : Target). AreWithin g (code_from value_here t)) other all)))
            (subst (λ (t : Target). Lie c at (code_from value_here t) to) other lie)

    element_by : (o : Option Home) → home_of g.homes es name ≡ o
        → type_of es value_here ≡ Ok (type_of_values port.carries) → IsPushed g top es env top value_here v
        → AreWithin g (code_from value_here (source_of g.homes es top value_here))
        → Lie c at (code_from value_here (source_of g.homes es top value_here)) to → Sent value_here
    element_by (Some (Word w)) is type_is pushed all lie =
        element_sends w is
        (element_types sub.type port.carries (type_of es e)
        (sym (ap (λ (k : Option Meaning). both (element_type k) (type_of es e) subscripted) sub.means) ∙ type_is))
        pushed all lie
    element_by (Some (Passed w)) is type_is pushed all lie =
        absurd (kept_there g top es env name v h.memory begins.meets begins.carries
        (Array sub.kind sub.type (Some sub.size) sub.range) (Some (Passed w)) sub.means is)
    element_by o is type_is pushed all lie =
        sends_none value_here
        (ap (λ (h : Option Home). element_target_with h (meaning_in name es)) is
        ∙ ap (element_target_with o) sub.means) pushed all lie

  -- ---- any value

  term_sends : (x : Term) → type_of es (Alone x) ≡ Ok (type_of_values port.carries)
      → IsPushed g top es env top (Alone x) v → HasSource g top es env (Alone x)
      → AreWithin g (code_from (Alone x) (source_of g.homes es top (Alone x)))
      → Lie c at (code_from (Alone x) (source_of g.homes es top (Alone x))) to → Sent (Alone x)
  term_sends (Named name) type_is pushed source all lie =
      named_sends name (home_of g.homes es name) (meaning_in name es) refl refl type_is pushed all lie
  term_sends (Element name e) type_is pushed source all lie =
      element_by name e source (home_of g.homes es name) refl type_is pushed all lie
  term_sends (Number value) type_is pushed source all lie = sends_stored (Alone (Number value)) pushed all lie
  term_sends (Byte byte) type_is pushed source all lie = sends_stored (Alone (Byte byte)) pushed all lie
  term_sends (Truth holds) type_is pushed source all lie = sends_stored (Alone (Truth holds)) pushed all lie
  term_sends MostPos type_is pushed source all lie = sends_stored (Alone MostPos) pushed all lie
  term_sends MostNeg type_is pushed source all lie = sends_stored (Alone MostNeg) pushed all lie
  term_sends (Bracketed e) type_is pushed source all lie = sends_stored (Alone (Bracketed e)) pushed all lie
  term_sends (Converted to x) type_is pushed source all lie = sends_stored (Alone (Converted to x)) pushed all lie

  value_sends : (value : Expression) → type_of es value ≡ Ok (type_of_values port.carries)
      → IsPushed g top es env top value v → HasSource g top es env value
      → AreWithin g (output_code g.homes es top channel value)
      → Lie c at (output_code g.homes es top channel value) to → Sent value
  value_sends (Alone x) type_is pushed source all lie = term_sends x type_is pushed source all lie
  value_sends (Prefixed op x) type_is pushed source all lie = sends_stored (Prefixed op x) pushed all lie
  value_sends (Paired op x y) type_is pushed source all lie = sends_stored (Paired op x y) pushed all lie
  value_sends (Chained op xs) type_is pushed source all lie = sends_stored (Chained op xs) pushed all lie

pub outputs_behave : OutputsBehave
outputs_behave c g top at to es env h ports channel value begins undisturbed output all lie =
    value_sends c g top at to es env h ports channel begins undisturbed output.port output.is_port output.number value
    output.type_is output.pushed output.source all lie
