-- A message is received where code says, and stored.
use Rattle.std.proofs.Common.{◌≡◌, ℕ, ◌+◌, ◌*◌, ◌%◌, ◌^◌, ◌<◌, ◌≤◌, ◌⊎◌, inl, inr, ℤ, pos, List, [], ◌∷◌}
use Rattle.std.proofs.Common.{◌++◌, length, Option, Some, None, FitsSigned, refl, sym, ap, subst, ◌∙◌, arith}
use Rattle.std.proofs.lemmas.Bool.{cases_lt}
use Rattle.std.proofs.lemmas.Int.{ints}
use Rattle.std.specs.Int.{w32}
use Rattle.module_format.specs.Order.{IsBytes}
use Rattle.machine_state.specs.Instructions.{instruction_of, op_of}
use Rattle.machine_state.specs.LocalStep.{address, word_of}
use Rattle.machine_state.specs.Memory.{Memory, place_of, byte_at, with_byte, with_word, byte_worth}
use Rattle.machine_state.specs.World.{input_word}
use Rattle.machine_state.proofs.Reading.{byte_at-with_byte, byte_at-with_byte_other, length-with_byte}
use Rattle.machine_state.proofs.Reading.{byte_at-with_word_other, length-with_word}
use Rattle.prefix_decoder.specs.declared.function.Fun.TheVariants as fun
use Rattle.occam_parser.specs.declared.tree.ValueType.{ValueType}
use Rattle.occam_parser.specs.declared.tree.ValueType.TheVariants as value_type
use Rattle.occam_parser.specs.Expressions.{Expression}
use Rattle.occam_parser.specs.Lines.{Place, Input}
use Rattle.scalar_ranges.specs.Entries.{Entry, meaning_in}
use Rattle.scalar_ranges.specs.Environments.{Environment}
use Rattle.program_uses.specs.declared.uses.Direction.TheVariants as direction
use Rattle.program_meaning.specs.Links.{Port, message_length, received}
use Rattle.program_meaning.specs.TypedValues.{IsOfType}
use Rattle.program_meaning.specs.Storing.{stored}
use Rattle.program_meaning.specs.Doing.{Doing, Leaves, Asks, or_fails, asking, acting}
use Rattle.program_meaning.proofs.MessagesReadBack.{received_is_of_type}
use Rattle.code_pieces.specs.declared.operations.TheConstants.{INPUT, LOAD_BYTE}
use Rattle.code_pieces.specs.Pieces.{Piece, operates, points, constant, stores}
use Rattle.line_pieces.specs.Homes.{Home, Link}
use Rattle.line_pieces.specs.Expressions.{subscript_of}
use Rattle.line_pieces.specs.Actions.{Target, OwnWord, KnownElement, OtherElement, length_of, channel_code}
use Rattle.line_pieces.specs.Actions.{channel_home, carried, exchange, link_code, target_address, cleaned, target_of}
use Rattle.line_pieces.specs.Actions.{input_code}
use Rattle.placed_code.specs.StraightPieces.{Footing, Held, with_pushed, word_place, word_address}
use Rattle.placed_code.specs.LaidCode as laid
use Rattle.placed_code.specs.LaidCode.{LaidCode, Lie}
use Rattle.placed_code.specs.Points.{Point, point}
use Rattle.placed_code.specs.Behaves.{Behaves, over, asks, Has, IsScheduling, IsAmong}
use Rattle.placed_code.proofs.StraightPieces.{lead_both}
use Rattle.meant_lines.specs.Words.{IsInFrame, with_frame_word}
use Rattle.meant_lines.specs.Instructions.{with_a, with_memory, without_a}
use Rattle.meant_lines.specs.Carrying.{Ground, Carries}
use Rattle.meant_lines.proofs.Words.{words_have_places, addresses_read_back}
use Rattle.meant_lines.proofs.Carrying.{outer_words_stay}
use Rattle.meant_lines.proofs.Instructions.{constants_are_pushed, addresses_are_pushed, words_are_stored}
use Rattle.meant_lines.proofs.Instructions.{bytes_are_loaded}
use Rattle.meant_lines.proofs.WrittenBytes.{message_there}
use Rattle.meant_actions.specs.Acting.{Begins, EndsAt, AreWithin, IsScalar, IsInWords, IsSubscript, IsVariable}
use Rattle.meant_actions.specs.Acting.{whole_scalar, array_element}
use Rattle.meant_actions.specs.Exchanging.{IsPort, IsUndisturbed, OnlySchedulingChanges}
use Rattle.meant_actions.specs.Receiving.{InputsBehave}
use Rattle.meant_actions.proofs.Acting.{straight_behaves, lie_both, none_there, first_within}
use Rattle.meant_actions.proofs.Exchanging.{link_pushed}
use Rattle.meant_actions.proofs.Locating.{IsLocated, scalar_located, known_located, other_located}
use Rattle.meant_actions.proofs.Locating.{fewer_beside}
use Rattle.meant_actions.proofs.Messages.{sent_back, word_over}
use Rattle.meant_actions.proofs.Variables.{whole, element, element_place, with_element, scalar_target}
use Rattle.meant_actions.proofs.Variables.{scalar_within, element_target_is, LeavesStored, scalar_put, element_put}

-- the length of a message is what code pushes
length_is : (type : ValueType) → address (length_of type) ≡ message_length type
length_is value_type.Int = refl
length_is value_type.Byte = refl

-- A message lies from a place on. Elsewhere only the words have changed that scheduling takes.
pub record Came (depth place : ℕ) (bytes : List ℕ) (old new : Memory) : Type 0 where
  pub size : length new ≡ length old
  pub same : (other : ℕ) → (IsScheduling depth other → ⊥) → (IsAmong place (length bytes) other → ⊥)
      → byte_at new other ≡ byte_at old other
  pub has : Has new place bytes

module _ (c : LaidCode) (g : Ground) (es : List Entry) (port : Port) (to : ℕ) (End : Environment → Point → Type 0)
    (next : List ℕ → Doing) (footing : c.footing ≡ g.footing) (way : port.way ≡ direction.Input)
    (few : port.link < 4) where
  -- A leads to where the message will lie, beside the words that scheduling takes.
  pub record IsRoom (h : Held) (place : ℕ) : Type 0 where
    pub at : place_of (address h.stack.a) ≡ place
    pub low : place + message_length port.carries < 2 ^ 32
    pub beside : (place + message_length port.carries ≤ 4 * g.footing.depth) ⊎ (word_place g.footing.depth ≤ place)

  -- what comes behind it
  GoesOn : Held → ℕ → Type 0
  GoesOn h place = (bytes : List ℕ) (q : Point) → length bytes ≡ message_length port.carries → IsBytes bytes
      → q.at ≡ to → Came g.footing.depth place bytes h.memory q.held.memory → Behaves c End q (next bytes)

  in_asks : (at place : ℕ) (channel : ℤ) (h : Held) → laid.Fetches c.code at fun.Operate INPUT to → IsRoom h place
      → address channel ≡ input_word port.link → GoesOn h place
      → Behaves c End (point at (with_pushed (length_of port.carries) (with_pushed channel h))) (Asks port next)
  unfolding instruction_of op_of GoesOn
  in_asks at place channel h fetches room is on =
      asks (record {
        executes = record { function = fun.Operate; operand = INPUT; behind = to; fetches = fetches; is = refl };
        way = way;
        link = few;
        count = length_is port.carries;
        channel = is;
        lies = record {
          low = subst (λ (p : ℕ). p + message_length port.carries < 2 ^ 32) (sym room.at) room.low;
          beside = subst (λ (p : ℕ). (p + message_length port.carries ≤ 4 * c.footing.depth)
              ⊎ (word_place c.footing.depth ≤ p)) (sym room.at)
              (subst (λ (w : Footing). (place + message_length port.carries ≤ 4 * w.depth)
              ⊎ (word_place w.depth ≤ place)) (sym footing) room.beside);
        };
      })
      (λ bytes q long all filled. on bytes q long all (filled.goes_on.behind fun.Operate INPUT to fetches)
      (subst (λ (p : ℕ). Came g.footing.depth p bytes h.memory q.held.memory) room.at
      (record {
        size = filled.goes_on.size;
        same = λ other apart beside.
            filled.goes_on.same other
            (λ x. apart (subst (λ (w : Footing). IsScheduling w.depth other) footing x)) beside;
        has = filled.has;
      })))

  counted_asks : (at place : ℕ) (channel : ℤ) (h : Held)
      → Lie c at (constant (length_of port.carries) ∷ operates INPUT ∷ []) to → IsRoom h place
      → address channel ≡ input_word port.link → GoesOn h place
      → Behaves c End (point at (with_pushed channel h)) (Asks port next)
  counted_asks at place channel h (laid.more {middle = n} first (laid.more {middle = m} asked laid.none)) room is on =
      straight_behaves c g footing (laid.more first laid.none)
      (constants_are_pushed g.footing (length_of port.carries) (with_pushed channel h))
      (in_asks n place channel h asked room is on)

  pub exchange_asks : (at place : ℕ) (channel : Place) (h : Held)
      → channel_home g.homes es channel ≡ Some (Link (4 + port.link))
      → carried (meaning_in channel.name es) ≡ port.carries → IsRoom h place
      → Lie c at (exchange g.homes es channel INPUT) to
      → ((bytes : List ℕ) (q : Point) → length bytes ≡ message_length port.carries → IsBytes bytes
      → q.at ≡ to → Came g.footing.depth place bytes h.memory q.held.memory → Behaves c End q (next bytes))
      → Behaves c End (point at h) (Asks port next)
  unfolding GoesOn
  exchange_asks at place channel h home carries room lie on =
      let there : Lie c at
      (link_code (4 + port.link) ++ (constant (length_of port.carries) ∷ operates INPUT ∷ [])) to =
      subst (λ (type : ValueType). Lie c at
      (link_code (4 + port.link) ++ (constant (length_of type) ∷ operates INPUT ∷ [])) to) carries
      (subst (λ (o : Option Home). Lie c at
      (channel_code o
      ++ (constant (length_of (carried (meaning_in channel.name es))) ∷ operates INPUT ∷ [])) to) home lie) in
      let both = lie_both c at to (link_code (4 + port.link))
      (constant (length_of port.carries) ∷ operates INPUT ∷ []) there in
      let link = link_pushed g.footing (4 + port.link) h (omega (arith, few)) in
      let is : address link.channel ≡ input_word port.link = link.is ∙ omega arith in
      straight_behaves c g footing both.1 link.leads
      (counted_asks both.0 place link.channel h both.2 room is on)

-- ---- what memory is then

not_among : (place other count : ℕ) → (other < place) ⊎ (place + count ≤ other) → IsAmong place count other → ⊥
not_among place other count (inl below) is = let low = is.0 in absurd (omega (arith, below, low))
not_among place other count (inr above) is = let high = is.1 in absurd (omega (arith, above, high))

-- A word that came is written, but for what scheduling takes.
word_came : (depth place : ℕ) (bytes : List ℕ) (old new : Memory) → length bytes ≡ 4 → IsBytes bytes
    → place + 4 ≤ length old → Came depth place bytes old new
    → OnlySchedulingChanges depth (with_word old place (Some (received value_type.Int bytes))) new
word_came depth place bytes old new long all room came =
    word_over depth place (received value_type.Int bytes) old new room came.size
    (subst (λ (xs : List ℕ). Has new place xs) (sym (sent_back bytes long all)) came.has)
    (λ other apart beside.
    came.same other apart
    (not_among place other (length bytes) (subst (λ (n : ℕ). (other < place) ⊎ (place + n ≤ other)) (sym long) beside)))

-- a byte is
byte_over : (depth place b : ℕ) (old new : Memory) → b < 256 → place < length old → length new ≡ length old
    → byte_at new place ≡ Some b
    → ((other : ℕ) → (IsScheduling depth other → ⊥) → (other < place) ⊎ (place + 1 ≤ other)
    → byte_at new other ≡ byte_at old other)
    → OnlySchedulingChanges depth (with_byte old place (Some (byte_worth 1 (pos b)))) new
byte_over depth place b old new small inside long there same = record {
  size = long ∙ sym (length-with_byte old place (Some (byte_worth 1 (pos b))));
  same = λ other apart. by other apart (cases_lt other place) (cases_lt place other);
}
  where
    by : (other : ℕ) → (IsScheduling depth other → ⊥) → (other < place) ⊎ (place ≤ other)
        → (place < other) ⊎ (other ≤ place)
        → byte_at new other ≡ byte_at (with_byte old place (Some (byte_worth 1 (pos b)))) other
    by other apart (inl below) order =
        same other apart (inl below)
        ∙ sym (byte_at-with_byte_other old place other (Some (byte_worth 1 (pos b))) (omega (arith, below)))
    by other apart (inr low) (inl above) =
        same other apart (inr (omega (arith, above)))
        ∙ sym (byte_at-with_byte_other old place other (Some (byte_worth 1 (pos b))) (omega (arith, above)))
    by other apart (inr low) (inr high) =
        let here : other ≡ place = omega (arith, low, high) in
        let byte : byte_worth 1 (pos b) ≡ b = omega (arith, ints, small) in
        ap (byte_at new) here ∙ there ∙ ap Some (sym byte)
        ∙ sym (byte_at-with_byte old place (Some (byte_worth 1 (pos b))) inside)
        ∙ ap (byte_at (with_byte old place (Some (byte_worth 1 (pos b))))) (sym here)

byte_came : (depth place : ℕ) (bytes : List ℕ) (old new : Memory) → length bytes ≡ 1 → IsBytes bytes
    → place + 1 ≤ length old → Came depth place bytes old new
    → OnlySchedulingChanges depth
    (with_byte old place (Some (byte_worth 1 (received value_type.Byte bytes)))) new
byte_came depth place [] old new long all room came = absurd (cc)
byte_came depth place (b ∷ []) old new long all room came =
    let small : b < 256 = all 0 in
    let at : place ≡ place + 0 = omega arith in
    let number : b % 256 ≡ b = omega (arith, small) in
    subst (λ (n : ℕ). OnlySchedulingChanges depth (with_byte old place (Some (byte_worth 1 (pos n)))) new) (sym number)
    (byte_over depth place b old new small (omega (arith, room)) came.size
    (ap (byte_at new) at ∙ came.has 0 b refl)
    (λ other apart beside. came.same other apart (not_among place other 1 beside)))
byte_came depth place (b ∷ c ∷ bytes) old new long all room came = absurd (cc)

-- so an element is
element_came : (type : ValueType) (depth w i : ℕ) (bytes : List ℕ) (old new : Memory)
    → length bytes ≡ message_length type → IsBytes bytes → element_place type w i + message_length type ≤ length old
    → Came depth (element_place type w i) bytes old new
    → OnlySchedulingChanges depth (with_element type w i (received type bytes) old) new
element_came value_type.Int depth w i bytes old new long all room came =
    word_came depth (word_place (w + i)) bytes old new long all room came
element_came value_type.Byte depth w i bytes old new long all room came =
    byte_came depth (word_place w + i) bytes old new long all room came

-- A byte that came into a word is stored in the word again.
word_again : (depth place v : ℕ) (bytes : List ℕ) (old new : Memory) → length bytes ≡ 1 → place + 4 ≤ length old
    → Came depth place bytes old new
    → OnlySchedulingChanges depth (with_word old place (Some (pos v))) (with_word new place (Some (pos v)))
word_again depth place v bytes old new long room came =
    let size = came.size in
    word_over depth place (pos v) old (with_word new place (Some (pos v))) room
    (length-with_word new place (Some (pos v)) ∙ size)
    (message_there new place (pos v) (omega (arith, room, size)) value_type.Int)
    (λ other apart beside.
    byte_at-with_word_other new place other (Some (pos v)) beside
    ∙ came.same other apart (not_among place other (length bytes) (further place other (length bytes) long beside)))
  where
    further : (place other count : ℕ) → count ≡ 1 → (other < place) ⊎ (place + 4 ≤ other)
        → (other < place) ⊎ (place + count ≤ other)
    further place other count one (inl below) = inl below
    further place other count one (inr above) = inr (omega (arith, one, above))

-- ---- numbers that came

four_at_most : (type : ValueType) → message_length type ≤ 4
four_at_most value_type.Int = omega arith
four_at_most value_type.Byte = omega arith

of_type_fits : (type : ValueType) (v : ℤ) → IsOfType type v → FitsSigned w32 v
of_type_fits value_type.Int v typed = typed
of_type_fits value_type.Byte v typed =
    let low = typed.from_lo in
    let high = typed.to_hi in
    omega (arith, ints, low, high)

byte_fits : (b : ℕ) → b < 256 → FitsSigned w32 (pos b)
byte_fits b small = omega (arith, ints, small)

byte_number : (b : ℕ) → b < 256 → received value_type.Byte (b ∷ []) ≡ pos b
byte_number b small = let same : b % 256 ≡ b = omega (arith, small) in ap pos same

nothing_added : (n : ℕ) → n ≡ n + 0
nothing_added n = omega arith

-- ---- inputs

module _ (c : LaidCode) (g : Ground) (top at to : ℕ) (es : List Entry) (env : Environment) (h : Held)
    (ports : List (Option Port)) (channel : Place) (begins : Begins c g top es env h)
    (undisturbed : IsUndisturbed g top es) (port : Port)
    (is_port : IsPort g es env ports direction.Input channel port) where
  abbrev goes_on : Place → List ℕ → Doing
  goes_on target bytes = or_fails (stored env target (received port.carries bytes)) Leaves

  -- the address is pushed, the message is asked for, and memory has it where that leads
  asks_for : (target : Place) (t : Target) (place count : ℕ)
      → Lie c at ((target_address t ++ exchange g.homes es channel INPUT) ++ cleaned t) to
      → (x : IsLocated g top (target_address t) place count h) → message_length port.carries ≤ count
      → ((middle : ℕ) (bytes : List ℕ) (q : Point) → Lie c middle (cleaned t) to
      → length bytes ≡ message_length port.carries → IsBytes bytes → q.at ≡ middle
      → Came g.footing.depth place bytes x.addressed.after.memory q.held.memory
      → Behaves c (EndsAt g top es to) q (goes_on target bytes))
      → Behaves c (EndsAt g top es to) (point at h) (acting ports (Input channel target) env)
  asks_for target t place count lie x short on =
      let room = fewer_beside g.footing.depth g.words place count (message_length port.carries) short x.room in
      let outer = lie_both c at to (target_address t ++ exchange g.homes es channel INPUT) (cleaned t) lie in
      let both = lie_both c at outer.0 (target_address t) (exchange g.homes es channel INPUT) outer.1 in
      let ends = room.before in
      let few = begins.carries.frame.few in
      subst (λ (d : Doing). Behaves c (EndsAt g top es to) (point at h) d)
      (sym (ap (λ (o : Option Port). asking o target env) is_port.is))
      (straight_behaves c g begins.footing both.1 x.addressed.leads
      (exchange_asks c g es port outer.0 (EndsAt g top es to) (goes_on target) begins.footing is_port.faces
      is_port.link both.0 place channel x.addressed.after is_port.at is_port.carries
      (record {
        at = ap place_of x.addressed.at ∙ x.is;
        low = omega (arith, ends, few);
        beside = room.beside;
      })
      both.2
      (λ bytes q long all is came. on outer.0 bytes q outer.2 long all is came)))

  -- memory before the message carries the environment
  kept_before : (t : Target) (place count : ℕ) → (x : IsLocated g top (target_address t) place count h)
      → Carries g top es env x.addressed.after.memory
  kept_before t place count x =
      outer_words_stay g top top g.words es env h.memory x.addressed.after.memory begins.meets (omega arith)
      (omega arith) x.addressed.changes begins.carries

  -- its place is in memory
  room_before : (t : Target) (place count : ℕ) → (x : IsLocated g top (target_address t) place count h)
      → place + count ≤ length x.addressed.after.memory
  room_before t place count x =
      let kept = kept_before t place count x in
      let ends = x.room.before in
      omega (arith, ends, kept.frame.inside)

  -- what is left where a number was stored
  ends_here : (target : Place) (v : ℤ) (q : Point) (change : Memory → Memory) (old : Memory) → q.at ≡ to
      → (left : LeavesStored g top es env target v change) → Carries g top es env old
      → OnlySchedulingChanges g.footing.depth (change old) q.held.memory → EndsAt g top es to left.after q
  ends_here target v q change old is left carries changes = record {
    at = is;
    carries = undisturbed.carries left.after (change old) q.held.memory changes (left.carries old carries);
  }

  -- the message is stored where it came to
  ends_with : (target : Place) (bytes : List ℕ) (q : Point) (change : Memory → Memory) (old : Memory) → q.at ≡ to
      → LeavesStored g top es env target (received port.carries bytes) change → Carries g top es env old
      → OnlySchedulingChanges g.footing.depth (change old) q.held.memory
      → Behaves c (EndsAt g top es to) q (goes_on target bytes)
  ends_with target bytes q change old is left carries changes =
      subst (λ (d : Doing). Behaves c (EndsAt g top es to) q d)
      (sym (ap (λ (o : Option Environment). or_fails o Leaves) left.is))
      (over (ends_here target (received port.carries bytes) q change old is left carries changes))

  -- ---- elements

  element_asks : (name : List ℕ) (e : Expression) (size n w i : ℕ) → IsInWords g es name port.carries size n w
      → IsSubscript g top es env top size e i → (t : Target) → cleaned t ≡ []
      → IsLocated g top (target_address t) (element_place port.carries w i) (message_length port.carries) h
      → Lie c at ((target_address t ++ exchange g.homes es channel INPUT) ++ cleaned t) to
      → Behaves c (EndsAt g top es to) (point at h) (acting ports (Input channel (element name e)) env)
  element_asks name e size n w i array sub t none x lie =
      let place = element_place port.carries w i in
      let count = message_length port.carries in
      asks_for (element name e) t place count lie x (omega arith)
      (λ middle bytes q rest long all is came.
      let old = x.addressed.after.memory in
      let v = received port.carries bytes in
      ends_with (element name e) bytes q (with_element port.carries w i v) old
      (is ∙ none_there c middle to (subst (λ (ps : List Piece). Lie c middle ps to) none rest))
      (element_put g top es env name e port.carries size n w i v begins.meets array sub.pushed.is sub.inside
      (received_is_of_type port.carries bytes))
      (kept_before t place count x)
      (element_came port.carries g.footing.depth w i bytes old q.held.memory long all (room_before t place count x)
      came))

  -- ---- scalars

  module _ (name : List ℕ) (n w : ℕ) (scalar : IsScalar g es name port.carries n w) where
    located : IsLocated g top (points w ∷ []) (word_place w) 4 h
    located = scalar_located g top es env name port.carries h undisturbed begins.carries n w scalar

    abbrev old : Memory
    old = located.addressed.after.memory

    int_asks : port.carries ≡ value_type.Int
        → Lie c at (((points w ∷ []) ++ exchange g.homes es channel INPUT) ++ []) to
        → Behaves c (EndsAt g top es to) (point at h) (acting ports (Input channel (whole name)) env)
    int_asks same lie =
        let t : Target = OwnWord value_type.Int w in
        asks_for (whole name) t (word_place w) 4 lie located (four_at_most port.carries)
        (λ middle bytes q rest long all is came.
        let v = received port.carries bytes in
        ends_with (whole name) bytes q (with_frame_word w v) old (is ∙ none_there c middle to rest)
        (scalar_put g top es env name port.carries n w v begins.meets scalar
        (of_type_fits port.carries v (received_is_of_type port.carries bytes)))
        (kept_before t (word_place w) 4 located)
        (subst (λ (type : ValueType). OnlySchedulingChanges g.footing.depth
        (with_frame_word w (received type bytes) old) q.held.memory) (sym same)
        (word_came g.footing.depth (word_place w) bytes old q.held.memory (long ∙ ap message_length same) all
        (room_before t (word_place w) 4 located) came)))

    -- the byte is loaded, and stored as a word
    byte_ends : (middle : ℕ) (bytes : List ℕ) (q : Point) → port.carries ≡ value_type.Byte
        → Lie c middle (points w ∷ operates LOAD_BYTE ∷ stores w ∷ []) to → length bytes ≡ 1 → IsBytes bytes
        → q.at ≡ middle → Came g.footing.depth (word_place w) bytes old q.held.memory
        → Behaves c (EndsAt g top es to) q (goes_on (whole name) bytes)
    byte_ends middle [] q same rest long all is came = absurd (cc)
    byte_ends middle (b ∷ []) q same rest long all is came =
        let t : Target = OwnWord value_type.Byte w in
        let kept = kept_before t (word_place w) 4 located in
        let within = scalar_within g top es env name port.carries n w old scalar kept in
        let inside : IsInFrame w = omega (arith, within, kept.frame.few) in
        let small : b < 256 = all 0 in
        let first : Held = with_pushed (word_of (word_address w)) q.held in
        let number : received port.carries (b ∷ []) ≡ pos b =
        ap (λ (type : ValueType). received type (b ∷ [])) same ∙ byte_number b small in
        let left = scalar_put g top es env name port.carries n w (pos b) begins.meets scalar (byte_fits b small) in
        let there : byte_at q.held.memory (word_place w) ≡ Some b =
        ap (byte_at q.held.memory) (nothing_added (word_place w)) ∙ came.has 0 b refl in
        subst (λ (d : Doing). Behaves c (EndsAt g top es to) q d)
        (sym (ap (λ (v : ℤ). or_fails (stored env (whole name) v) Leaves) number
        ∙ ap (λ (o : Option Environment). or_fails o Leaves) left.is))
        (subst (λ (offset : ℕ). Behaves c (EndsAt g top es to) (point offset q.held) (Leaves left.after)) (sym is)
        (straight_behaves c g begins.footing rest
        (lead_both (addresses_are_pushed g.footing w q.held kept.frame.workspace inside)
        (lead_both (bytes_are_loaded g.footing (word_address w) b first (addresses_read_back.word w inside)
        (ap (byte_at q.held.memory) (words_have_places w inside) ∙ there))
        (words_are_stored g.footing w (with_a (pos b) first) kept.frame.workspace inside)))
        (over (ends_here (whole name) (pos b)
        (point to (with_memory (with_frame_word w (pos b) q.held.memory) (without_a (with_a (pos b) first))))
        (with_frame_word w (pos b)) old refl left kept
        (word_again g.footing.depth (word_place w) b (b ∷ []) old q.held.memory long
        (room_before t (word_place w) 4 located) came)))))
    byte_ends middle (b ∷ d ∷ bytes) q same rest long all is came = absurd (cc)

    byte_asks : port.carries ≡ value_type.Byte
        → Lie c at (((points w ∷ []) ++ exchange g.homes es channel INPUT)
        ++ (points w ∷ operates LOAD_BYTE ∷ stores w ∷ [])) to
        → Behaves c (EndsAt g top es to) (point at h) (acting ports (Input channel (whole name)) env)
    byte_asks same lie =
        asks_for (whole name) (OwnWord value_type.Byte w) (word_place w) 4 lie located (four_at_most port.carries)
        (λ middle bytes q rest long all is came.
        byte_ends middle bytes q same rest (long ∙ ap message_length same) all is came)

    scalar_by : (type : ValueType) → port.carries ≡ type
        → Lie c at ((target_address (OwnWord type w) ++ exchange g.homes es channel INPUT)
        ++ cleaned (OwnWord type w)) to
        → Behaves c (EndsAt g top es to) (point at h) (acting ports (Input channel (whole name)) env)
    scalar_by value_type.Int same lie = int_asks same lie
    scalar_by value_type.Byte same lie = byte_asks same lie

  -- ---- both

  abbrev code_for : Target → List Piece
  code_for t = (target_address t ++ exchange g.homes es channel INPUT) ++ cleaned t

  abbrev target_for : List ℕ → Expression → Target
  target_for name e = target_of g.homes es top (element name e)

  element_by : (name : List ℕ) (e : Expression) (size n w i : ℕ) → IsInWords g es name port.carries size n w
      → IsSubscript g top es env top size e i → AreWithin g (code_for (target_for name e))
      → Lie c at (code_for (target_for name e)) to
      → (target_for name e ≡ KnownElement port.carries w i)
      ⊎ (target_for name e ≡ OtherElement port.carries w (subscript_of g.homes es top e))
      → Behaves c (EndsAt g top es to) (point at h) (acting ports (Input channel (element name e)) env)
  element_by name e size n w i array sub all lie (inl known) =
      element_asks name e size n w i array sub (KnownElement port.carries w i) refl
      (known_located g top es env name port.carries h undisturbed begins.carries size n w i e array sub)
      (subst (λ (t : Target). Lie c at (code_for t) to) known lie)
  element_by name e size n w i array sub all lie (inr other) =
      element_asks name e size n w i array sub (OtherElement port.carries w (subscript_of g.homes es top e)) refl
      (other_located g top es env name port.carries h undisturbed begins.carries size n w i e array sub
      (subst (λ (t : Target). AreWithin g (target_address t)) other
      (first_within g (target_address (target_for name e)) (exchange g.homes es channel INPUT)
      (first_within g (target_address (target_for name e) ++ exchange g.homes es channel INPUT)
      (cleaned (target_for name e)) all))))
      (subst (λ (t : Target). Lie c at (code_for t) to) other lie)

  ask_by : (name : List ℕ) (o : Option Expression) → IsVariable g top es env top name port.carries o
      → AreWithin g (input_code g.homes es top channel (record { name = name; subscript = o }))
      → Lie c at (input_code g.homes es top channel (record { name = name; subscript = o })) to
      → Behaves c (EndsAt g top es to) (point at h)
      (acting ports (Input channel (record { name = name; subscript = o })) env)
  ask_by name None (whole_scalar {n = n} {w = w} scalar) all lie =
      scalar_by name n w scalar port.carries refl
      (subst (λ (t : Target). Lie c at (code_for t) to) (scalar_target g es top name port.carries n w scalar) lie)
  ask_by name (Some e) (array_element {size = size} {n = n} {w = w} {i = i} array sub) all lie =
      element_by name e size n w i array sub all lie
      (element_target_is g top es env top name port.carries size n w e i array sub)

pub inputs_behave : InputsBehave
inputs_behave c g top at to es env h ports channel target begins undisturbed input all lie =
    ask_by c g top at to es env h ports channel begins undisturbed input.port input.is_port target.name
    target.subscript input.variable all lie
