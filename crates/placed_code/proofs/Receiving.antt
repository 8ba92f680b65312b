-- A message that the only process receives: byte by byte it comes, as far as there are bytes.
use Rattle.std.proofs.Common.{◌≡◌, ◌≢◌, ◌⊎◌, ℕ, zero, suc, ◌+◌, ◌*◌, ◌%◌, ◌^◌, ◌<◌, ◌≤◌, ◌==◌, ℤ, pos, Bool, true}
use Rattle.std.proofs.Common.{false}
use Rattle.std.proofs.Common.{List, [], ◌∷◌, ◌++◌, length, take, drop, Option, Some, None, slice_get, refl, sym, ap}
use Rattle.std.proofs.Common.{subst, ◌∙◌, arith, inl, inr, append_assoc, append-nil, length-append, is_some}
use Rattle.std.specs.Prelude.{unwrap_or, if◌then◌else◌, replicate, slice_set, ◌&&◌, ◌||◌, is_none, nat_eq}
use Rattle.std.proofs.lemmas.Bool.{eq-eqb, ne_eqb, leb-true, leb-false}
use Rattle.std.proofs.lemmas.Option.{slice_get_within}
use Rattle.module_format.specs.Contents.{Contents}
use Rattle.module_format.specs.Order.{IsBytes}
use Rattle.module_format.specs.declared.stack.Stack.{Stack}
use Rattle.occam_parser.specs.declared.tree.ValueType.{ValueType}
use Rattle.occam_parser.specs.declared.tree.ValueType.TheVariants as value_type
use Rattle.machine_state.specs.declared.event.Event.TheVariants.{Arrive}
use Rattle.machine_state.specs.declared.link.InputLink.{InputLink}
use Rattle.machine_state.specs.declared.link.Link.{Link}
use Rattle.machine_state.specs.declared.link.Link.TheVariants.{Zero, One, Two, Three}
use Rattle.machine_state.specs.declared.op.Op.TheVariants as ops
use Rattle.machine_state.specs.declared.instruction.Instruction.TheVariants.{Operate}
use Rattle.machine_state.specs.Exchanges.{link_of, input_link}
use Rattle.machine_state.specs.Happens.{ran, turn, happens, world_after}
use Rattle.machine_state.specs.LocalStep.{address}
use Rattle.machine_state.specs.Memory.{Memory, data_start, place_of, scheduling_word, byte_at, with_byte}
use Rattle.machine_state.specs.Memory.{word_at}
use Rattle.machine_state.specs.Moves.{link_index}
use Rattle.machine_state.specs.World.{Counters, World}
use Rattle.machine_state.proofs.Lines.{got_set, got_other}
use Rattle.machine_state.proofs.Reading.{word_at-with_word, length-with_word, length-with_byte}
use Rattle.machine_state.proofs.Reading.{byte_at-with_byte, byte_at-with_byte_other, word_at-with_byte_other}
use Rattle.link_runs.specs.ByLink.{ByLink, of_link, with_link, first_link}
use Rattle.link_runs.specs.FirstInFirstOut.{Supply, RunMoment, next, next_of, plain_step, stepped, answered_by, asked}
use Rattle.link_runs.specs.FirstInFirstOut.{supplied, can_be_asked, IsOver}
use Rattle.link_runs.specs.Wanting.{is_running, wants, asks}
use Rattle.link_runs.proofs.ByLink.{of_same, of_other, compared, same, other, first_alike}
use Rattle.plain_machine.specs.declared.flow.PlainFlow.TheVariants as flow
use Rattle.plain_machine.specs.PlainStep as plain
use Rattle.plain_machine.specs.PlainStep.{PlainState, Stepped, plain_operation, with_plain_word, plain_code_offset}
use Rattle.plain_machine.specs.PlainStep.{HasWord, plain_word}
use Rattle.agreement.specs.Agrees.{PlainMachine, PlainInput, PlainArrival, Agrees, code_word}
use Rattle.agreement.specs.Arriving.{Comes, runs_on}
use Rattle.agreement.specs.Leaving.{waiting_by, dispatched_in, resumed}
use Rattle.agreement.specs.TurnsAgree.{byte_stepped, plain_state}
use Rattle.agreement.specs.Waking.{IsTaken, taken_by, waiting_on, filled_by, next_place}
use Rattle.agreement.proofs.ChannelWords.{address_fits}
use Rattle.agreement.proofs.Dispatching.{code_word_is}
use Rattle.agreement.proofs.Links.{inputs_are_shown}
use Rattle.agreement.proofs.Taking.{bytes_are_taken}
use Rattle.plain_run.specs.Stepping.{IsButForLinks, executed_by, AsksInput, received}
use Rattle.plain_run.proofs.Stepping.{can_receive, receives}
use Rattle.accepted_runs.specs.Running.{AgreesOn}
use Rattle.accepted_runs.proofs.NeverAtFault.{runs_further}
use Rattle.accepted_runs.proofs.RunningAlone.{can_step, there, leads}
use Rattle.scalar_ranges.specs.Environments.{item_at}
use Rattle.program_meaning.specs.Links.{Port, Links, Incoming, with_item, read_on, after_reading, incoming_at}
use Rattle.program_meaning.specs.Links.{nothing_came, message_length}
use Rattle.placed_code.specs.Behaves.{Receives, Filled, Has, IsScheduling, IsAmong, buffer}
use Rattle.placed_code.specs.Closing.{code_of, moment_from, ComesToBe, At, HasLinks, IsOverWith, HasFilled, idle_input}
use Rattle.placed_code.specs.Closing.{bytes_left, ReceivesComeToBe}
use Rattle.placed_code.specs.LaidCode.{LaidCode}
use Rattle.placed_code.specs.Points.{Point, point, state_in, plain_point}
use Rattle.placed_code.specs.StraightPieces.{Footing, word_address}
use Rattle.placed_code.proofs.Asking as asking
use Rattle.placed_code.proofs.Asking.{Asks}
use Rattle.placed_code.proofs.LinkNumbers.{index_is, input_is}
use Rattle.placed_code.proofs.ChangedItems.{item_same, item_other, length-with_item}
use Rattle.placed_code.proofs.OneEnd.{one_end}
use Rattle.placed_code.proofs.WordBelow.{below_place, beside_words, beside_stays}
use Rattle.placed_code.proofs.PointsComeToBe.{links_stay, one_turn, quiet_turns, later_still}

-- ---- inputs

-- the inputs where somebody waits on one of them
abbrev awaiting : Link → PlainInput → List PlainInput
awaiting link i = slice_set (replicate 4 idle_input) (link_index link) i

-- a link that is idle
idle_of : (link : Link) → slice_get (replicate 4 idle_input) (link_index link) ≡ Some idle_input
idle_of Zero = refl
idle_of One = refl
idle_of Two = refl
idle_of Three = refl

awaited_twice : (link : Link) (i j : PlainInput) → slice_set (awaiting link i) (link_index link) j ≡ awaiting link j
awaited_twice Zero i j = refl
awaited_twice One i j = refl
awaited_twice Two i j = refl
awaited_twice Three i j = refl

awaited_no_more : (link : Link) (i : PlainInput)
    → slice_set (awaiting link i) (link_index link) idle_input ≡ replicate 4 idle_input
awaited_no_more Zero i = refl
awaited_no_more One i = refl
awaited_no_more Two i = refl
awaited_no_more Three i = refl

-- the lowest link that is this one
first_same : (link : Link) → first_link (λ on. nat_eq (link_index link) (link_index on)) ≡ Some link
first_same Zero = refl
first_same One = refl
first_same Two = refl
first_same Three = refl

-- ---- bytes that are read

-- one byte, and others after it
read_next : (n : ℕ) (x : Incoming) (b : ℕ) (rest : List ℕ) → x.unread ≡ b ∷ rest
    → read_on n (read_on 1 x) ≡ read_on (suc n) x
read_next n x b rest is =
    let from : List ℕ → Incoming = λ u. record { read = x.read; unread = u } in
    subst (λ (u : List ℕ). read_on n (read_on 1 (from u)) ≡ read_on (suc n) (from u)) (sym is)
    (ap (λ (xs : List ℕ). record { read = xs; unread = drop n rest }) (append_assoc x.read (b ∷ []) (take n rest)))

items_next : (n k : ℕ) (xs : List Incoming) (b : ℕ) (rest : List ℕ)
    → (unwrap_or (item_at k xs) nothing_came).unread ≡ b ∷ rest
    → with_item (read_on n) k (with_item (read_on 1) k xs) ≡ with_item (read_on (suc n)) k xs
items_next n k [] b rest is = refl
items_next n zero (x ∷ xs) b rest is = ap (λ (y : Incoming). y ∷ xs) (read_next n x b rest is)
items_next n (suc k) (x ∷ xs) b rest is = ap (λ (ys : List Incoming). x ∷ ys) (items_next n k xs b rest is)

reading_next : (n k : ℕ) (l : Links) (b : ℕ) (rest : List ℕ) → (incoming_at k l).unread ≡ b ∷ rest
    → after_reading k n (after_reading k 1 l) ≡ after_reading k (suc n) l
reading_next n k l b rest is =
    ap (λ (xs : List Incoming). record { incoming = xs; written = l.written }) (items_next n k l.incoming b rest is)

-- no byte is read
items_stay : (k : ℕ) (xs : List Incoming) → with_item (read_on 0) k xs ≡ xs
items_stay k [] = refl
items_stay zero (x ∷ xs) =
    ap (λ (r : List ℕ). record { read = r; unread = x.unread } ∷ xs) (append-nil x.read)
items_stay (suc k) (x ∷ xs) = ap (λ (ys : List Incoming). x ∷ ys) (items_stay k xs)

reading_nothing : (k : ℕ) (l : Links) → after_reading k 0 l ≡ l
reading_nothing k l =
    ap (λ (xs : List Incoming). record { incoming = xs; written = l.written }) (items_stay k l.incoming)

-- what is left after one byte
left_then : (k : ℕ) (l : Links) (b : ℕ) (rest : List ℕ) → k < length l.incoming → (incoming_at k l).unread ≡ b ∷ rest
    → (incoming_at k (after_reading k 1 l)).unread ≡ rest
left_then k l b rest less is =
    ap (λ (i : Incoming). i.unread) (item_same (read_on 1) k l.incoming nothing_came less)
    ∙ ap (λ (u : List ℕ). drop 1 u) is

-- what a link has to give, if it has a byte
supply_is : (o : Supply) (b : ℕ) (rest : List ℕ) → bytes_left o ≡ b ∷ rest → o ≡ Some (b ∷ rest)
supply_is None b rest is = absurd (cc)
supply_is (Some bytes) b rest is = ap Some is

-- the moment after one byte, but for its world
abbrev with_read : Link → List ℕ → World → RunMoment → RunMoment
with_read link rest w s = record s {
  world = w;
  left = with_link link (Some rest) s.left;
  read = with_link link (of_link s.read link + 1) s.read;
}

module _ (port : ℕ) (less : port < 4) (l : Links) (s : RunMoment) (b : ℕ) (rest : List ℕ) (w : World)
    (links : HasLinks l s) (unread : (incoming_at port l).unread ≡ b ∷ rest) where
  abbrev on_port : Link
  on_port = link_of port

  abbrev after_one : Links
  after_one = after_reading port 1 l

  here : port < length l.incoming
  here = let four = links.four_in in omega (arith, four, less)

  incoming_is : (on : Link) → link_index on_port ≢ link_index on
      → incoming_at (link_index on) after_one ≡ incoming_at (link_index on) l
  incoming_is on differ =
      ap (λ (o : Option Incoming). unwrap_or o nothing_came)
      (item_other (read_on 1) port (link_index on) l.incoming (λ e. differ (index_is port less ∙ e)))

  -- by whether it is the link that was read
  by_link : (P : Link → Type 0) → P on_port → ((on : Link) → link_index on_port ≢ link_index on → P on) → (on : Link)
      → P on
  by_link P mine others on =
      elim (compared on_port on) [ same is ↦ subst P is mine | other differ apart ↦ others on differ ]

  read_then : (on : Link) → of_link (with_link on_port (of_link s.read on_port + 1) s.read) on
      ≡ length (incoming_at (link_index on) after_one).read
  read_then =
      let k = index_is port less in
      by_link (λ on. of_link (with_link on_port (of_link s.read on_port + 1) s.read) on
      ≡ length (incoming_at (link_index on) after_one).read)
      (of_same on_port (of_link s.read on_port + 1) s.read
      ∙ (let before = links.read on_port ∙ ap (λ (n : ℕ). length (incoming_at n l).read) k in
      let now : (incoming_at port after_one).read ≡ (incoming_at port l).read ++ b ∷ [] =
      ap (λ (i : Incoming). i.read) (item_same (read_on 1) port l.incoming nothing_came here)
      ∙ ap (λ (u : List ℕ). (incoming_at port l).read ++ take 1 u) unread in
      let size = length-append (incoming_at port l).read (b ∷ []) in
      let whole : of_link s.read on_port + 1 ≡ length (incoming_at port after_one).read =
      (let n = ap (λ (xs : List ℕ). length xs) now in omega (arith, before, n, size)) in
      whole)
      ∙ sym (ap (λ (n : ℕ). length (incoming_at n after_one).read) k))
      (λ on differ. of_other on_port on (of_link s.read on_port + 1) s.read differ ∙ links.read on
      ∙ sym (ap (λ (i : Incoming). length i.read) (incoming_is on differ)))

  left_still : (on : Link) → bytes_left (of_link (with_link on_port (Some rest) s.left) on)
      ≡ (incoming_at (link_index on) after_one).unread
  left_still =
      let k = index_is port less in
      by_link (λ on. bytes_left (of_link (with_link on_port (Some rest) s.left) on)
      ≡ (incoming_at (link_index on) after_one).unread)
      (ap bytes_left (of_same on_port (Some rest) s.left) ∙ sym (left_then port l b rest here unread)
      ∙ sym (ap (λ (n : ℕ). (incoming_at n after_one).unread) k))
      (λ on differ. ap bytes_left (of_other on_port on (Some rest) s.left differ) ∙ links.left on
      ∙ sym (ap (λ (i : Incoming). i.unread) (incoming_is on differ)))

  bytes_still : (on : Link) → IsBytes (incoming_at (link_index on) after_one).unread
  bytes_still =
      let k = index_is port less in
      by_link (λ on. IsBytes (incoming_at (link_index on) after_one).unread)
      (subst (λ (n : ℕ). IsBytes (incoming_at n after_one).unread) (sym k)
      (subst IsBytes (sym (left_then port l b rest here unread))
      (λ i. (subst IsBytes (ap (λ (n : ℕ). (incoming_at n l).unread) k ∙ unread) (links.are_bytes on_port)) (suc i))))
      (λ on differ. subst IsBytes (sym (ap (λ (i : Incoming). i.unread) (incoming_is on differ)))
      (links.are_bytes on))

  pub links_then : HasLinks after_one (with_read on_port rest w s)
  links_then = record {
    four_in = length-with_item (read_on 1) port l.incoming ∙ links.four_in;
    four_out = links.four_out;
    read = read_then;
    left = left_still;
    written = links.written;
    are_bytes = bytes_still;
  }

-- ---- what a message has of its bytes

-- one byte more of a list
last_of : (bytes : List ℕ) (b i byte : ℕ) → slice_get (bytes ++ b ∷ []) i ≡ Some byte
    → (slice_get bytes i ≡ Some byte) ⊎ ((i ≡ length bytes) × (b ≡ byte))
last_of [] b zero byte is = inr (refl, cc)
last_of [] b (suc i) byte is = absurd (cc)
last_of (a ∷ bytes) b zero byte is = inl is
last_of (a ∷ bytes) b (suc i) byte is = elim (last_of bytes b i byte is) [
  | inl before ↦ inl before
  | inr last ↦ inr (ap suc last.0, last.1)
]

-- ---- a process that waits for a message

module _ (m : Contents) (labels : ℕ → ℕ) (footing : Footing) (shallow : footing.depth < 2 ^ 28) (writers : ByLink Bool)
    (p : Point) (port : Port) (x : Receives (code_of m labels footing) p port) where
  abbrev c : LaidCode
  c = code_of m labels footing

  abbrev workspace : ℕ
  workspace = word_address footing.depth

  abbrev link : Link
  link = link_of port.link

  abbrev behind : ℕ
  behind = x.executes.behind

  abbrev count : ℕ
  count = message_length port.carries

  abbrev word_one : ℕ
  word_one = place_of (scheduling_word workspace 0)

  -- what it waits for, once so many bytes have come
  abbrev arrival : ℕ → PlainArrival
  arrival done = record {
    workspace = workspace;
    address = address p.held.stack.c;
    length = address p.held.stack.a;
    done = done;
  }

  abbrev waiting : ℕ → PlainInput
  waiting done = record idle_input { waiting = Some (arrival done) }

  -- of memory: these bytes have come, word W-1 says where the process goes on, and the rest is as it was
  pub record Fills (bytes : List ℕ) (memory : Memory) : Type 0 where
    pub word : word_at memory word_one ≡ Some (code_word m behind)
    pub size : length memory ≡ length p.held.memory
    pub has : Has memory (buffer p) bytes
    pub same : (place : ℕ) → (IsScheduling footing.depth place → ⊥) → (IsAmong (buffer p) (length bytes) place → ⊥)
        → byte_at memory place ≡ byte_at p.held.memory place

  -- these bytes have come, and the process waits for more
  pub record Waits (bytes : List ℕ) (l : Links) (s : RunMoment) : Type 0 where
    pub machine : PlainMachine
    pub on : AgreesOn m machine s.world
    pub off : machine.is_running ≡ false
    pub ready : machine.ready ≡ []
    pub outputs : machine.outputs ≡ replicate 4 None
    pub inputs : machine.inputs ≡ awaiting link (waiting (length bytes))
    pub stack : machine.registers.stack ≡ p.held.stack
    pub fills : Fills bytes machine.memory
    pub inside : behind ≤ length m.code
    pub unfinished : machine.counters.is_finished ≡ false
    pub links : HasLinks l s

  -- ---- a byte more in memory

  next_is : (n : ℕ) → n < count → next_place (arrival n) ≡ buffer p + n
  unfolding place_of
  next_is n less =
      let low = x.lies.low in
      omega (arith, less, low)

  filled_more : (bytes : List ℕ) (b : ℕ) (memory : Memory) → Fills bytes memory → length bytes < count
      → buffer p + length bytes < length memory
      → Fills (bytes ++ b ∷ []) (with_byte memory (buffer p + length bytes) (Some b))
  filled_more bytes b memory fills less inside =
      let n = length bytes in
      let size = length-append bytes (b ∷ []) in
      let below = below_place footing.depth shallow in
      let elsewhere : (place : ℕ) → place ≢ buffer p + n
      → byte_at (with_byte memory (buffer p + n) (Some b)) place ≡ byte_at memory place =
      λ place differ. byte_at-with_byte_other memory (buffer p + n) place (Some b) differ in
      record {
        word = word_at-with_byte_other memory (buffer p + n) word_one (Some b) (elim x.lies.beside [
          | inl low ↦ inl (omega (arith, low, less, below))
          | inr high ↦ inr (omega (arith, high, below))
        ]) ∙ fills.word;
        size = length-with_byte memory (buffer p + n) (Some b) ∙ fills.size;
        has = λ i byte is. elim (last_of bytes b i byte is) [
          | inl before ↦
              let within = slice_get_within bytes i byte before in
              elsewhere (buffer p + i) (λ e. omega (arith, e, within)) ∙ fills.has i byte before
          | inr last ↦
              subst (λ (j : ℕ). byte_at (with_byte memory (buffer p + n) (Some b)) (buffer p + j) ≡ Some byte)
              (sym last.0)
              (byte_at-with_byte memory (buffer p + n) (Some b) inside ∙ ap Some last.1)
        ];
        same = λ place free other.
            elsewhere place (λ e. other (omega (arith, e), omega (arith, e, size)))
            ∙ fills.same place free (λ among. other (among.0, (let k = among.1 in omega (arith, k, size))));
      }

  -- ---- nobody runs, and this link alone is awaited

  module _ (bytes : List ℕ) (l : Links) (s : RunMoment) (w : Waits bytes l s) where
    abbrev events_there : Agrees m w.machine (world_after m w.on.runs.reached.events)
    events_there = subst (λ (v : World). Agrees m w.machine v) w.on.runs.reached.world w.on.agrees

    -- its own link
    here_is : slice_get w.machine.inputs (link_index link) ≡ Some (waiting (length bytes))
    here_is =
        ap (λ (xs : List PlainInput). slice_get xs (link_index link)) w.inputs
        ∙ got_set (replicate 4 idle_input) (link_index link) idle_input (waiting (length bytes)) (idle_of link)

    -- another one
    there_is : (on : Link) → link_index link ≢ link_index on
        → slice_get w.machine.inputs (link_index on) ≡ Some idle_input
    there_is on differ =
        ap (λ (xs : List PlainInput). slice_get xs (link_index on)) w.inputs
        ∙ got_other (replicate 4 idle_input) (link_index link) (link_index on) (waiting (length bytes)) differ
        ∙ idle_of on

    wants_by : (on : Link) (i : PlainInput) → slice_get w.machine.inputs (link_index on) ≡ Some i
        → wants on s.world ≡ (is_none i.kept && (is_some i.waiting || is_some i.enabled))
    wants_by on i is =
        let shown = inputs_are_shown m w.on.runs.reached.events w.machine (link_index on) i events_there is in
        ap (λ (v : World). wants on v) w.on.runs.reached.world
        ∙ ap (λ (o : Option InputLink). elim o as (λ o. Bool) [ None ↦ false | Some input ↦ asks input ]) shown.here
        ∙ ap (λ (b : Bool). is_none shown.link.kept && (b || is_some shown.link.enabled)) shown.waiting
        ∙ ap (λ (b : Bool). is_none shown.link.kept && (is_some i.waiting || b)) shown.enabled
        ∙ ap (λ (o : Option ℕ). is_none o && (is_some i.waiting || is_some i.enabled)) shown.kept

    still : is_running s.world ≡ false
    still = sym w.on.agrees.running ∙ w.off

    -- the turn is that of the link that is asked
    asks_turn : (o : Option Link) → asked s ≡ o → next m writers s ≡ answered_by m s o
    unfolding next
    asks_turn o is =
        ap (λ (b : Bool). if b then Some (stepped m writers s) else answered_by m s (asked s)) still
        ∙ ap (λ (o : Option Link). answered_by m s o) is

    -- if its link has ended, none is asked
    none_asked : of_link s.left link ≡ None → asked s ≡ None
    none_asked ended =
        first_alike (can_be_asked s) (λ on. false) (λ on. elim (compared link on) [
          | same is ↦
              subst (λ (on : Link). can_be_asked s on ≡ false) is
              (ap (λ (b : Bool). b && is_some (of_link s.left link)) (wants_by link (waiting (length bytes)) here_is)
              ∙ ap (λ (o : Supply). true && is_some o) ended)
          | other differ apart ↦
              ap (λ (b : Bool). b && is_some (of_link s.left on)) (wants_by on idle_input (there_is on differ))
        ])

    -- otherwise it is
    link_asked : (supply : List ℕ) → of_link s.left link ≡ Some supply → asked s ≡ Some link
    link_asked supply some =
        first_alike (can_be_asked s) (λ on. nat_eq (link_index link) (link_index on)) (λ on.
        elim (compared link on) [
          | same is ↦
              subst (λ (on : Link). can_be_asked s on ≡ nat_eq (link_index link) (link_index on)) is
              (ap (λ (b : Bool). b && is_some (of_link s.left link)) (wants_by link (waiting (length bytes)) here_is)
              ∙ ap (λ (o : Supply). true && is_some o) some
              ∙ sym (eq-eqb (link_index link) (link_index link) refl))
          | other differ apart ↦
              ap (λ (b : Bool). b && is_some (of_link s.left on)) (wants_by on idle_input (there_is on differ))
              ∙ sym apart
        ])
        ∙ first_same link

  -- ---- it begins to wait

  module _ (l : Links) (s : RunMoment) (at : At m c p l s) where
    a : Asks m labels footing at.machine s.world flow.Receive (point behind p.held)
    unfolding plain.plain_step plain_operation
    a = asking.asks m labels footing at.machine s.world at.on at.running p (Operate ops.Input) flow.Receive x.executes
        at.here refl

    abbrev after : PlainMachine
    after = waiting_by m (link_index link) idle_input 0 (state_in c (point behind p.held)) a.now

    state_is : (byte_stepped m a.now).state ≡ state_in c (point behind p.held)
    state_is = ap (λ (t : Stepped). t.state) a.stepped

    flow_is : flow.Receive ≡ (byte_stepped m a.now).flow
    flow_is = sym (ap (λ (t : Stepped). t.flow) a.stepped)

    received_is : received m 0 link idle_input (executed_by m a.now) ≡ after
    received_is =
        ap (λ (qs : List ℕ). dispatched_in m 0
        (waiting_by m (link_index link) idle_input 0 (plain_state (executed_by m a.now)) (executed_by m a.now)) qs)
        (a.ready ∙ at.ready)
        ∙ ap (λ (t : PlainState). waiting_by m (link_index link) idle_input 0 t a.now) state_is

    asks_in : AsksInput (executed_by m a.now) link idle_input
    asks_in = record {
      number = ap (λ (t : PlainState). input_link (address t.registers.stack.b)) state_is
          ∙ ap input_link x.channel ∙ input_is port.link x.link;
      here = ap (λ (xs : List PlainInput). slice_get xs (link_index link)) (a.inputs ∙ at.inputs) ∙ idle_of link;
    }

    queue_stays : IsButForLinks a.now.ready (received m 0 link idle_input (executed_by m a.now)) after
    queue_stays =
        subst (λ (q : PlainMachine).
        IsButForLinks a.now.ready (received m 0 link idle_input (executed_by m a.now)) q) received_is
        (record { same = refl; links = record { size = refl; others = λ place no. refl } })

    came : Comes m after ran (turn m a.world plain_step)
    came =
        let can = can_step m a.now a.world a.on in
        subst (λ (v : World). Comes m after ran (turn m v plain_step)) (there m a.now a.world a.on)
        (receives m a.now false 0 can a.running flow_is link idle_input asks_in after queue_stays)

    word_inside : word_one + 4 ≤ length p.held.memory
    word_inside =
        let can = can_step m a.now a.world a.on in
        subst (λ (t : PlainState). HasWord t.memory (scheduling_word t.registers.workspace 0)) state_is
        (can_receive m a.now false 0 can a.running flow_is link idle_input asks_in).parks.word

    first_fills : Fills [] after.memory
    first_fills = record {
      word = word_at-with_word p.held.memory word_one (code_word m behind) word_inside
          (address_fits ((data_start + 4 * m.data_words + behind) % 2 ^ 32) (omega arith));
      size = length-with_word p.held.memory word_one (Some (code_word m behind));
      has = λ i byte is. absurd (let within = slice_get_within [] i byte is in omega (arith, within));
      same = λ place free other. beside_stays footing.depth shallow p.held.memory (code_word m behind) place
          (beside_words footing.depth place free);
    }

    begins : ComesToBe m writers s (Waits [] l)
    begins =
        let quiet = quiet_turns m writers s a.world a.quietly in
        record {
          turns = suc quiet.turns;
          moment = record s { world = happens m a.world plain_step };
          comes = ap (next_of m writers) quiet.comes
              ∙ one_turn m writers (record s { world = a.world }) (sym a.on.agrees.running ∙ a.running) came.answer;
          is = record {
            machine = after;
            on = leads m a.now after a.world a.on came;
            off = refl;
            ready = a.ready ∙ at.ready;
            outputs = a.outputs ∙ at.outputs;
            inputs = ap (λ (xs : List PlainInput). slice_set xs (link_index link) (waiting 0)) (a.inputs ∙ at.inputs);
            stack = refl;
            fills = first_fills;
            inside = a.inside;
            unfinished = a.finished ∙ at.unfinished;
            links = links_stay (happens m a.world plain_step) at.links;
          };
        }

  -- ---- a byte comes

  module _ (bytes : List ℕ) (l : Links) (s : RunMoment) (w : Waits bytes l s) (b : ℕ) (rest : List ℕ)
      (unread : (incoming_at port.link l).unread ≡ b ∷ rest) (less : length bytes < count) where
    abbrev n : ℕ
    n = length bytes

    abbrev later : World
    later = happens m s.world (Arrive link b)

    abbrev moment : RunMoment
    moment = with_read link rest later s

    unread_here : (incoming_at (link_index link) l).unread ≡ b ∷ rest
    unread_here = ap (λ (k : ℕ). (incoming_at k l).unread) (index_is port.link x.link) ∙ unread

    byte_fits : b < 256
    byte_fits = (subst IsBytes unread_here (w.links.are_bytes link)) 0

    supply : of_link s.left link ≡ Some (b ∷ rest)
    supply = supply_is (of_link s.left link) b rest (w.links.left link ∙ unread_here)

    comes : moment_from m writers s 1 ≡ Some moment
    comes =
        asks_turn bytes l s w (Some link) (link_asked bytes l s w (b ∷ rest) supply)
        ∙ ap (λ (o : Supply). Some (supplied m link o s)) supply

    taken : IsTaken m w.on.runs.reached.events w.machine link b (waiting n) (arrival n)
    taken =
        bytes_are_taken m w.on.runs.reached.events w.machine link b (waiting n) (arrival n) w.on.runs.keeps
        (events_there bytes l s w)
        (subst (λ (v : World). v.fault ≡ None) w.on.runs.reached.world w.on.runs.reached.no_fault)
        (here_is bytes l s w) refl

    on_then : (last : Bool) (q : PlainMachine) → (n + 1 == address p.held.stack.a) ≡ last
        → runs_on m (taken_by last (link_index link) b (waiting n) (arrival n) w.machine) ≡ q → AgreesOn m q later
    on_then last q tested is =
        let agrees = subst (λ (v : World). Agrees m
        (runs_on m (taken_by (n + 1 == address p.held.stack.a) (link_index link) b (waiting n) (arrival n) w.machine))
        (turn m v (Arrive link b)).world) (sym w.on.runs.reached.world) taken.comes.agrees in
        let by_last = subst (λ (t : Bool). Agrees m
        (runs_on m (taken_by t (link_index link) b (waiting n) (arrival n) w.machine)) later) tested agrees in
        record {
          runs = runs_further m s.world w.on.runs (Arrive link b) byte_fits;
          agrees = subst (λ (r : PlainMachine). Agrees m r later) is by_last;
        }

    abbrev filled : PlainMachine
    filled = filled_by b (arrival n) w.machine

    fills_then : Fills (bytes ++ b ∷ []) filled.memory
    fills_then =
        let inside : buffer p + n < length w.machine.memory =
        subst (λ (k : ℕ). k < length w.machine.memory) (next_is n less) taken.inside in
        subst (λ (k : ℕ). Fills (bytes ++ b ∷ []) (with_byte w.machine.memory k (Some b))) (sym (next_is n less))
        (filled_more bytes b w.machine.memory w.fills less inside)

    size_is : length (bytes ++ b ∷ []) ≡ n + 1
    size_is = length-append bytes (b ∷ [])

    -- others are still to come
    abbrev waits_on : PlainMachine
    waits_on = waiting_on (link_index link) (waiting n) (Some (arrival (n + 1))) filled

    one_byte : n + 1 < count → ComesToBe m writers s (Waits (bytes ++ b ∷ []) (after_reading port.link 1 l))
    one_byte more =
        let counted = x.count in
        let tested : (n + 1 == address p.held.stack.a) ≡ false =
        ne_eqb (n + 1) (address p.held.stack.a) (λ e. omega (arith, e, counted, more)) in
        let stays : runs_on m waits_on ≡ waits_on =
        ap (λ (t : Bool). if t then waits_on else dispatched_in m 0 waits_on waits_on.ready) w.off
        ∙ ap (λ (qs : List ℕ). dispatched_in m 0 waits_on qs) w.ready in
        record {
          turns = 1;
          moment = moment;
          comes = comes;
          is = record {
            machine = waits_on;
            on = on_then false waits_on tested stays;
            off = w.off;
            ready = w.ready;
            outputs = w.outputs;
            inputs = ap (λ (xs : List PlainInput). slice_set xs (link_index link) (waiting (n + 1))) w.inputs
                ∙ awaited_twice link (waiting n) (waiting (n + 1))
                ∙ ap (λ (k : ℕ). awaiting link (waiting k)) (sym size_is);
            stack = w.stack;
            fills = fills_then;
            inside = w.inside;
            unfinished = w.unfinished;
            links = links_then port.link x.link l s b rest later w.links unread;
          };
        }

    -- it was the last one
    abbrev woken : PlainMachine
    woken = taken_by true (link_index link) b (waiting n) (arrival n) w.machine

    abbrev goes_on_at : PlainMachine
    goes_on_at = record (resumed m workspace woken) { ready = [] }

    runs_again : runs_on m woken ≡ goes_on_at
    runs_again =
        ap (λ (t : Bool). if t then woken else dispatched_in m 0 woken woken.ready) w.off
        ∙ ap (λ (qs : List ℕ). dispatched_in m 0 woken (qs ++ workspace ∷ [])) w.ready

    abbrev q : Point
    q = point behind (record { stack = p.held.stack; memory = filled.memory })

    offset_is : plain_code_offset (data_start + 4 * m.data_words)
        (address (plain_word filled.memory (scheduling_word workspace 0))) ≡ behind
    offset_is =
        let code = w.on.runs.keeps.sizes.code_limit in
        let words = w.on.runs.keeps.sizes.data_limit in
        let inside = w.inside in
        ap (λ (o : Option ℤ). plain_code_offset (data_start + 4 * m.data_words) (address (unwrap_or o (pos 0))))
        fills_then.word
        ∙ code_word_is m behind (omega (arith, words)) (omega (arith, inside, code))

    is_filled : Filled c p (bytes ++ b ∷ []) q
    is_filled = record {
      goes_on = record {
        behind = λ f e to fetches. one_end c.code p.at x.executes.function f x.executes.operand e behind to
            x.executes.fetches fetches;
        size = fills_then.size;
        same = fills_then.same;
      };
      has = fills_then.has;
    }

    last_byte : n + 1 ≡ count
        → ComesToBe m writers s (HasFilled m c p (bytes ++ b ∷ []) (after_reading port.link 1 l))
    last_byte last =
        let tested : (n + 1 == address p.held.stack.a) ≡ true =
        eq-eqb (n + 1) (address p.held.stack.a) (last ∙ sym x.count) in
        record {
          turns = 1;
          moment = moment;
          comes = comes;
          is = record {
            point = q;
            filled = is_filled;
            at = record {
              machine = goes_on_at;
              on = on_then true goes_on_at tested runs_again;
              running = refl;
              here = ap (λ (stack : Stack ℤ). plain_point c (point (plain_code_offset (data_start + 4 * m.data_words)
                  (address (plain_word filled.memory (scheduling_word workspace 0))))
                  (record { stack = stack; memory = filled.memory }))) w.stack
                  ∙ ap (λ (k : ℕ). plain_point c (point k q.held)) offset_is;
              ready = refl;
              outputs = w.outputs;
              inputs = ap (λ (xs : List PlainInput). slice_set xs (link_index link) idle_input) w.inputs
                  ∙ awaited_no_more link (waiting n);
              unfinished = w.unfinished;
              links = links_then port.link x.link l s b rest later w.links unread;
            };
          };
        }

  -- ---- as many bytes as the message has

  fills : (n : ℕ) (bytes : List ℕ) (l : Links) (s : RunMoment) (unread : List ℕ) → Waits bytes l s
      → (incoming_at port.link l).unread ≡ unread → length bytes + suc n ≡ count → suc n ≤ length unread
      → ComesToBe m writers s (HasFilled m c p (bytes ++ take (suc n) unread) (after_reading port.link (suc n) l))
  fills n bytes l s [] w is whole enough = absurd (omega (arith, enough))
  fills zero bytes l s (b ∷ rest) w is whole enough =
      last_byte bytes l s w b rest is (omega (arith, whole)) (omega (arith, whole))
  fills (suc n) bytes l s (b ∷ rest) w is whole enough =
      let first = one_byte bytes l s w b rest is (omega (arith, whole)) (omega (arith, whole)) in
      let four = w.links.four_in in
      let few = x.link in
      let size = size_is bytes l s w b rest is (omega (arith, whole)) in
      let later = fills n (bytes ++ b ∷ []) (after_reading port.link 1 l) first.moment rest first.is
      (left_then port.link l b rest (omega (arith, four, few)) is) (omega (arith, whole, size))
      (omega (arith, enough)) in
      later_still first.turns first.moment first.comes
      (subst (λ (bs : List ℕ). ComesToBe m writers first.moment (HasFilled m c p bs
      (after_reading port.link (suc (suc n)) l))) (append_assoc bytes (b ∷ []) (take (suc n) rest))
      (subst (λ (k : Links). ComesToBe m writers first.moment
      (HasFilled m c p ((bytes ++ b ∷ []) ++ take (suc n) rest) k)) (reading_next (suc n) port.link l b rest is) later))

  -- ---- fewer

  ends : (bytes : List ℕ) (l : Links) (s : RunMoment) (w : Waits bytes l s) → of_link s.left link ≡ None
      → IsOver m writers s
  ends bytes l s w ended = asks_turn bytes l s w None (none_asked bytes l s w ended)

  not_finished : (bytes : List ℕ) (l : Links) (s : RunMoment) → Waits bytes l s → s.world.counters.is_finished ≡ false
  not_finished bytes l s w = sym (ap (λ (k : Counters). k.is_finished) w.on.agrees.counters) ∙ w.unfinished

  -- the link has no byte more
  runs_dry : (bytes : List ℕ) (l : Links) (s : RunMoment) (supply : Supply) → Waits bytes l s
      → (incoming_at port.link l).unread ≡ [] → of_link s.left link ≡ supply
      → ComesToBe m writers s (IsOverWith m writers l)
  runs_dry bytes l s None w none is = record {
    turns = 0;
    moment = s;
    comes = refl;
    is = record { over = ends bytes l s w is; is_finished = not_finished bytes l s w; links = w.links };
  }
  runs_dry bytes l s (Some (b ∷ rest)) w none is =
      let here = ap (λ (k : ℕ). (incoming_at k l).unread) (index_is port.link x.link) in
      let left : b ∷ rest ≡ [] = sym (ap bytes_left is) ∙ w.links.left link ∙ here ∙ none in
      absurd (cc)
  runs_dry bytes l s (Some []) w none is =
      let ended : RunMoment = record s { left = with_link link None s.left } in
      let still : HasLinks l ended = record {
        four_in = w.links.four_in;
        four_out = w.links.four_out;
        read = w.links.read;
        left = λ on. elim (compared link on) [
          | same here ↦
              subst (λ (on : Link). bytes_left (of_link (with_link link None s.left) on)
              ≡ (incoming_at (link_index on) l).unread) here
              (ap bytes_left (of_same link None s.left) ∙ sym none
              ∙ sym (ap (λ (k : ℕ). (incoming_at k l).unread) (index_is port.link x.link)))
          | other differ apart ↦ ap bytes_left (of_other link on None s.left differ) ∙ w.links.left on
        ];
        written = w.links.written;
        are_bytes = w.links.are_bytes;
      } in
      let waits_still : Waits bytes l ended = record {
        machine = w.machine;
        on = w.on;
        off = w.off;
        ready = w.ready;
        outputs = w.outputs;
        inputs = w.inputs;
        stack = w.stack;
        fills = w.fills;
        inside = w.inside;
        unfinished = w.unfinished;
        links = still;
      } in
      record {
        turns = 1;
        moment = ended;
        comes = asks_turn bytes l s w (Some link) (link_asked bytes l s w [] is)
            ∙ ap (λ (o : Supply). Some (supplied m link o s)) is;
        is = record {
          over = ends bytes l ended waits_still (of_same link None s.left);
          is_finished = not_finished bytes l s w;
          links = still;
        };
      }

  dries : (unread bytes : List ℕ) (l : Links) (s : RunMoment) → Waits bytes l s
      → (incoming_at port.link l).unread ≡ unread → length bytes + length unread < count
      → ComesToBe m writers s (IsOverWith m writers (after_reading port.link (length unread) l))
  dries [] bytes l s w is few =
      subst (λ (k : Links). ComesToBe m writers s (IsOverWith m writers k)) (sym (reading_nothing port.link l))
      (runs_dry bytes l s (of_link s.left link) w is refl)
  dries (b ∷ rest) bytes l s w is few =
      let first = one_byte bytes l s w b rest is (omega (arith, few)) (omega (arith, few)) in
      let four = w.links.four_in in
      let less = x.link in
      let size = size_is bytes l s w b rest is (omega (arith, few)) in
      let later = dries rest (bytes ++ b ∷ []) (after_reading port.link 1 l) first.moment first.is
      (left_then port.link l b rest (omega (arith, four, less)) is) (omega (arith, few, size)) in
      later_still first.turns first.moment first.comes
      (subst (λ (k : Links). ComesToBe m writers first.moment (IsOverWith m writers k))
      (reading_next (length rest) port.link l b rest is) later)

-- a message has a byte
some_count : (t : ValueType) → (n : ℕ) × (message_length t ≡ suc n)
some_count value_type.Int = (3, refl)
some_count value_type.Byte = (0, refl)

pub receives_come_to_be : ReceivesComeToBe
receives_come_to_be = record {
  goes = λ m writers labels footing p port l s shallow x at enough.
      let first = begins m labels footing shallow writers p port x l s at in
      let n = some_count port.carries in
      let unread = (incoming_at port.link l).unread in
      let some = leb-true (message_length port.carries) (length unread) enough in
      let count = n.1 in
      let all = fills m labels footing shallow writers p port x n.0 [] l first.moment unread first.is refl
      (omega (arith, count)) (omega (arith, some, count)) in
      later_still first.turns first.moment first.comes
      (subst (λ (k : ℕ). ComesToBe m writers first.moment (HasFilled m (code_of m labels footing) p
      (take k unread) (after_reading port.link k l))) (sym count) all);
  waits = λ m writers labels footing p port l s shallow x at few.
      let first = begins m labels footing shallow writers p port x l s at in
      let unread = (incoming_at port.link l).unread in
      let less = leb-false (message_length port.carries) (length unread) few in
      later_still first.turns first.moment first.comes
      (dries m labels footing shallow writers p port x unread [] l first.moment first.is refl (omega (arith, less)));
}
