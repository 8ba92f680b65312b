-- A message that the only process sends: it goes out, and the process goes on if something listens.
use Rattle.std.proofs.Common.{◌≡◌, ℕ, suc, ◌+◌, ◌*◌, ◌%◌, ◌^◌, ◌<◌, ◌≤◌, ℤ, pos, Bool, true}
use Rattle.std.proofs.Common.{false, List}
use Rattle.std.proofs.Common.{[], ◌∷◌, ◌++◌, length, Option, Some, None, Ok, Result, slice_get, refl, sym, ap}
use Rattle.std.proofs.Common.{subst}
use Rattle.std.proofs.Common.{◌∙◌, arith, inl, inr, add-zero}
use Rattle.std.specs.Prelude.{unwrap_or, if◌then◌else◌, replicate, slice_set}
use Rattle.std.proofs.lemmas.Option.{slice_get_within}
use Rattle.module_format.specs.Contents.{Contents}
use Rattle.machine_state.specs.declared.event.Event.TheVariants.{Acknowledge}
use Rattle.machine_state.specs.declared.fault.Fault.{Fault}
use Rattle.machine_state.specs.declared.link.Link.{Link}
use Rattle.machine_state.specs.declared.link.Link.TheVariants.{Zero, One, Two, Three}
use Rattle.machine_state.specs.declared.op.Op.TheVariants as ops
use Rattle.machine_state.specs.declared.instruction.Instruction.TheVariants.{Operate}
use Rattle.machine_state.specs.Exchanges.{link_of, output_link, bytes_at}
use Rattle.machine_state.specs.Happens.{Effect, emitted, turn, happens}
use Rattle.machine_state.specs.LocalStep.{address}
use Rattle.machine_state.specs.Memory.{Memory, data_start, place_of, scheduling_word, byte_at}
use Rattle.machine_state.specs.Memory.{word_at}
use Rattle.machine_state.specs.Moves.{link_index}
use Rattle.machine_state.specs.World.{Counters, World}
use Rattle.machine_state.proofs.Reading.{word_at-with_word, length-with_word}
use Rattle.link_runs.specs.ByLink.{ByLink, of_link, with_link}
use Rattle.link_runs.specs.FirstInFirstOut.{RunMoment, next, next_of, plain_step, stepped, answered_by, asked}
use Rattle.link_runs.specs.FirstInFirstOut.{followed_up, delivered}
use Rattle.link_runs.specs.Wanting.{is_running}
use Rattle.link_runs.proofs.ByLink.{of_same, of_other, compared, same, other}
use Rattle.plain_machine.specs.declared.flow.PlainFlow.TheVariants as flow
use Rattle.plain_machine.specs.PlainStep as plain
use Rattle.plain_machine.specs.PlainStep.{PlainState, Stepped, plain_operation, with_plain_word, plain_code_offset}
use Rattle.plain_machine.specs.PlainStep.{plain_word, HasWord}
use Rattle.agreement.specs.Agrees.{PlainMachine, Agrees, code_word}
use Rattle.agreement.specs.Arriving.{runs_on}
use Rattle.agreement.specs.Leaving.{sent_by, message_in, dispatched_in, resumed}
use Rattle.agreement.specs.TurnsAgree.{Emits, byte_stepped, plain_state}
use Rattle.agreement.specs.Waking.{acknowledged_on, IsAcknowledged}
use Rattle.agreement.proofs.Acknowledging.{acknowledged_go_on}
use Rattle.agreement.proofs.ChannelWords.{address_fits}
use Rattle.agreement.proofs.Dispatching.{code_word_is}
use Rattle.plain_run.specs.Stepping.{IsButForLinks, executed_by, AsksOutput, sent}
use Rattle.plain_run.proofs.Stepping.{can_send, sends}
use Rattle.accepted_runs.specs.Running.{AgreesOn}
use Rattle.accepted_runs.proofs.NeverAtFault.{runs_further}
use Rattle.accepted_runs.proofs.RunningAlone.{can_step, there}
use Rattle.program_meaning.specs.Links.{Port, Links, after_writing}
use Rattle.placed_code.specs.Behaves.{IsSending, Has, Waited, buffer}
use Rattle.placed_code.specs.Closing.{code_of, moment_from, ComesToBe, At, HasLinks, IsOverWith, HasWaited, listens}
use Rattle.placed_code.specs.Closing.{written_at, SendsComeToBe}
use Rattle.placed_code.specs.LaidCode.{LaidCode}
use Rattle.placed_code.specs.Points.{Point, point, state_in, plain_point}
use Rattle.placed_code.specs.StraightPieces.{Footing, word_address}
use Rattle.placed_code.proofs.Asking as asking
use Rattle.placed_code.proofs.Asking.{Asks}
use Rattle.placed_code.proofs.LinkNumbers.{index_is, output_is, listens_is}
use Rattle.placed_code.proofs.ChangedItems.{item_same, item_other, length-with_item}
use Rattle.placed_code.proofs.OneEnd.{one_end}
use Rattle.placed_code.proofs.WordBelow.{beside_words, beside_stays}
use Rattle.placed_code.proofs.PointsComeToBe.{links_stay, quiet_turns}
use Rattle.placed_code.proofs.Stopping.{rests}

-- ---- outputs

-- the output on which a process waits, and once it does not
waits_there : (outputs : List (Option ℕ)) (link : Link) (workspace : ℕ) → outputs ≡ replicate 4 None
    → slice_get (slice_set outputs (link_index link) (Some workspace)) (link_index link) ≡ Some (Some workspace)
waits_there outputs Zero workspace is = ap (λ (xs : List (Option ℕ)). slice_get (slice_set xs 0 (Some workspace)) 0) is
waits_there outputs One workspace is = ap (λ (xs : List (Option ℕ)). slice_get (slice_set xs 1 (Some workspace)) 1) is
waits_there outputs Two workspace is = ap (λ (xs : List (Option ℕ)). slice_get (slice_set xs 2 (Some workspace)) 2) is
waits_there outputs Three workspace is =
    ap (λ (xs : List (Option ℕ)). slice_get (slice_set xs 3 (Some workspace)) 3) is

idle_again : (outputs : List (Option ℕ)) (link : Link) (workspace : ℕ) → outputs ≡ replicate 4 None
    → slice_set (slice_set outputs (link_index link) (Some workspace)) (link_index link) None ≡ replicate 4 None
idle_again outputs Zero workspace is =
    ap (λ (xs : List (Option ℕ)). slice_set (slice_set xs 0 (Some workspace)) 0 None) is
idle_again outputs One workspace is =
    ap (λ (xs : List (Option ℕ)). slice_set (slice_set xs 1 (Some workspace)) 1 None) is
idle_again outputs Two workspace is =
    ap (λ (xs : List (Option ℕ)). slice_set (slice_set xs 2 (Some workspace)) 2 None) is
idle_again outputs Three workspace is =
    ap (λ (xs : List (Option ℕ)). slice_set (slice_set xs 3 (Some workspace)) 3 None) is

-- ---- what was written

-- what was written is followed by the message
written_on : (l : Links) (s : RunMoment) (port : ℕ) (message : List ℕ) (on : Link) → HasLinks l s → port < 4
    → of_link (with_link (link_of port) (of_link s.written (link_of port) ++ message) s.written) on
    ≡ written_at (link_index on) (after_writing port message l)
written_on l s port message on links less =
    let k = index_is port less in
    let four = links.four_out in
    let more : List ℕ → List ℕ = λ before. before ++ message in
    elim (compared (link_of port) on) [
      | same is ↦
          let at : link_index on ≡ port = sym (ap link_index is) ∙ k in
          subst (λ (link : Link). of_link (with_link (link_of port) (of_link s.written (link_of port) ++ message)
          s.written) link ≡ written_at (link_index on) (after_writing port message l)) is
          (of_same (link_of port) (of_link s.written (link_of port) ++ message) s.written
          ∙ ap more (links.written (link_of port) ∙ ap (λ (n : ℕ). written_at n l) k)
          ∙ sym (item_same more port l.written [] (omega (arith, four, less)))
          ∙ sym (ap (λ (n : ℕ). written_at n (after_writing port message l)) at))
      | other differ apart ↦
          of_other (link_of port) on (of_link s.written (link_of port) ++ message) s.written differ ∙ links.written on
          ∙ sym (ap (λ (o : Option (List ℕ)). unwrap_or o [])
          (item_other more port (link_index on) l.written (λ e. differ (k ∙ e))))
    ]

-- ---- the bytes of a message

-- a message that lies beside it is the same
bytes_are : (memory : Memory) (place : ℕ) (bytes : List ℕ) → Has memory place bytes
    → bytes_at memory place (length bytes) ≡ bytes
bytes_are memory place [] has = refl
bytes_are memory place (b ∷ bytes) has =
    let first : byte_at memory place ≡ Some b =
    subst (λ (n : ℕ). byte_at memory n ≡ Some b) (add-zero place) (has 0 b refl) in
    let rest : Has memory (place + 1) bytes =
    (λ (i byte : ℕ) (is : slice_get bytes i ≡ Some byte).
    let next : place + suc i ≡ place + 1 + i = omega arith in
    subst (λ (n : ℕ). byte_at memory n ≡ Some byte) next (has (suc i) byte is)) in
    ap (λ (o : Option ℕ). unwrap_or o 0 ∷ bytes_at memory (place + 1) (length bytes)) first
    ∙ ap (λ (xs : List ℕ). b ∷ xs) (bytes_are memory (place + 1) bytes rest)

-- ---- a message that goes out

-- a byte that is executed and sends a message
emit_turn : (m : Contents) (writers : ByLink Bool) (s : RunMoment) (link : Link) (bytes : List ℕ)
    → is_running s.world ≡ true → (turn m s.world plain_step).answer ≡ Ok (emitted link bytes)
    → next m writers s
    ≡ Some (delivered m writers link bytes (record s { world = happens m s.world plain_step }))
unfolding next
emit_turn m writers s link bytes runs told =
    ap (λ (b : Bool). if b then Some (stepped m writers s) else answered_by m s (asked s)) runs
    ∙ ap (λ (r : Result Effect Fault). Some (followed_up m writers r
    (record s { world = happens m s.world plain_step }))) told

module _ (m : Contents) (labels : ℕ → ℕ) (footing : Footing) (shallow : footing.depth < 2 ^ 28) (writers : ByLink Bool)
    (p : Point) (port : Port) (message : List ℕ) (l : Links) (s : RunMoment)
    (x : IsSending (code_of m labels footing) p port message) (at : At m (code_of m labels footing) p l s) where
  abbrev c : LaidCode
  c = code_of m labels footing

  abbrev workspace : ℕ
  workspace = word_address footing.depth

  abbrev link : Link
  link = link_of port.link

  abbrev behind : ℕ
  behind = x.executes.behind

  a : Asks m labels footing at.machine s.world flow.Send (point behind p.held)
  unfolding plain.plain_step plain_operation
  a = asking.asks m labels footing at.machine s.world at.on at.running p (Operate ops.Output) flow.Send x.executes
      at.here refl

  -- memory with the offset in word W-1
  abbrev parked : Memory
  parked = with_plain_word (scheduling_word workspace 0) (code_word m behind) p.held.memory

  -- the machine once the message is out
  abbrev after : PlainMachine
  after = sent_by m (link_index link) (state_in c (point behind p.held)) a.now

  state_is : (byte_stepped m a.now).state ≡ state_in c (point behind p.held)
  state_is = ap (λ (t : Stepped). t.state) a.stepped

  flow_is : flow.Send ≡ (byte_stepped m a.now).flow
  flow_is = sym (ap (λ (t : Stepped). t.flow) a.stepped)

  sent_is : sent m 0 (link_index link) (executed_by m a.now) ≡ after
  sent_is =
      ap (λ (qs : List ℕ). dispatched_in m 0
      (sent_by m (link_index link) (plain_state (executed_by m a.now)) (executed_by m a.now)) qs) (a.ready ∙ at.ready)
      ∙ ap (λ (t : PlainState). sent_by m (link_index link) t a.now) state_is

  asks_out : AsksOutput (executed_by m a.now) link
  asks_out =
      ap (λ (t : PlainState). output_link (address t.registers.stack.b)) state_is
      ∙ ap output_link x.channel ∙ output_is port.link x.link

  queue_stays : IsButForLinks a.now.ready (sent m 0 (link_index link) (executed_by m a.now)) after
  queue_stays =
      subst (λ (q : PlainMachine). IsButForLinks a.now.ready (sent m 0 (link_index link) (executed_by m a.now)) q)
      sent_is (record { same = refl; links = record { size = refl; others = λ place no. refl } })

  emits : Emits m after link (turn m a.world plain_step)
  emits =
      let can = can_step m a.now a.world a.on in
      subst (λ (v : World). Emits m after link (turn m v plain_step)) (there m a.now a.world a.on)
      (sends m a.now false 0 can a.running flow_is link asks_out after queue_stays)

  message_is : message_in after ≡ message
  message_is =
      ap (λ (n : ℕ). bytes_at parked (buffer p) n) x.count
      ∙ bytes_are parked (buffer p) message (λ i byte is.
      let within = slice_get_within message i byte is in
      beside_stays footing.depth shallow p.held.memory (code_word m behind) (buffer p + i) (elim x.lies.beside [
        | inl low ↦ inl (omega (arith, within, low))
        | inr high ↦ inr (omega (arith, high))
      ]) ∙ x.has i byte is)

  -- the world then, and the moment
  abbrev world : World
  world = happens m a.world plain_step

  on : AgreesOn m after world
  on = record { runs = runs_further m a.world a.on.runs plain_step tt; agrees = emits.agrees }

  abbrev out : RunMoment
  out = record s { world = world }

  comes_out : (t : RunMoment) → delivered m writers link message out ≡ t
      → moment_from m writers s (suc (quiet_turns m writers s a.world a.quietly).turns) ≡ Some t
  comes_out t is =
      ap (next_of m writers) (quiet_turns m writers s a.world a.quietly).comes
      ∙ emit_turn m writers (record s { world = a.world }) link message (sym a.on.agrees.running ∙ a.running)
      (emits.answer ∙ ap (λ (bytes : List ℕ). Ok (emitted link bytes)) message_is)
      ∙ ap Some is

  -- ---- nothing listens

  pub waits_for_ever : listens writers port.link ≡ false → ComesToBe m writers s (IsOverWith m writers l)
  waits_for_ever none =
      let off : of_link writers link ≡ false = sym (listens_is writers port.link x.link) ∙ none in
      record {
        turns = suc (quiet_turns m writers s a.world a.quietly).turns;
        moment = out;
        comes = comes_out out (ap (λ (b : Bool). if b
            then record out {
              world = happens m out.world (Acknowledge link);
              written = with_link link (of_link out.written link ++ message) out.written;
            }
            else out) off);
        is = record {
          over = rests m after world on (a.inputs ∙ at.inputs) writers out refl refl;
          is_finished = sym (ap (λ (k : Counters). k.is_finished) on.agrees.counters) ∙ a.finished ∙ at.unfinished;
          links = links_stay world at.links;
        };
      }

  -- ---- something does

  abbrev later : RunMoment
  later = record s {
    world = happens m world (Acknowledge link);
    written = with_link link (of_link s.written link ++ message) s.written;
  }

  -- the machine once the message is acknowledged, and the process runs
  abbrev woken : PlainMachine
  woken = acknowledged_on (link_index link) workspace after

  abbrev goes_on_at : PlainMachine
  goes_on_at = record (resumed m workspace woken) { ready = [] }

  runs_again : runs_on m woken ≡ goes_on_at
  runs_again = ap (λ (qs : List ℕ). dispatched_in m 0 woken (qs ++ workspace ∷ [])) (a.ready ∙ at.ready)

  acknowledged : IsAcknowledged m on.runs.reached.events after link workspace
  acknowledged =
      acknowledged_go_on m on.runs.reached.events after link workspace on.runs.keeps
      (subst (λ (v : World). Agrees m after v) on.runs.reached.world on.agrees)
      (subst (λ (v : World). v.fault ≡ None) on.runs.reached.world on.runs.reached.no_fault)
      (waits_there a.now.outputs link workspace (a.outputs ∙ at.outputs))

  on_then : AgreesOn m goes_on_at later.world
  on_then =
      let agrees = subst (λ (v : World). Agrees m (runs_on m woken) (turn m v (Acknowledge link)).world)
      (sym on.runs.reached.world) acknowledged.comes.agrees in
      record {
        runs = runs_further m world on.runs (Acknowledge link) tt;
        agrees = subst (λ (q : PlainMachine). Agrees m q later.world) runs_again agrees;
      }

  -- word W-1 lies in memory
  word_inside : place_of (scheduling_word workspace 0) + 4 ≤ length p.held.memory
  word_inside =
      let can = can_step m a.now a.world a.on in
      subst (λ (t : PlainState). HasWord t.memory (scheduling_word t.registers.workspace 0)) state_is
      (can_send m a.now false 0 can a.running flow_is link asks_out).parks.word

  -- it goes on where word W-1 says
  offset_is : plain_code_offset (data_start + 4 * m.data_words)
      (address (plain_word parked (scheduling_word workspace 0))) ≡ behind
  offset_is =
      let code = at.on.runs.keeps.sizes.code_limit in
      let words = at.on.runs.keeps.sizes.data_limit in
      let inside = a.inside in
      let read : word_at parked (place_of (scheduling_word workspace 0)) ≡ Some (code_word m behind) =
      word_at-with_word p.held.memory (place_of (scheduling_word workspace 0)) (code_word m behind) word_inside
      (address_fits ((data_start + 4 * m.data_words + behind) % 2 ^ 32) (omega arith)) in
      ap (λ (o : Option ℤ). plain_code_offset (data_start + 4 * m.data_words) (address (unwrap_or o (pos 0)))) read
      ∙ code_word_is m behind (omega (arith, words)) (omega (arith, inside, code))

  -- the point after the message
  abbrev q : Point
  q = point behind (record { stack = p.held.stack; memory = parked })

  waited : Waited c p q
  waited = record {
    behind = λ f e to fetches. one_end c.code p.at x.executes.function f x.executes.operand e behind to
        x.executes.fetches fetches;
    size = length-with_word p.held.memory (place_of (scheduling_word workspace 0)) (Some (code_word m behind));
    same = λ place free other.
        beside_stays footing.depth shallow p.held.memory (code_word m behind) place
        (beside_words footing.depth place free);
  }

  pub goes_on : listens writers port.link ≡ true
      → ComesToBe m writers s (HasWaited m c p (after_writing port.link message l))
  goes_on some =
      let yes : of_link writers link ≡ true = sym (listens_is writers port.link x.link) ∙ some in
      record {
        turns = suc (quiet_turns m writers s a.world a.quietly).turns;
        moment = later;
        comes = comes_out later (ap (λ (b : Bool). if b
            then record out {
              world = happens m out.world (Acknowledge link);
              written = with_link link (of_link out.written link ++ message) out.written;
            }
            else out) yes);
        is = record {
          point = q;
          waited = waited;
          at = record {
            machine = goes_on_at;
            on = on_then;
            running = refl;
            here = ap (λ (n : ℕ). plain_point c (point n q.held)) offset_is;
            ready = refl;
            outputs = idle_again a.now.outputs link workspace (a.outputs ∙ at.outputs);
            inputs = a.inputs ∙ at.inputs;
            unfinished = a.finished ∙ at.unfinished;
            links = record {
              four_in = at.links.four_in;
              four_out = length-with_item (λ (before : List ℕ). before ++ message) port.link l.written
                  ∙ at.links.four_out;
              read = at.links.read;
              left = at.links.left;
              written = λ on. written_on l s port.link message on at.links x.link;
              are_bytes = at.links.are_bytes;
            };
          };
        };
      }

pub sends_come_to_be : SendsComeToBe
sends_come_to_be = record {
  goes = λ m writers labels footing p port message l s shallow x at some.
      goes_on m labels footing shallow writers p port message l s x at some;
  waits = λ m writers labels footing p port message l s shallow x at none.
      waits_for_ever m labels footing shallow writers p port message l s x at none;
}
