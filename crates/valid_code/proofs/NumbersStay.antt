-- Where each range has numbers before a sequential process, each has where it ends.
use Rattle.std.proofs.Common.{◌≡◌, ℕ, zero, suc, ◌≤◌, Bool, true, false, List, ◌∷◌, length, Option, Some, None}
use Rattle.std.proofs.Common.{refl, sym, ap, subst, arith, unwrap_or}
use Rattle.std.specs.Prelude.{⊤}
use Rattle.std.proofs.lemmas.Bool.{and_parts}
use Rattle.occam_layout.specs.declared.mark.Mark.TheVariants as mark
use Rattle.occam_parser.specs.Terminals.{Terminal, Mark}
use Rattle.occam_parser.specs.Expressions.{Expression}
use Rattle.occam_parser.specs.Lines.{Replicator, block_word}
use Rattle.occam_parser.specs.Blocks.{Act, Block, Chosen, Component, Components, Construct, Declared, Does}
use Rattle.occam_parser.specs.Blocks.{Further, Guarded, NoComponent, One, Part, Plain, Process, Replicated}
use Rattle.occam_parser.specs.Words.{body_has_words, component_has_words, components_have_words, construct_has_words}
use Rattle.occam_parser.specs.Words.{declaration_has_words, has_words, process_has_words, replicator_has_words}
use Rattle.scalar_ranges.specs.Entries.{Entry, Meaning}
use Rattle.scalar_ranges.specs.Moves as moves
use Rattle.scalar_ranges.specs.Moves.{Known, begin, begin_loop, begun_with, end, ends_with, excluded, hulls, next}
use Rattle.scalar_ranges.specs.Moves.{next_from, outermost}
use Rattle.scalar_ranges.specs.Narrowing.{narrow}
use Rattle.scalar_ranges.proofs.MoveLaws.{shapes_stay}
use Rattle.scalar_ranges.proofs.Nesting.{long_alike, outermost_twice}
use Rattle.program_uses.specs.Actions.{Around, is_before}
use Rattle.program_uses.specs.Changes.{changed_by_body, changed_by_component, changed_by_components}
use Rattle.program_uses.specs.Declaring.{add, add_declaration}
use Rattle.program_uses.specs.Indices.{Repeats, index_in, is_seq, repeats_of, turn_by_turn}
use Rattle.program_meaning.specs.Sequential.{AreSequential, IsSequential, IsSequentialComponent}
use Rattle.program_meaning.specs.Sequential.{IsSequentialConstruct, IsSequentialWord}
use Rattle.usage_checks.specs.AfterProcesses.{after_component, after_components, after_construct, begun}
use Rattle.usage_checks.specs.AfterProcesses.{begun_body, chosen, ended, inside, repeated, unless}
use Rattle.usage_checks.specs.NameRules.{with_entries}
use Rattle.usage_checks.specs.Outlines.{IsMadeOf}
use Rattle.usage_checks.proofs.OutlinesStay.{kind_fits}
use Rattle.usage_checks.proofs.RangesStay.{Low, Remains, component_stays, components_stay, covers_itself, declared_long}
use Rattle.usage_checks.proofs.RangesStay.{left_is, ranges_stay, remains_low}
use Rattle.code_generator.specs.Processes.{turned}
use Rattle.valid_code.specs.Numbers.{HasNumbers, HaveNumbers}
use Rattle.valid_code.proofs.MovesOfNumbers.{moves_keep_numbers}

-- ---- blocks of choices

abbrev pub EndsHave : Option (List Entry) → Type 0
EndsHave None = Unit {0}
EndsHave (Some es) = HaveNumbers es

-- between two choices of a block that has these around it
pub record InChoices (bs : List moves.Block) (x : Known) : Type 0 where
  pub start : List Entry
  pub ends : Option (List Entry)
  pub is : x ≡ record { entries = start; blocks = record { start = start; ends = ends } ∷ bs }
  pub starts : HaveNumbers start
  pub ended : EndsHave ends

pub begin_choices : (k : Known) → HaveNumbers k.entries → InChoices k.blocks (begin k)
begin_choices k have = record { start = k.entries; ends = None; is = refl; starts = have; ended = tt }

one_end : (ends : Option (List Entry)) (es : List Entry) → EndsHave ends → HaveNumbers es → HaveNumbers (ends_with ends es)
one_end None es ended have = have
one_end (Some ds) es ended have = moves_keep_numbers.joining ds es ended have

last_end : (ends : Option (List Entry)) (start : List Entry) → EndsHave ends → HaveNumbers start
    → HaveNumbers (unwrap_or ends start)
last_end None start ended have = have
last_end (Some es) start ended have = ended

pub choices_end : (bs : List moves.Block) (x : Known) → InChoices bs x → HaveNumbers (end x).entries
choices_end bs x h =
    subst (λ (y : Known). HaveNumbers (end y).entries) (sym h.is) (last_end h.ends h.start h.ended h.starts)

pub choices_blocks : (bs : List moves.Block) (x : Known) → InChoices bs x → (end x).blocks ≡ bs
choices_blocks bs x h = ap (λ (y : Known). (end y).blocks) h.is

pub choices_have : (bs : List moves.Block) (x : Known) → InChoices bs x → HaveNumbers x.entries
choices_have bs x h = subst (λ (y : Known). HaveNumbers y.entries) (sym h.is) h.starts

pub choices_low : (bs : List moves.Block) (x : Known) → InChoices bs x → Low x
choices_low bs x h =
    let begun = ap (λ (y : Known). begun_with y.blocks) h.is in
    let long = ap (λ (y : Known). length y.entries) h.is in
    omega (arith, begun, long)

-- ---- processes

-- of the names around a process each range has numbers where it ends
pub record Keeps (a : Around) (p : Process) : Type 0 where
  pub ends : (k : Known) → Low k → HaveNumbers k.entries
      → HaveNumbers (outermost (length k.entries) (inside a p k).entries)

module _ (a : Around) where
  -- a place in a block of choices
  abbrev in_block : List Entry → List Entry → Option (List Entry) → List moves.Block → Known
  in_block es start ends bs = record { entries = es; blocks = record { start = start; ends = ends } ∷ bs }

  -- a choice more, where these are the names in its test
  choice_step : (e : Expression) (p : Process) (es start : List Entry) (ends : Option (List Entry))
      (bs : List moves.Block) → Keeps a p → length start ≤ length es → HaveNumbers es → HaveNumbers start → EndsHave ends
      → InChoices bs (next (inside a p (chosen e (in_block es start ends bs))))
  choice_step e p es start ends bs keeps inner have starts ended =
      let y = chosen e (in_block es start ends bs) in
      let rest = excluded e es start in
      let final = inside a p y in
      let shorter = long_alike rest start (shapes_stay.excluding es start e) in
      let longer = long_alike (narrow es e true) es (shapes_stay.narrowing es e true) in
      let low : Low y = omega (arith, shorter, longer, inner) in
      let stays = ranges_stay.processes a p y low in
      let all = keeps.ends y low (moves_keep_numbers.narrowing es e true have) in
      let left : HaveNumbers (outermost (length rest) final.entries) =
      subst HaveNumbers (outermost_twice (length rest) (length y.entries) final.entries low)
      (moves_keep_numbers.leaving (length rest) (outermost (length y.entries) final.entries) all) in
      record {
        start = rest;
        ends = Some (ends_with ends (outermost (length rest) final.entries));
        is = ap (next_from final.entries) stays.blocks;
        starts = moves_keep_numbers.excluding es start e starts;
        ended = one_end ends (outermost (length rest) final.entries) ended left;
      }

  -- components whose processes do
  abbrev pub KeepsIn : {part : Part} → Component part → Type 0
  KeepsIn (Plain p) = Keeps a p
  KeepsIn (Chosen line e p) = Keeps a p
  KeepsIn (Guarded line g p) = ⊤

  abbrev pub AllKeep : {part : Part} → Components part → Type 0
  AllKeep NoComponent = ⊤
  AllKeep (Further cs c) = AllKeep cs × KeepsIn c

  -- a choice, where there are names more than in its block
  pub choice_keeps : {part : Part} (c : Component part) (bs : List moves.Block) (x : Known) (es : List Entry)
      → IsMadeOf (Mark mark.If) part → KeepsIn c → (h : InChoices bs x) → length h.start ≤ length es → HaveNumbers es
      → InChoices bs (after_component a (Mark mark.If) c (record { entries = es; blocks = x.blocks }))
  choice_keeps (Plain p) bs x es made keeps h inner have = absurd made
  choice_keeps (Guarded line g p) bs x es made keeps h inner have = absurd made
  choice_keeps (Chosen line e p) bs x es made keeps h inner have =
      subst (λ (y : Known). InChoices bs (next (inside a p (chosen e (record { entries = es; blocks = y.blocks })))))
      (sym h.is) (choice_step e p es h.start h.ends bs keeps inner have h.starts h.ended)

  -- the choices of an IF
  pub choices_keep : {part : Part} (cs : Components part) (k : Known) → IsMadeOf (Mark mark.If) part → AllKeep cs
      → HaveNumbers k.entries → InChoices k.blocks (after_components a (Mark mark.If) cs (begin k))
  choices_keep NoComponent k made keep have = begin_choices k have
  choices_keep (Further cs c) k made keep have =
      let x = after_components a (Mark mark.If) cs (begin k) in
      let h = choices_keep cs k made keep.0 have in
      let same = ap (λ (y : Known). length y.entries) h.is in
      choice_keeps c k.blocks x x.entries made keep.1 h (omega (arith, same)) (choices_have k.blocks x h)

  -- the components of a SEQ
  pub seq_low : {part : Part} (cs : Components part) (k : Known) → IsMadeOf (Mark mark.Seq) part → Low k
      → Low (after_components a (Mark mark.Seq) cs k)
  seq_low cs k made low =
      let ns = changed_by_components a.signatures k.entries cs in
      remains_low ns k (after_components a (Mark mark.Seq) cs k)
      (components_stay a ns (Mark mark.Seq) cs k made (covers_itself ns) low) low

  component_keeps : {part : Part} (c : Component part) (m : Known) → IsMadeOf (Mark mark.Seq) part → KeepsIn c → Low m
      → HaveNumbers m.entries → HaveNumbers (after_component a (Mark mark.Seq) c m).entries
  component_keeps (Plain p) m made keeps low have =
      subst HaveNumbers (sym (left_is _ m (inside a p m) (ranges_stay.processes a p m low) low)) (keeps.ends m low have)
  component_keeps (Chosen line e p) m made keeps low have = absurd made
  component_keeps (Guarded line g p) m made keeps low have = absurd made

  pub components_keep : {part : Part} (cs : Components part) (k : Known) → IsMadeOf (Mark mark.Seq) part → AllKeep cs
      → Low k → HaveNumbers k.entries → HaveNumbers (after_components a (Mark mark.Seq) cs k).entries
  components_keep NoComponent k made keep low have = have
  components_keep (Further cs c) k made keep low have =
      component_keeps c (after_components a (Mark mark.Seq) cs k) made keep.1 (seq_low cs k made low)
      (components_keep cs k made keep.0 low have)

  -- the turns of an IF under a replicator
  pub turns_keep : {part : Part} (c : Component part) (r : Replicator) (repeats : Repeats) (j : Known) (n : ℕ)
      → IsMadeOf (Mark mark.If) part → KeepsIn c → ((m : ℕ) → HasNumbers (index_in repeats m)) → HaveNumbers j.entries
      → InChoices j.blocks (turn_by_turn (turned a (Mark mark.If) r.name c repeats) n (begin j))
  turns_keep c r repeats j zero made keeps indices have = begin_choices j have
  turns_keep c r repeats j (suc n) made keeps indices have =
      let x = turn_by_turn (turned a (Mark mark.If) r.name c repeats) n (begin j) in
      let h = turns_keep c r repeats j n made keeps indices have in
      let same = ap (λ (y : Known). length y.entries) h.is in
      choice_keeps c j.blocks x (add r.name (index_in repeats n) x.entries) made keeps h (omega (arith, same))
      (indices n, choices_have j.blocks x h)

  -- what is known after the body of a loop
  loop_ends : {part : Part} (c : Component part) (changed : List ℕ) (name : List ℕ) (m : Meaning) (k : Known)
      → IsMadeOf (Mark mark.Seq) part → HaveNumbers k.entries
      → HaveNumbers (end (after_component a (Mark mark.Seq) c (with_entries (add name m) (begin_loop changed k)))).entries
  loop_ends c changed name m k made have =
      let l = with_entries (add name m) (begin_loop changed k) in
      let x = after_component a (Mark mark.Seq) c l in
      let ns = changed_by_component a.signatures l.entries c in
      let remains : Remains ns l x =
      component_stays a ns (Mark mark.Seq) c made l.entries (covers_itself ns) l (omega arith) refl in
      subst (λ (bs : List moves.Block). HaveNumbers (moves.after_block x.entries bs).entries) (sym remains.blocks)
      (moves_keep_numbers.widening changed k.entries have)

  unless_have : (happens : Bool) (k : Known) → HaveNumbers k.entries → HaveNumbers (unless happens begin k).entries
  unless_have true k have = have
  unless_have false k have = have

  repeated_ends : (happens : Bool) (k : Known) (turns : Known → Known)
      → ((j : Known) → HaveNumbers j.entries → InChoices j.blocks (turns j)) → HaveNumbers k.entries
      → HaveNumbers (repeated happens (turns (unless happens begin k))).entries
  repeated_ends true k turns keep have = choices_end k.blocks (turns k) (keep k have)
  repeated_ends false k turns keep have =
      let j = begin k in
      let blocks = choices_blocks j.blocks (turns j) (keep j have) in
      subst (λ (bs : List moves.Block). HaveNumbers (moves.after_block (end (turns j)).entries bs).entries) (sym blocks)
      have

  -- a body by the word of its block
  pub body_ends : {part : Part} (word : Terminal) (c : Component part) (line : ℕ) (r : Replicator) (changed : List ℕ)
      (k : Known) → IsMadeOf word part → IsSequentialComponent word c → KeepsIn c → replicator_has_words r ≡ true
      → HaveNumbers k.entries
      → HaveNumbers (repeated (repeats_of (is_before line a.uncounted) k.entries (is_seq word) r).happens
      (turn_by_turn (turned a word r.name c (repeats_of (is_before line a.uncounted) k.entries (is_seq word) r))
      (repeats_of (is_before line a.uncounted) k.entries (is_seq word) r).turns.count
      (begun_body word changed (repeats_of (is_before line a.uncounted) k.entries (is_seq word) r).happens k))).entries
  body_ends (Mark mark.Seq) (Plain p) line r changed k made seq keeps words have =
      loop_ends (Plain p) changed r.name
      (index_in (repeats_of (is_before line a.uncounted) k.entries true r) 0) k made have
  body_ends (Mark mark.If) (Chosen test e p) line r changed k made seq keeps words have =
      let c = Chosen test e p in
      let repeats = repeats_of (is_before line a.uncounted) k.entries false r in
      repeated_ends repeats.happens k
      (λ j. turn_by_turn (turned a (Mark mark.If) r.name c repeats) repeats.turns.count (begin j))
      (λ j has. turns_keep c r repeats j repeats.turns.count made keeps
      (λ m. moves_keep_numbers.indexing (is_before line a.uncounted) false r k.entries m words have) has) have
  body_ends word c line r changed k made seq keeps words have = absurd seq

  block_ends : {part : Part} (word : Terminal) (cs : Components part) (k : Known) → IsMadeOf word part
      → IsSequentialWord word → AllKeep cs → Low k → HaveNumbers k.entries
      → HaveNumbers (ended word (after_components a word cs (begun word k))).entries
  block_ends (Mark mark.Seq) cs k made seq keep low have = components_keep cs k made keep low have
  block_ends (Mark mark.If) cs k made seq keep low have =
      choices_end k.blocks (after_components a (Mark mark.If) cs (begin k)) (choices_keep cs k made keep have)
  block_ends word cs k made seq keep low have = absurd seq

  mutual
    pub process_keeps : (p : Process) → IsSequential p → process_has_words p ≡ true → Keeps a p
    process_keeps (Declared d p) seq words =
        let both = and_parts (declaration_has_words d) (process_has_words p) words in
        let keeps = process_keeps p seq both.1 in
        record {
          ends = λ k low have.
              let known = with_entries (add_declaration d) k in
              let longer = declared_long d k.entries in
              let final = inside a p known in
              subst HaveNumbers (outermost_twice (length k.entries) (length known.entries) final.entries longer)
              (moves_keep_numbers.leaving (length k.entries) (outermost (length known.entries) final.entries)
              (keeps.ends known (omega (arith, low, longer))
              (moves_keep_numbers.declaring d k.entries both.0 have)));
        }
    process_keeps (Does line c) seq words = record {
      ends = λ k low have. moves_keep_numbers.leaving (length k.entries) (after_construct a line c k).entries
          (construct_keeps line c k seq words low have);
    }

    pub construct_keeps : (line : ℕ) (c : Construct) (k : Known) → IsSequentialConstruct c
        → construct_has_words c ≡ true → Low k → HaveNumbers k.entries → HaveNumbers (after_construct a line c k).entries
    construct_keeps line (Act action) k seq words low have =
        moves_keep_numbers.acting a.signatures action k.entries seq words have
    construct_keeps line (Block kind cs) k seq words low have =
        block_ends (block_word kind) cs k (kind_fits kind) seq.0 (all_keep (block_word kind) cs seq.1 words) low have
    construct_keeps line (Replicated r (One kind c)) k seq words low have =
        let both = and_parts (replicator_has_words r) (body_has_words (One kind c)) words in
        body_ends (block_word kind) c line r (changed_by_body a.signatures k.entries r (One kind c)) k (kind_fits kind) seq
        (one_keeps (block_word kind) c seq both.1) both.0 have

    pub all_keep : {part : Part} (word : Terminal) (cs : Components part) → AreSequential word cs
        → components_have_words cs ≡ true → AllKeep cs
    all_keep word NoComponent seq words = tt
    all_keep word (Further cs c) seq words =
        let both = and_parts (components_have_words cs) (component_has_words c) words in
        (all_keep word cs seq.0 both.0, one_keeps word c seq.1 both.1)

    pub one_keeps : {part : Part} (word : Terminal) (c : Component part) → IsSequentialComponent word c
        → component_has_words c ≡ true → KeepsIn c
    one_keeps (Mark mark.Seq) (Plain p) seq words = process_keeps p seq words
    one_keeps (Mark mark.If) (Chosen line e p) seq words =
        process_keeps p seq (and_parts (has_words e) (process_has_words p) words).1
    one_keeps word c seq words = absurd seq
