-- A sequential process leaves the ranges of the indices around it as they are.
use Rattle.std.proofs.Common.{◌≡◌, ℕ, zero, suc, ◌≤◌, Bool, true, false, List, ◌∷◌, length, Option, Some, None, refl}
use Rattle.std.proofs.Common.{sym}
use Rattle.std.proofs.Common.{ap, subst, ◌∙◌, arith, unwrap_or}
use Rattle.std.specs.Prelude.{⊤}
use Rattle.word_arithmetic.specs.Range.{Ends}
use Rattle.occam_layout.specs.declared.mark.Mark.TheVariants as mark
use Rattle.occam_parser.specs.Terminals.{Terminal, Mark}
use Rattle.occam_parser.specs.Expressions.{Expression}
use Rattle.occam_parser.specs.Lines.{Replicator, block_word}
use Rattle.occam_parser.specs.Blocks.{Act, Block, Chosen, Component, Components, Construct, Declared, Does}
use Rattle.occam_parser.specs.Blocks.{Further, Guarded, NoComponent, One, Part, Plain, Process, Replicated}
use Rattle.scalar_ranges.specs.Entries.{Entry, Meaning}
use Rattle.scalar_ranges.specs.MoveLaws.{shape}
use Rattle.scalar_ranges.specs.Moves as moves
use Rattle.scalar_ranges.specs.Moves.{Known, begin, begin_loop, begun_with, end, ends_with, excluded, hulls, next}
use Rattle.scalar_ranges.specs.Moves.{next_from}
use Rattle.scalar_ranges.specs.Moves.{outermost}
use Rattle.scalar_ranges.specs.Narrowing.{narrow}
use Rattle.scalar_ranges.specs.Nesting.{EndsFit}
use Rattle.scalar_ranges.proofs.MoveLaws.{shapes_stay}
use Rattle.scalar_ranges.proofs.Nesting.{long_alike, outermost_twice}
use Rattle.program_uses.specs.Actions.{Around, is_before}
use Rattle.program_uses.specs.Changes.{changed_by_body, changed_by_component, changed_by_components}
use Rattle.program_uses.specs.Declaring.{add, add_declaration}
use Rattle.program_uses.specs.Indices.{Repeats, index_in, is_seq, repeats_of, turn_by_turn}
use Rattle.program_meaning.proofs.MovesWithin.{within_shape}
use Rattle.program_meaning.specs.Sequential.{AreSequential, IsSequential, IsSequentialComponent}
use Rattle.program_meaning.specs.Sequential.{IsSequentialConstruct, IsSequentialWord}
use Rattle.usage_checks.specs.AfterProcesses.{after_component, after_components, after_construct, begun}
use Rattle.usage_checks.specs.AfterProcesses.{begun_body, chosen, ended, inside, repeated, unless}
use Rattle.usage_checks.specs.NameRules.{with_entries}
use Rattle.usage_checks.specs.Outlines.{IsMadeOf}
use Rattle.usage_checks.proofs.OutlinesStay.{kind_fits}
use Rattle.usage_checks.proofs.RangesStay.{Low, Remains, all_but_one, all_outermost, component_stays, components_stay}
use Rattle.usage_checks.proofs.RangesStay.{covers_itself, declared_behind, declared_long, left_is, ranges_stay}
use Rattle.usage_checks.proofs.RangesStay.{remains_low}
use Rattle.certified_scopes.specs.Processes.{IndicesAreKept}
use Rattle.certified_scopes.specs.Within.{indices_of, LieWithin}
use Rattle.certified_scopes.proofs.Indices.{index_lengths, indices_stay}
use Rattle.certified_scopes.proofs.Within.{scopes_lie_within}

-- ---- blocks of choices

abbrev pub EndsHave : List (Option Ends) → Option (List Entry) → Type 0
EndsHave is None = Unit {0}
EndsHave is (Some es) = indices_of es ≡ is

-- between two choices of a block that has these around it
pub record InChoices (is : List (Option Ends)) (names : List Entry) (bs : List moves.Block) (x : Known) : Type 0 where
  pub start : List Entry
  pub ends : Option (List Entry)
  pub at : x ≡ record { entries = start; blocks = record { start = start; ends = ends } ∷ bs }
  pub starts : indices_of start ≡ is
  pub alike : shape start ≡ names
  pub ended : EndsHave is ends
  pub fit : EndsFit start ends

begin_choices : (k : Known) → InChoices (indices_of k.entries) (shape k.entries) k.blocks (begin k)
begin_choices k = record {
  start = k.entries;
  ends = None;
  at = refl;
  starts = refl;
  alike = refl;
  ended = tt;
  fit = tt;
}

one_end : (is : List (Option Ends)) (ends : Option (List Entry)) (es : List Entry) → EndsHave is ends
    → indices_of es ≡ is → indices_of (ends_with ends es) ≡ is
one_end is None es ended same = same
one_end is (Some ds) es ended same = indices_stay.joining ds es (ended ∙ sym same) ∙ ended

last_end : (is : List (Option Ends)) (ends : Option (List Entry)) (start : List Entry) → EndsHave is ends
    → indices_of start ≡ is → indices_of (unwrap_or ends start) ≡ is
last_end is None start ended starts = starts
last_end is (Some es) start ended starts = ended

one_fit : (ends : Option (List Entry)) (start rest es : List Entry) → EndsFit start ends → shape es ≡ shape start
    → shape rest ≡ shape start → shape (ends_with ends es) ≡ shape rest
one_fit None start rest es fit here left = here ∙ sym left
one_fit (Some ds) start rest es fit here left = shapes_stay.joining ds es ∙ fit ∙ sym left

choices_end : (is : List (Option Ends)) (names : List Entry) (bs : List moves.Block) (x : Known)
    → InChoices is names bs x
    → indices_of (end x).entries ≡ is
choices_end is names bs x h =
    subst (λ (y : Known). indices_of (end y).entries ≡ is) (sym h.at) (last_end is h.ends h.start h.ended h.starts)

choices_blocks : (is : List (Option Ends)) (names : List Entry) (bs : List moves.Block) (x : Known)
    → InChoices is names bs x → (end x).blocks ≡ bs
choices_blocks is names bs x h = ap (λ (y : Known). (end y).blocks) h.at

-- ---- processes

-- of the indices around a process each has its range where it ends
pub record Keeps (a : Around) (p : Process) : Type 0 where
  pub ends : (k : Known) → Low k → indices_of (outermost (length k.entries) (inside a p k).entries) ≡ indices_of
      k.entries

module _ (a : Around) where
  -- a place in a block of choices
  abbrev in_block : List Entry → List Entry → Option (List Entry) → List moves.Block → Known
  in_block es start ends bs = record { entries = es; blocks = record { start = start; ends = ends } ∷ bs }

  -- a choice more, where these are the names in its test
  module _ (e : Expression) (p : Process) (es start : List Entry) (ends : Option (List Entry)) (bs : List moves.Block)
      (keeps : Keeps a p) (inner : length start ≤ length es) (same : outermost (length start) es ≡ start) where
    abbrev pub at_choice : Known
    at_choice = chosen e (in_block es start ends bs)

    -- where its process ends, of the names around the block
    abbrev pub at_its_end : List Entry
    at_its_end = outermost (length start) (inside a p at_choice).entries

    shorter : length (excluded e es start) ≡ length start
    shorter = long_alike (excluded e es start) start (shapes_stay.excluding es start e)

    longer : length at_choice.entries ≡ length es
    longer = long_alike (narrow es e true) es (shapes_stay.narrowing es e true)

    low_there : Low at_choice
    low_there = omega (arith, shorter, longer, inner)

    cut : outermost (length start) (outermost (length at_choice.entries) (inside a p at_choice).entries) ≡ at_its_end
    cut = outermost_twice (length start) (length at_choice.entries) (inside a p at_choice).entries
        (omega (arith, longer, inner))

    pub end_indices : indices_of at_its_end ≡ indices_of start
    end_indices =
        ap (λ (xs : List Entry). indices_of xs) (sym cut)
        ∙ indices_stay.leaving (length start) (outermost (length at_choice.entries) (inside a p at_choice).entries) es
        (keeps.ends at_choice low_there ∙ indices_stay.narrowing es e true)
        ∙ ap (λ (xs : List Entry). indices_of xs) same

    pub end_shape : shape at_its_end ≡ shape start
    end_shape =
        let stays = ranges_stay.processes a p at_choice low_there in
        let all = outermost (length at_choice.entries) (inside a p at_choice).entries in
        ap (λ (xs : List Entry). shape xs) (sym cut)
        ∙ shapes_stay.leaving all es (length start)
        (within_shape _ all at_choice.entries stays.within ∙ shapes_stay.narrowing es e true)
        ∙ ap (λ (xs : List Entry). shape xs) same

    pub next_is : next (inside a p at_choice) ≡ record {
      entries = excluded e es start;
      blocks = record { start = excluded e es start; ends = Some (ends_with ends at_its_end) } ∷ bs;
    }
    next_is =
        ap (next_from (inside a p at_choice).entries) (ranges_stay.processes a p at_choice low_there).blocks
        ∙ ap (λ (n : ℕ). record {
          entries = excluded e es start;
          blocks = record {
            start = excluded e es start;
            ends = Some (ends_with ends (outermost n (inside a p at_choice).entries));
          } ∷ bs;
        }) shorter

    choice_step : (is : List (Option Ends)) (names : List Entry) → indices_of start ≡ is → shape start ≡ names
        → EndsHave is ends → EndsFit start ends
        → InChoices is names bs (next (inside a p at_choice))
    choice_step is names starts alike ended fit = record {
      start = excluded e es start;
      ends = Some (ends_with ends at_its_end);
      at = next_is;
      starts = indices_stay.excluding es start e (sym (ap shape same)) ∙ starts;
      alike = shapes_stay.excluding es start e ∙ alike;
      ended = one_end is ends at_its_end ended (end_indices ∙ starts);
      fit = one_fit ends start (excluded e es start) at_its_end fit end_shape (shapes_stay.excluding es start e);
    }

    -- what is known there, and at the ends before, lies within what is known at the ends with it
    pub ends_lie : (is : List (Option Ends)) → indices_of start ≡ is → EndsHave is ends → EndsFit start ends
        → LieWithin at_its_end (end (next (inside a p at_choice))).entries
        × ((ds : List Entry) → ends ≡ Some ds → LieWithin ds (end (next (inside a p at_choice))).entries)
    ends_lie is starts ended fit =
        subst (λ (y : Known). LieWithin at_its_end (end y).entries
        × ((ds : List Entry) → ends ≡ Some ds → LieWithin ds (end y).entries)) (sym next_is)
        (by_ends ends ended fit)
      where
        by_ends : (o : Option (List Entry)) → EndsHave is o → EndsFit start o
            → LieWithin at_its_end (ends_with o at_its_end)
            × ((ds : List Entry) → o ≡ Some ds → LieWithin ds (ends_with o at_its_end))
        by_ends None have fits = (scopes_lie_within.itself at_its_end, λ ds none. absurd (cc none))
        by_ends (Some es) have fits =
            let alike = fits ∙ sym end_shape in
            let indices = have ∙ sym starts ∙ sym end_indices in (
              scopes_lie_within.this_one es at_its_end alike indices,
              λ ds one.
                  let are : es ≡ ds = cc in
                  subst (λ (xs : List Entry). LieWithin xs (hulls es at_its_end)) are
                  (scopes_lie_within.earlier es at_its_end alike indices),
            )

  -- components whose processes do
  abbrev pub KeepsIn : {part : Part} → Component part → Type 0
  KeepsIn (Plain p) = Keeps a p
  KeepsIn (Chosen line e p) = Keeps a p
  KeepsIn (Guarded line g p) = ⊤

  abbrev pub AllKeep : {part : Part} → Components part → Type 0
  AllKeep NoComponent = ⊤
  AllKeep (Further cs c) = AllKeep cs × KeepsIn c

  -- a choice, where there may be a name more than in its block
  choice_keeps : {part : Part} (is : List (Option Ends)) (names : List Entry) (c : Component part)
      (bs : List moves.Block) (x : Known)
      (es : List Entry) → IsMadeOf (Mark mark.If) part → KeepsIn c → (h : InChoices is names bs x)
      → length h.start ≤ length es → outermost (length h.start) es ≡ h.start
      → InChoices is names bs (after_component a (Mark mark.If) c (record { entries = es; blocks = x.blocks }))
  choice_keeps is names (Plain p) bs x es made keeps h inner same = absurd made
  choice_keeps is names (Guarded line g p) bs x es made keeps h inner same = absurd made
  choice_keeps is names (Chosen line e p) bs x es made keeps h inner same =
      subst (λ (y : Known). InChoices is names bs (next
      (inside a p (chosen e (record { entries = es; blocks = y.blocks })))))
      (sym h.at) (choice_step e p es h.start h.ends bs keeps inner same is names h.starts h.alike h.ended h.fit)

  -- the choices of an IF
  pub choices_keep : {part : Part} (cs : Components part) (k : Known) → IsMadeOf (Mark mark.If) part → AllKeep cs
      → InChoices (indices_of k.entries) (shape k.entries) k.blocks (after_components a (Mark mark.If) cs (begin k))
  choices_keep NoComponent k made keep = begin_choices k
  choices_keep (Further cs c) k made keep =
      let x = after_components a (Mark mark.If) cs (begin k) in
      let h = choices_keep cs k made keep.0 in
      let same = ap (λ (y : Known). y.entries) h.at in
      let long = ap (λ (y : Known). length y.entries) h.at in
      choice_keeps (indices_of k.entries) (shape k.entries) c k.blocks x x.entries made keep.1 h (omega (arith, long))
      (ap (λ (es : List Entry). outermost (length h.start) es) same ∙ all_outermost (length h.start) h.start refl)

  -- the components of a SEQ
  seq_low : {part : Part} (cs : Components part) (k : Known) → IsMadeOf (Mark mark.Seq) part → Low k
      → Low (after_components a (Mark mark.Seq) cs k)
  seq_low cs k made low =
      let ns = changed_by_components a.signatures k.entries cs in
      remains_low ns k (after_components a (Mark mark.Seq) cs k)
      (components_stay a ns (Mark mark.Seq) cs k made (covers_itself ns) low) low

  pub component_keeps : {part : Part} (c : Component part) (m : Known) → IsMadeOf (Mark mark.Seq) part → KeepsIn c
      → Low m → indices_of (after_component a (Mark mark.Seq) c m).entries ≡ indices_of m.entries
  component_keeps (Plain p) m made keeps low =
      ap (λ (es : List Entry). indices_of es) (left_is _ m (inside a p m) (ranges_stay.processes a p m low) low)
      ∙ keeps.ends m low
  component_keeps (Chosen line e p) m made keeps low = absurd made
  component_keeps (Guarded line g p) m made keeps low = absurd made

  components_keep : {part : Part} (cs : Components part) (k : Known) → IsMadeOf (Mark mark.Seq) part → AllKeep cs
      → Low k → indices_of (after_components a (Mark mark.Seq) cs k).entries ≡ indices_of k.entries
  components_keep NoComponent k made keep low = refl
  components_keep (Further cs c) k made keep low =
      component_keeps c (after_components a (Mark mark.Seq) cs k) made keep.1 (seq_low cs k made low)
      ∙ components_keep cs k made keep.0 low

  abbrev pub a_turn : {part : Part} → Terminal → List ℕ → Component part → Repeats → ℕ → Known → Known
  a_turn word name c repeats n l = after_component a word c (with_entries (add name (index_in repeats n)) l)

  -- the turns of an IF under a replicator
  pub turns_keep : {part : Part} (c : Component part) (name : List ℕ) (repeats : Repeats) (j : Known) (n : ℕ)
      → IsMadeOf (Mark mark.If) part → KeepsIn c
      → InChoices (indices_of j.entries) (shape j.entries) j.blocks
      (turn_by_turn (a_turn (Mark mark.If) name c repeats) n (begin j))
  turns_keep c name repeats j zero made keeps = begin_choices j
  turns_keep c name repeats j (suc n) made keeps =
      let x = turn_by_turn (a_turn (Mark mark.If) name c repeats) n (begin j) in
      let h = turns_keep c name repeats j n made keeps in
      let m = index_in repeats n in
      let e : Entry = record { name = name; meaning = m } in
      let same = ap (λ (y : Known). y.entries) h.at in
      let long = ap (λ (y : Known). length y.entries) h.at in
      choice_keeps (indices_of j.entries) (shape j.entries) c j.blocks x (add name m x.entries) made keeps h
      (omega (arith, long))
      (ap (λ (es : List Entry). outermost (length h.start) (e ∷ es)) same
      ∙ all_but_one (length h.start) e h.start refl)

  -- what is known after the body of a loop
  loop_ends : {part : Part} (c : Component part) (changed : List ℕ) (name : List ℕ) (m : Meaning) (k : Known)
      → IsMadeOf (Mark mark.Seq) part
      → indices_of (end (after_component a (Mark mark.Seq) c
      (with_entries (add name m) (begin_loop changed k)))).entries
      ≡ indices_of k.entries
  loop_ends c changed name m k made =
      let l = with_entries (add name m) (begin_loop changed k) in
      let x = after_component a (Mark mark.Seq) c l in
      let ns = changed_by_component a.signatures l.entries c in
      let remains : Remains ns l x =
      component_stays a ns (Mark mark.Seq) c made l.entries (covers_itself ns) l (omega arith) refl in
      subst (λ (bs : List moves.Block). indices_of (moves.after_block x.entries bs).entries ≡ indices_of k.entries)
      (sym remains.blocks) (indices_stay.widening changed k.entries)

  repeated_ends : (happens : Bool) (k : Known) (turns : Known → Known)
      → ((j : Known) → InChoices (indices_of j.entries) (shape j.entries) j.blocks (turns j))
      → indices_of (repeated happens (turns (unless happens begin k))).entries ≡ indices_of k.entries
  repeated_ends true k turns keep = choices_end (indices_of k.entries) (shape k.entries) k.blocks (turns k) (keep k)
  repeated_ends false k turns keep =
      let j = begin k in
      let blocks = choices_blocks (indices_of j.entries) (shape j.entries) j.blocks (turns j) (keep j) in
      subst (λ (bs : List moves.Block).
      indices_of (moves.after_block (end (turns j)).entries bs).entries ≡ indices_of k.entries) (sym blocks) refl

  -- a body by the word of its block
  body_ends : {part : Part} (word : Terminal) (c : Component part) (line : ℕ) (r : Replicator) (changed : List ℕ)
      (k : Known) → IsMadeOf word part → IsSequentialComponent word c → KeepsIn c
      → indices_of (repeated (repeats_of (is_before line a.uncounted) k.entries (is_seq word) r).happens
      (turn_by_turn (a_turn word r.name c (repeats_of (is_before line a.uncounted) k.entries (is_seq word) r))
      (repeats_of (is_before line a.uncounted) k.entries (is_seq word) r).turns.count
      (begun_body word changed (repeats_of (is_before line a.uncounted) k.entries (is_seq word) r).happens k))).entries
      ≡ indices_of k.entries
  body_ends (Mark mark.Seq) (Plain p) line r changed k made seq keeps =
      loop_ends (Plain p) changed r.name
      (index_in (repeats_of (is_before line a.uncounted) k.entries true r) 0) k made
  body_ends (Mark mark.If) (Chosen test e p) line r changed k made seq keeps =
      let c = Chosen test e p in
      let repeats = repeats_of (is_before line a.uncounted) k.entries false r in
      repeated_ends repeats.happens k
      (λ j. turn_by_turn (a_turn (Mark mark.If) r.name c repeats) repeats.turns.count (begin j))
      (λ j. turns_keep c r.name repeats j repeats.turns.count made keeps)
  body_ends word c line r changed k made seq keeps = absurd seq

  block_ends : {part : Part} (word : Terminal) (cs : Components part) (k : Known) → IsMadeOf word part
      → IsSequentialWord word → AllKeep cs → Low k
      → indices_of (ended word (after_components a word cs (begun word k))).entries ≡ indices_of k.entries
  block_ends (Mark mark.Seq) cs k made seq keep low = components_keep cs k made keep low
  block_ends (Mark mark.If) cs k made seq keep low =
      choices_end (indices_of k.entries) (shape k.entries) k.blocks (after_components a (Mark mark.If) cs (begin k))
      (choices_keep cs k made keep)
  block_ends word cs k made seq keep low = absurd seq

  mutual
    process_keeps : (p : Process) → IsSequential p → Keeps a p
    process_keeps (Declared d p) seq =
        let keeps = process_keeps p seq in
        record {
          ends = λ k low.
              let known = with_entries (add_declaration d) k in
              let longer = declared_long d k.entries in
              let final = inside a p known in
              let n = length k.entries in
              ap (λ (xs : List Entry). indices_of xs)
              (sym (outermost_twice n (length known.entries) final.entries longer))
              ∙ indices_stay.leaving n (outermost (length known.entries) final.entries) known.entries
              (keeps.ends known (omega (arith, low, longer)))
              ∙ ap (λ (xs : List Entry). indices_of xs) (declared_behind d k.entries);
        }
    process_keeps (Does line c) seq = record {
      ends = λ k low.
          let same = construct_keeps line c k seq low in
          ap (λ (xs : List Entry). indices_of xs) (all_outermost (length k.entries) (after_construct a line c k).entries
          (index_lengths (after_construct a line c k).entries k.entries same))
          ∙ same;
    }

    construct_keeps : (line : ℕ) (c : Construct) (k : Known) → IsSequentialConstruct c → Low k
        → indices_of (after_construct a line c k).entries ≡ indices_of k.entries
    construct_keeps line (Act action) k seq low = indices_stay.acting a.signatures action k.entries
    construct_keeps line (Block kind cs) k seq low =
        block_ends (block_word kind) cs k (kind_fits kind) seq.0 (all_keep (block_word kind) cs seq.1) low
    construct_keeps line (Replicated r (One kind c)) k seq low =
        body_ends (block_word kind) c line r (changed_by_body a.signatures k.entries r (One kind c)) k
        (kind_fits kind) seq
        (one_keeps (block_word kind) c seq)

    pub all_keep : {part : Part} (word : Terminal) (cs : Components part) → AreSequential word cs → AllKeep cs
    all_keep word NoComponent seq = tt
    all_keep word (Further cs c) seq = (all_keep word cs seq.0, one_keeps word c seq.1)

    pub one_keeps : {part : Part} (word : Terminal) (c : Component part) → IsSequentialComponent word c → KeepsIn c
    one_keeps (Mark mark.Seq) (Plain p) seq = process_keeps p seq
    one_keeps (Mark mark.If) (Chosen line e p) seq = process_keeps p seq
    one_keeps word c seq = absurd seq

pub indices_are_kept : IndicesAreKept
indices_are_kept = record {
  processes = λ a p k seq low. (process_keeps a p seq).ends k low;
  constructs = λ a line c k seq low. construct_keeps a line c k seq low;
  components = λ {part} a cs k made seq low. components_keep a cs k made (all_keep a (Mark mark.Seq) cs seq) low;
}
