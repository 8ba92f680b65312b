-- A process without PAR and ALT has code wherever the walk comes to it, if the instances there have.
use Rattle.std.proofs.Common.{◌≡◌, ℕ, zero, suc, ◌<◌, ℤ, Bool, true, false, cond, List, [], ◌∷◌, length}
use Rattle.std.proofs.Common.{Some, None, inl, inr, refl, sym, subst, arith}
use Rattle.occam_layout.specs.declared.mark.Mark.TheVariants as mark
use Rattle.occam_parser.specs.Terminals.{Terminal, Mark}
use Rattle.occam_parser.specs.Expressions.{Expression}
use Rattle.occam_parser.specs.Lines.{Replicator, Action, Skip, Stop, Assign, Input, Output, Instance, block_word}
use Rattle.occam_parser.specs.Blocks.{Process, Declared, Does, Construct, Act, Block, Replicated, Body, One, Part}
use Rattle.occam_parser.specs.Blocks.{Components, NoComponent, Further, Component, Plain, Chosen, Guarded}
use Rattle.occam_parser.specs.Blocks.{ProgramItem}
use Rattle.scalar_ranges.specs.Entries.{Entry, Procedure, meaning_in}
use Rattle.scalar_ranges.specs.Environments.{item_at}
use Rattle.scalar_ranges.specs.Moves.{Known, begin, begin_loop}
use Rattle.program_uses.specs.Actions.{Around, is_before}
use Rattle.program_uses.specs.Changes.{changed_by_body, changed_by_component, changed_by_components}
use Rattle.program_uses.specs.Declaring.{add}
use Rattle.program_uses.specs.Indices.{is_seq, index_meaning, Repeats, repeats_of, index_in, turn_by_turn}
use Rattle.program_uses.specs.Signatures.{Parameter}
use Rattle.program_meaning.specs.Sequential.{IsSequentialWord}
use Rattle.usage_checks.specs.declared.channel_rules.Position.{Position}
use Rattle.usage_checks.specs.AfterProcesses.{begun, ended, begun_body, after_components, after_body}
use Rattle.usage_checks.specs.Holding.{InstanceHolds}
use Rattle.usage_checks.specs.ItemRules.{BreaksNoRule}
use Rattle.usage_checks.specs.NameRules.{with_entries}
use Rattle.usage_checks.specs.Outlines.{IsMadeOf}
use Rattle.usage_checks.specs.ProcessRules.{position_in}
use Rattle.usage_checks.specs.Reaching.{Standing, Piece, AProcess, AComponent, StandsAmong, process_of, entered}
use Rattle.usage_checks.specs.Reaching.{Reaches, behind, to_part, to_process}
use Rattle.usage_checks.proofs.OutlinesStay.{kind_fits}
use Rattle.usage_checks.proofs.PlacesHold.{places_hold}
use Rattle.usage_checks.proofs.RangesStay.{covers_itself, components_stay, component_stays, turns_turned}
use Rattle.line_pieces.specs.Declarations.{Frame, with_home, declaration_code}
use Rattle.line_pieces.specs.Homes.{Nowhere}
use Rattle.code_generator.specs.Processes.{Site, Surroundings, with_declaration, at_place, called, line_code}
use Rattle.code_generator.specs.Processes.{PlacedChoice, with_ending, with_opening, if_code, in_loop, value_or_zero}
use Rattle.code_generator.specs.Processes.{loop_code, repeated_seq, by_block, times, turned, turn_begun, in_each_turn}
use Rattle.code_generator.specs.Processes.{process_code, construct_code, body_code, components_code, component_code}
use Rattle.code_generator.specs.Processes.{placed_choices, placed}
use Rattle.called_code.specs.CalledCode.{HasNoPar, ConstructHasNoPar, BodyHasNoPar, HaveNoPar, ComponentHasNoPar}
use Rattle.called_code.specs.CalledCode.{Calls, IsCalled, called_is}
use Rattle.code_generator.proofs.CodeTogether.{HasCode, before_has, then_has, HasProcess, opened_if_has}
use Rattle.code_generator.proofs.CodeTogether.{repeated_if_has, repeated_has, loop_has}
use Rattle.code_generator.proofs.EachChoice.{AllAre}
use Rattle.code_generator.proofs.OuterNames.{AreStill, Keeps, declared_keeps, named_keeps, remains_keeps}
use Rattle.code_generator.proofs.OuterNames.{turned_keeps, chosen_keeps, loop_keeps}

-- ---- where processes are written

-- the instances of called procedures that are before this place have code, where these entries are known outside
abbrev pub CallsHave : List ProgramItem → Surroundings → List Entry → Type 0
CallsHave items w g = (number : ℕ) → number < length w.around.signatures → IsCalled items number
    → (qs : List Parameter) (actuals : List Expression) (s : Site) → Keeps g s.known
    → HasCode (w.calls number qs actuals s)

-- in a procedure that is called, of a program that breaks no rule
pub record Ground (items : List ProgramItem) (w : Surroundings) (g : List Entry) : Type 0 where
  pub unbroken : BreaksNoRule items
  pub still : AreStill g
  pub mine : IsCalled items (length w.around.signatures)
  pub calls : CallsHave items w g

abbrev pub standing_at : Surroundings → Position → Standing
standing_at w p = record { around = w.around; position = p }

-- ---- actions

-- an item that is found is one of the list
found_below : {A : Type 0} (n : ℕ) (xs : List A) (x : A) → item_at n xs ≡ Some x → n < length xs
found_below n [] x is = absurd (cc is)
found_below zero (y ∷ ys) x is = omega arith
found_below (suc n) (y ∷ ys) x is = let less = found_below n ys x is in omega (arith, less)

-- where the walk comes to an instance, what that names is called
pub instance_calls : {items : List ProgramItem} {standing : Standing} {first line caller number : ℕ} {name : List ℕ}
    {actuals : List Expression} {known : Known}
    → Reaches items standing (AProcess first (Does line (Act (Instance name actuals)))) known
    → length standing.around.signatures ≡ caller → meaning_in name known.entries ≡ Some (Procedure number)
    → Calls items caller number
instance_calls {standing = standing} {first = first} {line = line} {name = name} {actuals = actuals} {known = known}
    stands in_caller denotes = record {
      standing = standing;
      first = first;
      line = line;
      name = name;
      actuals = actuals;
      known = known;
      stands = stands;
      in_caller = in_caller;
      denotes = denotes;
    }

-- Only an instance may have no code, and what it names is called, so it has.
line_has : {items : List ProgramItem} {w : Surroundings} {g : List Entry} → Ground items w g → (pos : Position)
    (first line : ℕ) (action : Action) (s : Site)
    → Reaches items (standing_at w pos) (AProcess first (Does line (Act action))) s.known → Keeps g s.known
    → HasCode (line_code w action s)
line_has {items} {w} v pos first line (Instance name actuals) s r k =
    let right = places_hold items (standing_at w pos) (AProcess first (Does line (Act (Instance name actuals)))) s.known
    v.unbroken r in
    let h : InstanceHolds w.around.signatures s.known.entries name actuals = right.holds in
    let called_here : Calls items (length w.around.signatures) h.number = instance_calls r refl h.called in
    subst (λ m. HasCode (called w m actuals s)) (sym h.called)
    (v.calls h.number (found_below h.number w.around.signatures h.parameters h.known)
    (called_is (length w.around.signatures) h.number v.mine called_here) _ actuals s k)
line_has v pos first line Skip s r k = tt
line_has v pos first line Stop s r k = tt
line_has v pos first line (Assign target value) s r k = tt
line_has v pos first line (Input channel target) s r k = tt
line_has v pos first line (Output channel value) s r k = tt

-- ---- components, whose processes have code where the walk comes to them

abbrev IsWritten : {part : Part} → List ProgramItem → Surroundings → List Entry → Component part → Type 0
IsWritten items w g c = (pos : Position) (m : Known) → Reaches items (standing_at w pos) (AComponent c) m
    → Keeps g (entered c m) → (f : Frame) (label : ℕ)
    → HasCode (process_code w (process_of c) (record { frame = f; known = entered c m; label = label }))

abbrev AreWritten : {part : Part} → List ProgramItem → Surroundings → List Entry → Components part → Type 0
AreWritten items w g NoComponent = Unit {0}
AreWritten items w g (Further cs c) = AreWritten items w g cs × IsWritten items w g c

-- The walk comes to these components, from the first of which this is known.
abbrev Come : {part : Part} → List ProgramItem → Surroundings → Position → Terminal → Components part → Known → Type 0
Come items w pos word cs k = (piece : Piece) (l : Known) → StandsAmong w.around word cs k piece l
    → Reaches items (standing_at w pos) piece l

-- ---- a SEQ

component_has : {part : Part} {items : List ProgramItem} {w : Surroundings} {g : List Entry} → Ground items w g
    → (pos : Position) (c : Component part) (s : Site) → IsMadeOf (Mark mark.Seq) part → IsWritten items w g c
    → Reaches items (standing_at w pos) (AComponent c) s.known → Keeps g s.known → HasCode (component_code w c s)
component_has v pos (Plain p) s is written r k = written pos s.known r k s.frame s.label
component_has v pos c s is written r k = absurd is

components_have : {part : Part} {items : List ProgramItem} {w : Surroundings} {g : List Entry} → Ground items w g
    → (pos : Position) (cs : Components part) (s : Site) → IsMadeOf (Mark mark.Seq) part → AreWritten items w g cs
    → Come items w pos (Mark mark.Seq) cs s.known → Keeps g s.known → HasCode (components_code w cs s)
components_have v pos NoComponent s is written come k = tt
components_have {w = w} {g = g} v pos (Further cs c) s is written come k =
    let m = after_components w.around (Mark mark.Seq) cs s.known in
    let all = changed_by_components w.around.signatures s.known.entries cs in
    let keeps = remains_keeps all g s.known m v.still
    (components_stay w.around all (Mark mark.Seq) cs s.known is (covers_itself all) k.low) k in
    then_has (components_code w cs s) (λ label. component_code w c (at_place m label s))
    (components_have v pos cs s is written.0 (λ piece l x. come piece l (inr x)) k)
    (λ label. component_has v pos c (at_place m label s) is written.1 (come (AComponent c) m (inl (refl, refl))) keeps)

-- ---- an IF

placed_has : {part : Part} {items : List ProgramItem} {w : Surroundings} {g : List Entry} → Ground items w g
    → (pos : Position) (c : Component part) (m : Known) → IsMadeOf (Mark mark.If) part → IsWritten items w g c
    → Reaches items (standing_at w pos) (AComponent c) m → Keeps g m → HasProcess (placed w c m)
placed_has {g = g} v pos (Chosen line e p) m is written r k =
    λ f label. written pos m r (chosen_keeps g e m v.still k) f label
placed_has v pos c m is written r k = absurd is

choices_have : {part : Part} {items : List ProgramItem} {w : Surroundings} {g : List Entry} → Ground items w g
    → (pos : Position) (cs : Components part) (k : Known) → IsMadeOf (Mark mark.If) part → AreWritten items w g cs
    → Come items w pos (Mark mark.If) cs (begin k) → Keeps g k
    → AllAre HasProcess (placed_choices w cs (begin k))
choices_have v pos NoComponent k is written come keeps = tt
choices_have {w = w} {g = g} v pos (Further cs c) k is written come keeps =
    let m = after_components w.around (Mark mark.If) cs (begin k) in
    let all = changed_by_components w.around.signatures k.entries cs in
    let here = turned_keeps all g k m v.still
    (components_stay w.around all (Mark mark.If) cs k is (covers_itself all) keeps.low) keeps in (
      choices_have v pos cs k is written.0 (λ piece l x. come piece l (inr x)) keeps,
      placed_has v pos c m is written.1 (come (AComponent c) m (inl (refl, refl))) here,
    )

-- ---- blocks

block_has : {part : Part} {items : List ProgramItem} {w : Surroundings} {g : List Entry} → Ground items w g
    → (pos : Position) (word : Terminal) (cs : Components part) (s : Site) (after : Known) → IsMadeOf word part
    → IsSequentialWord word → AreWritten items w g cs → Come items w pos word cs (begun word s.known)
    → Keeps g s.known
    → HasCode (by_block word (components_code w cs s)
    (if_code s s.frame after (with_opening (with_ending (placed_choices w cs (begun word s.known))))))
block_has v pos (Mark mark.Seq) cs s after is h written come k = components_have v pos cs s is written come k
block_has {w = w} v pos (Mark mark.If) cs s after is h written come k =
    opened_if_has s s.frame after (placed_choices w cs (begin s.known))
    (choices_have v pos cs s.known is written come k)
block_has v pos word cs s after is h written come k = absurd h

-- ---- replicators

happens_by : (b : Bool) (n count : ℕ) → n < cond b count 0 → b ≡ true
happens_by true n count less = refl
happens_by false n count less = absurd (omega (arith, less))

less_by : (b : Bool) (n count : ℕ) → n < cond b count 0 → n < count
less_by true n count less = less
less_by false n count less = absurd (omega (arith, less))

-- a choice in one of its turns
turn_keeps : {part : Part} (a : Around) (g : List Entry) (name : List ℕ) (c : Component part) (repeats : Repeats)
    (changed : List ℕ) (k : Known) (n : ℕ) → AreStill g → IsMadeOf (Mark mark.If) part
    → repeats.sequential ≡ false → n < times repeats → Keeps g k
    → Keeps g (turn_begun a (Mark mark.If) name c repeats
    (begun_body (Mark mark.If) changed repeats.happens k) n)
turn_keeps a g name c repeats changed k n still is apart less keeps =
    let es = add name (index_meaning false None) k.entries in
    let all = changed_by_component a.signatures es c in
    let step = turned a (Mark mark.If) name c repeats in
    let at : Keeps g (turn_by_turn step n (begin k)) =
    turned_keeps all g k (turn_by_turn step n (begin k)) still
    (turns_turned a all (Mark mark.If) c name repeats changed k.entries k n is tt apart refl
    (component_stays a all (Mark mark.If) c is es (covers_itself all))) keeps in
    subst (λ b. Keeps g (with_entries (add name (index_in repeats n))
    (turn_by_turn step n (begun_body (Mark mark.If) changed b k))))
    (sym (happens_by repeats.happens n repeats.turns.count less))
    (named_keeps g name (index_in repeats n) (turn_by_turn step n (begin k)) at)

repeated_block_has : {part : Part} {items : List ProgramItem} {w : Surroundings} {g : List Entry} → Ground items w g
    → (pos : Position) (word : Terminal) (c : Component part) (r : Replicator) (s : Site) (changed : List ℕ)
    (counted : Bool) (after : Known) (base count : ℤ) → IsMadeOf word part → IsSequentialWord word
    → IsWritten items w g c
    → ((n : ℕ) → n < (repeats_of counted s.known.entries (is_seq word) r).turns.count
    → Reaches items (standing_at w pos) (AComponent c) (turn_begun w.around word r.name c
    (repeats_of counted s.known.entries (is_seq word) r) (begun_body word changed
    (repeats_of counted s.known.entries (is_seq word) r).happens s.known) n))
    → Keeps g s.known
    → (let repeats = repeats_of counted s.known.entries (is_seq word) r in
    let start = begun_body word changed repeats.happens s.known in
    let inner = in_loop s start r.name (index_in repeats 0) in
    HasCode (by_block word
    (repeated_seq s changed after base (loop_code s inner after base count (component_code w c inner)) count)
    (if_code s (with_home Nowhere s.frame) after (with_ending (in_each_turn
    (λ n. placed w c (turn_begun w.around word r.name c repeats start n)) (times repeats))))))
repeated_block_has {w = w} {g = g} v pos (Mark mark.Seq) c r s changed counted after base count is h written come k =
    let repeats = repeats_of counted s.known.entries true r in
    let inner = in_loop s (begin_loop changed s.known) r.name (index_in repeats 0) in
    let body = component_code w c inner in
    let keeps = named_keeps g r.name (index_in repeats 0) (begin_loop changed s.known)
    (loop_keeps g changed s.known v.still k) in
    repeated_has s changed after base (loop_code s inner after base count body) count
    (loop_has s inner after base count body (component_has v pos c inner is written (come 0 (omega arith)) keeps))
repeated_block_has {w = w} {g = g} v pos (Mark mark.If) c r s changed counted after base count is h written come k =
    let repeats = repeats_of counted s.known.entries false r in
    let start = begun_body (Mark mark.If) changed repeats.happens s.known in
    let choice : ℕ → PlacedChoice = λ n. placed w c (turn_begun w.around (Mark mark.If) r.name c repeats start n) in
    repeated_if_has s (with_home Nowhere s.frame) after choice (times repeats) (λ n less.
    placed_has v pos c (turn_begun w.around (Mark mark.If) r.name c repeats start n) is written
    (come n (less_by repeats.happens n repeats.turns.count less))
    (turn_keeps w.around g r.name c repeats changed s.known n v.still is refl less k))
repeated_block_has v pos word c r s changed counted after base count is h written come k = absurd h

-- ---- processes

mutual
  pub process_has : {items : List ProgramItem} {w : Surroundings} {g : List Entry} → Ground items w g
      → (pos : Position) (first : ℕ) (p : Process) → HasNoPar p → (s : Site)
      → Reaches items (standing_at w pos) (AProcess first p) s.known → Keeps g s.known → HasCode (process_code w p s)
  process_has {w = w} {g = g} v pos first (Declared d p) h s r k =
      before_has (declaration_code s.known.entries d s.frame.top) (process_code w p (with_declaration d s))
      (process_has v pos first p h (with_declaration d s) (behind (standing_at w pos) first d p s.known r)
      (declared_keeps g d s.known k))
  process_has v pos first (Does line c) h s r k = construct_has v pos first line c h s r k

  construct_has : {items : List ProgramItem} {w : Surroundings} {g : List Entry} → Ground items w g
      → (pos : Position) (first line : ℕ) (c : Construct) → ConstructHasNoPar c → (s : Site)
      → Reaches items (standing_at w pos) (AProcess first (Does line c)) s.known → Keeps g s.known
      → HasCode (construct_code w line c s)
  construct_has v pos first line (Act action) h s r k = line_has v pos first line action s r k
  construct_has {w = w} v pos first line (Block kind cs) h s r k =
      let word = block_word kind in
      let inner = position_in word (length s.known.entries) pos in
      block_has v inner word cs s (ended word (after_components w.around word cs (begun word s.known))) (kind_fits kind)
      h.0 (components_written v cs h.1) (λ piece l x.
      to_part (standing_at w pos) (standing_at w inner) first line (Block kind cs) piece s.known l r (refl, x)) k
  construct_has v pos first line (Replicated rep b) h s r k = body_has v pos first line rep b h s r k

  body_has : {items : List ProgramItem} {w : Surroundings} {g : List Entry} → Ground items w g
      → (pos : Position) (first line : ℕ) (rep : Replicator) (b : Body) → BodyHasNoPar b → (s : Site)
      → Reaches items (standing_at w pos) (AProcess first (Does line (Replicated rep b))) s.known → Keeps g s.known
      → HasCode (body_code w line rep b s)
  body_has {w = w} v pos first line rep (One kind c) h s r k =
      let word = block_word kind in
      let changed = changed_by_body w.around.signatures s.known.entries rep (One kind c) in
      let counted = is_before line w.around.uncounted in
      let repeats = repeats_of counted s.known.entries (is_seq word) rep in
      let start = begun_body word changed repeats.happens s.known in
      let inner = position_in word (length s.known.entries) pos in
      repeated_block_has v inner word c rep s changed counted (after_body w.around line rep (One kind c) s.known)
      (value_or_zero s.known.entries rep.base) (value_or_zero s.known.entries rep.count) (kind_fits kind) h.0
      (component_written v c h.1) (λ n less.
      to_part (standing_at w pos) (standing_at w inner) first line (Replicated rep (One kind c)) (AComponent c) s.known
      (turn_begun w.around word rep.name c repeats start n) r (n, refl, refl, less, refl)) k

  components_written : {part : Part} {items : List ProgramItem} {w : Surroundings} {g : List Entry}
      → Ground items w g → (cs : Components part) → HaveNoPar cs → AreWritten items w g cs
  components_written v NoComponent h = tt
  components_written v (Further cs c) h = (components_written v cs h.0, component_written v c h.1)

  component_written : {part : Part} {items : List ProgramItem} {w : Surroundings} {g : List Entry}
      → Ground items w g → (c : Component part) → ComponentHasNoPar c → IsWritten items w g c
  component_written {w = w} v (Plain p) h = λ pos m r k f label.
      process_has v pos (length m.entries) p h (record { frame = f; known = m; label = label })
      (to_process (standing_at w pos) (Plain p) m r) k
  component_written {w = w} v (Chosen line e p) h = λ pos m r k f label.
      let l = entered (Chosen line e p) m in
      process_has v pos (length l.entries) p h (record { frame = f; known = l; label = label })
      (to_process (standing_at w pos) (Chosen line e p) m r) k
  component_written {w = w} v (Guarded line x p) h = λ pos m r k f label.
      let l = entered (Guarded line x p) m in
      process_has v pos (length l.entries) p h (record { frame = f; known = l; label = label })
      (to_process (standing_at w pos) (Guarded line x p) m r) k
