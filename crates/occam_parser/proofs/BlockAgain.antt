-- What is written on lines is read again.
use Rattle.std.proofs.Common.{◌≡◌, ℕ, zero, suc, ◌+◌, ◌<◌, ◌≤◌, true, false, cond, List, [], ◌∷◌, ◌++◌, length}
use Rattle.std.proofs.Common.{Option, Some, None, refl, sym, ap, subst, arith, append_assoc}
use Rattle.std.proofs.Common.{length-append, ◌∙◌}
use Rattle.std.proofs.lemmas.Bool.{eq-eqb}
use Rattle.small_laws.proofs.Comparisons.{lt-eqb}
use Rattle.occam_parser.specs.declared.head.BlockKind.{BlockKind}
use Rattle.occam_parser.specs.Expressions.{written}
use Rattle.occam_parser.specs.Reading.{◌>>=◌}
use Rattle.occam_parser.specs.Lines.{Declaration, Replicator, Action, Head, Declares, Acts, Opens}
use Rattle.occam_parser.specs.Lines.{written_declaration, written_action, written_guard, FitsDeclaration, FitsAction}
use Rattle.occam_parser.specs.Lines.{FitsReplicator}
use Rattle.occam_parser.specs.LineReading.{head_at, whole_at, guard_at}
use Rattle.occam_parser.specs.Blocks.{Row, Process, Declared, Does, Construct, Act, Block, Replicated, Body, One, Part}
use Rattle.occam_parser.specs.Blocks.{Processes, part_of, Components, NoComponent, Further, Component, Plain, Chosen}
use Rattle.occam_parser.specs.Blocks.{Guarded, declaration_line, block_row, lines_of, lines_of_construct}
use Rattle.occam_parser.specs.Blocks.{lines_of_components, lines_of_component, FitsProcess, FitsConstruct}
use Rattle.occam_parser.specs.Blocks.{FitComponents, FitsComponent}
use Rattle.occam_parser.specs.BlockReading.{ReadsLines, begins_at, Beginning, begun, beginning_from}
use Rattle.occam_parser.specs.BlockReading.{with_declarations, components_of, only_one, read_as, block_with}
use Rattle.occam_parser.specs.BlockReading.{replicated_with}
use Rattle.occam_parser.specs.BlockReading.{body_with, construct_behind, process_behind, process_with, head_row}
use Rattle.occam_parser.specs.BlockReading.{headed_with, plain, process_at, component_at}
use Rattle.occam_parser.specs.Terminals.{Terminal}
use Rattle.occam_parser.proofs.Levelled.{IsHeaded, choice_is, branch_is}
use Rattle.occam_parser.proofs.LineAgain.{head_again, whole_line_again, guard_again}
use Rattle.occam_parser.proofs.Turns.{ContinuesBlock, block_begins, block_goes_on, block_ends, at_again}
use Rattle.occam_parser.proofs.Turns.{first_row_again}

-- no line that is deeper than this level comes next
abbrev pub Stops : ℕ → List Row → Type 0
Stops level rest = (k : ℕ) → level < k → begins_at k rest ≡ false

stops_deeper : (level : ℕ) (rest : List Row) → Stops level rest → Stops (level + 1) rest
stops_deeper level rest s k h = s k (omega arith)

pub stops_at_row : (level : ℕ) (r : Row) (rest : List Row) → r.level ≡ level → Stops level (r ∷ rest)
stops_at_row level r rest e k h = lt-eqb r.level k (omega arith)

-- ---- declarations

beginning_row : (level : ℕ) (found : List Declaration) (r : Row) (rows : List Row) (h : Head) → r.level ≡ level
    → level ≤ 64 → head_at r.number r.terminals ≡ Some h
    → beginning_from level found (r ∷ rows) ≡ begun found r.number rows (λ more. beginning_from level more rows)
    (Some h)
unfolding beginning_from
beginning_row level found r rows h e low is =
    ap (λ b. cond b (begun found r.number rows (λ more. beginning_from level more rows)
    (head_at r.number r.terminals)) None) (at_again level r e low)
    ∙ ap (begun found r.number rows (λ more. beginning_from level more rows)) is

with_one_more : (found : List Declaration) (d : Declaration) (p : Process)
    → with_declarations (found ++ d ∷ []) p ≡ with_declarations found (Declared d p)
with_one_more [] d p = refl
with_one_more (f ∷ found) d p = ap (Declared f) (with_one_more found d p)

-- ---- components

-- a component begins at its level, and has a line at least
record Starts (level : ℕ) (rows rest : List Row) : Type 0 where
  here : begins_at level (rows ++ rest) ≡ true
  stops : Stops level (rows ++ rest)
  some : length rest < length (rows ++ rest)

starts_row : (level : ℕ) (r : Row) (rows rest : List Row) → r.level ≡ level → Starts level (r ∷ rows) rest
starts_row level r rows rest e = record {
  here = eq-eqb r.level level e;
  stops =
      stops_at_row level r (rows ++ rest) e;
  some = omega (arith, length-append rows rest);
}

starts_process : (p : Process) (level : ℕ) (rest : List Row) → Starts level (lines_of p level) rest
starts_process (Declared d p) level rest = starts_row level
    (record { number = declaration_line d; level = level; terminals = written_declaration d }) (lines_of p level)
    rest refl
starts_process (Does line (Act a)) level rest =
    starts_row level (record { number = line; level = level; terminals = written_action a }) [] rest refl
starts_process (Does line (Block kind cs)) level rest =
    starts_row level (block_row line level kind None) (lines_of_components cs (level + 1)) rest refl
starts_process (Does line (Replicated r (One kind c))) level rest =
    starts_row level (block_row line level kind (Some r)) (lines_of_component c (level + 1)) rest refl

starts_component : {part : Part} (c : Component part) (level : ℕ) (rest : List Row)
    → Starts level (lines_of_component c level) rest
starts_component (Plain p) level rest = starts_process p level rest
starts_component (Chosen line e p) level rest =
    starts_row level (record { number = line; level = level; terminals = written e }) (lines_of p (level + 1)) rest
    refl
starts_component (Guarded line g p) level rest =
    starts_row level (record { number = line; level = level; terminals = written_guard g }) (lines_of p (level + 1))
    rest refl

block_again : (kind : BlockKind) (item : ReadsLines (Component (part_of kind))) (cs : Components (part_of kind))
    (level : ℕ) (rest : List Row) → begins_at level rest ≡ false
    → ContinuesBlock item level (lines_of_components cs level ++ rest) cs rest
    → block_with kind (components_of item level (lines_of_components cs level ++ rest)) ≡ Some (Block kind cs, rest)
unfolding read_as
block_again kind item cs level rest stops c =
    ap (λ (o : Option (Components (part_of kind) × List Row)). o >>= λ x. Some (Block kind x.0, x.1))
    (block_ends item level (lines_of_components cs level ++ rest) cs rest stops c)

replicated_again : (kind : BlockKind) (r : Replicator) (read : Option (Component (part_of kind) × List Row))
    (c : Component (part_of kind)) (level : ℕ) (rest : List Row) → begins_at level rest ≡ false
    → read ≡ Some (c, rest)
    → replicated_with r (only_one level (body_with kind read)) ≡ Some (Replicated r (One kind c), rest)
unfolding read_as only_one
replicated_again kind r read c level rest stops e =
    ap (λ (o : Option (Component (part_of kind) × List Row)). replicated_with r (only_one level (body_with kind o))) e
    ∙ ap (λ b. cond {A = Option (Body × List Row)} b None (Some (One kind c, rest)) >>= λ x. Some
    (Replicated r x.0, x.1)) stops

fits_low : (p : Process) (level : ℕ) → FitsProcess p level → level ≤ 64
fits_low (Declared d p) level fits = fits.0
fits_low (Does line c) level fits = fits.0

-- ---- one level

process_one : (m level : ℕ) (p : Process) (rows rest : List Row)
    → (beginning_from level [] rows >>= λ b. process_behind (component_at m (level + 1)) level b.0 b.1 b.0.start)
    ≡ Some (p, rest) → process_at (suc m) level rows ≡ Some (p, rest)
unfolding process_at process_with
process_one m level p rows rest e = e

plain_of : (m level : ℕ) (p : Process) (rows rest : List Row) → process_at (suc m) level rows ≡ Some (p, rest)
    → component_at (suc m) level Processes rows ≡ Some (Plain p, rest)
unfolding process_at component_at
plain_of m level p rows rest e = ap plain e

-- the levels that are left
left : (n level : ℕ) → n + level ≡ 65 → level ≤ 64 → (m : ℕ) × (n ≡ suc m) × (m + (level + 1) ≡ 65)
left zero level e low = absurd (omega arith)
left (suc m) level e low = (m, refl, omega arith)

-- what is below a head is read, one level deeper
abbrev pub ReadsBelow : Process → ℕ → ℕ → List Row → Type 0
ReadsBelow p m level rest =
    (n : ℕ) × (m ≡ suc n) × (process_at n (level + 1) (lines_of p (level + 1) ++ rest) ≡ Some (p, rest))

below_again : (p : Process) (m level : ℕ) (rest : List Row) → m + level ≡ 65 → level ≤ 64
    → FitsProcess p (level + 1)
    → ((k : ℕ) → k + (level + 1 + 1) ≡ 65
    → (beginning_from (level + 1) [] (lines_of p (level + 1) ++ rest) >>= λ b. process_behind
    (component_at k (level + 1 + 1)) (level + 1) b.0 b.1 b.0.start) ≡ Some (p, rest))
    → ReadsBelow p m level rest
below_again p m level rest e low fits reads =
    let rows = lines_of p (level + 1) ++ rest in
    let n = left m level e low in
    let k = left n.0 (level + 1) n.2 (fits_low p (level + 1) fits) in
    let one = process_one k.0 (level + 1) p rows rest (reads k.0 k.2) in
    (n.0, n.1, ap (λ j. process_at j (level + 1) rows) k.1 ∙ one)

headed_again : {A : Type 0} {part : Part} (says : List Terminal → Option A) (write : A → List Terminal)
    (make : ℕ → A → Process → Component part) (m level line : ℕ) (head : A) (p : Process)
    (rest : List Row) → IsHeaded says make → level ≤ 64 → says (write head) ≡ Some head
    → ReadsBelow p m level rest
    → component_at m level part
    (record { number = line; level = level; terminals = write head } ∷ (lines_of p (level + 1) ++ rest))
    ≡ Some (make line head p, rest)
unfolding headed_with head_row
headed_again {A} {part} says write make m level line head p rest is low said below =
    let r : Row = record { number = line; level = level; terminals = write head } in
    let rows = lines_of p (level + 1) ++ rest in
    let made : Option ((ℕ × A) × List Row) → Option (Component part × List Row) =
    λ o. o >>= λ h. process_at below.0 (level + 1) h.1 >>= λ q. Some (make h.0.0 h.0.1 q.0, q.1)
    in
    ap (λ n. component_at n level part (r ∷ rows)) below.1
    ∙ ap (λ (item : ReadsLines (Component part)). item (r ∷ rows)) (is below.0 level)
    ∙ ap (λ (o : Option (Row × List Row)). made (o >>= λ q. says q.0.terminals >>= λ h. Some
    ((q.0.number, h), q.1))) (first_row_again level r rows refl low)
    ∙ ap (λ (o : Option A). made (o >>= λ h. Some ((line, h), rows))) said
    ∙ ap (λ (o : Option (Process × List Row)). o >>= λ q. Some (make line head q.0, q.1)) below.2

acts_again : (component : (part : Part) → ReadsLines (Component part)) (level : ℕ) (found : List Declaration) (line : ℕ)
    (a : Action) (rest : List Row) → level ≤ 64 → FitsAction a
    → (beginning_from level found (record { number = line; level = level; terminals = written_action a } ∷ rest) >>=
    λ b. process_behind component level b.0 b.1 b.0.start) ≡ Some
    (with_declarations found (Does line (Act a)), rest)
acts_again component level found line a rest low fits =
    ap (λ (o : Option (Beginning × List Row)). o >>= λ b. process_behind component level b.0 b.1 b.0.start)
    (beginning_row level found (record { number = line; level = level; terminals = written_action a }) rest
    (Acts a) refl low (head_again line (Acts a) fits))

opens_again : (component : (part : Part) → ReadsLines (Component part)) (level : ℕ) (found : List Declaration)
    (line : ℕ) (kind : BlockKind) (r : Option Replicator) (c : Construct) (rows rest : List Row) → level ≤ 64
    → FitsReplicator r → construct_behind component (level + 1) kind r rows ≡ Some (c, rest)
    → (beginning_from level found (block_row line level kind r ∷ rows) >>= λ b. process_behind component level b.0 b.1
    b.0.start) ≡ Some (with_declarations found (Does line c), rest)
opens_again component level found line kind r c rows rest low fits h =
    ap (λ (o : Option (Beginning × List Row)). o >>= λ b. process_behind component level b.0 b.1 b.0.start)
    (beginning_row level found (block_row line level kind r) rows (Opens kind r) refl low
    (head_again line (Opens kind r) fits))
    ∙ ap (λ (o : Option (Construct × List Row)). o >>= λ x. Some (with_declarations found (Does line x.0), x.1)) h

declares_again : (component : (part : Part) → ReadsLines (Component part)) (level : ℕ) (found : List Declaration)
    (d : Declaration) (rows : List Row) → level ≤ 64 → FitsDeclaration (declaration_line d) d
    → (beginning_from level found (record {
      number = declaration_line d;
      level = level;
      terminals =
          written_declaration d;
    } ∷ rows) >>= λ b. process_behind component level b.0 b.1 b.0.start)
    ≡ (beginning_from level (found ++ d ∷ []) rows >>= λ b. process_behind component level b.0 b.1 b.0.start)
declares_again component level found d rows low fits =
    ap (λ (o : Option (Beginning × List Row)). o >>= λ b. process_behind component level b.0 b.1 b.0.start)
    (beginning_row level found (record {
      number = declaration_line d;
      level = level;
      terminals =
          written_declaration d;
    }) rows (Declares d) refl low (head_again (declaration_line d) (Declares d) fits))

mutual
  process_reads : (p : Process) (m level : ℕ) (found : List Declaration) (rest : List Row) → m + (level + 1) ≡ 65
      → FitsProcess p level → Stops level rest
      → (beginning_from level found (lines_of p level ++ rest) >>= λ b. process_behind (component_at m (level + 1))
      level b.0 b.1 b.0.start) ≡ Some (with_declarations found p, rest)
  process_reads (Declared d p) m level found rest e fits stops =
      declares_again (component_at m (level + 1)) level found d (lines_of p level ++ rest) fits.0 fits.1
      ∙ process_reads p m level (found ++ d ∷ []) rest e fits.2 stops
      ∙ ap (λ q. Some (q, rest)) (with_one_more found d p)
  process_reads (Does line c) m level found rest e fits stops =
      construct_reads c line m level found rest e fits.0 fits.1 stops

  construct_reads : (c : Construct) (line m level : ℕ) (found : List Declaration) (rest : List Row)
      → m + (level + 1) ≡ 65 → level ≤ 64 → FitsConstruct c level → Stops level rest
      → (beginning_from level found (lines_of_construct c line level ++ rest) >>= λ b. process_behind
      (component_at m (level + 1)) level b.0 b.1 b.0.start) ≡ Some (with_declarations found (Does line c), rest)
  construct_reads (Act a) line m level found rest e low fits stops =
      acts_again (component_at m (level + 1)) level found line a rest low fits
  construct_reads (Block kind cs) line m level found rest e low fits stops =
      opens_again (component_at m (level + 1)) level found line kind None (Block kind cs)
      (lines_of_components cs (level + 1) ++ rest) rest low tt
      (block_again kind (component_at m (level + 1) (part_of kind)) cs (level + 1) rest
      (stops (level + 1) (omega arith))
      (components_read cs m (level + 1) rest e fits (stops_deeper level rest stops)))
  construct_reads (Replicated r (One kind c)) line m level found rest e low fits stops =
      let rows = lines_of_component c (level + 1) ++ rest in
      opens_again (component_at m (level + 1)) level found line kind (Some r) (Replicated r (One kind c)) rows rest low
      fits.0
      (replicated_again kind r (component_at m (level + 1) (part_of kind) rows) c (level + 1) rest
      (stops (level + 1) (omega arith))
      (component_reads c m (level + 1) rest e fits.1 (stops_deeper level rest stops)))

  components_read : {part : Part} (cs : Components part) (m level : ℕ) (rest : List Row)
      → m + level ≡ 65 → FitComponents cs level → Stops level rest
      → ContinuesBlock (component_at m level part) level (lines_of_components cs level ++ rest) cs rest
  components_read {part} NoComponent m level rest e fits stops =
      block_begins (component_at m level part) level rest
  components_read {part} (Further cs c) m level rest e fits stops =
      let start = starts_component c level rest in
      let rows = lines_of_component c level ++ rest in
      let before = components_read cs m level rows e fits.0 start.stops in
      subst (λ us. ContinuesBlock (component_at m level part) level us (Further cs c) rest)
      (sym (append_assoc (lines_of_components cs level) (lines_of_component c level) rest))
      (block_goes_on (component_at m level part) level (lines_of_components cs level ++ rows) cs rows rest c
      start.here (component_reads c m level rest e fits.1 stops) start.some before)

  component_reads : {part : Part} (c : Component part) (m level : ℕ) (rest : List Row) → m + level ≡ 65
      → FitsComponent c level → Stops level rest
      → component_at m level part (lines_of_component c level ++ rest) ≡ Some (c, rest)
  component_reads (Plain p) m level rest e fits stops =
      let n = left m level e (fits_low p level fits) in
      ap (λ k. component_at k level Processes (lines_of p level ++ rest)) n.1
      ∙ plain_of n.0 level p (lines_of p level ++ rest) rest
      (process_one n.0 level p (lines_of p level ++ rest) rest (process_reads p n.0 level [] rest n.2 fits stops))
  component_reads (Chosen line x p) m level rest e fits stops =
      headed_again whole_at written Chosen m level line x p rest choice_is fits.0 (whole_line_again x fits.1)
      (below_again p m level rest e fits.0 fits.2
      (λ k l. process_reads p k (level + 1) [] rest l fits.2 (stops_deeper level rest stops)))
  component_reads (Guarded line g p) m level rest e fits stops =
      headed_again guard_at written_guard Guarded m level line g p rest branch_is fits.0 (guard_again g fits.1)
      (below_again p m level rest e fits.0 fits.2
      (λ k l. process_reads p k (level + 1) [] rest l fits.2 (stops_deeper level rest stops)))

pub process_again : (p : Process) (n level : ℕ) (rest : List Row) → n + level ≡ 65 → FitsProcess p level
    → Stops level rest → process_at n level (lines_of p level ++ rest) ≡ Some (p, rest)
process_again p n level rest e fits stops =
    let k = left n level e (fits_low p level fits) in
    ap (λ j. process_at j level (lines_of p level ++ rest)) k.1 ∙ process_one k.0 level p (lines_of p level ++ rest)
    rest (process_reads p k.0 level [] rest k.2 fits stops)
