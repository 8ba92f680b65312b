-- What is read of lines is written so, and fits.
use Rattle.std.proofs.Common.{◌≡◌, ℕ, zero, suc, ◌+◌, ◌≤◌, Bool, true, false, cond, List, [], ◌∷◌, ◌++◌, length}
use Rattle.std.proofs.Common.{Option, Some, None, refl, sym, ap, subst, append_assoc}
use Rattle.std.proofs.Common.{append-nil, ◌∙◌}
use Rattle.std.specs.List.{AllByRecursion}
use Rattle.occam_parser.specs.declared.head.BlockKind.{BlockKind}
use Rattle.occam_parser.specs.Terminals.{Terminal}
use Rattle.occam_parser.specs.Expressions.{written}
use Rattle.occam_parser.specs.Reading.{◌>>=◌}
use Rattle.occam_parser.specs.Lines.{Declaration, Replicator, Head, Declares, Acts, Opens}
use Rattle.occam_parser.specs.Lines.{written_declaration, written_head}
use Rattle.occam_parser.specs.Lines.{written_guard, IsWhole, FitsGuard, FitsDeclaration, FitsHead}
use Rattle.occam_parser.specs.Lines.{Constants, Variables, Channels}
use Rattle.occam_parser.specs.LineReading.{head_at, whole_at, guard_at}
use Rattle.occam_parser.specs.Blocks.{Row, Process, Does, Construct, Act, Block, Replicated, Body, One, Part}
use Rattle.occam_parser.specs.Blocks.{Processes, Choices, Branches, part_of, Components, NoComponent, Further}
use Rattle.occam_parser.specs.Blocks.{Component, Plain, Chosen, Guarded, declaration_line, block_row, lines_of}
use Rattle.occam_parser.specs.Blocks.{lines_of_construct, lines_of_components, lines_of_component}
use Rattle.occam_parser.specs.Blocks.{FitsProcess, FitsConstruct, FitComponents, FitsComponent}
use Rattle.occam_parser.specs.BlockReading.{ReadsLines, is_at, first_row, begins_at, Beginning, begun}
use Rattle.occam_parser.specs.BlockReading.{beginning_from, with_declarations, component_step, components_from}
use Rattle.occam_parser.specs.BlockReading.{components_of, only_one, read_as, body_with}
use Rattle.occam_parser.specs.BlockReading.{construct_behind, process_behind, process_with, head_row, headed_with}
use Rattle.occam_parser.specs.BlockReading.{plain, component_with, process_at, component_at}
use Rattle.occam_parser.proofs.Options.{bind_some, at_some, not_chosen}
use Rattle.occam_parser.proofs.LineSound.{head_sound, whole_sound, guard_sound}
use Rattle.occam_parser.proofs.Turns.{at_is, first_row_is}

pub row_eq : (r : Row) (level : ℕ) (ts : List Terminal) → r.level ≡ level → r.terminals ≡ ts
    → r ≡ record { number = r.number; level = level; terminals = ts }
row_eq r level ts e f = ap (λ (l : ℕ). record { number = r.number; level = l; terminals = r.terminals }) e ∙ ap
    (λ (us : List Terminal). record { number = r.number; level = level; terminals = us }) f

-- ---- declarations

abbrev pub declared_rows : ℕ → List Declaration → List Row
declared_rows level [] = []
declared_rows level (d ∷ ds) = record {
  number = declaration_line d;
  level = level;
  terminals =
      written_declaration d;
} ∷ declared_rows level ds

abbrev pub AllDeclared : List Declaration → Type 0
AllDeclared = AllByRecursion (λ d. FitsDeclaration (declaration_line d) d)

pub with_written : (ds : List Declaration) (p : Process) (level : ℕ)
    → lines_of (with_declarations ds p) level ≡ declared_rows level ds ++ lines_of p level
with_written [] p level = refl
with_written (d ∷ ds) p level = ap (λ rows. record
    { number = declaration_line d; level = level; terminals = written_declaration d } ∷ rows)
    (with_written ds p level)

pub with_fits : (ds : List Declaration) (p : Process) (level : ℕ) → level ≤ 64 → AllDeclared ds → FitsProcess p level
    → FitsProcess (with_declarations ds p) level
with_fits [] p level low all fits = fits
with_fits (d ∷ ds) p level low all fits = (low, all.0, with_fits ds p level low all.1 fits)

declared_at : (line : ℕ) (d : Declaration) → FitsDeclaration line d
    → (line ≡ declaration_line d) × FitsDeclaration (declaration_line d) d
declared_at line (Constants c) h = (sym h.0, (refl, h.1))
declared_at line (Variables n) h = (sym h.0, (refl, h.1))
declared_at line (Channels n) h = (sym h.0, (refl, h.1))

-- what a beginning was read from
pub record Begins (level : ℕ) (found : List Declaration) (rows : List Row) (x : Beginning × List Row) : Type 0 where
  pub declared : List Declaration
  pub all : x.0.declarations ≡ found ++ declared
  pub whole : rows ≡ declared_rows level declared ++ record
      { number = x.0.line; level = level; terminals = written_head x.0.start } ∷ x.1
  pub fits : AllDeclared declared
  pub start : FitsHead x.0.line x.0.start
  pub low : level ≤ 64

begins_here : (level : ℕ) (found : List Declaration) (r : Row) (rows : List Row) (h : Head)
    (x : Beginning × List Row) → is_at level r ≡ true → head_at r.number r.terminals ≡ Some h
    → Some (record { declarations = found; line = r.number; start = h }, rows) ≡ Some x
    → Begins level found (r ∷ rows) x
begins_here level found r rows h x a e s =
    let at = at_is level r a in
    let sound = head_sound r.number r.terminals h e in
    let made : Begins level found (r ∷ rows) (record { declarations = found; line = r.number; start = h }, rows) =
    record {
      declared = [];
      all = sym (append-nil found);
      whole = ap (λ q. q ∷ rows) (row_eq r level (written_head h) at.0 sound.0);
      fits = tt;
      start = sound.1;
      low = at.1;
    } in
    at_some (Begins level found (r ∷ rows)) (record { declarations = found; line = r.number; start = h }, rows) x s made

begins_later : (level : ℕ) (found : List Declaration) (r : Row) (rows : List Row) (d : Declaration)
    (x : Beginning × List Row) → is_at level r ≡ true → head_at r.number r.terminals ≡ Some (Declares d)
    → Begins level (found ++ d ∷ []) rows x → Begins level found (r ∷ rows) x
begins_later level found r rows d x a e b =
    let at = at_is level r a in
    let sound = head_sound r.number r.terminals (Declares d) e in
    let line = declared_at r.number d sound.1 in
    let first = row_eq r level (written_declaration d) at.0 sound.0 ∙ ap
    (λ (n : ℕ). record { number = n; level = level; terminals = written_declaration d }) line.0 in
    record {
      declared = d ∷ b.declared;
      all = b.all ∙ append_assoc found (d ∷ []) b.declared;
      whole = ap (λ q. q ∷ rows) first ∙ ap (λ qs. record
          { number = declaration_line d; level = level; terminals = written_declaration d } ∷ qs) b.whole;
      fits = (line.1, b.fits);
      start = b.start;
      low = b.low;
    }

begun_sound : (level : ℕ) (found : List Declaration) (r : Row) (rows : List Row)
    (more : List Declaration → Option (Beginning × List Row))
    → ((ds : List Declaration) (y : Beginning × List Row) → more ds ≡ Some y → Begins level ds rows y)
    → (o : Option Head) (x : Beginning × List Row) → is_at level r ≡ true → head_at r.number r.terminals ≡ o
    → begun found r.number rows more o ≡ Some x
    → Begins level found (r ∷ rows) x
begun_sound level found r rows more m None x a h e = absurd (cc)
begun_sound level found r rows more m (Some (Declares d)) x a h e =
    begins_later level found r rows d x a h (m (found ++ d ∷ []) x e)
begun_sound level found r rows more m (Some (Acts act)) x a h e = begins_here level found r rows (Acts act) x a h e
begun_sound level found r rows more m (Some (Opens kind replicator)) x a h e =
    begins_here level found r rows (Opens kind replicator) x a h e

begins_if : (b : Bool) (level : ℕ) (found : List Declaration) (r : Row) (rows : List Row)
    (more : List Declaration → Option (Beginning × List Row))
    → ((ds : List Declaration) (y : Beginning × List Row) → more ds ≡ Some y → Begins level ds rows y)
    → (x : Beginning × List Row) → is_at level r ≡ b
    → cond b (begun found r.number rows more (head_at r.number r.terminals)) None ≡ Some x
    → Begins level found (r ∷ rows) x
begins_if true level found r rows more m x a e =
    begun_sound level found r rows more m (head_at r.number r.terminals) x a refl e
begins_if false level found r rows more m x a e = absurd (cc)

pub beginning_sound : (level : ℕ) (rows : List Row) (found : List Declaration) (x : Beginning × List Row)
    → beginning_from level found rows ≡ Some x → Begins level found rows x
unfolding beginning_from
beginning_sound level [] found x e = absurd (cc)
beginning_sound level (r ∷ rows) found x e = begins_if (is_at level r) level found r rows
    (λ more. beginning_from level more rows) (λ ds y. beginning_sound level rows ds y) x refl e

-- ---- components

abbrev pub SoundComponent : {part : Part} → ℕ → ReadsLines (Component part) → Type 0
SoundComponent {part} level item =
    (rows : List Row) (x : Component part) (rest : List Row) → item rows ≡ Some (x, rest)
    → (rows ≡ lines_of_component x level ++ rest) × FitsComponent x level

-- what the components of a block were read from
abbrev pub AreRead : {part : Part} → ℕ → List Row → Components part × List Row → Type 0
AreRead level whole x = (whole ≡ lines_of_components x.0 level ++ x.1) × FitComponents x.0 level

step_sound : {part : Part} (level : ℕ) (more : Option (Components part × List Row)) (found : Components part)
    (rows : List Row) (b : Bool) (x : Components part × List Row) → FitComponents found level
    → ((x : Components part × List Row) → more ≡ Some x → AreRead level (lines_of_components found level ++ rows) x)
    → component_step more found rows b ≡ Some x → AreRead level (lines_of_components found level ++ rows) x
step_sound level more found rows true x f m e = m x e
step_sound level more found rows false x f m e =
    at_some (AreRead level (lines_of_components found level ++ rows)) (found, rows) x e (refl, f)

components_sound : {part : Part} (item : ReadsLines (Component part)) (level : ℕ) → SoundComponent level item → (n : ℕ)
    (found : Components part) (rows : List Row) (x : Components part × List Row) → FitComponents found level
    → components_from item level n found rows ≡ Some x → AreRead level (lines_of_components found level ++ rows) x
unfolding components_from
components_sound item level s zero found rows x f e =
    step_sound level None found rows (begins_at level rows) x f (λ y h. absurd (cc)) e
components_sound item level s (suc n) found rows x f e =
    step_sound level (item rows >>= λ y. components_from item level n (Further found y.0) y.1) found rows
    (begins_at level rows) x f
    (λ y h.
    let c = bind_some (item rows) _ y h in
    let is = s rows c.0.0 c.0.1 c.1 in
    let rest = components_sound item level s n (Further found c.0.0) c.0.1 y (f, is.1) c.2 in
    let whole = ap (λ us. lines_of_components found level ++ us) is.0 ∙ sym
    (append_assoc (lines_of_components found level) (lines_of_component c.0.0 level) c.0.1) in
    (whole ∙ rest.0, rest.1))
    e

block_read : {part : Part} (item : ReadsLines (Component part)) (level : ℕ) (rows : List Row)
    (x : Components part × List Row) → SoundComponent level item → components_of item level rows ≡ Some x
    → AreRead level rows x
unfolding components_of
block_read item level rows x s e = components_sound item level s (length rows) NoComponent rows x tt e

only_one_is : {A : Type 0} (level : ℕ) (read : Option (A × List Row)) (x : A × List Row)
    → only_one level read ≡ Some x → read ≡ Some x
unfolding only_one
only_one_is level read x e =
    let y = bind_some read _ x e in
    y.1 ∙ ap Some (not_chosen (begins_at level y.0.1) y.0 x y.2).1

-- ---- processes

abbrev pub SoundProcess : ℕ → ReadsLines Process → Type 0
SoundProcess level p = (rows : List Row) (x : Process) (rest : List Row) → p rows ≡ Some (x, rest)
    → (rows ≡ lines_of x level ++ rest) × FitsProcess x level

abbrev pub IsProcessOf : ℕ → List Row → Process × List Row → Type 0
IsProcessOf level rows x = (rows ≡ lines_of x.0 level ++ x.1) × FitsProcess x.0 level

joined : (ds : List Declaration) (p : Process) (level : ℕ) (rest : List Row)
    → declared_rows level ds ++ (lines_of p level ++ rest) ≡ lines_of (with_declarations ds p) level ++ rest
joined ds p level rest = sym (append_assoc (declared_rows level ds) (lines_of p level) rest) ∙ ap (λ us. us ++ rest)
    (sym (with_written ds p level))

-- what was read after the head of a block
abbrev pub IsConstruct : BlockKind → Option Replicator → ℕ → ℕ → List Row → Construct × List Row → Type 0
IsConstruct kind r line level after x =
    (block_row line level kind r ∷ after ≡ lines_of_construct x.0 line level ++ x.1)
    × (FitsHead line (Opens kind r) → FitsConstruct x.0 level)

construct_sound : (component : (part : Part) → ReadsLines (Component part)) (level line : ℕ)
    → ((part : Part) → SoundComponent (level + 1) (component part)) → (kind : BlockKind) (r : Option Replicator)
    (after : List Row) (x : Construct × List Row) → construct_behind component (level + 1) kind r after ≡ Some x
    → IsConstruct kind r line level after x
unfolding read_as
construct_sound component level line s kind None after x e =
    let y = bind_some (components_of (component (part_of kind)) (level + 1) after) _ x e in
    let read = block_read (component (part_of kind)) (level + 1) after y.0 (s (part_of kind)) y.1 in
    at_some (IsConstruct kind None line level after) (Block kind y.0.0, y.0.1) x y.2
    (ap (λ us. block_row line level kind None ∷ us) read.0, λ fits. read.1)
construct_sound component level line s kind (Some r) after x e =
    let y = bind_some (only_one (level + 1) (body_with kind (component (part_of kind) after))) _ x e in
    let is = only_one_is (level + 1) (body_with kind (component (part_of kind) after)) y.0 y.1 in
    let z = bind_some (component (part_of kind) after) _ y.0 is in
    let read = s (part_of kind) after z.0.0 z.0.1 z.1 in
    let made = ap (λ (o : Option (Body × List Row)). o >>= λ w. Some (Replicated r w.0, w.1)) z.2 ∙ y.2 in
    at_some (IsConstruct kind (Some r) line level after) (Replicated r (One kind z.0.0), z.0.1) x made
    (ap (λ us. block_row line level kind (Some r) ∷ us) read.0, λ fits. (fits, read.1))

behind_sound : (component : (part : Part) → ReadsLines (Component part)) (level : ℕ)
    → ((part : Part) → SoundComponent (level + 1) (component part))
    → (ds : List Declaration) (line : ℕ) (h : Head) (after rows : List Row) (x : Process × List Row)
    → level ≤ 64 → AllDeclared ds → FitsHead line h
    → rows ≡ declared_rows level ds ++ record { number = line; level = level; terminals = written_head h } ∷ after
    → process_behind component level (record { declarations = ds; line = line; start = h }) after h ≡ Some x
    → IsProcessOf level rows x
behind_sound component level s ds line (Acts a) after rows x low all fits whole e =
    at_some (IsProcessOf level rows) (with_declarations ds (Does line (Act a)), after) x e (
      whole ∙ joined ds (Does line (Act a)) level after,
      with_fits ds (Does line (Act a)) level low all
          (low, fits),
    )
behind_sound component level s ds line (Opens kind replicator) after rows x low all fits whole e =
    let c = bind_some (construct_behind component (level + 1) kind replicator after) _ x e in
    let read = construct_sound component level line s kind replicator after c.0 c.1 in
    let body = ap (λ us. declared_rows level ds ++ us) read.0 in
    at_some (IsProcessOf level rows) (with_declarations ds (Does line c.0.0), c.0.1) x c.2 (
      whole ∙ body ∙ joined ds (Does line c.0.0) level c.0.1,
      with_fits ds (Does line c.0.0) level low all
          (low, read.1 fits),
    )
behind_sound component level s ds line (Declares d) after rows x low all fits whole e = absurd (cc)

process_with_sound : (component : (part : Part) → ReadsLines (Component part)) (level : ℕ)
    → ((part : Part) → SoundComponent (level + 1) (component part))
    → SoundProcess level (process_with component level)
unfolding process_with
process_with_sound component level s rows x rest e =
    let b = bind_some (beginning_from level [] rows) _ (x, rest) e in
    let begins = beginning_sound level rows [] b.0 b.1 in
    let same : b.0.0.declarations ≡ begins.declared = begins.all in
    let fits : AllDeclared b.0.0.declarations = subst AllDeclared (sym same) begins.fits in
    let whole = begins.whole ∙ ap (λ ds. declared_rows level ds ++ record
    { number = b.0.0.line; level = level; terminals = written_head b.0.0.start } ∷ b.0.1) (sym same) in
    behind_sound component level s b.0.0.declarations b.0.0.line b.0.0.start b.0.1 rows (x, rest) begins.low fits
    begins.start whole b.2

-- a line that says something is written as it says
head_row_sound : {A : Type 0} (says : List Terminal → Option A) (write : A → List Terminal) (fits : A → Type 0)
    → ((ts : List Terminal) (head : A) → says ts ≡ Some head → (ts ≡ write head) × fits head)
    → (level : ℕ) (rows : List Row) (x : (ℕ × A) × List Row) → head_row says level rows ≡ Some x
    → (rows ≡ record { number = x.0.0; level = level; terminals = write x.0.1 } ∷ x.1) × (level ≤ 64) × fits x.0.1
unfolding head_row
head_row_sound {A} says write fits said level rows x e =
    let r = bind_some (first_row level rows) _ x e in
    let c = bind_some (says r.0.0.terminals) _ x r.2 in
    let first = first_row_is level rows r.0.0 r.0.1 r.1 in
    let at = at_is level r.0.0 first.1 in
    let w = said r.0.0.terminals c.0 c.1 in
    let row = row_eq r.0.0 level (write c.0) at.0 w.0 in
    at_some (λ (z : (ℕ × A) × List Row). (rows ≡ record
    { number = z.0.0; level = level; terminals = write z.0.1 } ∷ z.1) × (level ≤ 64) × fits z.0.1)
    ((r.0.0.number, c.0), r.0.1) x c.2 (first.0 ∙ ap (λ q. q ∷ r.0.1) row, at.1, w.1)

-- a component that is made of a head and a process is written as the head's line, and below it the process
abbrev pub IsMadeOf : {A : Type 0} → {part : Part} → (A → List Terminal) → (A → Type 0)
    → (ℕ → A → Process → Component part) → ℕ → Type 0
IsMadeOf {A} write fits make level = (line : ℕ) (head : A) (p : Process) → level ≤ 64 → fits head
    → FitsProcess p (level + 1)
    → (lines_of_component (make line head p) level
    ≡ record { number = line; level = level; terminals = write head } ∷ lines_of p (level + 1))
    × FitsComponent (make line head p) level

headed_sound : {A : Type 0} {part : Part} (says : List Terminal → Option A) (write : A → List Terminal)
    (fits : A → Type 0) (make : ℕ → A → Process → Component part) (p : ReadsLines Process) (level : ℕ)
    → ((ts : List Terminal) (head : A) → says ts ≡ Some head → (ts ≡ write head) × fits head)
    → IsMadeOf write fits make level → SoundProcess (level + 1) p
    → SoundComponent level (headed_with says make p level)
unfolding headed_with
headed_sound {A} {part} says write fits make p level said made s rows x rest e =
    let h = bind_some (head_row says level rows) _ (x, rest) e in
    let y = bind_some (p h.0.1) _ (x, rest) h.2 in
    let f = head_row_sound says write fits said level rows h.0 h.1 in
    let q = s h.0.1 y.0.0 y.0.1 y.1 in
    let m = made h.0.0.0 h.0.0.1 y.0.0 f.1 f.2 q.1 in
    let row : Row = record { number = h.0.0.0; level = level; terminals = write h.0.0.1 } in
    let whole = f.0 ∙ ap (λ us. row ∷ us) q.0 ∙ ap (λ us. us ++ y.0.1) (sym m.0) in
    at_some (λ (z : Component part × List Row). (rows ≡ lines_of_component z.0 level ++ z.1)
    × FitsComponent z.0 level) (make h.0.0.0 h.0.0.1 y.0.0, y.0.1) (x, rest) y.2 (whole, m.1)

choice_made : (level : ℕ) → IsMadeOf written IsWhole Chosen level
choice_made level line e p low fits below = (refl, (low, fits, below))

branch_made : (level : ℕ) → IsMadeOf written_guard FitsGuard Guarded level
branch_made level line g p low fits below = (refl, (low, fits, below))

plain_sound : (level : ℕ) (p : ReadsLines Process) → SoundProcess level p
    → SoundComponent level (λ rows. plain (p rows))
plain_sound level p s rows x rest e =
    let y = bind_some (p rows) _ (x, rest) e in
    at_some (λ (z : Component Processes × List Row). (rows ≡ lines_of_component z.0 level ++ z.1)
    × FitsComponent z.0 level) (Plain y.0.0, y.0.1) (x, rest) y.2 (s rows y.0.0 y.0.1 y.1)

component_with_sound : (p q : ReadsLines Process) (level : ℕ) → SoundProcess level p → SoundProcess (level + 1) q
    → (part : Part) → SoundComponent level (component_with p q level part)
component_with_sound p q level s t Processes = plain_sound level p s
component_with_sound p q level s t Choices =
    headed_sound whole_at written IsWhole Chosen q level whole_sound (choice_made level) t
component_with_sound p q level s t Branches =
    headed_sound guard_at written_guard FitsGuard Guarded q level guard_sound (branch_made level) t

mutual
  unfolding process_at component_at

  pub process_sound : (n level : ℕ) → SoundProcess level (process_at n level)
  process_sound zero level rows x rest e = absurd (cc)
  process_sound (suc n) level rows x rest e =
      process_with_sound (component_at n (level + 1)) level (component_sound n (level + 1)) rows x rest e

  component_sound : (n level : ℕ) (part : Part) → SoundComponent level (component_at n level part)
  component_sound zero level part rows x rest e = absurd (cc)
  component_sound (suc n) level part rows x rest e =
      component_with_sound (process_with (component_at n (level + 1)) level) (process_at n (level + 1)) level
      (process_with_sound (component_at n (level + 1)) level (component_sound n (level + 1)))
      (process_sound n (level + 1)) part rows x rest e
