-- Processes by the levels that are left, as the program counts them.
use Rattle.std.proofs.Common.{◌≡◌, ℕ, zero, suc, ◌+◌, ◌-◌, ◌≤◌, List, [], Option, Some, None, refl, ap}
use Rattle.std.proofs.Common.{arith, ◌∙◌}
use Rattle.occam_parser.specs.declared.head.BlockKind.{BlockKind}
use Rattle.occam_parser.specs.Terminals.{Terminal}
use Rattle.occam_parser.specs.Reading.{◌>>=◌}
use Rattle.occam_parser.specs.Lines.{Replicator, Declaration, Action, Acts, Opens}
use Rattle.occam_parser.specs.LineReading.{whole_at, guard_at}
use Rattle.occam_parser.specs.LineFaults.{Lacks}
use Rattle.occam_parser.specs.Blocks.{Row, Process, Construct, Act, Part, Processes, Component, Plain, Chosen, Guarded}
use Rattle.occam_parser.specs.Blocks.{Body}
use Rattle.occam_parser.specs.BlockReading.{ReadsLines, Beginning, beginning_from, behind_declarations, read_as}
use Rattle.occam_parser.specs.BlockReading.{construct_behind, process_behind, process_with}
use Rattle.occam_parser.specs.BlockReading.{head_row, headed_with, plain, process_at, component_at}
use Rattle.occam_parser.specs.declared.fault.Refusal.{Refusal}
use Rattle.occam_parser.proofs.Answering.{passed_on}

one_more : (level : ℕ) → level ≤ 64 → 65 - level ≡ suc (65 - (level + 1))
one_more level low = omega arith

none_at : (n level : ℕ) (rows : List Row) → beginning_from level [] rows ≡ None → process_at n level rows ≡ None
unfolding process_at process_with
none_at zero level rows e = refl
none_at (suc n) level rows e = ap (λ (o : Option (Beginning × List Row)). o >>= λ b. process_behind
    (component_at n (level + 1)) level b.0 b.1 b.0.start) e

plain_at : (n level : ℕ) (rows : List Row) → component_at n level Processes rows ≡ plain (process_at n level rows)
unfolding component_at process_at
plain_at zero level rows = refl
plain_at (suc n) level rows = refl

pub process_none : (level : ℕ) (rows : List Row) → beginning_from level [] rows ≡ None
    → process_at (65 - level) level rows ≡ None
process_none level rows e = none_at (65 - level) level rows e

found_at : (n level : ℕ) (rows rest : List Row) (b : Beginning) → beginning_from level [] rows ≡ Some (b, rest)
    → process_at (suc n) level rows ≡ process_behind (component_at n (level + 1)) level b rest b.start
unfolding process_at process_with
found_at n level rows rest b e = ap (λ (o : Option (Beginning × List Row)). o >>= λ c. process_behind
    (component_at n (level + 1)) level c.0 c.1 c.0.start) e

pub process_is : (level : ℕ) (rows rest : List Row) (b : Beginning) → level ≤ 64
    → beginning_from level [] rows ≡ Some (b, rest)
    → process_at (65 - level) level rows ≡ process_behind (component_at (65 - (level + 1)) (level + 1)) level b rest
    b.start
process_is level rows rest b low e = ap (λ n. process_at n level rows) (one_more level low) ∙ found_at
    (65 - (level + 1)) level rows rest b e

-- a process that is an action
pub action_reads : (level : ℕ) (rows after : List Row) (ds : List Declaration) (line : ℕ) (a : Action) → level ≤ 64
    → beginning_from level [] rows ≡ Some (record { declarations = ds; line = line; start = Acts a }, after)
    → process_at (65 - level) level rows ≡ read_as (behind_declarations ds line) (Some (Act a, after))
unfolding read_as
action_reads level rows after ds line a low b =
    process_is level rows after (record { declarations = ds; line = line; start = Acts a }) low b

-- a process, from the construct that was read after its head
pub block_reads : (level : ℕ) (rows after : List Row) (ds : List Declaration) (line : ℕ) (kind : BlockKind)
    (r : Option Replicator) (read : Option (Construct × List Row)) → level ≤ 64
    → beginning_from level [] rows ≡ Some (record { declarations = ds; line = line; start = Opens kind r }, after)
    → construct_behind (component_at (65 - (level + 1)) (level + 1)) (level + 1) kind r after ≡ read
    → process_at (65 - level) level rows ≡ read_as (behind_declarations ds line) read
unfolding read_as
block_reads level rows after ds line kind r read low b e =
    process_is level rows after (record { declarations = ds; line = line; start = Opens kind r }) low b
    ∙ ap (read_as (behind_declarations ds line)) e

-- ---- components

-- what was read, made into another tree and that into a third
read_twice : {A B C : Type 0} (f : B → C) (g : A → B) (read : Option (A × List Row))
    → read_as f (read_as g read) ≡ read_as (λ x. f (g x)) read
unfolding read_as
read_twice f g None = refl
read_twice f g (Some x) = refl

-- a process at a level is a component
pub plain_leads : (make : Component Processes → Body) (level : ℕ) (rows : List Row)
    → read_as make (component_at (65 - level) level Processes rows)
    ≡ read_as (λ p. make (Plain p)) (process_at (65 - level) level rows)
unfolding read_as
plain_leads make level rows =
    ap (read_as make) (plain_at (65 - level) level rows) ∙ read_twice make Plain (process_at (65 - level) level rows)

-- ---- choices and branches

-- a component is made of what its line says
abbrev pub IsHeaded : {A : Type 0} → {part : Part} → (List Terminal → Option A) → (ℕ → A → Process → Component part)
    → Type 0
IsHeaded {A} {part} says make = (n level : ℕ)
    → component_at (suc n) level part ≡ headed_with says make (process_at n (level + 1)) level

pub choice_is : IsHeaded whole_at Chosen
unfolding component_at
choice_is n level = refl

pub branch_is : IsHeaded guard_at Guarded
unfolding component_at
branch_is n level = refl

headed_is : {A : Type 0} {part : Part} (says : List Terminal → Option A) (make : ℕ → A → Process → Component part)
    (p : ReadsLines Process) (level : ℕ) (rows : List Row) (h : Option ((ℕ × A) × List Row))
    → head_row says level rows ≡ h
    → headed_with says make p level rows
    ≡ (h >>= λ head. p head.1 >>= λ q. Some (make head.0.0 head.0.1 q.0, q.1))
unfolding headed_with
headed_is {A} says make p level rows h e = ap (λ (o : Option ((ℕ × A) × List Row)). o >>= λ head. p head.1 >>= λ q.
    Some (make head.0.0 head.0.1 q.0, q.1)) e

none_headed : {A : Type 0} {part : Part} (says : List Terminal → Option A) (make : ℕ → A → Process → Component part)
    (n level : ℕ) (rows : List Row) → IsHeaded says make → head_row says level rows ≡ None
    → component_at n level part rows ≡ None
unfolding component_at
none_headed {A} {part} says make zero level rows is e = refl
none_headed {A} {part} says make (suc n) level rows is e =
    ap (λ (item : ReadsLines (Component part)). item rows) (is n level)
    ∙ headed_is says make (process_at n (level + 1)) level rows None e

head_none : {A : Type 0} {part : Part} (says : List Terminal → Option A) (make : ℕ → A → Process → Component part)
    (level : ℕ) (rows : List Row) → IsHeaded says make → head_row says level rows ≡ None
    → component_at (65 - level) level part rows ≡ None
head_none says make level rows is e = none_headed says make (65 - level) level rows is e

-- a head that is not read
pub headed_lost : {A : Type 0} {part : Part} (says : List Terminal → Option A)
    (make : ℕ → A → Process → Component part) (over : Component part → Body) (level : ℕ) (rows : List Row) (t : Refusal)
    → IsHeaded says make → Lacks t (head_row says level rows)
    → Lacks t (read_as over (component_at (65 - level) level part rows))
unfolding read_as
headed_lost says make over level rows t is lost =
    passed_on t (head_row says level rows) _ (λ none. ap (read_as over) (head_none says make level rows is none)) lost

-- what is read below a head that was read
below_is : {A : Type 0} {part : Part} (says : List Terminal → Option A) (make : ℕ → A → Process → Component part)
    (level : ℕ) (rows : List Row) (head : (ℕ × A) × List Row)
    (p : Option (Process × List Row)) → IsHeaded says make → level ≤ 64
    → head_row says level rows ≡ Some head → process_at (65 - (level + 1)) (level + 1) head.1 ≡ p
    → component_at (65 - level) level part rows ≡ (p >>= λ q. Some (make head.0.0 head.0.1 q.0, q.1))
below_is {A} {part} says make level rows head p is low e below =
    ap (λ n. component_at n level part rows) (one_more level low)
    ∙ ap (λ (item : ReadsLines (Component part)). item rows) (is (65 - (level + 1)) level)
    ∙ headed_is says make (process_at (65 - (level + 1)) (level + 1)) level rows (Some head) e
    ∙ ap (λ (o : Option (Process × List Row)). o >>= λ q. Some (make head.0.0 head.0.1 q.0, q.1)) below

pub headed_leads : {A : Type 0} {part : Part} (says : List Terminal → Option A)
    (make : ℕ → A → Process → Component part) (over : Component part → Body) (level : ℕ) (rows after : List Row)
    (line : ℕ) (saying : A) → IsHeaded says make → level ≤ 64
    → head_row says level rows ≡ Some ((line, saying), after)
    → read_as over (component_at (65 - level) level part rows)
    ≡ read_as (λ p. over (make line saying p)) (process_at (65 - (level + 1)) (level + 1) after)
unfolding read_as
headed_leads says make over level rows after line saying is low e =
    let below = process_at (65 - (level + 1)) (level + 1) after in
    ap (read_as over) (below_is says make level rows ((line, saying), after) below is low e refl)
    ∙ read_twice over (make line saying) below
