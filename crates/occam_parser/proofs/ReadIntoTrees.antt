-- What the program reads and makes into trees, and a turn of its loop over components.
use Rattle.std.proofs.Common.{◌≡◌, ℕ, ◌+◌, ◌-◌, ◌<◌, ◌≤◌, Bool, true, cond, List, [], length}
use Rattle.std.proofs.Common.{Option, Some, None, Result, Ok, Err, refl, sym, ap, subst, ◌∙◌}
use Rattle.std.specs.Prelude.{IfOk}
use Rattle.std.specs.Borrow.{Bor}
use Rattle.occam_layout.specs.declared.token.Line.{Line}
use Rattle.occam_parser.specs.declared.fault.Refusal.{Refusal}
use Rattle.occam_parser.specs.declared.head.BlockKind.{BlockKind}
use Rattle.occam_parser.specs.declared.head.BlockKind.TheVariants as block
use Rattle.occam_parser.specs.declared.block.Components.{Components as CodeComponents}
use Rattle.occam_parser.specs.declared.tree.Body.{Body as CodeBody}
use Rattle.occam_parser.specs.LineFaults.{Lacks, Tells, Makes, IsOnlyOne}
use Rattle.occam_parser.specs.Blocks.{Row, rows_of, Body, One, part_of, Component, Components, NoComponent, Further}
use Rattle.occam_parser.specs.BlockReading.{begins_at, components_of, only_one, component_at, read_as, body_with}
use Rattle.occam_parser.specs.BlockReading.{block_with}
use Rattle.occam_parser.specs.BlockViews.{all_processes, all_choices, all_branches, body_of, components_in, HasOneMore}
use Rattle.occam_parser.specs.BlockViews.{Adds}
use Rattle.occam_parser.proofs.Answering.{passed_on, lacks_none}
use Rattle.occam_parser.proofs.Options.{at_some}
use Rattle.occam_parser.proofs.Turns.{ContinuesBlock, block_begins, block_goes_on, block_fails}
use Rattle.occam_parser.proofs.SeenBlocks.{rows_less}

-- ---- what was read, made into another tree

pub read_as_found : {A B : Type 0} (make : A → B) (read : Option (A × List Row)) (x : A) (rest : List Row) (y : B)
    → read ≡ Some (x, rest) → y ≡ make x → read_as make read ≡ Some (y, rest)
unfolding read_as
read_as_found make read x rest y e is = ap (read_as make) e ∙ ap (λ z. Some (z, rest)) (sym is)

pub made_tells : {A B X Y : Type 0} (seen : A → X) (view : B → Y) (make : X → Y)
    (read : Result (A × Bor (List Line)) Refusal) (answer : Result (B × Bor (List Line)) Refusal)
    (got : Option (X × List Row)) (whole : Option (Y × List Row)) → Makes seen view make read answer
    → Tells (λ x. (seen x.0, rows_of x.1.now)) read got → whole ≡ read_as make got
    → Tells (λ x. (view x.0, rows_of x.1.now)) answer whole
unfolding read_as
made_tells seen view make (Err e) (Err t) got whole made told is =
    let same : e ≡ t = cc made in
    subst (λ (u : Refusal). Lacks u whole) same (passed_on e got whole (λ none. is ∙ ap (read_as make) none) told)
made_tells seen view make (Err e) (Ok x) got whole made told is = absurd (cc made)
made_tells seen view make (Ok c) (Err t) got whole made told is = subst (λ (u : Refusal). Lacks u whole) (sym made) tt
made_tells seen view make (Ok c) (Ok x) got whole made told is =
    is
    ∙ ap (read_as make) told
    ∙ ap (λ p. Some (p, rows_of c.1.now)) (sym made.0)
    ∙ ap (λ (b : Bor (List Line)). Some (view x.0, rows_of b.now)) (sym made.1)

-- what holds of each number of lines below n, holds of the number of lines left
pub made_within : {A B X Y : Type 0} (seen : A → X) (view : B → Y) (make : X → Y) (n : ℕ) (Left : ℕ → Type 0)
    (read : Result (A × Bor (List Line)) Refusal) (answer : Result (B × Bor (List Line)) Refusal)
    → Makes seen view make read answer → IfOk read (λ x. length x.1.now < n) → ((k : ℕ) → k < n → Left k)
    → IfOk answer (λ x. Left (length x.1.now))
made_within seen view make n Left (Err e) (Err t) made within fewer = tt
made_within seen view make n Left (Err e) (Ok x) made within fewer = absurd (cc made)
made_within seen view make n Left (Ok c) (Err t) made within fewer = tt
made_within seen view make n Left (Ok c) (Ok x) made within fewer =
    subst (λ (b : Bor (List Line)). Left (length b.now)) (sym made.1) (fewer (length c.1.now) within)

-- ---- a turn of a loop over components

-- the components of a block at a level
abbrev pub Continues : BlockKind → ℕ → List Row → CodeComponents → List Line → Type 0
Continues kind level start found lines =
    ContinuesBlock (component_at (65 - level) level (part_of kind)) level start (components_in kind found)
    (rows_of lines)

-- where there are none, there are none of a kind
none_in : (kind : BlockKind) (found : CodeComponents) → found.processes.items ≡ [] → found.choices.items ≡ []
    → found.branches.items ≡ [] → components_in kind found ≡ NoComponent
none_in block.Seq found p c b = ap all_processes p
none_in block.Par found p c b = ap all_processes p
none_in block.If found p c b = ap all_choices c
none_in block.Alt found p c b = ap all_branches b

pub turn_begins : (kind : BlockKind) (level : ℕ) (lines rest : List Line) (found : CodeComponents)
    → found.processes.items ≡ [] → found.choices.items ≡ [] → found.branches.items ≡ [] → rest ≡ lines
    → Continues kind level (rows_of lines) found rest
turn_begins kind level lines rest found p c b same =
    let item = component_at (65 - level) level (part_of kind) in
    subst (λ us. ContinuesBlock item level (rows_of lines) (components_in kind found) (rows_of us)) (sym same)
    (subst (λ cs. ContinuesBlock item level (rows_of lines) cs (rows_of lines)) (sym (none_in kind found p c b))
    (block_begins item level (rows_of lines)))

-- a component of a kind that was read
found_of_kind : (kind : BlockKind) (got : Option (Component (part_of kind) × List Row)) (b : Body) (rest : List Row)
    → body_with kind got ≡ Some (b, rest)
    → (c : Component (part_of kind)) × (got ≡ Some (c, rest)) × (One kind c ≡ b)
unfolding read_as
found_of_kind kind None b rest e = absurd (cc)
found_of_kind kind (Some x) b rest e =
    at_some (λ (y : Body × List Row). (c : Component (part_of kind)) × (Some x ≡ Some (c, y.1)) × (One kind c ≡ y.0))
    (One kind x.0, x.1) (b, rest) e (x.0, refl, refl)

none_of_kind : (kind : BlockKind) (got : Option (Component (part_of kind) × List Row))
    → body_with kind got ≡ None → got ≡ None
unfolding read_as
none_of_kind kind None e = refl
none_of_kind kind (Some x) e = absurd (cc)

-- what was read, added, is one component more
added_one : (kind : BlockKind) (read : Result (CodeBody × Bor (List Line)) Refusal) (old new : CodeComponents)
    (rest : Bor (List Line)) (got : Option (Component (part_of kind) × List Row)) → Adds read old new (Ok rest)
    → Tells (λ x. (body_of x.0, rows_of x.1.now)) read (body_with kind got)
    → (c : Component (part_of kind)) × (components_in kind new ≡ Further (components_in kind old) c)
    × (got ≡ Some (c, rows_of rest.now))
added_one kind (Err e) old new rest got adds told = absurd (cc adds)
added_one kind (Ok x) old new rest got adds told =
    let one = found_of_kind kind got (body_of x.0) (rows_of x.1.now) told in (
      one.0,
      subst (λ (b : Body). HasOneMore b old new) (sym one.2) adds.0,
      one.1 ∙ ap (λ (us : List Line). Some (one.0, rows_of us)) (sym adds.1),
    )

pub turn_less : (read : Result (CodeBody × Bor (List Line)) Refusal) (old new : CodeComponents)
    (rest : Bor (List Line)) (n : ℕ) → Adds read old new (Ok rest) → IfOk read (λ x. length x.1.now < n)
    → length rest.now < n
turn_less (Err e) old new rest n adds within = absurd (cc adds)
turn_less (Ok x) old new rest n adds within = subst (λ (us : List Line). length us < n) (sym adds.1) within

pub turn_goes_on : (kind : BlockKind) (level : ℕ) (start : List Row) (lines : List Line) (behind : Bor (List Line))
    (old new : CodeComponents) (goes : Bool) (read : Result (CodeBody × Bor (List Line)) Refusal)
    → goes ≡ begins_at level (rows_of lines) → goes ≡ true → Adds read old new (Ok behind)
    → Tells (λ x. (body_of x.0, rows_of x.1.now)) read
    (body_with kind (component_at (65 - level) level (part_of kind) (rows_of lines)))
    → IfOk read (λ x. length x.1.now < length lines) → Continues kind level start old lines
    → Continues kind level start new behind.now
turn_goes_on kind level start lines behind old new goes read begins goes_on adds told within c =
    let item = component_at (65 - level) level (part_of kind) in
    let x = added_one kind read old new behind (item (rows_of lines)) adds told in
    let less = turn_less read old new behind (length lines) adds within in
    subst (λ (cs : Components (part_of kind)). ContinuesBlock item level start cs (rows_of behind.now)) (sym x.1)
    (block_goes_on item level start (components_in kind old) (rows_of lines) (rows_of behind.now) x.0
    (sym begins ∙ goes_on) x.2 (rows_less behind.now lines less) c)

added_lost : {Y : Type 0} (read : Result (CodeBody × Bor (List Line)) Refusal) (old new : CodeComponents)
    (t : Refusal) (view : CodeBody × Bor (List Line) → Y) (got : Option Y) → Adds read old new (Err t)
    → Tells view read got → Lacks t got
added_lost (Err e) old new t view got adds told =
    let same : e ≡ t = cc adds in subst (λ (u : Refusal). Lacks u got) same told
added_lost (Ok x) old new t view got adds told = subst (λ (u : Refusal). Lacks u got) (sym adds) tt

pub turn_fails : (kind : BlockKind) (level : ℕ) (start : List Row) (lines : List Line) (old new : CodeComponents)
    (goes : Bool) (read : Result (CodeBody × Bor (List Line)) Refusal) (t : Refusal)
    → goes ≡ begins_at level (rows_of lines) → goes ≡ true → Adds read old new (Err t)
    → Tells (λ x. (body_of x.0, rows_of x.1.now)) read
    (body_with kind (component_at (65 - level) level (part_of kind) (rows_of lines)))
    → Continues kind level start old lines
    → Lacks t (block_with kind (components_of (component_at (65 - level) level (part_of kind)) level start))
unfolding read_as
turn_fails kind level start lines old new goes read t begins goes_on adds told c =
    let item = component_at (65 - level) level (part_of kind) in
    let got = item (rows_of lines) in
    passed_on t (body_with kind got) _
    (λ none. ap (block_with kind) (block_fails item level start (components_in kind old) (rows_of lines)
    (sym begins ∙ goes_on) (none_of_kind kind got none) c))
    (added_lost read old new t (λ x. (body_of x.0, rows_of x.1.now)) (body_with kind got) adds told)

-- ---- one component alone

pub only_tells : {A Y : Type 0} (view : A → Y) (level : ℕ) (read answer : Result (A × Bor (List Line)) Refusal)
    (got : Option (Y × List Row)) → IsOnlyOne level read answer → Tells (λ x. (view x.0, rows_of x.1.now)) read got
    → Tells (λ x. (view x.0, rows_of x.1.now)) answer (only_one level got)
unfolding only_one
only_tells view level (Err e) (Err t) got only told =
    let same : e ≡ t = cc only in
    subst (λ (u : Refusal). Lacks u (only_one level got)) same
    (passed_on e got (only_one level got) (λ none. ap (only_one level) none) told)
only_tells view level (Err e) (Ok x) got only told = absurd (cc only)
only_tells {A} {Y} view level (Ok x) (Err t) got only told =
    lacks_none t (only_one level got)
    (ap (only_one level) told ∙ ap
    (λ b. cond {A = Option (Y × List Row)} b None (Some (view x.0, rows_of x.1.now))) only)
only_tells {A} {Y} view level (Ok x) (Ok y) got only told =
    ap (only_one level) told
    ∙ ap (λ b. cond {A = Option (Y × List Row)} b None (Some (view x.0, rows_of x.1.now))) only.2
    ∙ ap (λ z. Some (view z, rows_of x.1.now)) (sym only.0)
    ∙ ap (λ (us : List Line). Some (view y.0, rows_of us)) (sym only.1)

pub only_within : {A : Type 0} (level n : ℕ) (read answer : Result (A × Bor (List Line)) Refusal)
    → IsOnlyOne level read answer → IfOk read (λ x. length x.1.now < n) → IfOk answer (λ x. length x.1.now < n)
only_within level n (Err e) (Err t) only within = tt
only_within level n (Err e) (Ok x) only within = absurd (cc only)
only_within level n (Ok x) (Err t) only within = tt
only_within level n (Ok x) (Ok y) only within =
    subst (λ (us : List Line). length us < n) (sym only.1) within
