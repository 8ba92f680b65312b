-- In a module of pieces without PARs the root has all words, and tables are rows.
use Rattle.std.proofs.Common.{◌≡◌, ℕ, ◌+◌, ◌≤◌, ◌==◌, ◌&&◌, ◌||◌, ℤ, pos, Bool, true, false, cond, List, []}
use Rattle.std.proofs.Common.{◌∷◌, Option, Some, None, refl, ap, ◌∙◌, arith, get_or}
use Rattle.std.specs.Prelude.{◌≤ℤ◌, ◌<ℤ◌, neg_ℤ, int_lt, is_some, map, nat_lt, option_map, slice_get, Ok, Result}
use Rattle.std.specs.List.{cons_option, find, list_any}
use Rattle.std.proofs.lemmas.Bool.{lt-ltb, ne_eqb}
use Rattle.std.proofs.lemmas.Int.{ints}
use Rattle.module_format.specs.declared.rows.Direction.TheVariants.{In, Out}
use Rattle.module_format.specs.declared.rows.EndKind.TheVariants.{Link}
use Rattle.module_format.specs.declared.rows.EndRow.{EndRow}
use Rattle.module_format.specs.declared.contexts.Context.{Context}
use Rattle.module_format.specs.Contents as contents
use Rattle.module_format.specs.Contents.{Contents, Label, Procedure, label_at}
use Rattle.module_format.specs.Contexts.{branch_count, context_at, first_branch, own_context, owner, root_context}
use Rattle.module_format.specs.Facts.{LabelKeeps, behind_label}
use Rattle.module_format.specs.Order.{InOrder}
use Rattle.module_format.specs.Pars.{entries_of_rows}
use Rattle.module_builder.specs.Layouts.{places}
use Rattle.module_builder.specs.Ordering.{rows_in}
use Rattle.certificate.specs.Rights.{gives_link, has_end, has_word}
use Rattle.states.specs.declared.rule.Rule.{Rule}
use Rattle.states.specs.State.{State, label_state, root_state}
use Rattle.states.specs.Below.{below}
use Rattle.small_laws.proofs.Comparisons.{le-int_le, lt-int_lt}
use Rattle.code_pieces.specs.declared.modules.TheConstants.{BASE}
use Rattle.code_pieces.specs.Pars as pars
use Rattle.code_pieces.specs.Pieces.{Piece}
use Rattle.code_pieces.specs.DraftedPars.{laid_par}
use Rattle.code_pieces.specs.LaidModule.{Arrangement, Says, context_number, laid_module}
use Rattle.code_pieces.specs.Laying.{draft_code, pars_of, words_taken}
use Rattle.placed_code.specs.OneProcess.{RootHasItsLinks, RootHasItsWords, TablesAreRows, WalkBegins}

-- ---- no PARs

none_in : (order : List (ℕ × ℕ)) (all : List pars.Par) → all ≡ [] → rows_in order all ≡ []
none_in [] all none = refl
none_in (pair ∷ order) all none =
    ap (λ (rows : List pars.Par). cons_option (slice_get rows pair.1) (rows_in order all)) none ∙ none_in order all none

-- the module of pieces without PARs has none
pub no_pars_laid : (ps : List Piece) (labels : ℕ) (links : List ℕ) (a : Arrangement) → pars_of ps ≡ []
    → (laid_module ps labels links a).pars ≡ []
no_pars_laid ps labels links a none =
    ap (λ (rows : List pars.Par). map (laid_par (context_number (pars_of ps) a.pars)
    (places (draft_code ps labels) a.lengths)) rows) (none_in a.pars (pars_of ps) none)

-- where there are none, the context with number 0 is the root
pub root_at : (c : Contents) → c.pars ≡ [] → context_at c 0 ≡ Some (root_context c)
unfolding context_at
root_at c none =
    ap (λ (rows : List contents.Par). cond (nat_lt 0 (first_branch c + branch_count rows))
    (own_context c (owner (first_branch c) rows 0)) None) none
    ∙ ap (λ (b : Bool). cond b (own_context c 0) None) (lt-ltb 0 (first_branch c + 0) (omega arith))

-- ---- the root

has_its_word : (ps : List Piece) (labels : ℕ) (links : List ℕ) (a : Arrangement) → pars_of ps ≡ [] → (k : ℤ)
    → neg_ℤ (pos BASE) ≤ℤ k → k <ℤ pos (words_taken ps)
    → has_word (context_at (laid_module ps labels links a) 0) k ≡ true
has_its_word ps labels links a none k low high =
    let m = laid_module ps labels links a in
    let root = root_context m in
    ap (λ (o : Option Context). has_word o k) (root_at m (no_pars_laid ps labels links a none))
    ∙ ap (λ (b : Bool). b && int_lt k root.hi) (le-int_le root.lo k low)
    ∙ lt-int_lt k root.hi (omega (arith, ints, high))

pub root_has_its_words : RootHasItsWords
root_has_its_words ps labels links a none k low high =
    let has = has_its_word ps labels links a none k low high in
    (ap (λ (b : Bool). b && true) has, ap (λ (b : Bool). b && true) has)

link_there : (ps : List Piece) (labels : ℕ) (links : List ℕ) (a : Arrangement) → pars_of ps ≡ [] → (e : EndRow)
    → gives_link links e.kind e.direction ≡ true
    → has_end (laid_module ps labels links a) 0 e ≡ true
link_there ps labels links a none e gives =
    let m = laid_module ps labels links a in
    ap (λ (o : Option Context). is_some o && gives_link links e.kind e.direction)
    (root_at m (no_pars_laid ps labels links a none)) ∙ gives

pub root_has_its_links : RootHasItsLinks
root_has_its_links = record {
  out = λ ps labels links a none link less some.
      link_there ps labels links a none (record { kind = Link link; direction = Out })
      (ap (λ (b : Bool). b && nat_lt 0 (get_or links link 0)) (lt-ltb link 4 less)
      ∙ lt-ltb 0 (get_or links link 0) some);
  into = λ ps labels links a none link more some.
      link_there ps labels links a none (record { kind = Link link; direction = In })
      (ap (λ (b : Bool). b && nat_lt 0 (get_or links link 0)) (lt-ltb 3 link more)
      ∙ lt-ltb 0 (get_or links link 0) some);
}

-- ---- the walk

only_row : (o : Option Label) → (is_some o || false || false || false) ≡ is_some o
only_row None = refl
only_row (Some t) = refl

states_are : (o : Option Label)
    → elim o [ None ↦ None | Some t ↦ Some (label_state t) ] ≡ option_map label_state o
states_are None = refl
states_are (Some t) = refl

pub tables_are_rows : TablesAreRows
tables_are_rows = record {
  starts = λ ps labels links a none at.
      let m = laid_module ps labels links a in
      ap (λ (rows : List contents.Par). is_some (label_at m at) || false
      || list_any (λ (entry : ℕ). entry == at) (entries_of_rows rows)
      || list_any (λ (row : contents.Par). row.successor == at) rows) (no_pars_laid ps labels links a none)
      ∙ only_row (label_at m at);
  states = λ ps labels links a at. states_are (label_at (laid_module ps labels links a) at);
}

-- rows that rise from an offset on are not there
none_yet : (code_len : ℕ) (procedures : List Procedure) (low at : ℕ) (rows : List Label) → at ≤ low
    → InOrder (LabelKeeps code_len procedures) behind_label low rows
    → find (λ (r : Label). r.offset == at) rows ≡ None
none_yet code_len procedures low at [] under order = refl
none_yet code_len procedures low at (row ∷ rows) under order =
    let rises = order.0.offset.rises in
    ap (λ (b : Bool). cond b (Some row) (find (λ (r : Label). r.offset == at) rows))
    (ne_eqb row.offset at (λ same. omega (arith, same, rises, under)))
    ∙ none_yet code_len procedures row.offset at rows (omega (arith, rises, under)) order.1

no_row_first : (ps : List Piece) (labels : ℕ) (links bytes : List ℕ) (says : Says ps labels links bytes)
    → label_at (laid_module ps labels links says.arrangement) 0 ≡ None
no_row_first ps labels links bytes says =
    let m = laid_module ps labels links says.arrangement in
    none_yet _ m.procedures 0 0 m.labels (omega arith) says.format.keeps.rows.labels

-- where no row is, the state that falls in is that of the walk, and it costs nothing
state_by : (o : Option Label) (s : State) → o ≡ None
    → (elim (elim o as (λ x. Option State) [ None ↦ None | Some t ↦ Some (label_state t) ]) as (λ x. Option State) [
      | None ↦ Some s
      | Some u ↦ Some u
    ]) ≡ Some s
state_by None s is = refl
state_by (Some t) s is = absurd (cc)

cost_by : (o : Option Label) (s : State) → o ≡ None
    → (elim o as (λ x. Result ℕ Rule) [ None ↦ Ok 0 | Some t ↦ below s t ]) ≡ Ok 0
cost_by None s is = refl
cost_by (Some t) s is = absurd (cc)

pub walk_begins : WalkBegins
walk_begins = record {
  root = λ ps labels links a. refl;
  first = λ ps labels links bytes says.
      let m = laid_module ps labels links says.arrangement in
      state_by (label_at m 0) (root_state m) (no_row_first ps labels links bytes says);
  free = λ ps labels links bytes says.
      let m = laid_module ps labels links says.arrangement in
      cost_by (label_at m 0) (root_state m) (no_row_first ps labels links bytes says);
}
