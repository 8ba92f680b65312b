-- The drafts of pieces are whole.
use Rattle.std.proofs.Common.{◌≡◌, ℕ, zero, suc, ◌≤◌, ℤ, List, [], ◌∷◌, length, map, Option, Some, None}
use Rattle.std.proofs.Common.{refl, sym, subst, arith, length-append}
use Rattle.std.specs.Prelude.{All, IsSome}
use Rattle.std.specs.List.{AllByRecursion}
use Rattle.std.proofs.lemmas.List.Elements.{All-append, All-cons, All-get_or, All-nil, All-push}
use Rattle.module_format.specs.declared.fact.Fact.{Fact}
use Rattle.module_format.specs.declared.fact.Fact.TheVariants as facts
use Rattle.module_format.specs.declared.rows.Entry.{Entry}
use Rattle.module_format.specs.declared.rows.LabelRow.{LabelRow}
use Rattle.module_builder.specs.declared.item.Item.{Item}
use Rattle.module_builder.specs.declared.item.Label.{Label}
use Rattle.module_builder.specs.declared.draft.ContextName.{ContextName}
use Rattle.module_builder.specs.Drafts as drafts
use Rattle.module_builder.specs.Drafts.{IsComplete, IsPlaced, OfItem}
use Rattle.module_builder.specs.Whole.{FactIsPlaced, FinishIsPlaced, LabelRowIsPlaced, ParIsPlaced}
use Rattle.code_pieces.specs.declared.operations.TheConstants.{LOOP_END}
use Rattle.code_pieces.specs.declared.piece.Workspace.{Workspace}
use Rattle.code_pieces.specs.declared.saying.Said.{Said}
use Rattle.code_pieces.specs.DraftedRows.{ShownRow, drafted_entry, drafted_fact, drafted_row, shown_row}
use Rattle.code_pieces.specs.Laid.{needs_in}
use Rattle.code_pieces.specs.Laying.{apart, distance, draft_code, items_from, items_in, label, operation, pars_of}
use Rattle.code_pieces.specs.Laying.{places_of, placed_from, said_rows_from, tables_before, workspace_behind}
use Rattle.code_pieces.specs.Numbers.{Needs, Numbered, number_at}
use Rattle.code_pieces.specs.Pars as pars
use Rattle.code_pieces.specs.Pars.{in_root}
use Rattle.code_pieces.specs.Pieces.{Piece, Direct, Jump, JumpUnless, LoopBack, Distance, StartBranch, Select}
use Rattle.code_pieces.specs.Pieces.{TableAddress, Row, Place, Within, Par}
use Rattle.meant_code.specs.Labels.{ArePlain}
use Rattle.meant_code.proofs.OwnPrograms.{programs_are_own}
use Rattle.code_pieces.specs.WellFormed.{AreBelow, AreNamed, labels_named}
use Rattle.valid_code.specs.WholeDrafts.{CodeIsComplete, DraftsAreWhole, SequentialDraftsAreWhole}
use Rattle.valid_code.proofs.ValidDrafts.{all_before, none_drafted}
use Rattle.valid_code.proofs.WellFormed.{names_are_there}

-- ---- labels

-- each label has a place
all_placed : (n : ℕ) (placed : List Numbered) → All IsSome (places_of n placed)
all_placed zero placed = All-nil IsSome
all_placed (suc n) placed = All-push IsSome (places_of n placed) (Some (number_at n placed)) (all_placed n placed) refl

as_many : (n : ℕ) (placed : List Numbered) → length (places_of n placed) ≡ n
as_many zero placed = refl
as_many (suc n) placed =
    let all = length-append (places_of n placed) (Some (number_at n placed) ∷ []) in
    let before = as_many n placed in
    omega (arith, all, before)

module _ (ps : List Piece) (labels : ℕ) where
  abbrev code : drafts.Code
  code = draft_code ps labels

  pub label_placed : (l : ℕ) → l ≤ labels → IsPlaced code (label l)
  label_placed l few =
      let places = places_of labels (placed_from 0 ps) in
      let end : Option ℕ = Some (length code.items) in
      let all = length-append places (end ∷ []) in
      let before = as_many labels (placed_from 0 ps) in
      All-get_or IsSome code.labels l None (omega (arith, few, all, before))
      (All-push IsSome places end (all_placed labels (placed_from 0 ps)) refl)

  -- ---- instructions

  abbrev ArePlaced : List Item → Type 0
  ArePlaced items = All (OfItem (IsPlaced code)) items

  one : (item : Item) → OfItem (IsPlaced code) item → ArePlaced (item ∷ [])
  one item is = All-cons (OfItem (IsPlaced code)) item [] is (All-nil (OfItem (IsPlaced code)))

  piece_placed : (ts : List (List ℤ)) (depth : ℤ) (p : Piece) → AreBelow labels (labels_named p)
      → ArePlaced (items_in ts depth p)
  piece_placed ts depth (Direct f e) named = one _ tt
  piece_placed ts depth (Jump to) named = one _ (label_placed to (omega (arith, named.0)))
  piece_placed ts depth (JumpUnless to) named = one _ (label_placed to (omega (arith, named.0)))
  piece_placed ts depth (LoopBack head behind) named =
      All-cons (OfItem (IsPlaced code)) (distance head behind) (operation LOOP_END ∷ [])
      (label_placed head (omega (arith, named.0)), label_placed behind (omega (arith, named.1.0)))
      (one (operation LOOP_END) tt)
  piece_placed ts depth (Distance from to) named =
      one _ (label_placed from (omega (arith, named.0)), label_placed to (omega (arith, named.1.0)))
  piece_placed ts depth (StartBranch entry successor) named = one _ tt
  piece_placed ts depth (Select targets) named = one _ tt
  piece_placed ts depth (TableAddress values) named = one _ tt
  piece_placed ts depth (Row l entries) named = All-nil (OfItem (IsPlaced code))
  piece_placed ts depth (Place l) named = All-nil (OfItem (IsPlaced code))
  piece_placed ts depth (Within workspace) named = All-nil (OfItem (IsPlaced code))
  piece_placed ts depth (Par par) named = All-nil (OfItem (IsPlaced code))

  pieces_placed : (ts : List (List ℤ)) (w : Workspace) (qs : List Piece) → AreNamed labels qs
      → ArePlaced (items_from w ts qs)
  pieces_placed ts w [] named = All-nil (OfItem (IsPlaced code))
  pieces_placed ts w (q ∷ qs) named =
      All-append (OfItem (IsPlaced code)) (items_in ts w.depth q) (items_from (workspace_behind q w) ts qs)
      (piece_placed ts w.depth q named.0) (pieces_placed ts (workspace_behind q w) qs named.1)

  -- ---- rows

  fact_placed : (f : Fact ℕ) → FactIsPlaced code (drafted_fact f)
  fact_placed facts.Unknown = tt
  fact_placed (facts.Number lo hi) = tt
  fact_placed (facts.Pointer region lo hi step) = tt
  fact_placed (facts.CodeAddress target) = tt
  fact_placed (facts.Loop base count weight) = tt
  fact_placed facts.ReturnAddress = tt

  entries_placed : (ss : List Said)
      → AllByRecursion (λ (e : Entry Label). FactIsPlaced code e.fact) (map drafted_entry ss)
  entries_placed [] = tt
  entries_placed (s ∷ ss) = (fact_placed s.fact, entries_placed ss)

  -- a row of a draft refers to labels that are placed
  record ShownIsPlaced (row : ShownRow) : Type 0 where
    offset : IsPlaced code row.offset
    a : FactIsPlaced code row.stack.a
    b : FactIsPlaced code row.stack.b
    c : FactIsPlaced code row.stack.c
    entries : AllByRecursion (λ (e : Entry Label). FactIsPlaced code e.fact) row.entries

  rows_placed : (all : List pars.Par) (w : Workspace) (n : Needs) (qs : List Piece) → AreNamed labels qs
      → AllByRecursion ShownIsPlaced (map (drafted_row all) (said_rows_from w n qs))
  rows_placed all w n [] named = tt
  rows_placed all w n (Row l entries ∷ qs) named = (
    record {
      offset = label_placed l (omega (arith, named.0.0));
      a = tt;
      b = tt;
      c = tt;
      entries = entries_placed _;
    },
    rows_placed all w n qs named.1,
  )
  rows_placed all w n (Within other ∷ qs) named = rows_placed all other n qs named.1
  rows_placed all w n (Direct f e ∷ qs) named = rows_placed all w n qs named.1
  rows_placed all w n (Jump l ∷ qs) named = rows_placed all w n qs named.1
  rows_placed all w n (JumpUnless l ∷ qs) named = rows_placed all w n qs named.1
  rows_placed all w n (LoopBack head behind ∷ qs) named = rows_placed all w n qs named.1
  rows_placed all w n (Distance from to ∷ qs) named = rows_placed all w n qs named.1
  rows_placed all w n (StartBranch entry successor ∷ qs) named = rows_placed all w n qs named.1
  rows_placed all w n (Select targets ∷ qs) named = rows_placed all w n qs named.1
  rows_placed all w n (TableAddress values ∷ qs) named = rows_placed all w n qs named.1
  rows_placed all w n (Place l ∷ qs) named = rows_placed all w n qs named.1
  rows_placed all w n (Par par ∷ qs) named = rows_placed all w n qs named.1

  as_shown : (rows : List (LabelRow Label ContextName)) → AllByRecursion (λ x. ShownIsPlaced (shown_row x)) rows
      → AllByRecursion (LabelRowIsPlaced code) rows
  as_shown [] placed = tt
  as_shown (row ∷ rows) placed =
      let shown = placed.0 in (
        record { offset = shown.offset; a = shown.a; b = shown.b; c = shown.c; entries = shown.entries },
        as_shown rows placed.1,
      )

pub code_is_complete : CodeIsComplete
code_is_complete ps labels named = pieces_placed ps labels (tables_before [] ps) in_root ps named

pub drafts_are_whole : DraftsAreWhole
drafts_are_whole ps labels links d out none named =
    let laid = out.laid in
    let is = sym laid.draft.code in
    record {
      code = subst IsComplete is (code_is_complete ps labels named);
      finish = subst (λ (o : Option Label). FinishIsPlaced d.code o) (sym laid.draft.finish)
          (subst (λ (code : drafts.Code). IsPlaced code (label labels)) is (label_placed ps labels labels (omega arith)));
      procedures = subst (AllByRecursion (λ row. IsPlaced d.code row.entry)) (sym laid.draft.procedures) tt;
      labels = subst (λ (code : drafts.Code). AllByRecursion (LabelRowIsPlaced code) d.labels.items) is
          (as_shown ps labels d.labels.items
          (all_before (ShownIsPlaced ps labels) shown_row d.labels.items
          (subst (AllByRecursion (ShownIsPlaced ps labels)) (sym laid.rows)
          (rows_placed ps labels (pars_of ps) in_root (needs_in ps out.lengths) ps named))));
      pars = subst (AllByRecursion (ParIsPlaced d.code)) (sym (none_drafted ps labels links d out.lengths laid none)) tt;
    }

-- ---- programs

no_pars : (ps : List Piece) → ArePlain ps → pars_of ps ≡ []
no_pars [] plain = refl
no_pars (Direct f e ∷ ps) plain = no_pars ps plain.1
no_pars (Jump l ∷ ps) plain = no_pars ps plain.1
no_pars (JumpUnless l ∷ ps) plain = no_pars ps plain.1
no_pars (LoopBack head behind ∷ ps) plain = no_pars ps plain.1
no_pars (TableAddress values ∷ ps) plain = no_pars ps plain.1
no_pars (Row l entries ∷ ps) plain = no_pars ps plain.1
no_pars (p ∷ ps) plain = absurd plain.0

pub sequential_drafts_are_whole : SequentialDraftsAreWhole
sequential_drafts_are_whole items c links d out seq unbroken literals is =
    drafts_are_whole (apart c.pieces) c.labels links d out (no_pars (apart c.pieces) (programs_are_own items c is).1.plain)
    (names_are_there items c seq unbroken literals is)
