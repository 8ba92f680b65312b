-- The pieces of sequential programs are well formed: labels that are named are there, and words are few.
use Rattle.std.proofs.Common.{◌≡◌, ℕ, ◌+◌, ◌<◌, ◌≤◌, Bool, true, false, cond, List, [], ◌∷◌, ◌++◌, refl}
use Rattle.std.proofs.Common.{◌⊎◌, inl, inr, Option, Some, None, sym, ap, arith, append-nil}
use Rattle.std.specs.Prelude.{nat_eq}
use Rattle.std.specs.List.{AllByRecursion}
use Rattle.std.specs.Option.{option_to_list}
use Rattle.std.proofs.lemmas.Bool.{eqb-true}
use Rattle.module_format.specs.declared.limits.TheConstants.{MAX_DATA_WORDS}
use Rattle.occam_parser.specs.Blocks.{ProgramItem}
use Rattle.occam_parser.specs.Words.{items_have_words}
use Rattle.program_meaning.specs.Sequential.{IsSequentialProgram}
use Rattle.usage_checks.specs.ItemRules.{BreaksNoRule}
use Rattle.code_pieces.specs.declared.piece.RowEntry.{RowEntry}
use Rattle.code_pieces.specs.Pieces.{Code, Direct, Jump, JumpUnless, LoopBack, Par, Piece, Row, Within}
use Rattle.code_pieces.specs.Pieces.{TableAddress}
use Rattle.code_pieces.specs.Placing.{label_in}
use Rattle.code_pieces.specs.Laying.{apart, words_taken}
use Rattle.code_generator.specs.Programs.{code_of}
use Rattle.placed_code.specs.LaidCode.{labels_in}
use Rattle.meant_code.specs.Labels.{AllLead, ArePlain, EachOnce, IsPlain, Leads, times_in}
use Rattle.meant_code.proofs.AmongOthers.{parts_stay_parts}
use Rattle.meant_code.proofs.LabelLists.{once_below}
use Rattle.meant_code.proofs.OwnPrograms.{programs_are_own}
use Rattle.valid_code.specs.RowsInTurn.{IsRowInTurn}
use Rattle.valid_code.specs.RowsSaid.{SaysWords}
use Rattle.valid_code.specs.ValidPieces.{InTurn}
use Rattle.code_pieces.specs.WellFormed.{AreBelow, AreNamed, HaveFewWords, IsOfOneProcess, IsPlacedIn, labels_named}
use Rattle.valid_code.specs.WellFormed.{HeadsAreBelow, OperandsAreWords, ProgramsAreWellFormed}
use Rattle.valid_code.proofs.BelowLabels.{below_both, below_first, below_second}
use Rattle.valid_code.proofs.KeptApart.{apart_all}
use Rattle.valid_code.proofs.RowsInTurn.{rows_are_in_turn}
use Rattle.valid_code.proofs.RowsSaid.{rows_are_said}

-- ---- labels

-- a label that is among others is below a number, if they are
below_by : (b : Bool) (l m n : ℕ) (ls : List ℕ) → nat_eq l m ≡ b → 1 ≤ cond b 1 0 + times_in l ls → m < n
    → (1 ≤ times_in l ls → l < n) → l < n
below_by true l m n ls is there first others =
    let equal = eqb-true l m is in
    omega (arith, equal, first)
below_by false l m n ls is there first others = others (omega (arith, there))

among_below : (l n : ℕ) (ls : List ℕ) → AreBelow n ls → 1 ≤ times_in l ls → l < n
among_below l n [] below there = absurd (omega (arith, there))
among_below l n (m ∷ ls) below there =
    below_by (nat_eq l m) l m n ls refl there below.0 (among_below l n ls below.1)

-- what a plain piece names is there, between these labels before it and these after it
named_there : (n : ℕ) (before after : List ℕ) (p : Piece) → IsPlain p → AreBelow n before → AreBelow n after
    → AreBelow n (option_to_list (label_in p)) → HeadsAreBelow n p → Leads before after p → AreBelow n (labels_named p)
named_there n before after (Jump to) plain front later own heads leads = (among_below to n after later leads, tt)
named_there n before after (JumpUnless to) plain front later own heads leads = (among_below to n after later leads, tt)
named_there n before after (LoopBack head behind) plain front later own heads leads =
    (among_below head n before front leads.0, (among_below behind n after later leads.1, tt))
named_there n before after (Row l entries) plain front later own heads leads = (own.0, heads)
named_there n before after (Direct f e) plain front later own heads leads = tt
named_there n before after (TableAddress values) plain front later own heads leads = tt
named_there n before after p plain front later own heads leads = absurd plain

all_named : (n : ℕ) (before : List ℕ) (ps : List Piece) → ArePlain ps → AreBelow n before → AreBelow n (labels_in ps)
    → AllByRecursion (HeadsAreBelow n) ps → AllLead before [] ps
    → AllByRecursion (λ p. AreBelow n (labels_named p)) ps
all_named n before [] plain front below heads lead = tt
all_named n before (p ∷ ps) plain front below heads lead =
    let own = option_to_list (label_in p) in
    let mine = below_first n own (labels_in ps) below in
    let rest = below_second n own (labels_in ps) below in (
      named_there n before (labels_in ps ++ []) p plain.0 front (below_both n (labels_in ps) [] rest tt) mine heads.0
          lead.0,
      all_named n (own ++ before) ps plain.1 (below_both n own before mine front) rest heads.1 lead.1,
    )

-- a label that is among those that pieces place is placed in them
placed_by : (b : Bool) (l m : ℕ) (ps : List Piece) → nat_eq l m ≡ b → 1 ≤ cond b 1 0 + times_in l (labels_in ps)
    → (1 ≤ times_in l (labels_in ps) → IsPlacedIn l ps) → (Some m ≡ Some l) ⊎ IsPlacedIn l ps
placed_by true l m ps is there others = inl (ap Some (sym (eqb-true l m is)))
placed_by false l m ps is there others = inr (others (omega (arith, there)))

placed_first : (o : Option ℕ) (l : ℕ) (ps : List Piece) → 1 ≤ times_in l (option_to_list o ++ labels_in ps)
    → (1 ≤ times_in l (labels_in ps) → IsPlacedIn l ps) → (o ≡ Some l) ⊎ IsPlacedIn l ps
placed_first None l ps there others = inr (others there)
placed_first (Some m) l ps there others = placed_by (nat_eq l m) l m ps refl there others

placed_in : (l : ℕ) (ps : List Piece) → 1 ≤ times_in l (labels_in ps) → IsPlacedIn l ps
placed_in l [] there = absurd (omega (arith, there))
placed_in l (p ∷ ps) there = placed_first (label_in p) l ps there (placed_in l ps)

each_placed : (labels : ℕ) (ps : List Piece) → EachOnce 0 labels (labels_in ps) → (l : ℕ) → l < labels
    → IsPlacedIn l ps
each_placed labels ps once l less =
    let here = once.inside l (omega arith) less in placed_in l ps (omega (arith, here))

-- ---- words of rows

turn_rises : (low top : ℕ) (es : List RowEntry) → InTurn low es top → low ≤ top
turn_rises low top [] turn = turn
turn_rises low top (e ∷ es) turn =
    let rest = turn_rises (e.word + e.span) top es turn.2 in
    omega (arith, turn.0, rest)

few_words : (low top : ℕ) (es : List RowEntry) → top ≤ MAX_DATA_WORDS → InTurn low es top
    → AllByRecursion (λ (e : RowEntry). e.word + e.span ≤ MAX_DATA_WORDS) es
few_words low top [] few turn = tt
few_words low top (e ∷ es) few turn =
    let here = turn_rises (e.word + e.span) top es turn.2 in
    (omega (arith, here, few), few_words (e.word + e.span) top es few turn.2)

row_has_few : (words : ℕ) (p : Piece) → words ≤ MAX_DATA_WORDS → IsRowInTurn words p → HaveFewWords p
row_has_few words (Row l entries) few turn = few_words 0 words entries few turn
row_has_few words p few turn = tt

rows_have_few : (words : ℕ) (ps : List Piece) → words ≤ MAX_DATA_WORDS → AllByRecursion (IsRowInTurn words) ps
    → AllByRecursion HaveFewWords ps
rows_have_few words [] few turn = tt
rows_have_few words (p ∷ ps) few turn = (row_has_few words p few turn.0, rows_have_few words ps few turn.1)

-- ---- the whole

piece_heads : (labels : ℕ) (p : Piece) → SaysWords labels p → HeadsAreBelow labels p
piece_heads labels (Row l entries) says = says.1
piece_heads labels p says = tt

all_heads : (labels : ℕ) (ps : List Piece) → AllByRecursion (SaysWords labels) ps
    → AllByRecursion (HeadsAreBelow labels) ps
all_heads labels [] says = tt
all_heads labels (p ∷ ps) says = (piece_heads labels p says.0, all_heads labels ps says.1)

-- the labels that such a program names are there
pub names_are_there : (items : List ProgramItem) (c : Code) → IsSequentialProgram items → BreaksNoRule items
    → items_have_words items ≡ true → code_of items ≡ Some c → AreNamed c.labels (apart c.pieces)
names_are_there items c seq unbroken literals is =
    let ps = c.pieces in
    let heads = all_heads c.labels ps (rows_are_said items c seq unbroken literals is) in
    let own = (programs_are_own items c is).1 in
    all_named c.labels [] (apart ps) own.plain tt (once_below 0 c.labels (labels_in (apart ps)) own.once)
    (apart_all (HeadsAreBelow c.labels) true ps tt heads) own.lead

of_one : (p : Piece) → IsPlain p → IsOfOneProcess p
of_one (Within workspace) plain = plain
of_one (Par par) plain = plain
of_one p plain = tt

all_of_one : (ps : List Piece) → ArePlain ps → AllByRecursion IsOfOneProcess ps
all_of_one [] plain = tt
all_of_one (p ∷ ps) plain = (of_one p plain.0, all_of_one ps plain.1)

pub programs_are_well_formed : ProgramsAreWellFormed
programs_are_well_formed items c seq unbroken literals is few =
    let ps = c.pieces in
    let own = (programs_are_own items c is).1 in
    record {
      placed = each_placed c.labels (apart ps) own.once;
      named = names_are_there items c seq unbroken literals is;
      alone = all_of_one (apart ps) own.plain;
      words = apart_all HaveFewWords true ps tt
          (rows_have_few (words_taken ps) ps few (rows_are_in_turn items c seq is few));
    }

pub operands_are_words : OperandsAreWords
operands_are_words items c is fit =
    (parts_stay_parts items c is [] c.pieces [] (sym (append-nil c.pieces)) fit).stays
