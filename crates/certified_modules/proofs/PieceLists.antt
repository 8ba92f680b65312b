-- What lists of pieces of one process have: their labels and heads of loops, and whether they end where a row is.
use Rattle.std.proofs.Common.{◌≡◌, ℕ, Bool, true, false, List, [], ◌∷◌, ◌++◌}
use Rattle.std.proofs.Common.{Option, Some, None, refl, sym, ap, subst, ◌∙◌, arith}
use Rattle.std.specs.List.{AllByRecursion}
use Rattle.std.specs.Option.{option_to_list}
use Rattle.machine_state.specs.Waiting.{IsAbsent, AllDiffer}
use Rattle.code_pieces.specs.declared.piece.RowEntry.{RowEntry}
use Rattle.code_pieces.specs.declared.piece.Workspace.{Workspace}
use Rattle.code_pieces.specs.Pieces.{Piece, Direct, Jump, JumpUnless, LoopBack, Distance, StartBranch, Select}
use Rattle.code_pieces.specs.Pieces.{TableAddress, Row, Place, Within, Par}
use Rattle.code_pieces.specs.Pars.{in_root}
use Rattle.code_pieces.specs.Placing.{label_in}
use Rattle.code_pieces.specs.Laying.{workspace_behind, at_row_behind, pars_of}
use Rattle.code_pieces.proofs.AllOfPieces.{all_both}
use Rattle.placed_code.specs.LaidCode.{item_count, workspace_after, labels_in}
use Rattle.placed_code.specs.NumbersCover.{head_of, heads_in}
use Rattle.placed_code.proofs.PiecesLie.{differ_rest, absent_rest}
use Rattle.certified_lines.specs.StraightRules.{Setting, Told, FallOn, done, next, table}
use Rattle.certified_modules.specs.Passing.{Passage, OpenLabel, PassOn, none, both, straight, stops, places, jumps}
use Rattle.certified_modules.specs.Passing.{tests}
use Rattle.certified_modules.specs.Passing.{closes, loops}

-- ---- one process

-- it is no PAR, and no workspace
abbrev pub IsAlone : Piece → Type 0
IsAlone (Within workspace) = ⊥
IsAlone (Par par) = ⊥
IsAlone p = Unit {0}

-- so the workspace behind it is the one before it, and it adds no PAR
alone_leaves : (p : Piece) (w : Workspace) (ps : List Piece) → IsAlone p
    → (workspace_behind p w ≡ w) × (pars_of (p ∷ ps) ≡ pars_of ps)
alone_leaves (Direct f e) w ps is = (refl, refl)
alone_leaves (Jump to) w ps is = (refl, refl)
alone_leaves (JumpUnless to) w ps is = (refl, refl)
alone_leaves (LoopBack head behind) w ps is = (refl, refl)
alone_leaves (Distance from to) w ps is = (refl, refl)
alone_leaves (StartBranch entry successor) w ps is = (refl, refl)
alone_leaves (Select targets) w ps is = (refl, refl)
alone_leaves (TableAddress values) w ps is = (refl, refl)
alone_leaves (Row l entries) w ps is = (refl, refl)
alone_leaves (Place l) w ps is = (refl, refl)
alone_leaves (Within workspace) w ps is = absurd is
alone_leaves (Par par) w ps is = absurd is

-- the workspace stays where it is
pub workspace_alone : (ps : List Piece) (w : Workspace) → AllByRecursion IsAlone ps → workspace_after ps w ≡ w
workspace_alone [] w all = refl
workspace_alone (p ∷ ps) w all =
    ap (λ (v : Workspace). workspace_after ps v) (alone_leaves p w ps all.0).0 ∙ workspace_alone ps w all.1

-- there are no PARs
pub no_pars : (ps : List Piece) → AllByRecursion IsAlone ps → pars_of ps ≡ []
no_pars [] all = refl
no_pars (p ∷ ps) all = (alone_leaves p in_root ps all.0).1 ∙ no_pars ps all.1

straight_alone : {g : Setting} {s t : Told} {ps : List Piece} → FallOn g ps s t → AllByRecursion IsAlone ps
straight_alone done = tt
straight_alone (next x fall) = (tt, straight_alone fall)
straight_alone (table fall) = (tt, straight_alone fall)

-- what passes is of one process
pub passing_alone : {g : Passage} {opened : List OpenLabel} {s t : Option Told} {ps : List Piece}
    → PassOn g opened s ps t → AllByRecursion IsAlone ps
passing_alone none = tt
passing_alone (both {ps = ps} {qs = qs} first second) =
    all_both IsAlone ps qs (passing_alone first) (passing_alone second)
passing_alone (straight fall) = straight_alone fall
passing_alone stops = (tt, tt)
passing_alone places = (tt, tt)
passing_alone (jumps entries is implied) = (tt, tt)
passing_alone (tests r entries is fact range implied) = (tt, tt)
passing_alone (closes {ps = ps} {l = l} {entries = entries} pass implied) =
    all_both IsAlone ps (Row l entries ∷ []) (passing_alone pass) (tt, tt)
passing_alone (loops {head = head} {body = body} behind word last left enters turns pass ends
    implied) =
    (tt, all_both IsAlone body (LoopBack head behind ∷ Row behind left ∷ []) (passing_alone pass) (tt, (tt, tt)))

-- ---- rows

-- whether pieces end where a row is, if they begin where one may be
abbrev pub row_behind : Bool → List Piece → Bool
row_behind b [] = b
row_behind b (p ∷ ps) = row_behind (at_row_behind p b) ps

pub row_behind_both : (b : Bool) (ps qs : List Piece) → row_behind b (ps ++ qs) ≡ row_behind (row_behind b ps) qs
row_behind_both b [] qs = refl
row_behind_both b (p ∷ ps) qs = row_behind_both (at_row_behind p b) ps qs

-- a row is before pieces without items
row_stays : (ps : List Piece) → item_count ps ≡ 0 → row_behind true ps ≡ true
row_stays [] few = refl
row_stays (Direct f e ∷ ps) few = absurd (omega (arith, few))
row_stays (Jump to ∷ ps) few = absurd (omega (arith, few))
row_stays (JumpUnless to ∷ ps) few = absurd (omega (arith, few))
row_stays (LoopBack head behind ∷ ps) few = absurd (omega (arith, few))
row_stays (Distance from to ∷ ps) few = absurd (omega (arith, few))
row_stays (StartBranch entry successor ∷ ps) few = absurd (omega (arith, few))
row_stays (Select targets ∷ ps) few = absurd (omega (arith, few))
row_stays (TableAddress values ∷ ps) few = absurd (omega (arith, few))
row_stays (Row l entries ∷ ps) few = row_stays ps (omega (arith, few))
row_stays (Place l ∷ ps) few = row_stays ps (omega (arith, few))
row_stays (Within workspace ∷ ps) few = row_stays ps (omega (arith, few))
row_stays (Par par ∷ ps) few = row_stays ps (omega (arith, few))

-- where no row is behind pieces, none is before the last of them that have no items
pub no_row_last : (ps before later : List Piece) (l : ℕ) (entries : List RowEntry) → row_behind false ps ≡ false
    → ps ≡ before ++ Row l entries ∷ later → item_count later ≡ 0 → ⊥
no_row_last ps before later l entries free whole few =
    let some : row_behind false ps ≡ true =
    ap (λ (qs : List Piece). row_behind false qs) whole ∙ row_behind_both false before (Row l entries ∷ later)
    ∙ row_stays later few in
    let no : true ≡ false = sym some ∙ free in
    absurd (cc)

-- ---- two parts of a list

-- One of two places in a list is before the other, or they are the same.
pub data Splits {A : Type 0} (xs : List A) (x : A) (zs : List A) (z : A) : Type 0 where
  is_earlier : (middle : List A) → zs ≡ xs ++ x ∷ middle → Splits xs x zs z
  is_equal : x ≡ z → xs ≡ zs → Splits xs x zs z
  is_later : (middle : List A) → xs ≡ zs ++ z ∷ middle → Splits xs x zs z

split_on : {A : Type 0} (v w : A) (xs : List A) (x : A) (zs : List A) (z : A) → v ≡ w → Splits xs x zs z
    → Splits (v ∷ xs) x (w ∷ zs) z
split_on v w xs x zs z first (is_earlier middle is) = is_earlier middle (cc)
split_on v w xs x zs z first (is_equal one is) = is_equal one (cc)
split_on v w xs x zs z first (is_later middle is) = is_later middle (cc)

pub split : {A : Type 0} (xs : List A) (x : A) (ys zs : List A) (z : A) (ws : List A)
    → xs ++ x ∷ ys ≡ zs ++ z ∷ ws → Splits xs x zs z
split [] x ys [] z ws is =
    let first : x ≡ z = cc in
    is_equal first refl
split [] x ys (w ∷ zs) z ws is =
    let first : w ≡ x = cc in
    is_earlier zs (ap (λ v. v ∷ zs) first)
split (v ∷ xs) x ys [] z ws is =
    let first : v ≡ z = cc in
    is_later xs (ap (λ w. w ∷ xs) first)
split (v ∷ xs) x ys (w ∷ zs) z ws is =
    let first : v ≡ w = cc in
    let rest : xs ++ x ∷ ys ≡ zs ++ z ∷ ws = cc in
    split_on v w xs x zs z first (split xs x ys zs z ws rest)

-- ---- labels and heads

absent_so : (l : ℕ) (o : Option ℕ) (xs ys : List ℕ) → (IsAbsent l xs → IsAbsent l ys)
    → IsAbsent l (option_to_list o ++ xs) → IsAbsent l (option_to_list o ++ ys)
absent_so l None xs ys so absent = so absent
absent_so l (Some m) xs ys so absent = (absent.0, so absent.1)

pub labels_front : (l : ℕ) (ps qs : List Piece) → IsAbsent l (labels_in (ps ++ qs)) → IsAbsent l (labels_in ps)
labels_front l [] qs absent = tt
labels_front l (p ∷ ps) qs absent =
    absent_so l (label_in p) (labels_in (ps ++ qs)) (labels_in ps) (labels_front l ps qs) absent

labels_back : (l : ℕ) (ps qs : List Piece) → IsAbsent l (labels_in (ps ++ qs)) → IsAbsent l (labels_in qs)
labels_back l [] qs absent = absent
labels_back l (p ∷ ps) qs absent = labels_back l ps qs (absent_rest l (label_in p) (labels_in (ps ++ qs)) absent)

heads_both : (l : ℕ) (ps qs : List Piece) → IsAbsent l (heads_in ps) → IsAbsent l (heads_in qs)
    → IsAbsent l (heads_in (ps ++ qs))
heads_both l [] qs first second = second
heads_both l (p ∷ ps) qs first second =
    absent_so l (head_of p) (heads_in ps) (heads_in (ps ++ qs)) (λ rest. heads_both l ps qs rest second) first

straight_heads : {g : Setting} {s t : Told} {ps : List Piece} → FallOn g ps s t → (l : ℕ) → IsAbsent l (heads_in ps)
straight_heads done l = tt
straight_heads (next x fall) l = straight_heads fall l
straight_heads (table fall) l = straight_heads fall l

-- a turn of a loop ends where pieces pass only if the loop begins there
pub heads_absent : {g : Passage} {opened : List OpenLabel} {s t : Option Told} {ps : List Piece}
    → PassOn g opened s ps t → (l : ℕ) → IsAbsent l (labels_in ps) → IsAbsent l (heads_in ps)
heads_absent none l absent = tt
heads_absent (both {ps = ps} {qs = qs} first second) l absent =
    heads_both l ps qs (heads_absent first l (labels_front l ps qs absent))
    (heads_absent second l (labels_back l ps qs absent))
heads_absent (straight fall) l absent = straight_heads fall l
heads_absent stops l absent = tt
heads_absent places l absent = tt
heads_absent (jumps entries is implied) l absent = tt
heads_absent (tests r entries is fact range implied) l absent = tt
heads_absent (closes {ps = ps} {l = m} {entries = entries} pass implied) l absent =
    heads_both l ps (Row m entries ∷ []) (heads_absent pass l (labels_front l ps (Row m entries ∷ []) absent)) tt
heads_absent (loops {head = head} {body = body} behind word last left enters turns pass ends
    implied) l absent =
    let end : List Piece = LoopBack head behind ∷ Row behind left ∷ [] in
    heads_both l body end (heads_absent pass l (labels_front l body end absent.1)) (absent.0, tt)

-- a label that is placed once is in no later piece
pub placed_once : (before : List Piece) (p : Piece) (rest : List Piece) (l : ℕ) → label_in p ≡ Some l
    → AllDiffer (labels_in (before ++ p ∷ rest)) → IsAbsent l (labels_in rest)
placed_once [] p rest l is differ =
    let all : AllDiffer (option_to_list (Some l) ++ labels_in rest) =
    subst (λ (o : Option ℕ). AllDiffer (option_to_list o ++ labels_in rest)) is differ in
    all.0
placed_once (q ∷ before) p rest l is differ =
    placed_once before p rest l is (differ_rest (label_in q) (labels_in (before ++ p ∷ rest)) differ)
