-- Where each piece among others leads, which words are taken, and rows that are kept apart part by part.
use Rattle.std.proofs.Common.{◌≡◌, ◌≤◌, ℕ, ◌+◌, ℤ, pos, Bool, true, false, cond, List, [], ◌∷◌, ◌++◌, refl}
use Rattle.std.proofs.Common.{sym, ap, ◌∙◌, subst, arith}
use Rattle.std.specs.Prelude.{◌&&◌, max, unsigned_abs}
use Rattle.std.specs.List.{AllByRecursion}
use Rattle.std.specs.Option.{option_to_list}
use Rattle.std.specs.Ordering.{int_eq}
use Rattle.std.proofs.lemmas.Int.{ints}
use Rattle.std.proofs.lemmas.List.{append_assoc}
use Rattle.prefix_decoder.specs.declared.function.Fun.TheVariants as fun
use Rattle.word_arithmetic.specs.Word.{least_word}
use Rattle.code_pieces.specs.declared.operations.TheConstants.{MINIMUM_INTEGER}
use Rattle.code_pieces.specs.declared.words.TheConstants.{WORKSPACE_WORDS}
use Rattle.code_pieces.specs.Pieces.{Piece, Direct, Within, operates, constant}
use Rattle.code_pieces.specs.Placing.{label_in}
use Rattle.code_pieces.specs.Laying.{is_row, at_row_behind, apart_piece, apart_from, apart, words_named, words_taken}
use Rattle.code_pieces.specs.Laying.{word_above}
use Rattle.placed_code.specs.LaidCode.{labels_in}
use Rattle.meant_code.specs.Labels.{Leads, AllLead}
use Rattle.meant_code.specs.OwnCode.{OperandFits}
use Rattle.meant_code.specs.AmongOthers.{PiecesLead, NamesBelow, WordsAreTaken, ApartTakesNoMore, at_row_after}
use Rattle.meant_code.specs.AmongOthers.{PartsAreApart, PartsStayParts}
use Rattle.meant_code.proofs.LabelLists.{times_both, leads_more}
use Rattle.meant_code.proofs.RowsApart.{apart_same}
use Rattle.meant_code.proofs.OwnPrograms.{programs_are_own, programs_have_parts}

-- ---- where pieces lead

lead_at : (before after : List ℕ) (done : List Piece) (p : Piece) (later : List Piece)
    → AllLead before after (done ++ p ∷ later) → Leads (labels_in done ++ before) (labels_in later ++ after) p
lead_at before after [] p later lead = lead.0
lead_at before after (q ∷ done) p later lead =
    let own = option_to_list (label_in q) in
    leads_more (labels_in done ++ (own ++ before)) (labels_in later ++ after) ((own ++ labels_in done) ++ before)
    (labels_in later ++ after) p
    (λ l there.
    let a = times_both l (labels_in done) (own ++ before) in
    let b = times_both l own before in
    let c = times_both l (own ++ labels_in done) before in
    let d = times_both l own (labels_in done) in
    omega (arith, there, a, b, c, d)) (λ l there. there) (lead_at (own ++ before) after done p later lead.1)

pub pieces_lead : PiecesLead
pieces_lead items c is done p later whole =
    let all = subst (λ (ps : List Piece). AllLead [] [] ps) whole (programs_are_own items c is).1.lead in
    leads_more (labels_in done ++ []) (labels_in later ++ []) (labels_in done) (labels_in later) p
    (λ l there. let sum = times_both l (labels_in done) [] in omega (arith, there, sum))
    (λ l there. let sum = times_both l (labels_in later) [] in omega (arith, there, sum))
    (lead_at [] [] done p later all)

-- ---- words

names_more : (m n : ℕ) (p : Piece) → m ≤ n → NamesBelow m p → NamesBelow n p
names_more m n (Direct f e) more names = omega (arith, more, names)
names_more m n p more names = tt

all_more : (m n : ℕ) (ps : List Piece) → m ≤ n → AllByRecursion (NamesBelow m) ps → AllByRecursion (NamesBelow n) ps
all_more m n [] more names = tt
all_more m n (p ∷ ps) more names = (names_more m n p more names.0, all_more m n ps more names.1)

first_named : (p : Piece) (ps : List Piece) → NamesBelow (words_named (p ∷ ps)) p
first_named (Direct f e) ps = omega arith
first_named p ps = tt

rest_named : (p : Piece) (ps : List Piece) → words_named ps ≤ words_named (p ∷ ps)
rest_named (Direct f e) ps = omega arith
rest_named (Within workspace) ps = omega arith
rest_named p ps = omega arith

all_named : (ps : List Piece) → AllByRecursion (NamesBelow (words_named ps)) ps
all_named [] = tt
all_named (p ∷ ps) =
    (first_named p ps, all_more (words_named ps) (words_named (p ∷ ps)) ps (rest_named p ps) (all_named ps))

pub words_are_taken : WordsAreTaken
words_are_taken ps = all_more (words_named ps) (words_taken ps) ps (omega arith) (all_named ps)

constant_named : (v : ℤ) (ps : List Piece) → words_named (constant v ∷ ps) ≡ words_named ps
constant_named v ps = by_least (int_eq v least_word)
  where
    by_least : (b : Bool)
        → words_named (cond b (operates MINIMUM_INTEGER) (Direct fun.LoadConstant v) ∷ ps) ≡ words_named ps
    by_least true = omega arith
    by_least false = omega arith

named_after : (p : Piece) (ps qs : List Piece) → words_named ps ≡ words_named qs
    → words_named (p ∷ ps) ≡ words_named (p ∷ qs)
named_after (Direct f e) ps qs is = ap (λ (n : ℕ). max (word_above f e) n) is
named_after (Within workspace) ps qs is =
    ap (λ (n : ℕ). max (unsigned_abs workspace.depth + WORKSPACE_WORDS) n) is
named_after p ps qs is = is

pub apart_takes_no_more : ApartTakesNoMore
apart_takes_no_more ps =
    ap (λ (n : ℕ). max WORKSPACE_WORDS n) (apart_same words_named (constant_named (pos 0)) named_after true ps)

-- ---- parts

pub parts_are_apart : PartsAreApart
parts_are_apart at_row [] qs = refl
parts_are_apart at_row (p ∷ ps) qs =
    let next = at_row_behind p at_row in
    ap (λ (rs : List Piece). apart_piece at_row p ++ rs) (parts_are_apart next ps qs)
    ∙ sym (append_assoc (apart_piece at_row p) (apart_from next ps) (apart_from (at_row_after next ps) qs))

zero_fits : OperandFits (constant (pos 0))
zero_fits = by_least (int_eq (pos 0) least_word)
  where
    by_least : (b : Bool) → OperandFits (cond b (operates MINIMUM_INTEGER) (Direct fun.LoadConstant (pos 0)))
    by_least true = omega (arith, ints)
    by_least false = omega (arith, ints)

filled_fits : (b : Bool) (p : Piece) (rest : List Piece) → OperandFits p → AllByRecursion OperandFits rest
    → AllByRecursion OperandFits (cond b (constant (pos 0) ∷ p ∷ []) (p ∷ []) ++ rest)
filled_fits true p rest fits others = (zero_fits, (fits, others))
filled_fits false p rest fits others = (fits, others)

apart_fits : (at_row : Bool) (ps : List Piece) → AllByRecursion OperandFits ps
    → AllByRecursion OperandFits (apart_from at_row ps)
apart_fits at_row [] fit = tt
apart_fits at_row (p ∷ ps) fit =
    let next = at_row_behind p at_row in
    filled_fits (at_row && is_row p) p (apart_from next ps) fit.0 (apart_fits next ps fit.1)

pub parts_stay_parts : PartsStayParts
parts_stay_parts items c is before part rest whole fit =
    let inner = at_row_after true before in
    let last = at_row_after true (before ++ part) in
    let shape : apart c.pieces ≡ apart before ++ apart_from inner part ++ apart_from last rest =
    ap apart whole ∙ parts_are_apart true (before ++ part) rest
    ∙ ap (λ (ps : List Piece). ps ++ apart_from last rest) (parts_are_apart true before part) in
    programs_have_parts items c is (apart before) (apart_from inner part) (apart_from last rest) shape
    (apart_fits inner part fit)
