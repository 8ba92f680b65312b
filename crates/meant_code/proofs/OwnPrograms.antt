-- Programs place labels of their own, also where their rows are kept apart, and have parts at the root.
use Rattle.std.proofs.Common.{◌≡◌, ℕ, ℤ, pos, Bool, true, false, cond, List, [], ◌∷◌, ◌++◌, Option, refl, sym, ap}
use Rattle.std.proofs.Common.{FitsSigned, subst, arith}
use Rattle.std.specs.Prelude.{◌&&◌, ◌-ℤ◌}
use Rattle.std.specs.Int.{w32}
use Rattle.std.specs.List.{AllByRecursion}
use Rattle.std.specs.Option.{option_to_list}
use Rattle.std.proofs.lemmas.Int.{ints}
use Rattle.prefix_decoder.specs.declared.function.Fun.{Fun}
use Rattle.prefix_decoder.specs.declared.function.Fun.TheVariants as fun
use Rattle.code_pieces.specs.declared.piece.Workspace.{Workspace}
use Rattle.code_pieces.specs.Pars.{in_root}
use Rattle.code_pieces.specs.Pieces.{Piece, Direct, Jump, JumpUnless, LoopBack, TableAddress, Row, constant}
use Rattle.code_pieces.specs.Placing.{label_in}
use Rattle.code_pieces.specs.Laying.{is_row, at_row_behind, apart_from, apart, operand_at}
use Rattle.placed_code.specs.LaidCode.{labels_in, workspace_after, StaysAt}
use Rattle.meant_code.specs.Labels.{EachOnce, IsCounted, NamesCounted, IsPlain, ArePlain, Leads, AllLead}
use Rattle.meant_code.specs.OwnCode.{AreOwn, ProgramsAreOwn, LabelsStayOnce, FitsUnlessNamed}
use Rattle.meant_code.specs.OwnCode.{OperandFits, ProgramsHaveParts}
use Rattle.meant_code.proofs.StraightLines.{constant_is}
use Rattle.meant_code.proofs.LabelLists.{once_differ, once_below, lead_both, no_labels, straight_label}
use Rattle.meant_code.proofs.LabelLists.{straight_plain, straight_lead}
use Rattle.meant_code.proofs.RowsApart.{apart_same}
use Rattle.meant_code.proofs.OwnCode.{program_own}

-- ---- rows kept apart

apart_labels : (at_row : Bool) (ps : List Piece) → labels_in (apart_from at_row ps) ≡ labels_in ps
apart_labels =
    apart_same labels_in
    (λ ps. ap (λ (o : Option ℕ). option_to_list o ++ labels_in ps)
    (straight_label (constant (pos 0)) (constant_is (pos 0))))
    (λ p ps qs is. ap (λ (ls : List ℕ). option_to_list (label_in p) ++ ls) is)

filled_plain : (b : Bool) (p : Piece) (rest : List Piece) → IsPlain p → ArePlain rest
    → ArePlain (cond b (constant (pos 0) ∷ p ∷ []) (p ∷ []) ++ rest)
filled_plain true p rest is are = (straight_plain (constant (pos 0)) (constant_is (pos 0)), (is, are))
filled_plain false p rest is are = (is, are)

apart_plain : (at_row : Bool) (ps : List Piece) → ArePlain ps → ArePlain (apart_from at_row ps)
apart_plain at_row [] are = tt
apart_plain at_row (p ∷ ps) are =
    let next = at_row_behind p at_row in
    filled_plain (at_row && is_row p) p (apart_from next ps) are.0 (apart_plain next ps are.1)

filled_lead : (before after : List ℕ) (b : Bool) (p : Piece) (rest : List Piece) → AllLead before after (p ∷ rest)
    → AllLead before after (cond b (constant (pos 0) ∷ p ∷ []) (p ∷ []) ++ rest)
filled_lead before after true p rest lead =
    let fill : List Piece = constant (pos 0) ∷ [] in
    let none : labels_in fill ≡ [] = no_labels fill (constant_is (pos 0), tt) in
    lead_both before after fill (p ∷ rest)
    (straight_lead before (labels_in (p ∷ rest) ++ after) fill (constant_is (pos 0), tt))
    (subst (λ (ls : List ℕ). AllLead (ls ++ before) after (p ∷ rest)) (sym none) lead)
filled_lead before after false p rest lead = lead

apart_lead : (before after : List ℕ) (at_row : Bool) (ps : List Piece) → AllLead before after ps
    → AllLead before after (apart_from at_row ps)
apart_lead before after at_row [] lead = tt
apart_lead before after at_row (p ∷ ps) lead =
    let next = at_row_behind p at_row in
    filled_lead before after (at_row && is_row p) p (apart_from next ps) (
      subst (λ (ls : List ℕ). Leads before (ls ++ after) p) (sym (apart_labels next ps)) lead.0,
      apart_lead (option_to_list (label_in p) ++ before) after next ps lead.1,
    )

own_apart : (a b : ℕ) (after : List ℕ) (ps : List Piece) → AreOwn a b after ps → AreOwn a b after (apart ps)
own_apart a b after ps own = record {
  once = subst (EachOnce a b) (sym (apart_labels true ps)) own.once;
  plain = apart_plain true ps own.plain;
  lead = apart_lead [] after true ps own.lead;
}

pub programs_are_own : ProgramsAreOwn
programs_are_own items c is =
    let own = program_own items c is in
    (own, own_apart 0 c.labels [] c.pieces own)

pub labels_stay_once : LabelsStayOnce
labels_stay_once items c is =
    let own = (programs_are_own items c is).1 in
    record {
      once = once_differ 0 c.labels (labels_in (apart c.pieces)) own.once;
      made = once_below 0 c.labels (labels_in (apart c.pieces)) own.once;
    }

-- ---- parts

first_plain : (ps qs : List Piece) → ArePlain (ps ++ qs) → ArePlain ps
first_plain [] qs are = tt
first_plain (p ∷ ps) qs are = (are.0, first_plain ps qs are.1)

second_plain : (ps qs : List Piece) → ArePlain (ps ++ qs) → ArePlain qs
second_plain [] qs are = are
second_plain (p ∷ ps) qs are = second_plain ps qs are.1

-- plain pieces leave the workspace where it is
plain_stays : (ps : List Piece) (w : Workspace) → ArePlain ps → workspace_after ps w ≡ w
plain_stays [] w are = refl
plain_stays (Direct f e ∷ ps) w are = plain_stays ps w are.1
plain_stays (TableAddress values ∷ ps) w are = plain_stays ps w are.1
plain_stays (Jump to ∷ ps) w are = plain_stays ps w are.1
plain_stays (JumpUnless to ∷ ps) w are = plain_stays ps w are.1
plain_stays (LoopBack head behind ∷ ps) w are = plain_stays ps w are.1
plain_stays (Row l entries ∷ ps) w are = plain_stays ps w are.1
plain_stays (p ∷ ps) w are = absurd are.0

counted_fits : (e : ℤ) → IsCounted e → FitsSigned w32 (e -ℤ pos 0)
counted_fits e counts =
    let few = counts.few in
    subst (λ (v : ℤ). FitsSigned w32 (v -ℤ pos 0)) (sym counts.is) (omega (arith, ints, few))

operand_fits : (f : Fun) (e : ℤ) → NamesCounted f e → FitsUnlessNamed f e → FitsSigned w32 (operand_at (pos 0) f e)
operand_fits fun.LoadLocal e counts fits = counted_fits e counts
operand_fits fun.StoreLocal e counts fits = counted_fits e counts
operand_fits fun.LoadLocalPointer e counts fits = counted_fits e counts
operand_fits f e counts fits = fits

all_stay : (ps : List Piece) → ArePlain ps → AllByRecursion OperandFits ps → AllByRecursion (StaysAt 0) ps
all_stay [] are fit = tt
all_stay (Direct f e ∷ ps) are fit = (operand_fits f e are.0 fit.0, all_stay ps are.1 fit.1)
all_stay (TableAddress values ∷ ps) are fit = (tt, all_stay ps are.1 fit.1)
all_stay (Jump to ∷ ps) are fit = (tt, all_stay ps are.1 fit.1)
all_stay (JumpUnless to ∷ ps) are fit = (tt, all_stay ps are.1 fit.1)
all_stay (LoopBack head behind ∷ ps) are fit = (tt, all_stay ps are.1 fit.1)
all_stay (Row l entries ∷ ps) are fit = (tt, all_stay ps are.1 fit.1)
all_stay (p ∷ ps) are fit = absurd are.0

pub programs_have_parts : ProgramsHaveParts
programs_have_parts items c is before part rest whole fit =
    let plain = subst ArePlain whole (programs_are_own items c is).1.plain in
    let both = first_plain (before ++ part) rest plain in
    record {
      rest = rest;
      whole = whole;
      workspace = ap (λ (w : Workspace). w.depth) (plain_stays before in_root (first_plain before part both));
      stays = all_stay part (second_plain before part both) fit;
    }
