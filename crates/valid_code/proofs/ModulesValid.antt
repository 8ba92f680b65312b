-- The module of valid pieces keeps the rules of the format.
use Rattle.std.proofs.Common.{◌≡◌, ℕ, zero, suc, ◌≤◌, Bool, true, false, List, [], ◌∷◌, ◌++◌, length, get_or}
use Rattle.std.proofs.Common.{Option, Some, None, refl, sym, ap, subst, ◌∙◌, arith}
use Rattle.std.specs.Prelude.{sum, map, option_map, unwrap_or}
use Rattle.std.specs.List.{AllByRecursion}
use Rattle.module_format.specs.Contents as contents
use Rattle.module_format.specs.Contents.{Contents}
use Rattle.module_format.specs.Contexts.{first_branch}
use Rattle.module_format.specs.Keeping.{SizesKeep, BoundsKeep, LimitsKeep, RowsKeep, NamesAreThere, Keeps, ParFits}
use Rattle.module_format.specs.Order.{InOrder}
use Rattle.module_format.specs.Pars.{ParKeeps, behind_par, no_branches}
use Rattle.module_builder.specs.Layouts.{offset}
use Rattle.module_builder.proofs.Growing.{offset-le-sum}
use Rattle.code_pieces.specs.Pieces.{Piece, Direct}
use Rattle.code_pieces.specs.Pieces.{Row}
use Rattle.code_pieces.specs.LaidModule.{Arrangement, IsArrangement, laid_module}
use Rattle.code_pieces.specs.Laying.{at_row_behind, apart_piece, apart_from, draft_code, tables_before}
use Rattle.code_pieces.specs.Laying.{words_taken}
use Rattle.placed_code.specs.LaidCode.{item_count}
use Rattle.placed_code.proofs.Finishing.{length-spelled, all-offset}
use Rattle.placed_code.proofs.PiecesLie.{item_count-append}
use Rattle.valid_code.specs.ValidPieces.{AreApart, AreValid}
use Rattle.valid_code.specs.ValidModules.{RowsAreApart, AreWithin, ModulesAreValid, PiecesAreSaid}
use Rattle.valid_code.proofs.CodeBytes.{code_is_bytes, constants_are_bytes}
use Rattle.valid_code.proofs.LabelRows.{pars_none, items_climb, code_length, labels_keep, labels_fit}
use Rattle.valid_code.proofs.TableRows.{tables_are_words, table_rows_keep}

-- ---- rows kept apart

-- a piece with what is put before it, where a row may have been right before
one_apart : (at_row : Bool) (p : Piece) (rest : List Piece) → AreApart (at_row_behind p at_row) rest
    → AreApart at_row (apart_piece at_row p ++ rest)
one_apart true (Row l entries) rest apart = (refl, (refl, apart))
one_apart false p rest apart = (refl, apart)
one_apart true p rest apart = (refl, apart)

all_apart : (at_row : Bool) (ps : List Piece) → AreApart at_row (apart_from at_row ps)
all_apart at_row [] = tt
all_apart at_row (p ∷ ps) =
    one_apart at_row p (apart_from (at_row_behind p at_row) ps) (all_apart (at_row_behind p at_row) ps)

pub rows_are_apart : RowsAreApart
rows_are_apart ps = all_apart true ps

-- ---- the whole

-- no label is after the end of a layout
within_layout : (lengths : List ℕ) (os : List (Option ℕ)) (l : ℕ)
    → unwrap_or (get_or (map (option_map (offset lengths)) os) l None) 0 ≤ sum lengths
within_layout lengths [] l = omega arith
within_layout lengths (None ∷ os) zero = omega arith
within_layout lengths (Some k ∷ os) zero = offset-le-sum lengths k
within_layout lengths (o ∷ os) (suc l) = within_layout lengths os l

module _ (ps : List Piece) (labels : ℕ) (links : List ℕ) (a : Arrangement) (valid : AreValid ps labels)
    (eight : length links ≡ 8) (arranged : IsArrangement ps labels a) (within : AreWithin ps labels links a) where
  abbrev m : Contents
  m = laid_module ps labels links a

  none : m.pars ≡ []
  none = pars_none ps labels links a valid arranged within

  -- the code is as long as its layout
  long : length m.code ≡ sum a.lengths
  long =
      length-spelled (draft_code ps labels) a.lengths arranged.least.fits
      ∙ all-offset (draft_code ps labels) a.lengths arranged.least.fits

  sizes : SizesKeep m
  sizes =
      let all = ap item_count valid.ends.whole in
      let last : List Piece = Direct valid.ends.fun valid.ends.operand ∷ [] in
      let both = item_count-append valid.ends.front last in
      let some = items_climb ps labels links a valid arranged within 0 (item_count ps) (omega (arith, all, both))
      (omega arith) in
      let size = code_length ps labels links a valid arranged within in
      let code = long in
      let short = arranged.least.fits.short in
      record {
        has_code = omega (arith, some, size);
        code_limit = omega (arith, code, short);
        constants_limit = within.contents.constants;
        has_data = omega arith;
        data_limit = within.contents.data_words;
        base = omega arith;
      }

  bounds : BoundsKeep m
  bounds =
      let code = long in
      let end = within_layout a.lengths (draft_code ps labels).labels labels in
      record {
        budget = within.contents.budget;
        finish = omega (arith, code, end);
        eight = eight;
        lengths = within.contents.lengths;
      }

  limits : LimitsKeep m
  limits =
      let few = ap length none in
      record {
        procedures = omega arith;
        labels = within.contents.labels;
        pars = omega (arith, few);
        table_rows = within.contents.table_rows;
      }

  rows : RowsKeep m
  rows = record {
    procedures = tt;
    labels = labels_keep ps labels links a valid arranged within;
    pars = subst (λ (rows : List contents.Par). InOrder (ParKeeps (first_branch m) (length m.code)) behind_par
        no_branches rows) (sym none) tt;
    table_rows = table_rows_keep (tables_before [] ps) a.table_rows
        (tables_are_words (words_taken ps) [] ps tt valid.each) arranged.table_rows;
  }

  names : NamesAreThere m
  names = record {
    labels = labels_fit ps labels links a valid arranged within;
    pars = subst (λ (rows : List contents.Par). AllByRecursion (ParFits m) rows) (sym none) tt;
  }

  keeps : Keeps m
  keeps = record {
    sizes = sizes;
    bounds = bounds;
    limits = limits;
    code_bytes = code_is_bytes (draft_code ps labels) a.lengths;
    constant_bytes = constants_are_bytes (tables_before [] ps);
    rows = rows;
    names = names;
  }

pub modules_are_valid : ModulesAreValid
modules_are_valid ps labels links a valid eight arranged within = keeps ps labels links a valid eight arranged within

pub pieces_are_said : PiecesAreSaid
pieces_are_said ps labels links a valid eight arranged within = (
  record {
    arrangement = a;
    arranged = arranged;
    format = record { spelled = refl; keeps = keeps ps labels links a valid eight arranged within; fits = tt };
  },
  refl,
)
