-- What the code of a condition leaves known: where it holds and where it does not, the scope that it narrows.
use Rattle.std.proofs.Common.{◌≤◌}
use Rattle.std.proofs.Common.{◌≡◌, ℕ, ℤ, Bool, true, false, cond, List, [], ◌++◌, Option, Some, None, Result}
use Rattle.std.proofs.Common.{Ok, Err, refl, sym, ap, subst, ◌∙◌, arith, append-nil}
use Rattle.std.specs.Prelude.{option_map}
use Rattle.std.proofs.lemmas.Int.{ints}
use Rattle.word_arithmetic.specs.Range.{Ends, IsRange, truths}
use Rattle.word_arithmetic.specs.declared.compare.Comparison.{Comparison}
use Rattle.occam_parser.specs.declared.tree.ValueType.{ValueType}
use Rattle.occam_parser.specs.declared.tree.ChainOperator.TheVariants as chain
use Rattle.occam_parser.specs.declared.tree.PairOperator.TheVariants as pair
use Rattle.occam_parser.specs.Expressions.{Alone, Chained, Expression, Named, Paired, Prefixed, Term, Terms, Then, Two}
use Rattle.occam_parser.specs.Words.{has_words}
use Rattle.scalar_ranges.specs.declared.scope.ScalarKind.{ScalarKind}
use Rattle.scalar_ranges.specs.declared.scope.ScalarKind.TheVariants as kinds
use Rattle.scalar_ranges.specs.declared.types.ExprType.{ExprType}
use Rattle.scalar_ranges.specs.declared.types.ExprType.TheVariants as types
use Rattle.scalar_ranges.specs.Bounds.{Bound, bound_of}
use Rattle.scalar_ranges.specs.Entries.{Entry, Meaning, Scalar, meaning_in}
use Rattle.scalar_ranges.specs.Narrowing.{Tested, by_test, can_narrow, constant_in, first_of, is_narrowed, narrow}
use Rattle.scalar_ranges.specs.Narrowing.{test_of, tested, turned}
use Rattle.scalar_ranges.specs.Steps.{both}
use Rattle.scalar_ranges.specs.Types.{chain_type, named_type, pair_type, type_of, type_of_term, type_of_terms}
use Rattle.local_rules.specs.WordRules.{number_in}
use Rattle.code_pieces.specs.Pieces.{Piece}
use Rattle.line_pieces.specs.Actions.{forgets, may_show}
use Rattle.line_pieces.specs.Expressions.{expression_code}
use Rattle.line_pieces.specs.Homes.{Block, Home, Word, home_of}
use Rattle.certified_lines.specs.Scopes.{EachNameHas, HoldsScope, IsHousedThere, IsScope, Scene}
use Rattle.certified_lines.specs.StraightRules.{FallOn, Told}
use Rattle.certified_lines.specs.Telling.{AreAllowed, IsFree, IsQuiet, StayBefore}
use Rattle.certified_lines.specs.TestLaws.{TellsNothing, where_it}
use Rattle.certified_lines.proofs.Conditions.{sources_are_forgotten}
use Rattle.certified_lines.proofs.NarrowedScopes.{tested_scopes_hold}
use Rattle.certified_lines.proofs.Operands.{quiet_of}
use Rattle.certified_lines.proofs.Quiet.{comparisons_show_nothing}
use Rattle.certified_lines.proofs.Silent.{quiet_truths_narrow_nothing}
use Rattle.certified_lines.proofs.Sources.{chains_tell_nothing}
use Rattle.certified_lines.proofs.Telling.{name_has, scopes_stay, stay_both}
use Rattle.certified_scopes.specs.Beside.{AreInTurn}
use Rattle.certified_scopes.specs.Settled.{IsOfIndex}
use Rattle.certified_scopes.proofs.Beside.{scalars_are_beside}

-- The code of a condition leaves a number in A. Where that holds, and where it does not, the scope is held that is
-- narrowed so.
pub record Shows (g : Scene) (es : List Entry) (e : Expression) (ps : List Piece) (before : Told) : Type 0 where
  pub after : Told
  pub falls : FallOn g.setting ps before after
  pub range : Ends
  pub fact : after.stack.a.fact ≡ number_in range
  pub ranged : IsRange range
  pub holds : (it : Bool) → HoldsScope g (narrow es e it) (where_it it after)

-- ---- what is compared

record IsNarrowed (m : Option Meaning) : Type 0 where
  kind : ScalarKind
  type : ValueType
  range : Ends
  means : m ≡ Some (Scalar kind type range)
  can : can_narrow kind ≡ true

narrowed_scalar : (m : Option Meaning) → is_narrowed m ≡ true → IsNarrowed m
narrowed_scalar (Some (Scalar kind type range)) is =
    record { kind = kind; type = type; range = range; means = refl; can = is }
narrowed_scalar (Some m) is = absurd (cc is)
narrowed_scalar None is = absurd (cc is)

-- the name of what is tested
same_name : (name : List ℕ) (c : Comparison) (o : Option ℤ) (t : Tested)
    → option_map (λ v. record { name = name; comparison = c; constant = v }) o ≡ Some t → name ≡ t.name
same_name name c None t is = absurd (cc is)
same_name name c (Some v) t is =
    let same : record { name = name; comparison = c; constant = v } ≡ t = cc is in ap (λ (x : Tested). x.name) same

tested_scalar : (es : List Entry) (c : Comparison) (a b : Term) (t : Tested) → tested es c a b ≡ Some t
    → is_narrowed (meaning_in t.name es) ≡ true
tested_scalar es c (Named name) b t is = by (is_narrowed (meaning_in name es)) refl is
  where
    by : (so : Bool) → is_narrowed (meaning_in name es) ≡ so
        → cond so (option_map (λ v. record { name = name; comparison = c; constant = v })
        (constant_in es (named_type (meaning_in name es)) b)) None ≡ Some t
        → is_narrowed (meaning_in t.name es) ≡ true
    by true so is =
        subst (λ (n : List ℕ). is_narrowed (meaning_in n es) ≡ true)
        (same_name name c (constant_in es (named_type (meaning_in name es)) b) t is) so
    by false so is = absurd (cc is)
tested_scalar es c a b t is = absurd (cc is)

-- what a condition tests is a scalar that can be narrowed
pub test_scalar : (es : List Entry) (e : Expression) (t : Tested) → test_of es e ≡ Some t
    → is_narrowed (meaning_in t.name es) ≡ true
test_scalar es (Paired (pair.Comparison c) a b) t is = by (tested es c a b) refl is
  where
    by : (o : Option Tested) → tested es c a b ≡ o → first_of o (tested es (turned c) b a) ≡ Some t
        → is_narrowed (meaning_in t.name es) ≡ true
    by None first is = tested_scalar es (turned c) b a t is
    by (Some x) first is = tested_scalar es c a b t (first ∙ is)
test_scalar es e t is = absurd (cc is)

-- what can be narrowed has a word
word_there : (g : Scene) (top : ℕ) (o : Option Home) (kind : ScalarKind) (type : ValueType) (range : Ends)
    → IsHousedThere g top o (Scalar kind type range) → IsOfIndex o (Scalar kind type range) → can_narrow kind ≡ true
    → (w : ℕ) × (o ≡ Some (Word w))
word_there g top None kind type range housed index can = absurd housed
word_there g top (Some (Word w)) kind type range housed index can = (w, refl)
word_there g top (Some (Block w head)) kinds.Index type range housed index can = absurd (cc can)
word_there g top (Some (Block w head)) kind type range housed index can = absurd index
word_there g top (Some h) kind type range housed index can = absurd housed

-- ---- what shows nothing

truths_ranged : IsRange truths
truths_ranged = record { lo_fits = omega (arith, ints); hi_fits = omega (arith, ints); ordered = omega (arith, ints) }

-- what is no truth of any two types is none of two that are found
no_truth : (of : ExprType → ExprType → Result ExprType ℕ)
    → ((x y : ExprType) → of x y ≡ Ok types.Condition → ⊥) → (r s : Result ExprType ℕ)
    → both r s of ≡ Ok types.Condition → ⊥
no_truth of none (Ok x) (Ok y) is = none x y is
no_truth of none (Err m) (Ok y) is = absurd (cc is)
no_truth of none r s is = absurd (cc is)

no_pair : (op : _) (x y : ExprType) → pair_type (pair.Arithmetic op) x y ≡ Ok types.Condition → ⊥
no_pair op types.Int types.Int is = absurd (cc is)
no_pair op x y is = absurd (cc is)

no_chain : (op : _) (x y : ExprType) → chain_type (chain.Arithmetic op) x y ≡ Ok types.Condition → ⊥
no_chain op types.Int types.Int is = absurd (cc is)
no_chain op x y is = absurd (cc is)

no_truths : (es : List Entry) (op : _) (ts : Terms) → type_of_terms es (chain.Arithmetic op) ts ≡ Ok types.Condition → ⊥
no_truths es op (Two a b) is =
    no_truth (chain_type (chain.Arithmetic op)) (no_chain op) (type_of_term es a) (type_of_term es b) is
no_truths es op (Then ts t) is =
    no_truth (chain_type (chain.Arithmetic op)) (no_chain op) (type_of_terms es (chain.Arithmetic op) ts)
    (type_of_term es t) is

forgets_test : (shows : Bool) (t : Tested) → forgets shows (Some t) ≡ []
forgets_test true t = refl
forgets_test false t = refl

module _ (g : Scene) (top t : ℕ) (low : top ≤ t) (free : IsFree t)
    (es : List Entry) (scope : IsScope g top es) (before : Told)
    (held : HoldsScope g es before.frame) where
  -- what narrows no word of the scope
  quiet_holds : (e : Expression) (after : Told) → test_of es e ≡ None → IsQuiet t after.stack.a.source
      → StayBefore t before.frame after.frame → (it : Bool) → HoldsScope g (narrow es e it) (where_it it after)
  quiet_holds e after none quiet stay it =
      subst (λ (o : Option Tested). HoldsScope g (by_test es it o) (where_it it after)) (sym none)
      (scopes_stay g top t es before.frame (where_it it after) scope low
      (stay_both t before.frame after.frame (where_it it after) stay
      (quiet_truths_narrow_nothing t after it quiet)) held)

  quiet_shows : (e : Expression) (r : Ends) (ps : List Piece) (after : Told) → IsRange r → test_of es e ≡ None
      → FallOn g.setting ps before after → after.stack.a.fact ≡ number_in r → IsQuiet t after.stack.a.source
      → StayBefore t before.frame after.frame → Shows g es e ps before
  quiet_shows e r ps after ranged none falls fact quiet stay = record {
    after = after;
    falls = falls;
    range = r;
    fact = fact;
    ranged = ranged;
    holds = quiet_holds e after none quiet stay;
  }

  nothing_told : (e : Expression) (r : Ends) (ps : List Piece) → IsRange r → test_of es e ≡ None
      → TellsNothing g.setting ps t r before → Shows g es e ps before
  nothing_told e r ps ranged none n =
      quiet_shows e r ps n.after ranged none n.falls n.fact (quiet_of t n.after.stack.a.source n.source) n.stay

  -- a condition that is no test, and shows nothing
  silent_shows : (e : Expression) (b : Bound) → has_words e ≡ true → type_of es e ≡ Ok types.Condition
      → bound_of es e ≡ Ok b → may_show es e ≡ false → test_of es e ≡ None
      → AreAllowed g (expression_code g.homes es t e) → Shows g es e (expression_code g.homes es t e) before
  silent_shows (Paired (pair.Comparison c) x y) b words typed bounded silent none all =
      let s = comparisons_show_nothing g top t es c x y types.Condition b before scope low
      free words typed bounded silent all held in
      quiet_shows (Paired (pair.Comparison c) x y) truths
      (expression_code g.homes es t (Paired (pair.Comparison c) x y)) s.after truths_ranged none s.falls s.fact s.source
      s.stay
  silent_shows (Paired (pair.Arithmetic op) x y) b words typed bounded silent none all =
      absurd (no_truth (pair_type (pair.Arithmetic op)) (no_pair op) (type_of_term es x) (type_of_term es y) typed)
  silent_shows (Chained (chain.Logic op) ts) b words typed bounded silent none all =
      let s = chains_tell_nothing g top t es op ts types.Condition b before scope low
      free words typed bounded all held in
      nothing_told (Chained (chain.Logic op) ts) s.0 (expression_code g.homes es t (Chained (chain.Logic op) ts)) s.1
      none s.2
  silent_shows (Chained (chain.Arithmetic op) ts) b words typed bounded silent none all =
      absurd (no_truths es op ts typed)
  silent_shows (Alone x) b words typed bounded silent none all = absurd (cc silent)
  silent_shows (Prefixed op x) b words typed bounded silent none all = absurd (cc silent)

  -- The code of a condition, with what makes the machine forget what was compared, shows what it narrows.
  pub condition_shows : (e : Expression) (b : Bound) (end : ℕ) → AreInTurn g.homes es end
      → EachNameHas IsOfIndex g.homes es → has_words e ≡ true → type_of es e ≡ Ok types.Condition
      → bound_of es e ≡ Ok b → AreAllowed g (expression_code g.homes es t e)
      → Shows g es e (expression_code g.homes es t e ++ forgets (may_show es e) (test_of es e)) before
  condition_shows e b end turn loops words typed bounded all =
      by_test_of (test_of es e) refl (may_show es e) refl
    where
      code : List Piece
      code = expression_code g.homes es t e

      by_test_of : (o : Option Tested) → test_of es e ≡ o → (shows : Bool) → may_show es e ≡ shows
          → Shows g es e (code ++ forgets shows o) before
      by_test_of (Some x) is shows shown =
          let n = narrowed_scalar (meaning_in x.name es) (test_scalar es e x is) in
          let word = word_there g top (home_of g.homes es x.name) n.kind n.type n.range
          (name_has (IsHousedThere g top) g.homes es x.name (Scalar n.kind n.type n.range) scope.housed n.means)
          (name_has IsOfIndex g.homes es x.name (Scalar n.kind n.type n.range) loops n.means) n.can in
          let tests = tested_scopes_hold g top t word.0 es e types.Condition b x n.kind n.type n.range before scope
          words typed bounded is n.means word.1
          (scalars_are_beside g.homes es end x.name word.0 n.kind n.type n.range turn n.means word.1) held in
          subst (λ (ps : List Piece). Shows g es e ps before)
          (sym (append-nil code) ∙ ap (λ (ps : List Piece). code ++ ps) (sym (forgets_test shows x)))
          (record {
            after = tests.0.after;
            falls = tests.0.falls;
            range = truths;
            fact = tests.0.fact;
            ranged = truths_ranged;
            holds = tests.1;
          })
      by_test_of None is true shown =
          let s = sources_are_forgotten g top t es e types.Condition b before scope low
          free words typed bounded all held in
          nothing_told e s.0 _ s.1 is s.2
      by_test_of None is false shown =
          subst (λ (ps : List Piece). Shows g es e ps before) (sym (append-nil code))
          (silent_shows e b words typed bounded shown is all)
