-- What the code of prefixes pushes.
use Rattle.std.proofs.Common.{◌≡◌, ℕ, ℤ, pos, Bool, false, List, [], ◌∷◌, ◌++◌, Some, FitsSigned, ap, subst}
use Rattle.std.proofs.Common.{◌∙◌, arith}
use Rattle.std.specs.Prelude.{◌+ℤ◌, ◌-ℤ◌}
use Rattle.std.specs.Int.{w32}
use Rattle.std.specs.Ordering.{int_eq}
use Rattle.std.proofs.lemmas.Int.{ints}
use Rattle.std.proofs.lemmas.Option.{same_Some}
use Rattle.word_arithmetic.specs.Word.{checked, checked_sum, word_not, truth}
use Rattle.word_arithmetic.specs.Binary.{computed}
use Rattle.word_arithmetic.proofs.BitLaws.{word_not_is}
use Rattle.prefix_decoder.specs.declared.function.Fun.TheVariants as fun
use Rattle.occam_parser.specs.declared.tree.PrefixOperator.{PrefixOperator}
use Rattle.occam_parser.specs.declared.tree.PrefixOperator.TheVariants as prefix
use Rattle.scalar_ranges.specs.Values.{negated}
use Rattle.code_pieces.specs.declared.operations.TheConstants.{NOT}
use Rattle.code_pieces.specs.Pieces.{Piece, Direct, operates}
use Rattle.line_pieces.specs.Expressions.{negates, prefix_code}
use Rattle.placed_code.specs.StraightPieces as pieces
use Rattle.placed_code.proofs.StraightPieces.{lead_both}
use Rattle.meant_lines.specs.Instructions.{with_a}
use Rattle.meant_lines.specs.Carrying.{Ground}
use Rattle.meant_lines.specs.Pushing.{Pushed}
use Rattle.meant_lines.specs.OperatorLaws.{prefixed_value, PrefixesPush}
use Rattle.meant_lines.proofs.Instructions.{bits_are_turned, constants_are_added}
use Rattle.meant_lines.proofs.Comparisons.{compared_with, replaced}

-- the bits of x turned are -x - 1
not_is : (x : ℤ) → FitsSigned w32 x → word_not x +ℤ pos 1 ≡ pos 0 -ℤ x
not_is x fits = omega (arith, ints, word_not_is x fits)

negated_sum : (x v : ℤ) → FitsSigned w32 x → negated x ≡ Some v → checked_sum (word_not x) (pos 1) ≡ Some v
unfolding computed
negated_sum x v fits is = ap checked (not_is x fits) ∙ is

module _ (g : Ground) (t : ℕ) (ps : List Piece) (leaf small : Bool) (x v : ℤ) (h : pieces.Held) where
  turned : Pushed g ps t leaf small x h → Pushed g (ps ++ operates NOT ∷ []) t false small (word_not x) h
  turned p =
      subst (λ (u : ℤ). Pushed g (ps ++ operates NOT ∷ []) t false small (word_not u) h) p.a
      (replaced g ps (operates NOT ∷ []) t leaf small x (word_not p.after.stack.a) h p
      (bits_are_turned g.footing p.after))

  negative : FitsSigned w32 x → negated x ≡ Some v → Pushed g ps t leaf small x h
      → Pushed g (ps ++ operates NOT ∷ Direct fun.AddConstant (pos 1) ∷ []) t false small v h
  negative fits is p =
      let u = word_not p.after.stack.a in
      replaced g ps (operates NOT ∷ Direct fun.AddConstant (pos 1) ∷ []) t leaf small x v h p
      (lead_both (bits_are_turned g.footing p.after)
      (constants_are_added g.footing (pos 1) v (with_a u p.after)
      (ap (λ (w : ℤ). checked_sum (word_not w) (pos 1)) p.a ∙ negated_sum x v fits is)))

  prefixed : (op : PrefixOperator) → FitsSigned w32 x → prefixed_value op x ≡ Some v → Pushed g ps t leaf small x h
      → Pushed g (ps ++ prefix_code op) t false small v h
  prefixed prefix.Negate fits is p = negative fits is p
  prefixed prefix.BitNot fits is p =
      subst (λ (u : ℤ). Pushed g (ps ++ operates NOT ∷ []) t false small u h) (same_Some (word_not x) v is) (turned p)
  prefixed prefix.Not fits is p =
      subst (λ (u : ℤ). Pushed g (ps ++ negates ∷ []) t false small u h) (same_Some (truth (int_eq x (pos 0))) v is)
      (compared_with g ps t leaf small x (pos 0) h p)

pub prefixes_push : PrefixesPush
prefixes_push g t op ps leaf small x v h fits is p = prefixed g t ps leaf small x v h op fits is p
