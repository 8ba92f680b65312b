-- What loops gather is what the definitions say by recursion.
use Rattle.std.proofs.Common.{◌≡◌, ℕ, suc, Bool, List, [], ◌∷◌, ◌++◌, map, refl, sym, ap, ◌∙◌, append_assoc, Option}
use Rattle.std.proofs.Common.{Some, None, unwrap_or, ◌≤◌, length, take, Vec, Global}
use Rattle.std.proofs.lemmas.List.{append-nil}
use Rattle.occam_parser.specs.declared.tree.Operand.{Operand}
use Rattle.occam_parser.specs.declared.tree.Expr.{Expr}
use Rattle.occam_parser.specs.declared.tree.ChainOperator.{ChainOperator}
use Rattle.occam_parser.specs.declared.tree.Operation.{Chain}
use Rattle.occam_parser.specs.Expressions.{Expression, Terms, Two, Then}
use Rattle.occam_parser.specs.Views.{term_of, with_others, expression_of, operation_of}
use Rattle.occam_parser.proofs.Seen.{view-Chain}
use Rattle.scalar_ranges.specs.Entries.{Entry}
use Rattle.scalar_ranges.specs.Environments.{item_at}
use Rattle.program_uses.specs.declared.uses.End.{End}
use Rattle.program_uses.specs.declared.uses.Use.{Use}
use Rattle.program_uses.specs.declared.uses.Use.TheVariants as used
use Rattle.program_uses.specs.declared.uses.Uses.{Uses}
use Rattle.program_uses.specs.Sets.{Adds}
use Rattle.program_uses.specs.Mentions.{reads_of, reads_of_terms, reads_of_term}
use Rattle.program_uses.specs.Signatures.{Parameter}
use Rattle.program_uses.specs.Instances.{uses_ends, uses_of_actual, uses_of_actuals}
use Rattle.program_uses.specs.Actions.{reads_of_all}
use Rattle.program_uses.proofs.Adding.{gathered, gathered_same, gathers_all, adds_both, adds_as}

-- ---- the further operands of a chain

abbrev pub operand_reads : List Entry → ℕ → Operand → List Use
operand_reads es n x = reads_of_term es (term_of x)

further_operands : (es : List Entry) (terms : Terms) (n : ℕ) (xs : List Operand)
    → reads_of_terms es (with_others terms (map term_of xs))
    ≡ reads_of_terms es terms ++ gathered (operand_reads es) n xs
unfolding gathered
further_operands es terms n [] = sym (append-nil (reads_of_terms es terms))
further_operands es terms n (x ∷ xs) =
    further_operands es (Then terms (term_of x)) (suc n) xs
    ∙ append_assoc (reads_of_terms es terms) (reads_of_term es (term_of x)) (gathered (operand_reads es) (suc n) xs)

-- the first two operands of a chain, and then the others
pub chain_reads : (es : List Entry) (op : ChainOperator) (first second : Operand) (others : Vec Operand Global)
    (items : List Operand) (i : ℕ) (e : Expression) {s t u w : Uses} → length items ≤ i → items ≡ others.items
    → e ≡ operation_of (Chain op first second others) → Adds s t (reads_of_term es (term_of first))
    → Adds t u (reads_of_term es (term_of second)) → Adds u w (gathered (operand_reads es) 0 (take i items))
    → Adds s w (reads_of es e)
chain_reads es op first second others items i e done same is a b c =
    let terms = Two (term_of first) (term_of second) in
    let all = ap (λ xs. reads_of_terms es terms ++ gathered (operand_reads es) 0 xs) same
    ∙ sym (further_operands es terms 0 others.items)
    ∙ ap (reads_of es) (sym (view-Chain op first second others) ∙ sym is) in
    adds_as all (adds_both (adds_both a b) (gathers_all (operand_reads es) items i done c))

-- ---- the ends that a procedure uses

abbrev pub end_uses : ℕ → Option ℕ → ℕ → End → List Use
end_uses channel element n d = used.Channel channel (unwrap_or element d.element) d.direction ∷ []

pub ends_gathered : (channel : ℕ) (element : Option ℕ) (n : ℕ) (ds : List End)
    → gathered (end_uses channel element) n ds ≡ uses_ends channel element ds
unfolding gathered
ends_gathered channel element n [] = refl
ends_gathered channel element n (d ∷ ds) =
    ap (λ us. end_uses channel element n d ++ us) (ends_gathered channel element (suc n) ds)

-- ---- actuals

abbrev pub actual_uses : Bool → List Entry → List Parameter → ℕ → Expr → List Use
actual_uses counted es ps n x = uses_of_actual counted es (item_at n ps) (expression_of x)

pub actuals_gathered : (counted : Bool) (es : List Entry) (ps : List Parameter) (xs : List Expr)
    → gathered (actual_uses counted es ps) 0 xs ≡ uses_of_actuals counted es ps (map expression_of xs)
unfolding gathered
actuals_gathered counted es ps [] = refl
actuals_gathered counted es [] (x ∷ xs) =
    ap (λ us. uses_of_actual counted es None (expression_of x) ++ us)
    (gathered_same (actual_uses counted es []) 0 xs ∙ actuals_gathered counted es [] xs)
actuals_gathered counted es (p ∷ ps) (x ∷ xs) =
    ap (λ us. uses_of_actual counted es (Some p) (expression_of x) ++ us)
    (gathered_same (actual_uses counted es (p ∷ ps)) 0 xs ∙ actuals_gathered counted es ps xs)

-- ---- the further items of a table

abbrev pub item_reads : List Entry → ℕ → Expr → List Use
item_reads es n x = reads_of es (expression_of x)

pub items_gathered : (es : List Entry) (n : ℕ) (xs : List Expr)
    → gathered (item_reads es) n xs ≡ reads_of_all es (map expression_of xs)
unfolding gathered
items_gathered es n [] = refl
items_gathered es n (x ∷ xs) = ap (λ us. reads_of es (expression_of x) ++ us) (items_gathered es (suc n) xs)
