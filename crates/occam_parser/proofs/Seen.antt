-- How the program's lists are seen.
use Rattle.std.proofs.Common.{◌≡◌, ℕ, ◌≤◌, Bool, false, Option, Some, None, ◌+◌, List, [], ◌∷◌, ◌++◌}
use Rattle.std.proofs.Common.{length, map, refl, sym, ap, subst, arith, ◌∙◌, rules, Vec, Box, Global}
use Rattle.std.proofs.lemmas.List.{length-map, map_push}
use Rattle.occam_layout.specs.declared.token.Token.{Token}
use Rattle.occam_parser.specs.declared.tree.ChainOperator.{ChainOperator}
use Rattle.occam_parser.specs.declared.tree.ValueType.{ValueType}
use Rattle.occam_parser.specs.declared.tree.Operand.{Operand, Converted}
use Rattle.occam_parser.specs.declared.tree.Operation.{Chain}
use Rattle.occam_parser.specs.declared.tree.Operand.TheFolds.{the_lemmas}
use Rattle.occam_parser.specs.Terminals.{Terminal, terminal_of, terminals_of}
use Rattle.occam_parser.specs.Expressions.{Terms, Two, Then, Term, Chained, Converted as Conversion}
use Rattle.std.specs.Prelude.{MatchOption}
use Rattle.std.specs.Borrow.{Bor}
use Rattle.occam_layout.specs.declared.token.TokenKind.{TokenKind}
use Rattle.occam_layout.specs.declared.mark.Mark.{Mark}
use Rattle.occam_parser.specs.Reading.{Reads, behind}
use Rattle.occam_parser.specs.LineReading.{has_condition}
use Rattle.occam_parser.specs.Views.{operation_of, term_of, with_others}
use Rattle.occam_parser.proofs.ListsAreRead.{Chains, chain_goes_on}

pub no_more : (ts us : List Token) → length ts ≤ length us → length (terminals_of ts) ≤ length (terminals_of us)
no_more ts us h = omega (
  arith,
  length-map ts (λ (t : Token). terminal_of t.kind),
  length-map us
      (λ (t : Token). terminal_of t.kind),
)

others_push : (terms : Terms) (others : List Term) (x : Term)
    → with_others terms (others ++ x ∷ []) ≡ Then (with_others terms others) x
others_push terms [] x = refl
others_push terms (y ∷ others) x = others_push (Then terms y) others x

pub operands_push : (terms : Terms) (found pushed : List Operand) (x : Operand) → pushed ≡ found ++ x ∷ []
    → with_others terms (map term_of pushed) ≡ Then (with_others terms (map term_of found)) (term_of x)
operands_push terms found pushed x e = ap (λ xs. with_others terms (map term_of xs)) e ∙ ap (with_others terms)
    (map_push term_of found x) ∙ others_push terms (map term_of found) (term_of x)

-- one operand more of a chain, pushed
pub chain_pushed : (operand : Reads Term) (op : ChainOperator) (m : Mark) (first : Term)
    (start ts after rest : List Terminal) (terms : Terms) (found pushed : List Operand) (x : Operand)
    → pushed ≡ found ++ x ∷ [] → behind m ts ≡ Some after → operand after ≡ Some (term_of x, rest)
    → length rest ≤ length after → Chains operand op m first start (with_others terms (map term_of found)) ts
    → Chains operand op m first start (with_others terms (map term_of pushed)) rest
chain_pushed operand op m first start ts after rest terms found pushed x e b f within c =
    subst (λ us. Chains operand op m first start us rest) (sym (operands_push terms found pushed x e))
    (chain_goes_on operand op m first start ts after rest (with_others terms (map term_of found)) (term_of x) b f within
    c)

pub view-Chain : (op : ChainOperator) (first second : Operand) (others : Vec Operand Global)
    → operation_of (Chain op first second others) ≡ Chained op
    (with_others (Two (term_of first) (term_of second)) (map term_of others.items))
view-Chain op first second others = search (rules, the_lemmas)

pub view-Converted : (to : ValueType) (operand : Box Operand Global)
    → term_of (Converted to operand) ≡ Conversion to (term_of operand.value)
view-Converted to operand = search (rules, the_lemmas)

-- what is left to look through, after a first token
abbrev pub has_left : Option (TokenKind × Bor (List Token)) → Bool
has_left None = false
has_left (Some x) = has_condition (terminal_of x.0 ∷ terminals_of x.1.now)

abbrev pub left_len : Option (TokenKind × Bor (List Token)) → ℕ
left_len None = 0
left_len (Some x) = length x.1.now + 1

pub left_is : (ts : List Terminal) (o : Option (TokenKind × Bor (List Token)))
    → MatchOption o (ts ≡ []) (λ x. ts ≡ terminal_of x.0 ∷ terminals_of x.1.now) → has_condition ts ≡ has_left o
left_is ts None h = ap has_condition h
left_is ts (Some x) h = ap has_condition h
