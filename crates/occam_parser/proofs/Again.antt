-- What is written is read again.
use Rattle.std.proofs.Common.{◌≡◌, ℕ, pred, ◌≤◌, Bool, true, false, cond, List, [], ◌∷◌, ◌++◌, length}
use Rattle.std.specs.Prelude.{is_some}
use Rattle.std.proofs.Common.{Option, Some, None, refl, sym, ap, subst, arith, append_assoc, length-append, ◌∙◌}
use Rattle.occam_layout.specs.declared.mark.Mark as mark_type
use Rattle.occam_layout.specs.declared.mark.Mark.TheVariants as mark
use Rattle.occam_parser.specs.declared.tree.ValueType.{ValueType}
use Rattle.occam_parser.specs.declared.tree.ValueType.TheVariants as value_type
use Rattle.occam_parser.specs.declared.tree.PrefixOperator.{PrefixOperator}
use Rattle.occam_parser.specs.declared.tree.PrefixOperator.TheVariants as prefix
use Rattle.occam_parser.specs.declared.tree.PairOperator.{PairOperator}
use Rattle.occam_parser.specs.declared.tree.ChainOperator.{ChainOperator}
use Rattle.occam_parser.specs.declared.front.Operator.{Operator}
use Rattle.occam_parser.specs.declared.front.Operator.TheVariants as operator
use Rattle.occam_parser.specs.Terminals.{Terminal, Name, Integer, Character, Mark}
use Rattle.occam_parser.specs.Expressions.{Expression, Alone, Prefixed, Paired, Chained, Terms, Two, Then, Term}
use Rattle.occam_parser.specs.Expressions.{Number, Byte, Truth, MostPos, MostNeg, Named, Element, Bracketed, Converted}
use Rattle.occam_parser.specs.Expressions.{prefix_sign, type_word, truth_word, written, written_terms, written_term}
use Rattle.occam_parser.specs.Expressions.{pair_mark, chain_mark, operator_mark, Fits, FitTerms, FitsTerm}
use Rattle.occam_parser.specs.Reading.{Reads, ◌>>=◌, behind, prefix_at, operator_at, up_to}
use Rattle.occam_parser.specs.Reading.{named_behind, named, converted, marked, term_with, chain_from, chain}
use Rattle.occam_parser.specs.Reading.{with_operator, first_behind, after_first, one_behind, one_operator, alone}
use Rattle.occam_parser.specs.Reading.{expression_with, term_at}
use Rattle.occam_parser.specs.Reading.{inner_at, operand_within, expression_at}
use Rattle.occam_parser.specs.Laws.{Ends}
use Rattle.occam_parser.proofs.Marks.{behind_again, operator_again, operator_no_subscript, no_operator_mark}
use Rattle.occam_parser.proofs.Levels.{inner_is, operand_is}
use Rattle.occam_parser.proofs.ListsAreRead.{chain_turn, chain_no_turn}

-- ---- one level, as equations

term_number : (n : ℕ) (ts : List Terminal) (v : _) → term_at n (Integer v ∷ ts) ≡ Some (Number v, ts)
unfolding term_at term_with
term_number n ts v = refl

term_byte : (n : ℕ) (ts : List Terminal) (b : ℕ) → term_at n (Character b ∷ ts) ≡ Some (Byte b, ts)
unfolding term_at term_with
term_byte n ts b = refl

term_name : (n : ℕ) (ts : List Terminal) (name : List ℕ) → term_at n (Name name ∷ ts) ≡ named (inner_at n) name ts
unfolding term_at term_with
term_name n ts name = refl

term_mark : (n : ℕ) (ts : List Terminal) (m : mark_type.Mark)
    → term_at n (Mark m ∷ ts) ≡ marked (inner_at n) (operand_within n) m ts
unfolding term_at term_with
term_mark n ts m = refl

pub up_to_again : {A : Type 0} (close : mark_type.Mark) (read : Option (A × List Terminal)) (x : A)
    (rest : List Terminal) → read ≡ Some (x, Mark close ∷ rest) → up_to close read ≡ Some (x, rest)
unfolding up_to
up_to_again {A} close read x rest e =
    ap (λ (o : Option (A × List Terminal)). o >>= λ y. behind close y.1 >>= λ us. Some (y.0, us)) e ∙ ap
    (λ o. o >>= λ us. Some (x, us)) (behind_again close rest)

named_alone : (inner : Reads Expression) (name : List ℕ) (ts : List Terminal) → behind mark.OpenBracket ts ≡ None
    → named inner name ts ≡ Some (Named name, ts)
unfolding named
named_alone inner name ts e = ap (named_behind name ts inner) e

named_element : (inner : Reads Expression) (name : List ℕ) (ts rest : List Terminal) (e : Expression)
    → inner ts ≡ Some (e, Mark mark.CloseBracket ∷ rest)
    → named inner name (Mark mark.OpenBracket ∷ ts) ≡ Some (Element name e, rest)
unfolding named
named_element inner name ts rest e h =
    ap (named_behind name (Mark mark.OpenBracket ∷ ts) inner) (behind_again mark.OpenBracket ts) ∙ ap
    (λ o. o >>= λ x. Some (Element name x.0, x.1)) (up_to_again mark.CloseBracket (inner ts) e rest h)

bracketed_again : (inner : Reads Expression) (operand : Reads Term) (ts rest : List Terminal) (e : Expression)
    → inner ts ≡ Some (e, Mark mark.CloseParenthesis ∷ rest)
    → marked inner operand mark.OpenParenthesis ts ≡ Some (Bracketed e, rest)
unfolding marked
bracketed_again inner operand ts rest e h = ap (λ o. o >>= λ x. Some (Bracketed x.0, x.1))
    (up_to_again mark.CloseParenthesis (inner ts) e rest h)

truth_again : (n : ℕ) (ts : List Terminal) (b : Bool) → term_at n (truth_word b ∷ ts) ≡ Some (Truth b, ts)
unfolding marked
truth_again n ts true = term_mark n ts mark.True
truth_again n ts false = term_mark n ts mark.False

most_pos_again : (n : ℕ) (ts : List Terminal) → term_at n (Mark mark.MostPos ∷ Mark mark.Int ∷ ts) ≡ Some (MostPos, ts)
unfolding marked
most_pos_again n ts = term_mark n (Mark mark.Int ∷ ts) mark.MostPos ∙ ap (λ o. o >>= λ rest. Some (MostPos, rest))
    (behind_again mark.Int ts)

most_neg_again : (n : ℕ) (ts : List Terminal) → term_at n (Mark mark.MostNeg ∷ Mark mark.Int ∷ ts) ≡ Some (MostNeg, ts)
unfolding marked
most_neg_again n ts = term_mark n (Mark mark.Int ∷ ts) mark.MostNeg ∙ ap (λ o. o >>= λ rest. Some (MostNeg, rest))
    (behind_again mark.Int ts)

converted_is : (n : ℕ) (ts : List Terminal) (to : ValueType)
    → term_at n (type_word to ∷ ts) ≡ converted (operand_within n) to ts
unfolding marked
converted_is n ts value_type.Int = term_mark n ts mark.Int
converted_is n ts value_type.Byte = term_mark n ts mark.Byte

converted_again : (operand : Reads Term) (to : ValueType) (ts rest : List Terminal) (t : Term)
    → operand ts ≡ Some (t, rest) → converted operand to ts ≡ Some (Converted to t, rest)
unfolding converted
converted_again operand to ts rest t h = ap (λ o. o >>= λ x. Some (Converted to x.0, x.1)) h

ends_bracket : (rest : List Terminal) → Ends (Mark mark.CloseBracket ∷ rest)
unfolding behind operator_at
ends_bracket rest = record { no_subscript = refl; no_operator = refl }

ends_parenthesis : (rest : List Terminal) → Ends (Mark mark.CloseParenthesis ∷ rest)
unfolding behind operator_at
ends_parenthesis rest = record { no_subscript = refl; no_operator = refl }

-- ---- one operator

prefix_again : (op : PrefixOperator) (rest : List Terminal) → prefix_at (prefix_sign op ∷ rest) ≡ Some (op, rest)
unfolding prefix_at
prefix_again prefix.Negate rest = refl
prefix_again prefix.BitNot rest = refl
prefix_again prefix.Not rest = refl

-- no term begins with a prefix, or with a parenthesis that closes
pub begins_no_other : (t : Term) (rest : List Terminal)
    → (prefix_at (written_term t ++ rest) ≡ None) × (behind mark.CloseParenthesis (written_term t ++ rest) ≡ None)
unfolding prefix_at behind
begins_no_other (Number value) rest = (refl, refl)
begins_no_other (Byte byte) rest = (refl, refl)
begins_no_other (Truth true) rest = (refl, refl)
begins_no_other (Truth false) rest = (refl, refl)
begins_no_other MostPos rest = (refl, refl)
begins_no_other MostNeg rest = (refl, refl)
begins_no_other (Named name) rest = (refl, refl)
begins_no_other (Element name e) rest = (refl, refl)
begins_no_other (Bracketed e) rest = (refl, refl)
begins_no_other (Converted value_type.Int t) rest = (refl, refl)
begins_no_other (Converted value_type.Byte t) rest = (refl, refl)

no_prefix : (t : Term) (rest : List Terminal) → prefix_at (written_term t ++ rest) ≡ None
no_prefix t rest = (begins_no_other t rest).0

after_alone : (p : Reads Term) (first : Term) (rest : List Terminal) → operator_at rest ≡ None
    → after_first p first rest ≡ Some (Alone first, rest)
unfolding after_first
after_alone p first rest e = ap (first_behind p first rest) e

ends_well : (o : Option (Expression × List Terminal)) (e : Expression) (rest : List Terminal) → o ≡ Some (e, rest)
    → operator_at rest ≡ None → alone o ≡ Some (e, rest)
ends_well o e rest h b = ap alone h ∙ ap (λ (t : Option ((Operator × mark_type.Mark) × List Terminal)). cond
    (is_some t) None (Some (e, rest))) b

alone_again : (p : Reads Term) (ts rest : List Terminal) (t : Term) → prefix_at ts ≡ None → p ts ≡ Some (t, rest)
    → operator_at rest ≡ None → expression_with p ts ≡ Some (Alone t, rest)
unfolding expression_with one_operator
alone_again p ts rest t n h b =
    ends_well (one_operator p ts) (Alone t) rest
    (ap (one_behind p ts) n ∙ ap (λ o. o >>= λ x. after_first p x.0 x.1) h ∙ after_alone p t rest b) b

prefixed_again : (p : Reads Term) (op : PrefixOperator) (ts rest : List Terminal) (t : Term) → p ts ≡ Some (t, rest)
    → operator_at rest ≡ None → expression_with p (prefix_sign op ∷ ts) ≡ Some (Prefixed op t, rest)
unfolding expression_with one_operator
prefixed_again p op ts rest t h b =
    ends_well (one_operator p (prefix_sign op ∷ ts)) (Prefixed op t) rest
    (ap (one_behind p (prefix_sign op ∷ ts)) (prefix_again op ts) ∙ ap
    (λ o. o >>= λ x. Some (Prefixed op x.0, x.1)) h) b

after_operator : (p : Reads Term) (first : Term) (op : Operator) (ts : List Terminal)
    → after_first p first (Mark (operator_mark op) ∷ ts) ≡ with_operator p first op (operator_mark op) ts
unfolding after_first
after_operator p first op ts = ap (first_behind p first (Mark (operator_mark op) ∷ ts)) (operator_again op ts)

after_pair : (p : Reads Term) (op : PairOperator) (a b : Term) (ts rest : List Terminal) → p ts ≡ Some (b, rest)
    → after_first p a (Mark (pair_mark op) ∷ ts) ≡ Some (Paired op a b, rest)
after_pair p op a b ts rest h = after_operator p a (operator.Pair op) ts ∙ ap
    (λ o. o >>= λ x. Some (Paired op a x.0, x.1)) h

paired_again : (p : Reads Term) (op : PairOperator) (ts us rest : List Terminal) (a b : Term) → prefix_at ts ≡ None
    → p ts ≡ Some (a, Mark (pair_mark op) ∷ us) → p us ≡ Some (b, rest) → operator_at rest ≡ None
    → expression_with p ts ≡ Some (Paired op a b, rest)
unfolding expression_with one_operator
paired_again p op ts us rest a b n h k e =
    ends_well (one_operator p ts) (Paired op a b) rest
    (ap (one_behind p ts) n ∙ ap (λ o. o >>= λ x. after_first p x.0 x.1) h ∙ after_pair p op a b us rest k) e

-- How the reading of a chain goes on when these operands were read, and rest is left.
pub record ReadSo (p : Reads Term) (op : ChainOperator) (ts : List Terminal) (terms : Terms) (rest : List Terminal)
    : Type 0 where
  pub first : Term
  pub more : List Terminal
  pub second : Term
  pub behind_second : List Terminal
  pub turns : ℕ
  pub plain : prefix_at ts ≡ None
  pub reads_first : p ts ≡ Some (first, Mark (chain_mark op) ∷ more)
  pub reads_second : p more ≡ Some (second, behind_second)
  pub goes_on : chain_from p (chain_mark op) (length more) (Two first second) behind_second
      ≡ chain_from p (chain_mark op)
      turns terms
      rest
  pub enough : length rest ≤ turns

after_chain : (p : Reads Term) (op : ChainOperator) (a : Term) (ts : List Terminal)
    → after_first p a (Mark (chain_mark op) ∷ ts) ≡ chain p op (chain_mark op) a ts
after_chain p op a ts = after_operator p a (operator.Chain op) ts

chain_again : (p : Reads Term) (op : ChainOperator) (ts : List Terminal) (terms : Terms) (rest : List Terminal)
    → ReadSo p op ts terms rest → operator_at rest ≡ None
    → expression_with p ts ≡ Some (Chained op terms, rest)
unfolding expression_with one_operator chain
chain_again p op ts terms rest r b =
    let found = ap (λ (o : Option (Term × List Terminal)). o >>= λ x. chain_from p (chain_mark op) (length r.more)
    (Two r.first x.0) x.1 >>= λ y. Some (Chained op y.0, y.1)) r.reads_second in
    let done = ap (λ (o : Option (Terms × List Terminal)). o >>= λ y. Some (Chained op y.0, y.1))
    (r.goes_on ∙ chain_no_turn p (chain_mark op) r.turns terms rest (no_operator_mark (operator.Chain op) rest b)) in
    ends_well (one_operator p ts) (Chained op terms) rest
    (ap (one_behind p ts) r.plain ∙ ap (λ (o : Option (Term × List Terminal)). o >>= λ x. after_first p x.0 x.1)
    r.reads_first ∙ after_chain p op r.first r.more ∙ found ∙ done)
    b

chain_first : (p : Reads Term) (op : ChainOperator) (ts us rest : List Terminal) (a b : Term) → prefix_at ts ≡ None
    → p ts ≡ Some (a, Mark (chain_mark op) ∷ us) → p us ≡ Some (b, rest) → length rest ≤ length us
    → ReadSo p op ts (Two a b) rest
chain_first p op ts us rest a b n h k l =
    record {
      first = a;
      more = us;
      second = b;
      behind_second = rest;
      turns = length us;
      plain = n;
      reads_first =
          h;
      reads_second = k;
      goes_on = refl;
      enough = l;
    }

chain_more : (p : Reads Term) (op : ChainOperator) (ts us rest : List Terminal) (terms : Terms) (b : Term)
    → ReadSo p op ts terms (Mark (chain_mark op) ∷ us) → p us ≡ Some (b, rest) → length rest ≤ length us
    → ReadSo p op ts (Then terms b) rest
chain_more p op ts us rest terms b r h l =
    let t = chain_turn p (chain_mark op) r.turns terms (Mark (chain_mark op) ∷ us) us (behind_again (chain_mark op) us)
    r.enough in
    record {
      first = r.first;
      more = r.more;
      second = r.second;
      behind_second = r.behind_second;
      turns = t.0;
      plain = r.plain;
      reads_first = r.reads_first;
      reads_second = r.reads_second;
      goes_on = r.goes_on ∙ t.2 ∙ ap (λ (o : Option (Term × List Terminal)). o >>= λ x.
          chain_from p (chain_mark op) t.0
          (Then terms x.0) x.1) h;
      enough = omega (arith, t.1);
    }

-- ---- whole trees

tail_le : (ts rest : List Terminal) → length rest ≤ length (ts ++ rest)
tail_le ts rest = omega (arith, length-append ts rest)

mutual
  unfolding expression_at

  pub expression_again : (e : Expression) (n : ℕ) (rest : List Terminal) → Fits e n → Ends rest
      → expression_at n (written e ++ rest) ≡ Some (e, rest)
  expression_again (Alone t) n rest fits ends =
      alone_again (term_at n) (written_term t ++ rest) rest t (no_prefix t rest)
      (term_again t n rest fits ends.no_subscript) ends.no_operator
  expression_again (Prefixed op t) n rest fits ends =
      prefixed_again (term_at n) op (written_term t ++ rest) rest t (term_again t n rest fits ends.no_subscript)
      ends.no_operator
  expression_again (Paired op a b) n rest fits ends =
      ap (expression_with (term_at n)) (append_assoc (written_term a) (Mark (pair_mark op) ∷ written_term b) rest)
      ∙ paired_again (term_at n) op (written_term a ++ Mark (pair_mark op) ∷ (written_term b ++ rest))
      (written_term b ++ rest)
      rest a b (no_prefix a (Mark (pair_mark op) ∷ (written_term b ++ rest)))
      (term_again a n (Mark (pair_mark op) ∷ (written_term b ++ rest)) fits.0
      (operator_no_subscript (operator.Pair op) (written_term b ++ rest)))
      (term_again b n rest fits.1 ends.no_subscript)
      ends.no_operator
  expression_again (Chained op terms) n rest fits ends =
      chain_again (term_at n) op (written_terms op terms ++ rest) terms rest
      (terms_again terms op n rest fits ends.no_subscript) ends.no_operator

  terms_again : (terms : Terms) (op : ChainOperator) (n : ℕ) (rest : List Terminal) → FitTerms terms n
      → behind mark.OpenBracket rest ≡ None
      → ReadSo (term_at n) op (written_terms op terms ++ rest) terms rest
  terms_again (Two a b) op n rest fits e =
      let us = written_term b ++ rest in
      subst (λ ts. ReadSo (term_at n) op ts (Two a b) rest)
      (sym (append_assoc (written_term a) (Mark (chain_mark op) ∷ written_term b) rest))
      (chain_first (term_at n) op (written_term a ++ Mark (chain_mark op) ∷ us) us rest a b
      (no_prefix a (Mark (chain_mark op) ∷ us))
      (term_again a n (Mark (chain_mark op) ∷ us) fits.0 (operator_no_subscript (operator.Chain op) us))
      (term_again b n rest fits.1 e) (tail_le (written_term b) rest))
  terms_again (Then ts b) op n rest fits e =
      let us = written_term b ++ rest in
      subst (λ vs. ReadSo (term_at n) op vs (Then ts b) rest)
      (sym (append_assoc (written_terms op ts) (Mark (chain_mark op) ∷ written_term b) rest))
      (chain_more (term_at n) op (written_terms op ts ++ Mark (chain_mark op) ∷ us) us rest ts b
      (terms_again ts op n (Mark (chain_mark op) ∷ us) fits.0 (operator_no_subscript (operator.Chain op) us))
      (term_again b n rest fits.1 e) (tail_le (written_term b) rest))

  term_again : (t : Term) (n : ℕ) (rest : List Terminal) → FitsTerm t n → behind mark.OpenBracket rest ≡ None
      → term_at n (written_term t ++ rest) ≡ Some (t, rest)
  term_again (Number value) n rest fits e = term_number n rest value
  term_again (Byte byte) n rest fits e = term_byte n rest byte
  term_again (Truth holds) n rest fits e = truth_again n rest holds
  term_again MostPos n rest fits e = most_pos_again n rest
  term_again MostNeg n rest fits e = most_neg_again n rest
  term_again (Named name) n rest fits e = term_name n rest name ∙ named_alone (inner_at n) name rest e
  term_again (Element name x) n rest fits e =
      let ts = written x ++ Mark mark.CloseBracket ∷ rest in
      ap (λ us. term_at n (Name name ∷ Mark mark.OpenBracket ∷ us))
      (append_assoc (written x) (Mark mark.CloseBracket ∷ []) rest)
      ∙ (term_name n (Mark mark.OpenBracket ∷ ts) name
      ∙ named_element (inner_at n) name ts rest x
      (inner_is n ts fits.0 ∙ expression_again x (pred n) (Mark mark.CloseBracket ∷ rest) fits.1
      (ends_bracket rest)))
  term_again (Bracketed x) n rest fits e =
      let ts = written x ++ Mark mark.CloseParenthesis ∷ rest in
      ap (λ us. term_at n (Mark mark.OpenParenthesis ∷ us))
      (append_assoc (written x) (Mark mark.CloseParenthesis ∷ []) rest)
      ∙ (term_mark n ts mark.OpenParenthesis
      ∙ bracketed_again (inner_at n) (operand_within n) ts rest x
      (inner_is n ts fits.0 ∙ expression_again x (pred n) (Mark mark.CloseParenthesis ∷ rest) fits.1
      (ends_parenthesis rest)))
  term_again (Converted to t) n rest fits e =
      converted_is n (written_term t ++ rest) to ∙ converted_again (operand_within n) to (written_term t ++ rest)
      rest t (operand_is n (written_term t ++ rest) fits.0 ∙ term_again t (pred n) rest fits.1 e)
