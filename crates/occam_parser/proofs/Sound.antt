-- What is read is written so.
use Rattle.std.proofs.Common.{◌≡◌, ℕ, zero, suc, pred, ◌<◌, true, false, List, [], ◌∷◌, ◌++◌, length}
use Rattle.std.proofs.Common.{Option, Some, None, refl, sym, ap, subst, arith, append_assoc, ◌∙◌}
use Rattle.std.specs.Prelude.{is_some}
use Rattle.occam_layout.specs.declared.mark.Mark as mark_type
use Rattle.occam_layout.specs.declared.mark.Mark.TheVariants as mark
use Rattle.occam_parser.specs.declared.tree.ValueType.{ValueType}
use Rattle.occam_parser.specs.declared.tree.ValueType.TheVariants as value_type
use Rattle.occam_parser.specs.declared.tree.PrefixOperator.{PrefixOperator}
use Rattle.occam_parser.specs.declared.tree.ChainOperator.{ChainOperator}
use Rattle.occam_parser.specs.declared.front.Operator.{Operator}
use Rattle.occam_parser.specs.declared.front.Operator.TheVariants as operator
use Rattle.occam_parser.specs.Terminals.{Terminal, Name, Integer, Character, Text, Mark}
use Rattle.occam_parser.specs.Expressions.{Expression, Alone, Prefixed, Paired, Chained, Terms, Two, Then, Term}
use Rattle.occam_parser.specs.Expressions.{Number, Byte, Truth, MostPos, MostNeg, Named, Element, Bracketed, Converted}
use Rattle.occam_parser.specs.Expressions.{prefix_sign, type_word, pair_mark, chain_mark, operator_mark, written}
use Rattle.occam_parser.specs.Expressions.{written_terms}
use Rattle.occam_parser.specs.Expressions.{written_term, Fits}
use Rattle.occam_parser.specs.Expressions.{FitTerms, FitsTerm}
use Rattle.occam_parser.specs.Reading.{Reads, ◌>>=◌, behind, prefix_at, operator_at, up_to}
use Rattle.occam_parser.specs.Reading.{named_behind, named, converted, marked, term_with, chain_step, chain_from, chain}
use Rattle.occam_parser.specs.Reading.{with_operator, first_behind}
use Rattle.occam_parser.specs.Reading.{after_first, one_behind, one_operator, alone, expression_with, nothing, term_at}
use Rattle.occam_parser.specs.Reading.{inner_at, operand_within, expression_at}
use Rattle.occam_parser.specs.Laws.{Sound}
use Rattle.occam_parser.proofs.Options.{bind_some, at_some, not_chosen}
use Rattle.occam_parser.proofs.Marks.{behind_is, operator_is, prefix_is}

pub up_to_is : {A : Type 0} (close : mark_type.Mark) (read : Option (A × List Terminal)) (x : A)
    (rest : List Terminal) → up_to close read ≡ Some (x, rest) → read ≡ Some (x, Mark close ∷ rest)
unfolding up_to
up_to_is {A} close read x rest e =
    let y = bind_some read _ (x, rest) e in
    let z = bind_some (behind close y.0.1) _ (x, rest) y.2 in
    let is = behind_is close y.0.1 z.0 z.1 in
    let same = at_some (λ (w : A × List Terminal). ◌≡◌ {A = A × List Terminal} (y.0.0, Mark close ∷ z.0)
    (w.0, Mark close ∷ w.1)) (y.0.0, z.0) (x, rest) z.2 refl in
    y.1 ∙ ap (λ us. Some (y.0.0, us)) is ∙ ap Some same

-- what a reading gives, after a terminal that was read
abbrev pub IsTerm : ℕ → List Terminal → Term × List Terminal → Type 0
IsTerm n ts x = (ts ≡ written_term x.0 ++ x.1) × FitsTerm x.0 n

regroup : (ts rest : List Terminal) (c : Terminal) → ts ++ c ∷ rest ≡ (ts ++ c ∷ []) ++ rest
regroup ts rest c = sym (append_assoc ts (c ∷ []) rest)

named_found : (inner : Reads Expression) (n : ℕ) → Sound written (λ e. (0 < n) × Fits e (pred n)) inner
    → (name : List ℕ) (ts : List Terminal) (o : Option (List Terminal)) (x : Term × List Terminal)
    → behind mark.OpenBracket ts ≡ o → named_behind name ts inner o ≡ Some x → IsTerm n (Name name ∷ ts) x
named_found inner n i name ts None x is e = at_some (IsTerm n (Name name ∷ ts)) (Named name, ts) x e (refl, tt)
named_found inner n i name ts (Some after) x is e =
    let y = bind_some (up_to mark.CloseBracket (inner after)) _ x e in
    let read = up_to_is mark.CloseBracket (inner after) y.0.0 y.0.1 y.1 in
    let h = i after y.0.0 (Mark mark.CloseBracket ∷ y.0.1) read in
    let opened = behind_is mark.OpenBracket ts after is in
    let whole = opened ∙ ap (λ us. Mark mark.OpenBracket ∷ us)
    (h.0 ∙ regroup (written y.0.0) y.0.1 (Mark mark.CloseBracket)) in
    at_some (IsTerm n (Name name ∷ ts)) (Element name y.0.0, y.0.1) x y.2 (ap (λ us. Name name ∷ us) whole, h.1)

named_sound : (inner : Reads Expression) (n : ℕ) → Sound written (λ e. (0 < n) × Fits e (pred n)) inner
    → (name : List ℕ) (ts : List Terminal) (x : Term × List Terminal) → named inner name ts ≡ Some x
    → IsTerm n (Name name ∷ ts) x
unfolding named
named_sound inner n i name ts x e = named_found inner n i name ts (behind mark.OpenBracket ts) x refl e

converted_sound : (operand : Reads Term) (n : ℕ) → Sound written_term (λ t. (0 < n) × FitsTerm t (pred n)) operand
    → (to : ValueType) (ts : List Terminal) (x : Term × List Terminal) → converted operand to ts ≡ Some x
    → IsTerm n (type_word to ∷ ts) x
unfolding converted
converted_sound operand n o to ts x e =
    let y = bind_some (operand ts) _ x e in
    let h = o ts y.0.0 y.0.1 y.1 in
    at_some (IsTerm n (type_word to ∷ ts)) (Converted to y.0.0, y.0.1) x y.2 (ap (λ us. type_word to ∷ us) h.0, h.1)

bracketed_sound : (inner : Reads Expression) (n : ℕ) → Sound written (λ e. (0 < n) × Fits e (pred n)) inner
    → (ts : List Terminal) (x : Term × List Terminal)
    → (up_to mark.CloseParenthesis (inner ts) >>= λ y. Some (Bracketed y.0, y.1)) ≡ Some x
    → IsTerm n (Mark mark.OpenParenthesis ∷ ts) x
bracketed_sound inner n i ts x e =
    let y = bind_some (up_to mark.CloseParenthesis (inner ts)) _ x e in
    let read = up_to_is mark.CloseParenthesis (inner ts) y.0.0 y.0.1 y.1 in
    let h = i ts y.0.0 (Mark mark.CloseParenthesis ∷ y.0.1) read in
    let whole = h.0 ∙ regroup (written y.0.0) y.0.1 (Mark mark.CloseParenthesis) in
    at_some (IsTerm n (Mark mark.OpenParenthesis ∷ ts)) (Bracketed y.0.0, y.0.1) x y.2
    (ap (λ us. Mark mark.OpenParenthesis ∷ us) whole, h.1)

extreme_sound : (n : ℕ) (m : mark_type.Mark) (t : Term) (ts : List Terminal) (x : Term × List Terminal)
    → written_term t ≡ Mark m ∷ Mark mark.Int ∷ [] → FitsTerm t n
    → (behind mark.Int ts >>= λ rest. Some (t, rest)) ≡ Some x → IsTerm n (Mark m ∷ ts) x
extreme_sound n m t ts x w fits e =
    let y = bind_some (behind mark.Int ts) _ x e in
    let is = behind_is mark.Int ts y.0 y.1 in
    at_some (IsTerm n (Mark m ∷ ts)) (t, y.0) x y.2 (ap (λ us. Mark m ∷ us) is ∙ ap (λ us. us ++ y.0) (sym w), fits)

marked_sound : (inner : Reads Expression) (operand : Reads Term) (n : ℕ)
    → Sound written (λ e. (0 < n) × Fits e (pred n)) inner
    → Sound written_term (λ t. (0 < n) × FitsTerm t (pred n)) operand
    → (m : mark_type.Mark) (ts : List Terminal) (x : Term × List Terminal)
    → marked inner operand m ts ≡ Some x → IsTerm n (Mark m ∷ ts) x
unfolding marked
marked_sound inner operand n i o mark.True ts x e =
    at_some (IsTerm n (Mark mark.True ∷ ts)) (Truth true, ts) x e (refl, tt)
marked_sound inner operand n i o mark.False ts x e =
    at_some (IsTerm n (Mark mark.False ∷ ts)) (Truth false, ts) x e (refl, tt)
marked_sound inner operand n i o mark.MostPos ts x e = extreme_sound n mark.MostPos MostPos ts x refl tt e
marked_sound inner operand n i o mark.MostNeg ts x e = extreme_sound n mark.MostNeg MostNeg ts x refl tt e
marked_sound inner operand n i o mark.Int ts x e = converted_sound operand n o value_type.Int ts x e
marked_sound inner operand n i o mark.Byte ts x e = converted_sound operand n o value_type.Byte ts x e
marked_sound inner operand n i o mark.OpenParenthesis ts x e = bracketed_sound inner n i ts x e
marked_sound inner operand n i o m ts x e = absurd (cc)

term_with_sound : (inner : Reads Expression) (operand : Reads Term) (n : ℕ)
    → Sound written (λ e. (0 < n) × Fits e (pred n)) inner
    → Sound written_term (λ t. (0 < n) × FitsTerm t (pred n)) operand
    → Sound written_term (λ t. FitsTerm t n) (term_with inner operand)
unfolding term_with
term_with_sound inner operand n i o [] x rest e = absurd (cc)
term_with_sound inner operand n i o (Integer value ∷ ts) x rest e =
    at_some (IsTerm n (Integer value ∷ ts)) (Number value, ts) (x, rest) e (refl, tt)
term_with_sound inner operand n i o (Character byte ∷ ts) x rest e =
    at_some (IsTerm n (Character byte ∷ ts)) (Byte byte, ts) (x, rest) e (refl, tt)
term_with_sound inner operand n i o (Name name ∷ ts) x rest e = named_sound inner n i name ts (x, rest) e
term_with_sound inner operand n i o (Mark m ∷ ts) x rest e = marked_sound inner operand n i o m ts (x, rest) e
term_with_sound inner operand n i o (Text bytes ∷ ts) x rest e = absurd (cc)

-- ---- expressions

abbrev pub IsTerms : ChainOperator → ℕ → List Terminal → Terms × List Terminal → Type 0
IsTerms op n whole x = (whole ≡ written_terms op x.0 ++ x.1) × FitTerms x.0 n

abbrev pub IsExpression : ℕ → List Terminal → Expression × List Terminal → Type 0
IsExpression n ts x = (ts ≡ written x.0 ++ x.1) × Fits x.0 n

chain_found : (p : Reads Term) (n : ℕ) → Sound written_term (λ t. FitsTerm t n) p
    → (op : ChainOperator) (more : Terms → Reads Terms)
    → ((us : Terms) (vs : List Terminal) (y : Terms × List Terminal) → FitTerms us n
    → more us vs ≡ Some y → IsTerms op n (written_terms op us ++ vs) y)
    → (terms : Terms) (ts : List Terminal) (o : Option (List Terminal)) (x : Terms × List Terminal)
    → FitTerms terms n → behind (chain_mark op) ts ≡ o → chain_step p more terms ts o ≡ Some x
    → IsTerms op n (written_terms op terms ++ ts) x
chain_found p n s op more m terms ts None x fits b e =
    at_some (IsTerms op n (written_terms op terms ++ ts)) (terms, ts) x e (refl, fits)
chain_found p n s op more m terms ts (Some after) x fits b e =
    let y = bind_some (p after) _ x e in
    let h = s after y.0.0 y.0.1 y.1 in
    let sign = behind_is (chain_mark op) ts after b in
    let rest = m (Then terms y.0.0) y.0.1 x (fits, h.1) y.2 in
    let whole = ap (λ us. written_terms op terms ++ us) (sign ∙ ap (λ us. Mark (chain_mark op) ∷ us) h.0) ∙ sym
    (append_assoc (written_terms op terms) (Mark (chain_mark op) ∷ written_term y.0.0) y.0.1) in
    (whole ∙ rest.0, rest.1)

chain_sound : (p : Reads Term) (n : ℕ) → Sound written_term (λ t. FitsTerm t n) p
    → (op : ChainOperator) (k : ℕ) (terms : Terms) (ts : List Terminal) (x : Terms × List Terminal)
    → FitTerms terms n → chain_from p (chain_mark op) k terms ts ≡ Some x
    → IsTerms op n (written_terms op terms ++ ts) x
unfolding chain_from
chain_sound p n s op zero terms ts x fits e =
    at_some (IsTerms op n (written_terms op terms ++ ts)) (terms, ts) x e (refl, fits)
chain_sound p n s op (suc k) terms ts x fits e =
    chain_found p n s op (chain_from p (chain_mark op) k) (chain_sound p n s op k) terms ts (behind (chain_mark op) ts)
    x fits refl e

-- an operator, which has this mark, and what follows it
operator_sound : (p : Reads Term) (n : ℕ) → Sound written_term (λ t. FitsTerm t n) p
    → (first : Term) (op : Operator) (ts : List Terminal) (x : Expression × List Terminal) → FitsTerm first n
    → with_operator p first op (operator_mark op) ts ≡ Some x
    → IsExpression n (written_term first ++ Mark (operator_mark op) ∷ ts) x
unfolding chain
operator_sound p n s first (operator.Pair op) ts x fits e =
    let y = bind_some (p ts) _ x e in
    let h = s ts y.0.0 y.0.1 y.1 in
    let whole = ap (λ us. written_term first ++ Mark (pair_mark op) ∷ us) h.0 ∙ sym
    (append_assoc (written_term first) (Mark (pair_mark op) ∷ written_term y.0.0) y.0.1) in
    at_some (IsExpression n (written_term first ++ Mark (pair_mark op) ∷ ts)) (Paired op first y.0.0, y.0.1) x y.2
    (whole, (fits, h.1))
operator_sound p n s first (operator.Chain op) ts x fits e =
    let y = bind_some (p ts) _ x e in
    let h = s ts y.0.0 y.0.1 y.1 in
    let z = bind_some (chain_from p (chain_mark op) (length ts) (Two first y.0.0) y.0.1) _ x y.2 in
    let rest = chain_sound p n s op (length ts) (Two first y.0.0) y.0.1 z.0 (fits, h.1) z.1 in
    let whole = ap (λ us. written_term first ++ Mark (chain_mark op) ∷ us) h.0 ∙ sym
    (append_assoc (written_term first) (Mark (chain_mark op) ∷ written_term y.0.0) y.0.1) in
    at_some (IsExpression n (written_term first ++ Mark (chain_mark op) ∷ ts)) (Chained op z.0.0, z.0.1) x z.2
    (whole ∙ rest.0, rest.1)

first_sound : (p : Reads Term) (n : ℕ) → Sound written_term (λ t. FitsTerm t n) p
    → (first : Term) (ts : List Terminal) (o : Option ((Operator × mark_type.Mark) × List Terminal))
    (x : Expression × List Terminal) → FitsTerm first n → operator_at ts ≡ o → first_behind p first ts o ≡ Some x
    → IsExpression n (written_term first ++ ts) x
first_sound p n s first ts None x fits b e = at_some (IsExpression n (written_term first ++ ts)) (Alone first, ts) x e
    (refl, fits)
first_sound p n s first ts (Some y) x fits b e =
    let is = operator_is ts y b in
    let e = subst (λ m. with_operator p first y.0.0 m y.1 ≡ Some x) is.1 e in
    let h = operator_sound p n s first y.0.0 y.1 x fits e in
    (ap (λ us. written_term first ++ us) (is.0 ∙ ap (λ m. Mark m ∷ y.1) is.1) ∙ h.0, h.1)

after_sound : (p : Reads Term) (n : ℕ) → Sound written_term (λ t. FitsTerm t n) p
    → (first : Term) (ts : List Terminal) (x : Expression × List Terminal) → FitsTerm first n
    → after_first p first ts ≡ Some x → IsExpression n (written_term first ++ ts) x
unfolding after_first
after_sound p n s first ts x fits e = first_sound p n s first ts (operator_at ts) x fits refl e

one_found : (p : Reads Term) (n : ℕ) → Sound written_term (λ t. FitsTerm t n) p
    → (ts : List Terminal) (o : Option (PrefixOperator × List Terminal)) (x : Expression × List Terminal)
    → prefix_at ts ≡ o → one_behind p ts o ≡ Some x → IsExpression n ts x
one_found p n s ts None x b e =
    let y = bind_some (p ts) _ x e in
    let h = s ts y.0.0 y.0.1 y.1 in
    let found = after_sound p n s y.0.0 y.0.1 x h.1 y.2 in
    (h.0 ∙ found.0, found.1)
one_found p n s ts (Some q) x b e =
    let y = bind_some (p q.1) _ x e in
    let h = s q.1 y.0.0 y.0.1 y.1 in
    let sign = prefix_is ts q.0 q.1 b in
    at_some (IsExpression n ts) (Prefixed q.0 y.0.0, y.0.1) x y.2 (sign ∙ ap (λ us. prefix_sign q.0 ∷ us) h.0, h.1)

alone_is : (o : Option (Expression × List Terminal)) (x : Expression × List Terminal) → alone o ≡ Some x → o ≡ Some x
alone_is None x e = absurd (cc)
alone_is (Some y) x e = ap Some (not_chosen (is_some (operator_at y.1)) y x e).1

expression_with_sound : (p : Reads Term) (n : ℕ) → Sound written_term (λ t. FitsTerm t n) p
    → Sound written (λ e. Fits e n) (expression_with p)
unfolding expression_with one_operator
expression_with_sound p n s ts x rest e = one_found p n s ts (prefix_at ts) (x, rest) refl
    (alone_is (one_operator p ts) (x, rest) e)

nothing_sound : {A : Type 0} (write : A → List Terminal) (fits : A → Type 0) → Sound write fits nothing
nothing_sound write fits ts x rest e = absurd (cc)

-- the two that are one level down
levels_sound : (n : ℕ) → Sound written (λ e. (0 < n) × Fits e (pred n)) (inner_at n) × Sound written_term
    (λ t. (0 < n) × FitsTerm t (pred n)) (operand_within n)
unfolding inner_at operand_within
levels_sound zero = (
  nothing_sound written (λ e. (0 < zero) × Fits e (pred zero)),
  nothing_sound written_term
      (λ t. (0 < zero) × FitsTerm t (pred zero)),
)
levels_sound (suc n) =
    let below = levels_sound n in
    let terms = term_with_sound (inner_at n) (operand_within n) n below.0 below.1 in (
      λ ts x rest e. let h = expression_with_sound (term_with (inner_at n) (operand_within n)) n terms ts x rest e in
          (h.0, (omega arith, h.1)),
      λ ts x rest e. let h = terms ts x rest e in (h.0, (omega arith, h.1)),
    )

pub term_sound : (n : ℕ) → Sound written_term (λ t. FitsTerm t n) (term_at n)
unfolding term_at
term_sound n = let below = levels_sound n in term_with_sound (inner_at n) (operand_within n) n below.0 below.1

-- An expression that is read is written so, and fits.
pub expression_sound : (n : ℕ) → Sound written (λ e. Fits e n) (expression_at n)
unfolding expression_at
expression_sound n = expression_with_sound (term_at n) n (term_sound n)
