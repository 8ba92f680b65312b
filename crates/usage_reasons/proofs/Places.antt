-- Where the causes of a part of a line are in the line.
use Rattle.std.proofs.Common.{◌≡◌, ℕ, zero, suc, ◌+◌, ◌<◌, ◌^◌, List, [], ◌∷◌, ◌++◌, length, map, take, get_or, Option, Some}
use Rattle.std.proofs.Common.{None, refl, sym, ap, subst, ◌∙◌, arith, append_assoc, length-append, append-nil}
use Rattle.std.specs.Prelude.{IfSome, option_map}
use Rattle.occam_parser.specs.declared.tree.ChainOperator.{ChainOperator}
use Rattle.occam_parser.specs.declared.tree.Operand.{Operand}
use Rattle.occam_parser.specs.Terminals.{Terminal, Name, Mark}
use Rattle.occam_layout.specs.declared.mark.Mark.TheVariants as mark
use Rattle.occam_parser.specs.declared.tree.ValueType.{ValueType}
use Rattle.occam_parser.specs.declared.tree.PrefixOperator.{PrefixOperator}
use Rattle.occam_parser.specs.declared.tree.PairOperator.{PairOperator}
use Rattle.occam_parser.specs.Expressions.{Expression, Prefixed, Paired, Chained, Terms, Two, Then, Term, Element, Bracketed}
use Rattle.occam_parser.specs.Expressions.{Converted, written, written_term, written_terms, chain_mark, pair_mark}
use Rattle.occam_parser.specs.Expressions.{prefix_sign, type_word}
use Rattle.occam_parser.specs.Views.{term_of, with_others}
use Rattle.scalar_ranges.specs.Entries.{Entry}
use Rattle.scalar_ranges.proofs.Chains.{taken_one}
use Rattle.usage_reasons.specs.declared.cause.Cause.{Cause}
use Rattle.usage_reasons.specs.declared.reason.Why.{Why}
use Rattle.usage_reasons.specs.Tokens.{capped}
use Rattle.usage_reasons.specs.Chains.{written_others}
use Rattle.usage_reasons.specs.Causes.{Breaks, IsCause, meant}

-- all tokens of a part
pub itself : (es : List Entry) (part : List Terminal) (at len : ℕ) (why : Why) → at < 2 ^ 64
    → len ≡ capped (length part) → Breaks es part why
    → IsCause es part at (record { tokens = record { at = at; len = len }; why = why })
itself es part at len why fits count broken = record {
  before = [];
  part = part;
  after = [];
  whole = sym (append-nil part);
  place = omega arith;
  count = count;
  broken = broken;
}

-- all tokens of a part, if there is a reason
pub itself_if : (es : List Entry) (part : List Terminal) (at len : ℕ) (why : Option Why) (found : Option Cause)
    → found ≡ option_map (meant at len) why → at < 2 ^ 64 → len ≡ capped (length part) → IfSome why (Breaks es part)
    → IfSome found (IsCause es part at)
itself_if es part at len None found is fits count broken = subst (λ o. IfSome o (IsCause es part at)) (sym is) broken
itself_if es part at len (Some w) found is fits count broken =
    subst (λ o. IfSome o (IsCause es part at)) (sym is) (itself es part at len w fits count broken)

-- in the tokens before others
pub on_left : (es : List Entry) (xs ys : List Terminal) (at : ℕ) (c : Cause) → IsCause es xs at c
    → IsCause es (xs ++ ys) at c
on_left es xs ys at c h = record {
  before = h.before;
  part = h.part;
  after = h.after ++ ys;
  whole = ap (λ zs. zs ++ ys) h.whole ∙ append_assoc h.before (h.part ++ h.after) ys
      ∙ ap (λ zs. h.before ++ zs) (append_assoc h.part h.after ys);
  place = h.place;
  count = h.count;
  broken = h.broken;
}

-- in the tokens after others
pub on_right : (es : List Entry) (xs ys : List Terminal) (at next : ℕ) (c : Cause) → next ≡ capped (at + length xs)
    → IsCause es ys next c → IsCause es (xs ++ ys) at c
on_right es xs ys at next c is h = record {
  before = xs ++ h.before;
  part = h.part;
  after = h.after;
  whole = ap (λ zs. xs ++ zs) h.whole ∙ sym (append_assoc xs h.before (h.part ++ h.after));
  place = omega (arith, is, h.place, length-append xs h.before);
  count = h.count;
  broken = h.broken;
}

-- after one token
pub after_one : (es : List Entry) (x : Terminal) (ys : List Terminal) (at next : ℕ) (c : Cause) → next ≡ capped (at + 1)
    → IsCause es ys next c → IsCause es (x ∷ ys) at c
after_one es x ys at next c is h = on_right es (x ∷ []) ys at next c is h

-- after two tokens
pub after_two : (es : List Entry) (x y : Terminal) (ys : List Terminal) (at next : ℕ) (c : Cause)
    → next ≡ capped (at + 2) → IsCause es ys next c → IsCause es (x ∷ y ∷ ys) at c
after_two es x y ys at next c is h = on_right es (x ∷ y ∷ []) ys at next c is h

-- after a part and a token
pub after_part : (es : List Entry) (xs : List Terminal) (x : Terminal) (ys : List Terminal) (at width next : ℕ) (c : Cause)
    → width ≡ capped (length xs) → next ≡ capped (at + (1 + width)) → IsCause es ys next c → IsCause es (xs ++ x ∷ ys) at c
after_part es xs x ys at width next c w is h =
    let one : length (x ∷ ys) ≡ length (x ∷ ys) = refl in
    let moved : IsCause es (x ∷ ys) (capped (at + length xs)) c =
    after_one es x ys (capped (at + length xs)) next c (omega (arith, w, is)) h in
    on_right es xs (x ∷ ys) at (capped (at + length xs)) c refl moved

-- ---- chains

pub chain_written : (op : ChainOperator) (ts : Terms) (xs : List Term)
    → written_terms op (with_others ts xs) ≡ written_terms op ts ++ written_others op xs
chain_written op ts [] = sym (append-nil (written_terms op ts))
chain_written op ts (x ∷ xs) = chain_written op (Then ts x) xs
    ∙ append_assoc (written_terms op ts) (Mark (chain_mark op) ∷ written_term x) (written_others op xs)

-- in one of the further operands
pub in_other : (es : List Entry) (op : ChainOperator) (xs : List Operand) (i : ℕ) (x : Operand) (at next begin : ℕ)
    (c : Cause) → i < length xs → x ≡ get_or xs i x
    → next ≡ capped (at + length (written_others op (map term_of (take i xs)))) → begin ≡ capped (next + 1)
    → IsCause es (written_term (term_of x)) begin c → IsCause es (written_others op (map term_of xs)) at c
in_other es op [] i x at next begin c h is n b found = absurd (omega (arith, h))
in_other es op (y ∷ ys) zero x at next begin c h is n b found =
    on_left es (Mark (chain_mark op) ∷ written_term (term_of y)) (written_others op (map term_of ys)) at c
    (after_one es (Mark (chain_mark op)) (written_term (term_of y)) at begin c (omega (arith, n, b))
    (subst (λ z. IsCause es (written_term (term_of z)) begin c) is found))
in_other es op (y ∷ ys) (suc i) x at next begin c h is n b found =
    let one = Mark (chain_mark op) ∷ written_term (term_of y) in
    let middle = capped (at + length one) in
    let more : next ≡ capped (middle + length (written_others op (map term_of (take i ys)))) =
    omega (arith, n, length-append one (written_others op (map term_of (take i ys)))) in
    on_right es one (written_others op (map term_of ys)) at middle c refl
    (in_other es op ys i x middle next begin c (omega (arith, h)) is more b found)

pub in_first : (es : List Entry) (op : ChainOperator) (a b : Term) (xs : List Term) (at : ℕ) (c : Cause)
    → IsCause es (written_term a) at c → IsCause es (written_terms op (with_others (Two a b) xs)) at c
in_first es op a b xs at c h =
    subst (λ ts. IsCause es ts at c) (sym (chain_written op (Two a b) xs))
    (on_left es (written_terms op (Two a b)) (written_others op xs) at c
    (on_left es (written_term a) (Mark (chain_mark op) ∷ written_term b) at c h))

pub in_second : (es : List Entry) (op : ChainOperator) (a b : Term) (xs : List Term) (at width next : ℕ) (c : Cause)
    → width ≡ capped (length (written_term a)) → next ≡ capped (at + (1 + width)) → IsCause es (written_term b) next c
    → IsCause es (written_terms op (with_others (Two a b) xs)) at c
in_second es op a b xs at width next c w n h =
    subst (λ ts. IsCause es ts at c) (sym (chain_written op (Two a b) xs))
    (on_left es (written_terms op (Two a b)) (written_others op xs) at c
    (after_part es (written_term a) (Mark (chain_mark op)) (written_term b) at width next c w n h))

pub in_further : (es : List Entry) (op : ChainOperator) (a b : Term) (xs : List Term) (at width other next after : ℕ)
    (c : Cause) → width ≡ capped (length (written_term a)) → other ≡ capped (length (written_term b))
    → next ≡ capped (at + (1 + width)) → after ≡ capped (next + other) → IsCause es (written_others op xs) after c
    → IsCause es (written_terms op (with_others (Two a b) xs)) at c
in_further es op a b xs at width other next after c w o n m h =
    subst (λ ts. IsCause es ts at c) (sym (chain_written op (Two a b) xs))
    (on_right es (written_terms op (Two a b)) (written_others op xs) at after c
    (omega (arith, w, o, n, m, length-append (written_term a) (Mark (chain_mark op) ∷ written_term b))) h)

pub chain_first : (es : List Entry) (e : Expression) (op : ChainOperator) (a b : Term) (xs : List Term) (at : ℕ) (c : Cause)
    → e ≡ Chained op (with_others (Two a b) xs) → IsCause es (written_term a) at c → IsCause es (written e) at c
chain_first es e op a b xs at c is h =
    subst (λ d. IsCause es (written d) at c) (sym is) (in_first es op a b xs at c h)

pub chain_second : (es : List Entry) (e : Expression) (op : ChainOperator) (a b : Term) (xs : List Term)
    (at width next : ℕ) (c : Cause) → e ≡ Chained op (with_others (Two a b) xs)
    → width ≡ capped (length (written_term a)) → next ≡ capped (at + (1 + width)) → IsCause es (written_term b) next c
    → IsCause es (written e) at c
chain_second es e op a b xs at width next c is w n h =
    subst (λ d. IsCause es (written d) at c) (sym is) (in_second es op a b xs at width next c w n h)

pub chain_further : (es : List Entry) (e : Expression) (op : ChainOperator) (a b : Term) (xs : List Term)
    (at width other next after : ℕ) (c : Cause) → e ≡ Chained op (with_others (Two a b) xs)
    → width ≡ capped (length (written_term a)) → other ≡ capped (length (written_term b))
    → next ≡ capped (at + (1 + width)) → after ≡ capped (next + other) → IsCause es (written_others op xs) after c
    → IsCause es (written e) at c
chain_further es e op a b xs at width other next after c is w o n m h =
    subst (λ d. IsCause es (written d) at c) (sym is) (in_further es op a b xs at width other next after c w o n m h)

-- how far the loop over further operands comes with one more
others_len : (op : ChainOperator) (ys : List Operand) (x : Operand)
    → length (written_others op (map term_of (ys ++ x ∷ [])))
    ≡ length (written_others op (map term_of ys)) + (1 + length (written_term (term_of x)))
others_len op [] x = omega (arith, length-append (Mark (chain_mark op) ∷ written_term (term_of x)) [])
others_len op (y ∷ ys) x =
    let one = Mark (chain_mark op) ∷ written_term (term_of y) in
    omega (
      arith,
      others_len op ys x,
      length-append one (written_others op (map term_of (ys ++ x ∷ []))),
      length-append one (written_others op (map term_of ys)),
    )

pub next_other : (op : ChainOperator) (xs : List Operand) (i : ℕ) (x : Operand) (at next width after : ℕ)
    → i < length xs → x ≡ get_or xs i x
    → next ≡ capped (at + length (written_others op (map term_of (take i xs))))
    → width ≡ capped (length (written_term (term_of x))) → after ≡ capped (next + (1 + width))
    → after ≡ capped (at + length (written_others op (map term_of (take (i + 1) xs))))
next_other op xs i x at next width after h is n w a =
    let same = ap (λ ys. length (written_others op (map term_of ys))) (taken_one xs i x h is) in
    omega (arith, n, w, a, same, others_len op (take i xs) x)

-- ---- parts of terms and of expressions

pub in_subscript : (es : List Entry) (t : Term) (name : List ℕ) (e : Expression) (at next : ℕ) (c : Cause)
    → t ≡ Element name e → next ≡ capped (at + 2) → IsCause es (written e) next c → IsCause es (written_term t) at c
in_subscript es t name e at next c is n h =
    subst (λ s. IsCause es (written_term s) at c) (sym is)
    (on_left es (Name name ∷ Mark mark.OpenBracket ∷ written e) (Mark mark.CloseBracket ∷ []) at c
    (after_two es (Name name) (Mark mark.OpenBracket) (written e) at next c n h))

pub in_brackets : (es : List Entry) (t : Term) (e : Expression) (at next : ℕ) (c : Cause) → t ≡ Bracketed e
    → next ≡ capped (at + 1) → IsCause es (written e) next c → IsCause es (written_term t) at c
in_brackets es t e at next c is n h =
    subst (λ s. IsCause es (written_term s) at c) (sym is)
    (on_left es (Mark mark.OpenParenthesis ∷ written e) (Mark mark.CloseParenthesis ∷ []) at c
    (after_one es (Mark mark.OpenParenthesis) (written e) at next c n h))

pub in_conversion : (es : List Entry) (t : Term) (to : ValueType) (s : Term) (at next : ℕ) (c : Cause)
    → t ≡ Converted to s → next ≡ capped (at + 1) → IsCause es (written_term s) next c
    → IsCause es (written_term t) at c
in_conversion es t to s at next c is n h =
    subst (λ r. IsCause es (written_term r) at c) (sym is)
    (after_one es (type_word to) (written_term s) at next c n h)

pub in_prefix : (es : List Entry) (e : Expression) (op : PrefixOperator) (t : Term) (at next : ℕ) (c : Cause)
    → e ≡ Prefixed op t → next ≡ capped (at + 1) → IsCause es (written_term t) next c → IsCause es (written e) at c
in_prefix es e op t at next c is n h =
    subst (λ d. IsCause es (written d) at c) (sym is) (after_one es (prefix_sign op) (written_term t) at next c n h)

pub in_left : (es : List Entry) (e : Expression) (op : PairOperator) (a b : Term) (at : ℕ) (c : Cause)
    → e ≡ Paired op a b → IsCause es (written_term a) at c → IsCause es (written e) at c
in_left es e op a b at c is h =
    subst (λ d. IsCause es (written d) at c) (sym is)
    (on_left es (written_term a) (Mark (pair_mark op) ∷ written_term b) at c h)

pub in_right : (es : List Entry) (e : Expression) (op : PairOperator) (a b : Term) (at width next : ℕ) (c : Cause)
    → e ≡ Paired op a b → width ≡ capped (length (written_term a)) → next ≡ capped (at + (1 + width))
    → IsCause es (written_term b) next c → IsCause es (written e) at c
in_right es e op a b at width next c is w n h =
    subst (λ d. IsCause es (written d) at c) (sym is)
    (after_part es (written_term a) (Mark (pair_mark op)) (written_term b) at width next c w n h)

-- what holds of each cause holds of the one that is found
pub of_found : (P Q : Cause → Type 0) (r : Option Cause) → ((c : Cause) → P c → Q c) → IfSome r P → IfSome r Q
of_found P Q None f h = h
of_found P Q (Some c) f h = f c h
