-- A list that is read item by item, and a chain operand by operand.
use Rattle.std.proofs.Common.{◌≡◌, ℕ, zero, suc, ◌≤◌, List, [], ◌∷◌, ◌++◌, length, Option, Some, None, refl}
use Rattle.std.proofs.Common.{ap, arith, ◌∙◌}
use Rattle.occam_layout.specs.declared.mark.Mark as mark_type
use Rattle.occam_layout.specs.declared.mark.Mark.TheVariants as mark
use Rattle.occam_parser.specs.declared.tree.ChainOperator.{ChainOperator}
use Rattle.occam_parser.specs.Terminals.{Terminal}
use Rattle.occam_parser.specs.OneOrMore.{OneOrMore}
use Rattle.occam_parser.specs.Expressions.{Chained, Terms, Two, Then, Term}
use Rattle.occam_parser.specs.Reading.{Reads, ◌>>=◌, behind, list_step, list_from, list_of, chain_step}
use Rattle.occam_parser.specs.Reading.{chain_from, chain}
use Rattle.occam_parser.proofs.Marks.{behind_is}

-- what was read after a first item, beside it
abbrev pub behind_item : {A : Type 0} → A → Option (List A × List Terminal) → Option (OneOrMore A × List Terminal)
behind_item first read = read >>= λ y. Some (record { first = first; others = y.0 }, y.1)

-- what is left of a list's reading, when these items were found after the first one
pub record Continues {A : Type 0} (item : Reads A) (start : List Terminal) (first : A) (found : List A)
    (ts : List Terminal) : Type 0 where
  pub turns : ℕ
  pub enough : length ts ≤ turns
  pub so_far : list_of item start ≡ behind_item first (list_from item turns found ts)

abbrev pub from_item : {A : Type 0} → Reads A → ℕ → Option (A × List Terminal) → Option (OneOrMore A × List Terminal)
from_item item n o = o >>= λ x. behind_item x.0 (list_from item n [] x.1)

pub list_begins : {A : Type 0} (item : Reads A) (start rest : List Terminal) (x : A) → item start ≡ Some (x, rest)
    → length rest ≤ length start → Continues item start x [] rest
unfolding list_of
list_begins item start rest x e within =
    record { turns = length start; enough = within; so_far = ap (from_item item (length start)) e }

pub list_stops : {A : Type 0} (item : Reads A) (start : List Terminal) → item start ≡ None → list_of item start ≡ None
unfolding list_of
list_stops item start e = ap (from_item item (length start)) e

pub turn : {A : Type 0} (item : Reads A) (n : ℕ) (found : List A) (ts after : List Terminal)
    → behind mark.Comma ts ≡ Some after → length ts ≤ n
    → (m : ℕ) × (length after ≤ m) × (list_from item n found
    ts ≡ (item after >>= λ x. list_from item m (found ++ x.0 ∷ []) x.1))
unfolding list_from
turn item zero found ts after e enough = let is =
    behind_is mark.Comma ts after e in absurd (omega (arith, ap length is))
turn item (suc n) found ts after e enough =
    let is = behind_is mark.Comma ts after e in
    (n, omega (arith, ap length is), ap (list_step item (list_from item n) found ts) e)

pub list_goes_on : {A : Type 0} (item : Reads A) (start ts after rest : List Terminal) (first : A) (found : List A)
    (x : A) → behind mark.Comma ts ≡ Some after → item after ≡ Some (x, rest) → length rest ≤ length after
    → Continues item start first found ts
    → Continues item start first (found ++ x ∷ []) rest
list_goes_on item start ts after rest first found x e f within c =
    let t = turn item c.turns found ts after e c.enough in
    record {
      turns = t.0;
      enough = omega (arith, t.1);
      so_far =
          c.so_far ∙ ap (behind_item first)
          (t.2 ∙ ap (λ o. o >>= λ y. list_from item t.0 (found ++ y.0 ∷ []) y.1) f);
    }

pub list_fails : {A : Type 0} (item : Reads A) (start ts after : List Terminal) (first : A) (found : List A)
    → behind mark.Comma ts ≡ Some after → item after ≡ None → Continues item start first found ts
    → list_of item start ≡ None
list_fails item start ts after first found e f c =
    let t = turn item c.turns found ts after e c.enough in
    c.so_far ∙ ap (behind_item first) (t.2 ∙ ap (λ o. o >>= λ y. list_from item t.0 (found ++ y.0 ∷ []) y.1) f)

pub no_turn : {A : Type 0} (item : Reads A) (n : ℕ) (found : List A) (ts : List Terminal)
    → behind mark.Comma ts ≡ None → list_from item n found ts ≡ Some (found, ts)
unfolding list_from
no_turn item zero found ts e = refl
no_turn item (suc n) found ts e = ap (list_step item (list_from item n) found ts) e

pub list_ends : {A : Type 0} (item : Reads A) (start ts : List Terminal) (first : A) (found : List A)
    → behind mark.Comma ts ≡ None → Continues item start first found ts
    → list_of item start ≡ Some (record { first = first; others = found }, ts)
list_ends item start ts first found e c =
    c.so_far ∙ ap (behind_item first) (no_turn item c.turns found ts e)

-- ---- chains

-- what is left of a chain's reading, when these operands were found
pub record Chains (operand : Reads Term) (operator : ChainOperator) (m : mark_type.Mark) (first : Term)
    (start : List Terminal)
    (terms : Terms) (ts : List Terminal) : Type 0 where
  pub turns : ℕ
  pub enough : length ts ≤ turns
  pub so_far : chain operand operator m first start
      ≡ (chain_from operand m turns terms ts >>= λ y. Some (Chained operator y.0, y.1))

pub chain_begins : (operand : Reads Term) (op : ChainOperator) (m : mark_type.Mark) (first : Term)
    (start rest : List Terminal) (x : Term)
    → operand start ≡ Some (x, rest) → length rest ≤ length start
    → Chains operand op m first start (Two first x) rest
unfolding chain
chain_begins operand op m first start rest x e within =
    record {
      turns = length start;
      enough = within;
      so_far = ap (λ o. o >>= λ y. chain_from operand m (length start) (Two first y.0) y.1 >>= λ z. Some
          (Chained op z.0, z.1)) e;
    }

pub chain_turn : (operand : Reads Term) (m : mark_type.Mark) (n : ℕ) (terms : Terms) (ts after : List Terminal)
    → behind m ts ≡ Some after → length ts ≤ n
    → (k : ℕ) × (length after ≤ k) × (chain_from operand m n terms
    ts ≡ (operand after >>= λ x. chain_from operand m k (Then terms x.0) x.1))
unfolding chain_from
chain_turn operand m zero terms ts after e enough = let is =
    behind_is m ts after e in absurd (omega (arith, ap length is))
chain_turn operand m (suc n) terms ts after e enough =
    let is = behind_is m ts after e in
    (n, omega (arith, ap length is), ap (chain_step operand (chain_from operand m n) terms ts) e)

pub chain_goes_on : (operand : Reads Term) (op : ChainOperator) (m : mark_type.Mark) (first : Term)
    (start ts after rest : List Terminal)
    (terms : Terms) (x : Term) → behind m ts ≡ Some after → operand after ≡ Some (x, rest)
    → length rest ≤ length after
    → Chains operand op m first start terms ts
    → Chains operand op m first start (Then terms x) rest
chain_goes_on operand op m first start ts after rest terms x e f within c =
    let t = chain_turn operand m c.turns terms ts after e c.enough in
    record {
      turns = t.0;
      enough = omega (arith, t.1);
      so_far = c.so_far ∙ ap (λ o. o >>= λ z. Some (Chained op z.0, z.1))
          (t.2 ∙ ap (λ o. o >>= λ y. chain_from operand m t.0 (Then terms y.0) y.1) f);
    }

pub chain_fails : (operand : Reads Term) (op : ChainOperator) (m : mark_type.Mark) (first : Term)
    (start ts after : List Terminal)
    (terms : Terms) → behind m ts ≡ Some after → operand after ≡ None
    → Chains operand op m first start terms ts → chain operand op m first start ≡ None
chain_fails operand op m first start ts after terms e f c =
    let t = chain_turn operand m c.turns terms ts after e c.enough in
    c.so_far ∙ ap (λ o. o >>= λ z. Some (Chained op z.0, z.1))
    (t.2 ∙ ap (λ o. o >>= λ y. chain_from operand m t.0 (Then terms y.0) y.1) f)

pub chain_no_turn : (operand : Reads Term) (m : mark_type.Mark) (n : ℕ) (terms : Terms) (ts : List Terminal)
    → behind m ts ≡ None → chain_from operand m n terms ts ≡ Some (terms, ts)
unfolding chain_from
chain_no_turn operand m zero terms ts e = refl
chain_no_turn operand m (suc n) terms ts e = ap (chain_step operand (chain_from operand m n) terms ts) e

pub chain_ends : (operand : Reads Term) (op : ChainOperator) (m : mark_type.Mark) (first : Term)
    (start ts : List Terminal)
    (terms : Terms) → behind m ts ≡ None → Chains operand op m first start terms ts
    → chain operand op m first start ≡ Some (Chained op terms, ts)
chain_ends operand op m first start ts terms e c =
    c.so_far ∙ ap (λ o. o >>= λ z. Some (Chained op z.0, z.1)) (chain_no_turn operand m c.turns terms ts e)
