-- Ends that rows list: two with one key are one.
use Rattle.std.proofs.Common.{◌≡◌, ℕ, ◌&&◌, Bool, true, inl, inr, pos, List, [], ◌∷◌, Option, Some, None, refl, sym, ap}
use Rattle.std.proofs.Common.{ap₂, ◌∙◌, arith, eqb-true, if◌then◌else◌}
use Rattle.std.proofs.lemmas.Int.{ints}
use Rattle.std.specs.Prelude.{◌==◌, int_le, is_some}
use Rattle.std.specs.List.{list_any}
use Rattle.std.proofs.lemmas.Bool.{and_from, or_cases, and_parts}
use Rattle.small_laws.proofs.Comparisons.{eqb-self, le-int_le}
use Rattle.module_format.specs.declared.rows.Direction.{Direction}
use Rattle.module_format.specs.declared.rows.Direction.TheVariants.{In, Out}
use Rattle.module_format.specs.declared.rows.EndKind.{EndKind}
use Rattle.module_format.specs.declared.rows.EndKind.TheVariants as ends
use Rattle.module_format.specs.declared.rows.EndRow.{EndRow}
use Rattle.module_format.specs.Contents.{Contents, Par, Branch}
use Rattle.module_format.specs.Contexts.{context_at, parameters_at}
use Rattle.module_format.specs.Pars.{key_of, kind_of, end_number_of, end_element_of, direction_number}
use Rattle.certificate.specs.Branches.{numbered_branch}
use Rattle.certificate.specs.Rights.{is_same_end, has_end, gives_link, gives_parameter}
use Rattle.machine_state.specs.declared.holding.End.{End}
use Rattle.machine_state.specs.Holding.{same_direction}
use Rattle.machine_state.specs.Ownership.{IsAmong}
use Rattle.machine_state.specs.Spans.{is_among_ends}
use Rattle.machine_state.proofs.Among.{any_among}
use Rattle.rulings.proofs.Words.{same_word_by}

-- directions with one number are one
same_direction_by : (a b : Direction) → (direction_number a == direction_number b) ≡ true → a ≡ b
same_direction_by In In h = refl
same_direction_by Out Out h = refl
same_direction_by In Out h = absurd (cc)
same_direction_by Out In h = absurd (cc)

-- channels with one kind, number and element are one
same_kind_by : (a b : EndKind) → (kind_of a == kind_of b) ≡ true
    → (int_le (end_number_of a) (end_number_of b) && int_le (end_number_of b) (end_number_of a)) ≡ true
    → (end_element_of a == end_element_of b) ≡ true → a ≡ b
same_kind_by (ends.FrameWord w) (ends.FrameWord v) kind number element = ap ends.FrameWord (same_word_by w v number)
same_kind_by (ends.Parameter j a) (ends.Parameter i b) kind number element =
    ap₂ ends.Parameter (same_word_by j i number) (eqb-true a b element)
same_kind_by (ends.Link l) (ends.Link k) kind number element =
    let same = same_word_by (pos l) (pos k) number in
    ap ends.Link (let e : l ≡ k = omega (arith, ints, same) in e)
same_kind_by (ends.FrameWord w) (ends.Parameter i b) kind number element = absurd (cc)
same_kind_by (ends.FrameWord w) (ends.Link k) kind number element = absurd (cc)
same_kind_by (ends.Parameter j a) (ends.FrameWord v) kind number element = absurd (cc)
same_kind_by (ends.Parameter j a) (ends.Link k) kind number element = absurd (cc)
same_kind_by (ends.Link l) (ends.FrameWord v) kind number element = absurd (cc)
same_kind_by (ends.Link l) (ends.Parameter i b) kind number element = absurd (cc)

-- ends with one key are one
pub same_end_by : (a b : EndRow) → is_same_end (key_of a) (key_of b) ≡ true → a ≡ b
same_end_by a b h =
    let three = and_parts _ _ h in
    let two = and_parts _ _ three.0 in
    let one = and_parts _ _ two.0 in
    ap₂ (λ (k : EndKind) (d : Direction). let e : EndRow = record { kind = k; direction = d } in e)
    (same_kind_by a.kind b.kind one.0 one.1 two.1) (same_direction_by a.direction b.direction three.1)

-- an end has its own key
pub end_itself : (e : EndRow) → is_same_end (key_of e) (key_of e) ≡ true
end_itself e = and_from _ _ (and_from _ _ (and_from _ _ (eqb-self (kind_of e.kind))
    (and_from _ _ (le-int_le (end_number_of e.kind) (end_number_of e.kind) (omega (arith, ints)))
    (le-int_le (end_number_of e.kind) (end_number_of e.kind) (omega (arith, ints)))))
    (eqb-self (end_element_of e.kind))) (eqb-self (direction_number e.direction))

-- an end whose key is listed is in the list
pub listed_end : (es : List EndRow) (e : EndRow)
    → list_any (λ other. is_same_end (key_of other) (key_of e)) es ≡ true → IsAmong e es
listed_end [] e h = absurd (cc)
listed_end (x ∷ es) e h = elim (or_cases (is_same_end (key_of x) (key_of e)) _ h) [
  | inl here ↦ inl (same_end_by x e here)
  | inr there ↦ inr (listed_end es e there)
]

-- what is listed has its key there
pub end_listed : (es : List EndRow) (e : EndRow) → IsAmong e es
    → list_any (λ other. is_same_end (key_of other) (key_of e)) es ≡ true
end_listed es e among =
    any_among (λ (other : EndRow). is_same_end (key_of other) (key_of e)) es e among (end_itself e)

-- the ends of a branch are those that its row lists
pub ends_of_branch : (m : Contents) (n : ℕ) (par : Par) (b : Branch) (e : EndRow)
    → numbered_branch m n ≡ Some (par, b) → has_end m n e ≡ true → IsAmong e b.ends
ends_of_branch m n par b e numbered has = listed_end b.ends e
    (sym (ap (λ (o : Option (Par × Branch)). elim o as (λ o. Bool) [
      | Some found ↦ list_any (λ other. is_same_end (key_of other) (key_of e)) found.1.ends
      | None ↦ if n == 0 then gives_link m.lengths e.kind e.direction else gives_parameter
          (parameters_at m n) e.kind e.direction
    ]) numbered) ∙ (and_parts (is_some (context_at m n)) _ has).1)

-- ---- ends that processes hold

-- directions that are the same are one
direction_is : (a b : Direction) → same_direction a b ≡ true → a ≡ b
direction_is In In same = refl
direction_is Out Out same = refl
direction_is In Out same = absurd (cc)
direction_is Out In same = absurd (cc)

-- an end that is listed is in the list
pub listed_among : (xs : List End) (e : End) → is_among_ends xs e ≡ true → IsAmong e xs
listed_among [] e listed = absurd (cc)
listed_among (x ∷ xs) e listed =
    elim (or_cases ((e.address == x.address) && same_direction e.direction x.direction) _ listed) [
      | inl here ↦
          let both = and_parts (e.address == x.address) (same_direction e.direction x.direction) here in
          inl (ap₂ (λ (a : ℕ) (d : Direction). let y : End = record { address = a; direction = d } in y)
          (sym (eqb-true e.address x.address both.0)) (sym (direction_is e.direction x.direction both.1)))
      | inr there ↦ inr (listed_among xs e there)
    ]
