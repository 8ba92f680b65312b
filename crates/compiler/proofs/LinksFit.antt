-- Each link of main has messages of the length of what its channel carries: no two of main's formals have one name.
use Rattle.std.proofs.Common.{◌≡◌, ℕ, zero, suc, ◌+◌, ◌-◌, ◌≤◌, Bool, true, false, cond, List, [], ◌∷◌, length}
use Rattle.std.proofs.Common.{Option, Some, None, inl, inr, refl, sym, ap, subst, ◌∙◌, arith, bytes_eq, slice_get}
use Rattle.std.proofs.lemmas.Bool.{and_parts, eqb-true, false_from_ne_true, le-leb, leb-true}
use Rattle.std.proofs.lemmas.Slice.Eq.{bytes_eq-Decides}
use Rattle.std.specs.Prelude.{nat_eq, nat_le, ◌&&◌, option_map}
use Rattle.std.specs.List.{AllByRecursion}
use Rattle.occam_parser.specs.declared.tree.ValueType.{ValueType}
use Rattle.occam_parser.specs.Lines.{Formal}
use Rattle.occam_parser.specs.Blocks.{GlobalProcedure, Procedure, ProgramItem}
use Rattle.scalar_ranges.specs.Entries.{Entry, number_in}
use Rattle.program_uses.specs.declared.faults.TheConstants.{DECLARED_TWICE}
use Rattle.program_uses.specs.declared.telling.UsageFault.{UsageFault}
use Rattle.program_uses.specs.declared.uses.Direction.{Direction}
use Rattle.program_uses.specs.declared.uses.Direction.TheVariants as direction
use Rattle.program_uses.specs.Declaring.{add, formal_meaning}
use Rattle.program_uses.specs.LinkNames.{is_in, is_link, is_out, link_way}
use Rattle.program_meaning.specs.Links.{Port, message_length}
use Rattle.program_meaning.specs.Meaning.{link_number, port_for}
use Rattle.usage_checks.specs.FormalRules.{BreakFormals}
use Rattle.usage_checks.specs.ItemRules.{BreaksNoRule, Outside, after_item, outermost, weighed}
use Rattle.usage_checks.specs.NameRules.{is_of_scope}
use Rattle.usage_checks.specs.Reaching.{Comes, ItemIsRight}
use Rattle.usage_checks.proofs.PlacesHold.{items_hold}
use Rattle.meant_programs.proofs.Globals.{last_found, last_of}
use Rattle.certified_programs.specs.Programs.{HasLength, LinksHaveLengths}
use Rattle.compiler.specs.LinkLengths.{formals_in, length_on, lengths_of, link_lengths}

-- ---- names

-- a name is the same as itself
own_name : (name : List ℕ) → bytes_eq name name ≡ true
own_name name = (bytes_eq-Decides name name).1 refl

named_by : (b : Bool) (first : ℕ) (name : List ℕ) (f : Formal) (whole fs : List Formal) (es : List Entry)
    → first ≤ length es → (is_of_scope first (number_in name es) ≡ false
    → length_on name whole ≡ cond b (message_length f.value_type) (length_on name fs))
    → is_of_scope first (cond b (Some (length es)) (number_in name es)) ≡ false
    → length_on name whole ≡ length_on name fs
named_by true first name f whole fs es long before new = absurd (cc (sym (le-leb first (length es) long) ∙ new))
named_by false first name f whole fs es long before new = before new

-- No two formals have one name, so the length by the name of each is that of what it carries.
formals_fit : (whole fs : List Formal) (first line : ℕ) (outer es : List Entry) → first ≤ length es
    → ((name : List ℕ) → is_of_scope first (number_in name es) ≡ false → length_on name whole ≡ length_on name fs)
    → ((x : UsageFault) → BreakFormals first line outer fs es x → ⊥)
    → AllByRecursion (λ (f : Formal). length_on f.name whole ≡ message_length f.value_type) fs
formals_fit whole [] first line outer es long before none = tt
formals_fit whole (f ∷ fs) first line outer es long before none =
    let new : is_of_scope first (number_in f.name es) ≡ false =
    false_from_ne_true (is_of_scope first (number_in f.name es))
    (λ twice. none (record { number = DECLARED_TWICE; line = line }) (inl (refl, (twice, refl)))) in (
      before f.name new
          ∙ ap (λ (b : Bool). cond b (message_length f.value_type) (length_on f.name fs)) (own_name f.name),
      formals_fit whole fs first line outer (add f.name (formal_meaning outer f) es) (omega (arith, long))
          (λ name. named_by (bytes_eq f.name name) first name f whole fs es long (before name))
          (λ x y. none x (inr y)),
    )

-- ---- links

abbrev port_with : List ℕ → ValueType → Direction → Port
port_with name type way = record { way = way; link = link_number name; carries = type }

module _ (whole : List Formal) (type : ValueType) where
  abbrev IsLong : List ℕ → Type 0
  IsLong name = length_on name whole ≡ message_length type

  -- the link of this name, if it is one, has messages of the length by its name
  abbrev Fits : List ℕ → Option Direction → Type 0
  Fits name way = HasLength (lengths_of whole) (option_map (port_with name type) way)

  into_fits : (k : ℕ) → k ≤ 3 → IsLong (105 ∷ 110 ∷ (48 + k) ∷ [])
      → Fits (105 ∷ 110 ∷ (48 + k) ∷ []) (Some direction.Input)
  into_fits zero few long = long
  into_fits (suc zero) few long = long
  into_fits (suc (suc zero)) few long = long
  into_fits (suc (suc (suc zero))) few long = long
  into_fits (suc (suc (suc (suc k)))) few long = absurd (omega (arith, few))

  out_fits : (k : ℕ) → k ≤ 3 → IsLong (111 ∷ 117 ∷ 116 ∷ (48 + k) ∷ [])
      → Fits (111 ∷ 117 ∷ 116 ∷ (48 + k) ∷ []) (Some direction.Output)
  out_fits zero few long = long
  out_fits (suc zero) few long = long
  out_fits (suc (suc zero)) few long = long
  out_fits (suc (suc (suc zero))) few long = long
  out_fits (suc (suc (suc (suc k)))) few long = absurd (omega (arith, few))

  -- the digit at the end
  record IsDigit (d : ℕ) : Type 0 where
    digit : d ≡ 48 + (d - 48)
    few : d - 48 ≤ 3

  is_digit : (d : ℕ) → is_link d ≡ true → IsDigit d
  is_digit d is =
      let both = and_parts (nat_le 48 d) (nat_le d 51) is in
      let low = leb-true 48 d both.0 in
      let high = leb-true d 51 both.1 in
      record { digit = omega (arith, low); few = omega (arith, low, high) }

  into_by : (t : Bool) (a b d : ℕ) → is_in a b d ≡ t → IsLong (a ∷ b ∷ d ∷ [])
      → Fits (a ∷ b ∷ d ∷ []) (cond t (Some direction.Input) None)
  into_by true a b d is long =
      let first = and_parts (nat_eq a 105) (nat_eq b 110 && is_link d) is in
      let second = and_parts (nat_eq b 110) (is_link d) first.1 in
      let last = is_digit d second.1 in
      let same : a ∷ b ∷ d ∷ [] ≡ 105 ∷ 110 ∷ (48 + (d - 48)) ∷ [] =
      cc (eqb-true a 105 first.0, eqb-true b 110 second.0, last.digit) in
      subst (λ (name : List ℕ). IsLong name → Fits name (Some direction.Input)) (sym same)
      (into_fits (d - 48) last.few) long
  into_by false a b d is long = tt

  out_by : (t : Bool) (a b c d : ℕ) → is_out a b c d ≡ t → IsLong (a ∷ b ∷ c ∷ d ∷ [])
      → Fits (a ∷ b ∷ c ∷ d ∷ []) (cond t (Some direction.Output) None)
  out_by true a b c d is long =
      let first = and_parts (nat_eq a 111) (nat_eq b 117 && (nat_eq c 116 && is_link d)) is in
      let second = and_parts (nat_eq b 117) (nat_eq c 116 && is_link d) first.1 in
      let third = and_parts (nat_eq c 116) (is_link d) second.1 in
      let last = is_digit d third.1 in
      let same : a ∷ b ∷ c ∷ d ∷ [] ≡ 111 ∷ 117 ∷ 116 ∷ (48 + (d - 48)) ∷ [] =
      cc (eqb-true a 111 first.0, eqb-true b 117 second.0, eqb-true c 116 third.0, last.digit) in
      subst (λ (name : List ℕ). IsLong name → Fits name (Some direction.Output)) (sym same)
      (out_fits (d - 48) last.few) long
  out_by false a b c d is long = tt

  link_fits : (name : List ℕ) → IsLong name → Fits name (link_way name)
  link_fits (a ∷ b ∷ d ∷ []) long = into_by (is_in a b d) a b d refl long
  link_fits (a ∷ b ∷ c ∷ d ∷ []) long = out_by (is_out a b c d) a b c d refl long
  link_fits name long = tt

all_fit : (whole fs : List Formal)
    → AllByRecursion (λ (f : Formal). length_on f.name whole ≡ message_length f.value_type) fs
    → AllByRecursion (λ (f : Formal). HasLength (lengths_of whole) (port_for f)) fs
all_fit whole [] long = tt
all_fit whole (f ∷ fs) long = (link_fits whole f.value_type f.name long.0, all_fit whole fs long.1)

names_fit : (fs : List Formal) (line : ℕ) (es : List Entry)
    → ((x : UsageFault) → BreakFormals (length es) line es fs es x → ⊥)
    → AllByRecursion (λ (f : Formal). HasLength (lengths_of fs) (port_for f)) fs
names_fit fs line es none =
    all_fit fs fs (formals_fit fs fs (length es) line es es (omega arith) (λ name new. refl) none)

-- ---- programs

-- The walk comes to the last item.
last_comes : (item : ProgramItem) (rest : List ProgramItem) (before : Outside)
    → (o : Outside) × Comes o (last_of item rest) (item ∷ rest) before
last_comes item [] before = (weighed item before, inl (refl, refl))
last_comes item (next ∷ rest) before =
    let further = last_comes next rest (after_item item before) in (further.0, inr further.1)

main_fits : (o : Outside) (item : ProgramItem) (main : Procedure) → item ≡ GlobalProcedure main → ItemIsRight o item
    → AllByRecursion (λ (f : Formal). HasLength (lengths_of main.head.formals) (port_for f)) main.head.formals
main_fits o item main is right =
    names_fit main.head.formals main.line o.known.entries
    (λ x broken. (subst (ItemIsRight o) is right).unbroken x (inl (inl (inr broken))))

pub links_fit : (items : List ProgramItem) → BreaksNoRule items → LinksHaveLengths (link_lengths items) items
links_fit [] none main is = absurd (cc is)
links_fit (item ∷ rest) none main is =
    let items = item ∷ rest in
    let comes = last_comes item rest outermost in
    let found : slice_get items (length items - 1) ≡ Some (last_of item rest) =
    ap (slice_get items) (omega arith) ∙ last_found item rest in
    let same : last_of item rest ≡ GlobalProcedure main = cc (sym found ∙ is) in
    subst (λ (o : Option ProgramItem).
    AllByRecursion (λ (f : Formal). HasLength (lengths_of (formals_in o)) (port_for f)) main.head.formals) (sym is)
    (main_fits comes.0 (last_of item rest) main same (items_hold items comes.0 (last_of item rest) none comes.1))

pub links_are_eight : (items : List ProgramItem) → length (link_lengths items) ≡ 8
links_are_eight items = refl
