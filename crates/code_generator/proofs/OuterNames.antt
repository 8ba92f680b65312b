-- What is known outside of a procedure stays known in it, wherever the walk comes to.
use Rattle.std.proofs.Common.{◌≡◌, ℕ, ◌≤◌, Bool, true, false, cond, List, [], ◌∷◌, length, Option, Some, None, inl, inr}
use Rattle.std.proofs.Common.{refl, sym, ap, subst, ◌∙◌, arith, max, nat_eq}
use Rattle.std.specs.List.{AllByRecursion}
use Rattle.word_arithmetic.specs.Range.{Ends}
use Rattle.occam_parser.specs.declared.tree.ValueType.{ValueType}
use Rattle.occam_parser.specs.Expressions.{Expression}
use Rattle.occam_parser.specs.Lines as lines
use Rattle.occam_parser.specs.Lines.{Value, Declaration}
use Rattle.occam_parser.specs.Blocks.{Procedure}
use Rattle.occam_parser.specs.OneOrMore.{as_list}
use Rattle.scalar_ranges.specs.declared.scope.ArrayKind.TheVariants as array
use Rattle.scalar_ranges.specs.Entries.{Meaning, Scalar, Array, Entry, type_range}
use Rattle.scalar_ranges.specs.Moves.{Block, Known, outermost, begun_with, widen, excluded, exclude_from, begin_loop}
use Rattle.scalar_ranges.specs.Narrowing.{narrow}
use Rattle.scalar_ranges.proofs.Nesting.{outermost_short, outermost_twice, further_out}
use Rattle.program_uses.specs.Actions.{Around}
use Rattle.program_uses.specs.Changes.{changed_by}
use Rattle.program_uses.specs.Constants.{size_in}
use Rattle.program_uses.specs.Declaring.{add, add_declaration, table_of, constant_meaning, range_of_items}
use Rattle.program_uses.specs.Declaring.{range_of_bytes}
use Rattle.program_uses.proofs.ScopesExtended.{inner_cut}
use Rattle.program_meaning.specs.RangesWithin.{MeaningWithin, EntriesWithin}
use Rattle.program_meaning.proofs.MovesWithin.{within_left, within_long, narrow_within, excluded_within}
use Rattle.program_meaning.proofs.MovesWithin.{widened_within}
use Rattle.usage_checks.specs.AfterProcesses.{inside, chosen}
use Rattle.usage_checks.specs.ItemRules.{in_body, after_procedure}
use Rattle.usage_checks.specs.NameRules.{with_entries}
use Rattle.usage_checks.proofs.ProgramsGoWell.{formals_inner}
use Rattle.usage_checks.proofs.RangesStay.{Low, declared_behind, declared_long, Remains, remains_low, Turned}
use Rattle.usage_checks.proofs.RangesStay.{ranges_stay}

-- ---- names that denote no scalar

-- all but a scalar
abbrev pub IsStill : Meaning → Type 0
IsStill (Scalar kind type range) = ⊥
IsStill m = Unit {0}

abbrev pub AreStill : List Entry → Type 0
AreStill es = AllByRecursion (λ e. IsStill e.meaning) es

-- what holds of each table holds of what a table means
table_is : (P : Meaning → Type 0)
    → ((type : ValueType) (size : Option ℕ) (range : Ends) → P (Array array.Table type size range))
    → (type : ValueType) (size : Option ℕ) (count : ℕ) (range : Option Ends) → P (table_of type size count range)
table_is P tables type None count range = tables type None (type_range type)
table_is P tables type (Some n) count None = tables type None (type_range type)
table_is P tables type (Some n) count (Some range) = by_count (nat_eq n count)
  where
    by_count : (t : Bool) → P
        (cond t (Array array.Table type (Some n) range) (Array array.Table type None (type_range type)))
    by_count true = tables type (Some n) range
    by_count false = tables type None (type_range type)

pub constant_still : (es : List Entry) (type : ValueType) (value : Value) → IsStill (constant_meaning es type value)
constant_still es type (lines.Scalar e) = tt
constant_still es type (lines.Table size items) =
    table_is IsStill (λ t s r. tt) type (size_in es size) (length (as_list items)) (range_of_items es type items)
constant_still es type (lines.Bytes size bytes) =
    table_is IsStill (λ t s r. tt) type (size_in es size) (length bytes) (range_of_bytes type bytes)

-- what is no scalar is the same where it is within
still_within : (free : Bool) (m n : Meaning) → IsStill n → MeaningWithin free m n → m ≡ n
still_within free m n still (inl same) = same
still_within free (Scalar kind type r) (Scalar k t s) still (inr within) = absurd still
still_within free m n still (inr within) = absurd within

entries_within : (ns : List ℕ) (ds es : List Entry) → AreStill es → EntriesWithin ns ds es → ds ≡ es
entries_within ns [] [] all within = refl
entries_within ns [] (e ∷ es) all within = absurd within
entries_within ns (d ∷ ds) [] all within = absurd within
entries_within ns (d ∷ ds) (e ∷ es) all within =
    let means = still_within _ d.meaning e.meaning all.0 within.1 in
    let rest = entries_within ns ds es all.1 within.2 in
    λ i. record { name = within.0 i; meaning = means i } ∷ rest i

-- ---- what is known outside

-- The outermost entries at a place are these.
pub record Keeps (g : List Entry) (k : Known) : Type 0 where
  pub low : Low k
  pub outer : outermost (length g) k.entries ≡ g

pub outer_long : (g es : List Entry) → outermost (length g) es ≡ g → length g ≤ length es
outer_long g es outer =
    let same = ap length outer in
    let short = outermost_short (length g) es in
    omega (arith, same, short)

-- Entries that are within others have the same outermost ones.
keeps_within : (all : List ℕ) (g es ds : List Entry) → AreStill g → outermost (length g) ds ≡ g
    → EntriesWithin all es ds → outermost (length g) es ≡ g
keeps_within all g es ds still outer within =
    entries_within all (outermost (length g) es) g still
    (subst (EntriesWithin all (outermost (length g) es)) outer (within_left all (length g) es ds within))

pub declared_keeps : (g : List Entry) (d : Declaration) (k : Known) → Keeps g k
    → Keeps g (with_entries (add_declaration d) k)
declared_keeps g d k h =
    let longer = declared_long d k.entries in
    let long = outer_long g k.entries h.outer in
    record {
      low = omega (arith, h.low, longer);
      outer = sym (outermost_twice (length g) (length k.entries) (add_declaration d k.entries) long)
          ∙ ap (outermost (length g)) (declared_behind d k.entries) ∙ h.outer;
    }

pub named_keeps : (g : List Entry) (name : List ℕ) (m : Meaning) (k : Known) → Keeps g k
    → Keeps g (with_entries (add name m) k)
named_keeps g name m k h = record {
  low = omega (arith, h.low);
  outer = further_out (length g) (record { name = name; meaning = m }) k.entries (outer_long g k.entries h.outer)
      ∙ h.outer;
}

pub remains_keeps : (all : List ℕ) (g : List Entry) (k l : Known) → AreStill g → Remains all k l → Keeps g k
    → Keeps g l
remains_keeps all g k l still remains h = record {
  low = remains_low all k l remains h.low;
  outer = keeps_within all g l.entries k.entries still h.outer remains.within;
}

pub turned_keeps : (all : List ℕ) (g : List Entry) (k l : Known) → AreStill g → Turned all k l → Keeps g k
    → Keeps g l
turned_keeps all g k l still turned h =
    subst (Keeps g) (sym turned.is)
    (record { low = omega arith; outer = keeps_within all g turned.start k.entries still h.outer turned.starts })

-- blocks begin as long as before
excluded_begun : (e : Expression) (es : List Entry) (bs : List Block)
    → begun_with (exclude_from e es bs) ≡ begun_with bs
excluded_begun e es [] = refl
excluded_begun e es (b ∷ bs) = within_long [] (excluded e es b.start) b.start (excluded_within [] es b.start e)

pub chosen_keeps : (g : List Entry) (e : Expression) (k : Known) → AreStill g → Keeps g k → Keeps g (chosen e k)
chosen_keeps g e k still h =
    let within = narrow_within [] k.entries e true in
    let long = within_long [] (narrow k.entries e true) k.entries within in
    let begun = excluded_begun e k.entries k.blocks in
    record {
      low = omega (arith, h.low, long, begun);
      outer = keeps_within [] g (narrow k.entries e true) k.entries still h.outer within;
    }

pub loop_keeps : (g : List Entry) (ns : List ℕ) (k : Known) → AreStill g → Keeps g k → Keeps g (begin_loop ns k)
loop_keeps g ns k still h = record {
  low = omega arith;
  outer = keeps_within ns g (widen ns k.entries) k.entries still h.outer (widened_within ns k.entries);
}

-- ---- procedures

-- where the body of a procedure begins, outside of all blocks
pub body_keeps : (p : Procedure) (k : Known) → k.blocks ≡ [] → Keeps k.entries (in_body p k)
body_keeps p k none =
    let more = formals_inner k.entries p.head.formals k.entries in
    let begun = ap begun_with none in
    record {
      low = omega (arith, begun);
      outer = ap (outermost (length k.entries)) more.1 ∙ inner_cut more.0 k.entries;
    }

-- A procedure leaves all as it was.
pub procedure_leaves : (a : Around) (p : Procedure) (k : Known) → k.blocks ≡ [] → AreStill k.entries
    → after_procedure a p k ≡ k
procedure_leaves a p k none still =
    let body = in_body p k in
    let final = inside a p.body body in
    let n = length k.entries in
    let keeps = body_keeps p k none in
    let stays = ranges_stay.processes a p.body body keeps.low in
    let most : max n (begun_with final.blocks) ≡ n =
    let same = ap begun_with (stays.blocks ∙ none) in omega (arith, same) in
    let entries = ap (λ m. outermost m final.entries) most
    ∙ sym (outermost_twice n (length body.entries) final.entries (outer_long k.entries body.entries keeps.outer))
    ∙ keeps_within (changed_by a.signatures body.entries p.body) k.entries
    (outermost (length body.entries) final.entries) body.entries still keeps.outer stays.within in
    λ i. record { entries = entries i; blocks = stays.blocks i }
