-- The choices of an IF, one after another: none of their conditions held so far, or one did and all went well.
use Rattle.std.proofs.Common.{◌≡◌, ℕ, ◌≤◌, Bool, true, false, List, [], ◌∷◌, length, Option, Some, None, Ok, refl, sym}
use Rattle.std.proofs.Common.{ap, subst, arith, ◌∙◌}
use Rattle.std.specs.Prelude.{option_map, IsSome}
use Rattle.occam_parser.specs.Expressions.{Expression}
use Rattle.scalar_ranges.specs.declared.types.ExprType.TheVariants as types
use Rattle.scalar_ranges.specs.Entries.{Entry}
use Rattle.scalar_ranges.specs.Environments.{Environment, Meets}
use Rattle.scalar_ranges.specs.Types.{type_of}
use Rattle.scalar_ranges.specs.Values.{truth_of}
use Rattle.scalar_ranges.specs.Moves as moves
use Rattle.scalar_ranges.specs.Moves.{Known, outermost, ends_with, next, next_from, excluded, exclude_from, end}
use Rattle.scalar_ranges.specs.MoveLaws.{shape}
use Rattle.scalar_ranges.proofs.Excluding.{excluding_holds}
use Rattle.scalar_ranges.proofs.Found.{none_less}
use Rattle.scalar_ranges.proofs.MoveLaws.{branches_hold, shapes_stay}
use Rattle.scalar_ranges.proofs.Nesting.{outermost_twice, long_alike}
use Rattle.program_meaning.specs.Links.{Links}
use Rattle.program_meaning.specs.RangesWithin.{EntriesWithin}
use Rattle.program_meaning.specs.Running.{Outcome, Goes, Waits, Stuck, left, or_else, or_waits}
use Rattle.program_meaning.specs.GoingWell.{IsTrueIn, IsWell}
use Rattle.program_meaning.proofs.MovesWithin.{within_shape, within_long}
use Rattle.program_meaning.proofs.OutcomesGoWell.{outcomes_go_well}
use Rattle.program_meaning.proofs.TypesStay.{types_stay}
use Rattle.usage_checks.specs.AfterProcesses.{chosen}
use Rattle.usage_checks.specs.RangesStay.{Stays}
use Rattle.usage_checks.proofs.RangesStay.{EndsWithin}

-- ---- outcomes

pub well_at : (o : Outcome) (ds es : List Entry) → ds ≡ es → IsWell o ds → IsWell o es
well_at o ds es same w = subst (IsWell o) same w

-- a scope is left inside of which all went well
pub left_well : (count size inner : ℕ) (o : Outcome) (es : List Entry) → count ≡ size → size ≤ inner
    → IsWell o (outermost inner es) → IsWell (left count o) (outermost size es)
left_well count size inner o es same low well =
    well_at (left count o) (outermost count (outermost inner es)) (outermost size es)
    (ap (λ n. outermost n (outermost inner es)) same ∙ outermost_twice size inner es low)
    (outcomes_go_well.leaving (outermost inner es) count o well)

abbrev pub IsEnd : Outcome → Option (List Entry) → Type 0
IsEnd o None = ⊥
IsEnd o (Some es) = IsWell o es

-- No condition held so far, and what is known where the next choice begins is true; or one held, and what is known
-- after the choices so far is true.
abbrev pub IsFound : Option Outcome → Environment → List Entry → Option (List Entry) → Type 0
IsFound None env start ends = IsTrueIn start env
IsFound (Some o) env start ends = IsEnd o ends

abbrev pub ends_in : List moves.Block → Option (List Entry)
ends_in [] = None
ends_in (b ∷ bs) = b.ends

abbrev pub FoundIn : Option Outcome → Environment → Known → Type 0
FoundIn found env m = IsFound found env m.entries (ends_in m.blocks)

well_earlier : (o : Outcome) (ends : Option (List Entry)) (es : List Entry)
    → ((ds : List Entry) → ends ≡ Some ds → shape ds ≡ shape es) → IsEnd o ends → IsWell o (ends_with ends es)
well_earlier o None es fits w = absurd w
well_earlier (Goes env l) (Some ds) es fits w = record {
  meets = branches_hold.earlier_ones ds es env w.meets;
  typed = types_stay.moving ds (ends_with (Some ds) es) env (sym (shapes_stay.joining ds es)) w.typed;
}
well_earlier (Waits l) (Some ds) es fits w = tt
well_earlier Stuck (Some ds) es fits w = absurd w

joined_shape : (ends : Option (List Entry)) (es : List Entry)
    → ((ds : List Entry) → ends ≡ Some ds → shape ds ≡ shape es) → shape es ≡ shape (ends_with ends es)
joined_shape None es fits = refl
joined_shape (Some ds) es fits = sym (fits ds refl) ∙ sym (shapes_stay.joining ds es)

well_this : (o : Outcome) (ends : Option (List Entry)) (es : List Entry)
    → ((ds : List Entry) → ends ≡ Some ds → shape ds ≡ shape es) → IsWell o es → IsWell o (ends_with ends es)
well_this (Goes env l) ends es fits w = record {
  meets = branches_hold.this_one ends es env fits w.meets;
  typed = types_stay.moving es (ends_with ends es) env (joined_shape ends es fits) w.typed;
}
well_this (Waits l) ends es fits w = tt
well_this Stuck ends es fits w = absurd w

-- ---- one choice

-- what becomes of a choice that begins where this is known, and ends there
pub data Chooses (e : Expression) (x final : Known) (env : Environment) : Option Outcome → Type 0 where
  passed : type_of x.entries e ≡ Ok types.Condition → truth_of env e ≡ Some false → Chooses e x final env None
  picked : (o : Outcome) → IsWell o (outermost (length x.entries) final.entries) → Chooses e x final env (Some o)

pub by_truth : (e : Expression) (x final : Known) (env : Environment) (o : Outcome) (w : Option Bool) → IsSome w
    → (w ≡ Some false → Chooses e x final env None) → (w ≡ Some true → Chooses e x final env (Some o))
    → Chooses e x final env (elim w [ None ↦ Some Stuck | Some true ↦ Some o | Some false ↦ None ])
by_truth e x final env o None has fails holds = absurd (cc has)
by_truth e x final env o (Some true) has fails holds = holds refl
by_truth e x final env o (Some false) has fails holds = fails refl

pub same_option : (o : Option Outcome) → option_map (λ x. x) o ≡ o
same_option None = refl
same_option (Some x) = refl

-- ---- one choice more

-- Where the condition does not hold, what is known where the next choice begins is true.
pub excluded_true : (e : Expression) (es start : List Entry) (outer env : Environment)
    → outermost (length start) env ≡ outer → IsTrueIn start outer → Meets env es → type_of es e ≡ Ok types.Condition
    → truth_of env e ≡ Some false → IsTrueIn (excluded e es start) outer
excluded_true e es start outer env left holds meets type truth = record {
  meets = subst (λ x. Meets x (excluded e es start)) left
      (excluding_holds.further es start env e types.Condition meets (subst (λ x. Meets x start) (sym left) holds.meets)
      type truth);
  typed = types_stay.moving start (excluded e es start) outer (sym (shapes_stay.excluding es start e)) holds.typed;
}

pub found_more : (e : Expression) (x final : Known) (start rest es : List Entry) (ends : Option (List Entry))
    (outer env : Environment) (f : Outcome → Outcome) (found c : Option Outcome)
    → ((ds : List Entry) → ends ≡ Some ds → shape ds ≡ shape es)
    → ((o : Outcome) → IsWell o (outermost (length x.entries) final.entries) → IsWell (f o) es)
    → (IsTrueIn start outer → Chooses e x final env c)
    → (IsTrueIn start outer → type_of x.entries e ≡ Ok types.Condition → truth_of env e ≡ Some false
    → IsTrueIn rest outer)
    → IsFound found outer start ends
    → IsFound (or_else found (option_map f c)) outer rest (Some (ends_with ends es))
found_more e x final start rest es ends outer env f (Some o) c fits then chooses not_so h =
    well_earlier o ends es fits h
found_more e x final start rest es ends outer env f None c fits then chooses not_so h = by_choice c (chooses h)
  where
    by_choice : (c : Option Outcome) → Chooses e x final env c
        → IsFound (option_map f c) outer rest (Some (ends_with ends es))
    by_choice None (passed type truth) = not_so h type truth
    by_choice (Some o) (picked o2 well) = well_this (f o2) ends es fits (then o2 well)

-- the next choice begins
pub chosen_next : (ns : List ℕ) (e : Expression) (start : List Entry) (ends : Option (List Entry))
    (bs : List moves.Block) (x final : Known) → x.blocks ≡ record { start = start; ends = ends } ∷ bs
    → Stays ns (chosen e x) final
    → next final ≡ record {
      entries = excluded e x.entries start;
      blocks = record {
        start = excluded e x.entries start;
        ends = Some (ends_with ends (outermost (length (excluded e x.entries start)) final.entries));
      } ∷ bs;
    }
chosen_next ns e start ends bs x final blocks stays =
    ap (next_from final.entries) (stays.blocks ∙ ap (exclude_from e x.entries) blocks)

-- the ends so far have the shape of the end of this choice
pub ends_fit : (all : List ℕ) (ends : Option (List Entry)) (es outer : List Entry) → EndsWithin all ends outer
    → shape es ≡ shape outer → (ds : List Entry) → ends ≡ Some ds → shape ds ≡ shape es
ends_fit all None es outer within same ds is = absurd (cc is)
ends_fit all (Some d) es outer within same ds is =
    let one : d ≡ ds = cc in
    subst (λ x. shape x ≡ shape es) one (within_shape all d outer within ∙ sym same)

-- what a process leaves of the names around it has their shape
pub place_shape : (n : ℕ) (ns : List ℕ) (start : List Entry) (x y final : Known) → shape y.entries ≡ shape x.entries
    → outermost n x.entries ≡ start → n ≤ length x.entries → Stays ns y final
    → shape (outermost n final.entries) ≡ shape start
place_shape n ns start x y final alike same low stays =
    let long = long_alike y.entries x.entries alike in
    let inner = within_shape ns (outermost (length y.entries) final.entries) y.entries stays.within in
    ap shape (sym (outermost_twice n (length y.entries) final.entries (omega (arith, low, long))))
    ∙ shapes_stay.leaving (outermost (length y.entries) final.entries) y.entries n inner
    ∙ shapes_stay.leaving y.entries x.entries n alike ∙ ap shape same

-- the end of a choice has the shape of what is known around the block
pub end_shape : (all ns : List ℕ) (e : Expression) (start : List Entry) (k x final : Known)
    → EntriesWithin all start k.entries → outermost (length start) x.entries ≡ start
    → length start ≤ length x.entries → Stays ns (chosen e x) final
    → shape (outermost (length (excluded e x.entries start)) final.entries) ≡ shape k.entries
end_shape all ns e start k x final starts same low stays =
    let rest = long_alike (excluded e x.entries start) start (shapes_stay.excluding x.entries start e) in
    ap (λ n. shape (outermost n final.entries)) rest
    ∙ place_shape (length start) ns start x (chosen e x) final (shapes_stay.narrowing x.entries e true) same low stays
    ∙ within_shape all start k.entries starts

-- a choice more, in a block that began in the first place
pub choice_step : (all ns : List ℕ) (e : Expression) (start : List Entry) (ends : Option (List Entry))
    (k x final : Known) (outer env : Environment) (f : Outcome → Outcome) (found c : Option Outcome)
    → x.blocks ≡ record { start = start; ends = ends } ∷ k.blocks → EntriesWithin all start k.entries
    → EndsWithin all ends k.entries → outermost (length start) x.entries ≡ start
    → length start ≤ length x.entries → Stays ns (chosen e x) final
    → ((o : Outcome) → IsWell o (outermost (length x.entries) final.entries)
    → IsWell (f o) (outermost (length start) final.entries))
    → (IsTrueIn start outer → Chooses e x final env c)
    → (IsTrueIn start outer → Meets env x.entries × (outermost (length start) env ≡ outer))
    → IsFound found outer start ends → FoundIn (or_else found (option_map f c)) outer (next final)
choice_step all ns e start ends k x final outer env f found c blocks starts ended same low stays then chooses inner h =
    let rest = excluded e x.entries start in
    let es = outermost (length rest) final.entries in
    let long = long_alike rest start (shapes_stay.excluding x.entries start e) in
    subst (FoundIn (or_else found (option_map f c)) outer)
    (sym (chosen_next ns e start ends k.blocks x final blocks stays))
    (found_more e x final start rest es ends outer env f found c
    (ends_fit all ends es k.entries ended (end_shape all ns e start k x final starts same low stays))
    (λ o well. well_at (f o) (outermost (length start) final.entries) es
    (ap (λ n. outermost n final.entries) (sym long)) (then o well)) chooses
    (λ holds type truth. excluded_true e x.entries start outer env (inner holds).1 holds (inner holds).0 type truth) h)

-- after the last choice
pub first_well : (all : List ℕ) (k : Known) (found : Option Outcome) (env : Environment) (l : Links)
    (start : List Entry) (ends : Option (List Entry)) → EndsWithin all ends k.entries → IsFound found env start ends
    → IsWell (or_waits found l) (outermost (length k.entries)
    (end (record { entries = start; blocks = record { start = start; ends = ends } ∷ k.blocks })).entries)
first_well all k None env l start ends within found = tt
first_well all k (Some o) env l start None within found = absurd found
first_well all k (Some o) env l start (Some es) within found =
    let long = within_long all es k.entries within in
    well_at o es (outermost (length k.entries) es) (sym (none_less (length k.entries) es (omega (arith, long)))) found
