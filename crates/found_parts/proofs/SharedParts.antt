-- What is named of a branch is in common with one that is started.
use Rattle.std.proofs.Common.{◌≡◌, ℕ, zero, suc, ◌-◌, ◌==◌, ◌||◌, not, Bool, true, false, cond, List, [], ◌∷◌, take}
use Rattle.std.proofs.Common.{Option, Some, None, refl, ap, ◌∙◌, arith, slice_get}
use Rattle.std.specs.Prelude.{option_map}
use Rattle.std.specs.Option.{option_or}
use Rattle.std.specs.List.{list_any, list_all}
use Rattle.std.proofs.lemmas.Bool.{or_parts, not-true, false_from_ne_true, ne_eqb}
use Rattle.module_format.specs.declared.rows.Interval.{Interval}
use Rattle.module_format.specs.Contents.{Contents, Par, Branch}
use Rattle.module_format.specs.Pars.{intervals_meet}
use Rattle.certificate.specs.Siblings.{have_common_word, have_common_number, share_what_is_written, is_beside}
use Rattle.machine_state.specs.JoinLookups.{Found}
use Rattle.states.specs.declared.known.Mode.{Mode}
use Rattle.states.specs.declared.known.Mode.TheVariants.{Plain, Enabling, Disabling, Starting}
use Rattle.states.specs.State.{State}
use Rattle.rulings.specs.Reach.{is_listed}
use Rattle.par_rules.specs.Gifts.{started_in}
use Rattle.par_rules.specs.ParRules.{is_apart}
use Rattle.fact_texts.specs.declared.facts.RangeText.{RangeText}
use Rattle.found_parts.specs.declared.sharing.Common.TheVariants as commons
use Rattle.found_parts.specs.declared.sharing.Shared.{Shared}
use Rattle.found_parts.specs.Firsts.{first_of, among}
use Rattle.found_parts.specs.Sharing.{meeting, common_words, listed, common_number, words_in_common}
use Rattle.found_parts.specs.Sharing.{numbers_in_common, common_of, in_common, shared_at, shared_with, shared_among}
use Rattle.found_parts.specs.Sharing.{shared_by, shared_in}
use Rattle.found_parts.proofs.Nothing.{found_where, neither, none_of, none_of_failing, none_mapped}

no_words : (intervals others : List Interval) → have_common_word intervals others ≡ false
    → common_words intervals others ≡ None
no_words intervals others none =
    none_of_failing (λ other. first_of (meeting other) intervals) (λ other. list_any (intervals_meet other) intervals)
    (λ other e. none_of_failing (meeting other) (intervals_meet other)
    (λ i e. found_where (intervals_meet other i) _ e) intervals e) others none

no_numbers : (numbers others : List ℕ) → have_common_number numbers others ≡ false
    → common_number numbers others ≡ None
no_numbers numbers others none =
    none_of_failing (listed numbers) (is_listed numbers) (λ j e. found_where (is_listed numbers j) j e) others none

nothing_of : (words : Option RangeText) (number : Option ℕ) → words ≡ None → number ≡ None → common_of words number ≡ None
nothing_of None number e f = none_mapped commons.Parameter number f
nothing_of (Some words) number e f = absurd (cc)

nothing_in_common : (b other : Branch) → share_what_is_written b other ≡ false → in_common b other ≡ None
nothing_in_common b other none =
    let five = or_parts _ (have_common_number b.read_parameters other.written_parameters) none in
    let four = or_parts _ (have_common_number b.written_parameters other.read_parameters) five.0 in
    let three = or_parts _ (have_common_number b.written_parameters other.written_parameters) four.0 in
    let two = or_parts _ (have_common_word b.reads other.writes) three.0 in
    let one = or_parts (have_common_word b.writes other.writes) (have_common_word b.writes other.reads) two.0 in
    nothing_of (words_in_common b other) (numbers_in_common b other)
    (neither _ (common_words b.reads other.writes)
    (neither (common_words b.writes other.writes) (common_words b.writes other.reads)
    (no_words b.writes other.writes one.0) (no_words b.writes other.reads one.1))
    (no_words b.reads other.writes two.1))
    (neither _ (common_number b.read_parameters other.written_parameters)
    (neither (common_number b.written_parameters other.written_parameters)
    (common_number b.written_parameters other.read_parameters)
    (no_numbers b.written_parameters other.written_parameters three.1)
    (no_numbers b.written_parameters other.read_parameters four.1))
    (no_numbers b.read_parameters other.written_parameters five.1))

beside : (b other : Branch) → is_beside b other ≡ true → shared_with b other ≡ None
beside b other is = on (other.entry == b.entry) is
  where
    on : (same : Bool) → (same || not (share_what_is_written b other)) ≡ true
        → cond same None (option_map (shared_at other.entry) (in_common b other)) ≡ None
    on true is = refl
    on false is = none_mapped (shared_at other.entry) (in_common b other) (nothing_in_common b other (not-true _ is))

-- what is found of the first members is what is found of a list of these
among_taken : {A B : Type 0} (find : A → Option B) (n : ℕ) (xs : List A) → among find n xs ≡ first_of find (take n xs)
among_taken find zero [] = refl
among_taken find (suc n) [] = refl
among_taken find zero (x ∷ xs) = refl
among_taken find (suc n) (x ∷ xs) =
    let some : (suc n == 0) ≡ false = ne_eqb (suc n) 0 (λ e. omega (arith, e)) in
    let less : suc n - 1 ≡ n = omega arith in
    rw (some, less) (ap (option_or (find x)) (among_taken find n xs))

nothing_among : (m : Contents) (b : Branch) (row started : ℕ)
    → list_all (is_beside b) (started_in m (Starting row started)) ≡ true
    → shared_among b started (slice_get m.pars row) ≡ None
nothing_among m b row started all = on (slice_get m.pars row) all
  where
    on : (o : Option Par)
        → list_all (is_beside b) (elim o as (λ o. List Branch) [ None ↦ [] | Some par ↦ take started par.branches ]) ≡ true
        → shared_among b started o ≡ None
    on None all = refl
    on (Some par) all =
        among_taken (shared_with b) started par.branches
        ∙ none_of (shared_with b) (is_beside b) (beside b) (take started par.branches) all

nothing_shared : (m : Contents) (s : State) (found : Found) → is_apart m s found ≡ true
    → shared_in m s found.branch ≡ None
unfolding shared_in
nothing_shared m s found all = on s.mode all
  where
    on : (mode : Mode) → list_all (is_beside found.branch) (started_in m mode) ≡ true
        → shared_by m found.branch mode ≡ None
    on Plain all = refl
    on Enabling all = refl
    on (Disabling done) all = refl
    on (Starting row started) all = nothing_among m found.branch row started all

-- Where something is named, the branch is not apart.
pub named_is_shared : (m : Contents) (s : State) (found : Found) (shared : Shared)
    → shared_in m s found.branch ≡ Some shared → is_apart m s found ≡ false
named_is_shared m s found shared named =
    false_from_ne_true (is_apart m s found) (λ apart. let none = nothing_shared m s found apart in absurd (cc))
