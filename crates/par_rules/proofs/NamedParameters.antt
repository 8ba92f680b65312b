-- What is asked of the parameters that are named is asked of all that name them, and the same of channels.
use Rattle.std.proofs.Common.{◌≡◌, ◌&&◌, ◌||◌, ℕ, ℤ, Bool, true, false, List, [], ◌∷◌, refl, sym, ap, ◌∙◌}
use Rattle.std.specs.Prelude.{pos, negsuc, slice_get, Option, Some, None}
use Rattle.std.specs.List.{list_any, list_all}
use Rattle.std.specs.Ordering.{int_eq}
use Rattle.std.proofs.lemmas.Cmp.{int_eq_equiv}
use Rattle.std.proofs.lemmas.Bool.{and_parts, and_from}
use Rattle.std.proofs.lemmas.Bool.Decides.{Decides-int_eq}
use Rattle.small_laws.proofs.Connectives.{same_tests}
use Rattle.module_format.specs.declared.rows.EndKind.{EndKind}
use Rattle.module_format.specs.declared.rows.EndKind.TheVariants as ends
use Rattle.module_format.specs.declared.rows.EndRow.{EndRow}
use Rattle.module_format.specs.Contents.{Contents, Branch, Par}
use Rattle.states.specs.State.{State}
use Rattle.certificate.specs.Named.{is_one_of, is_parameter_of, is_of_parameter, names_parameter}
use Rattle.certificate.specs.Named.{names_parameter_in}
use Rattle.par_rules.specs.Openings.{is_as_given, number_is_as_given, end_is_as_given, named_are_as_given}

-- ---- tests of two parts

four : (a b c d : Bool) → ((a && b) && (c && d)) ≡ ((a && c) && (b && d))
four true true c d = refl
four true false true d = refl
four true false false d = refl
four false b c d = refl

-- all pass two tests if all pass the one and all pass the other
pub all_both : {X : Type 0} (p q : X → Bool) (xs : List X)
    → list_all (λ x. p x && q x) xs ≡ (list_all p xs && list_all q xs)
all_both p q [] = refl
all_both p q (x ∷ xs) =
    ap (λ (b : Bool). (p x && q x) && b) (all_both p q xs) ∙ four (p x) (q x) (list_all p xs) (list_all q xs)

-- ---- tests of named numbers

-- a test is passed just if each of the numbers that are named passes another one
record IsOfNamed (f : ℤ → Bool) (test : Bool) (named : ℤ → Bool) : Type 0 where
  each : test ≡ true → (j : ℤ) → named j ≡ true → f j ≡ true
  all : ((j : ℤ) → named j ≡ true → f j ≡ true) → test ≡ true

module _ (f : ℤ → Bool) where
  none_named : IsOfNamed f true (λ j. false)
  none_named = record { each = λ t j no. absurd cc; all = λ h. refl }

  one_named : (i : ℤ) → IsOfNamed f (f i) (λ j. int_eq j i)
  one_named i = record {
    each = λ t j same. let is : j ≡ i = (Decides-int_eq j i).0 same in ap f is ∙ t;
    all = λ h. h i (int_eq_equiv.refl i);
  }

  either : (a b : Bool) → (a || b) ≡ true → (P : Type 0) → (a ≡ true → P) → (b ≡ true → P) → P
  either true b h P left right = left refl
  either false b h P left right = right h

  first_of : (a b : Bool) → a ≡ true → (a || b) ≡ true
  first_of true b h = refl
  first_of false b h = absurd cc

  second_of : (a b : Bool) → b ≡ true → (a || b) ≡ true
  second_of true b h = refl
  second_of false b h = h

  both_named : {p q : Bool} {named more : ℤ → Bool} → IsOfNamed f p named → IsOfNamed f q more
      → IsOfNamed f (p && q) (λ j. named j || more j)
  both_named {p} {q} {named} {more} h g = record {
    each = λ t j is. either (named j) (more j) is (f j ≡ true) (h.each (and_parts p q t).0 j)
        (g.each (and_parts p q t).1 j);
    all = λ pass. and_from p q (h.all (λ j is. pass j (first_of (named j) (more j) is)))
        (g.all (λ j is. pass j (second_of (named j) (more j) is)));
  }

  all_named : {X : Type 0} (test : X → Bool) (named : ℤ → X → Bool)
      → ((x : X) → IsOfNamed f (test x) (λ j. named j x)) → (xs : List X)
      → IsOfNamed f (list_all test xs) (λ j. list_any (named j) xs)
  all_named test named h [] = none_named
  all_named test named h (x ∷ xs) = both_named (h x) (all_named test named h xs)

  same_named : (p q : Bool) (named more : ℤ → Bool) → IsOfNamed f p named → IsOfNamed f q more
      → ((j : ℤ) → named j ≡ more j) → p ≡ q
  same_named p q named more h g same =
      same_tests p q (λ t. g.all (λ j is. h.each t j (same j ∙ is)))
      (λ t. h.all (λ j is. g.each t j (sym (same j) ∙ is)))

-- ---- the parameters that branches name

module _ (m : Contents) (s : State) where
  abbrev given : ℤ → Bool
  given = number_is_as_given m s

  parameters_named : (parameters : List ℕ)
      → IsOfNamed given (list_all (is_as_given m s) parameters) (is_parameter_of parameters)
  parameters_named = all_named given (is_as_given m s) (λ j n. int_eq j (pos n)) (λ n. one_named given (pos n))

  kind_named : (kind : EndKind) → IsOfNamed given (end_is_as_given m s kind) (λ j. is_of_parameter j kind)
  kind_named (ends.FrameWord k) = none_named given
  kind_named (ends.Parameter (pos i) element) = one_named given (pos i)
  kind_named (ends.Parameter (negsuc i) element) = one_named given (negsuc i)
  kind_named (ends.Link l) = none_named given

  branch_named : (b : Branch) → IsOfNamed given (named_are_as_given m s b) (λ j. names_parameter j b)
  branch_named b =
      both_named given (both_named given (parameters_named b.written_parameters) (parameters_named b.read_parameters))
      (all_named given (λ (e : EndRow). end_is_as_given m s e.kind) (λ j e. is_of_parameter j e.kind)
      (λ e. kind_named e.kind) b.ends)

  -- what each number that is listed says, the branches of the row say that name these
  pub named_pass : (numbers : List ℤ) (row : ℕ) (par : Par) → slice_get m.pars row ≡ Some par
      → ((j : ℤ) → is_one_of numbers j ≡ names_parameter_in m row j)
      → list_all given numbers ≡ list_all (named_are_as_given m s) par.branches
  named_pass numbers row par is same =
      same_named given _ _ (is_one_of numbers) (λ j. list_any (names_parameter j) par.branches)
      (all_named given given int_eq (one_named given) numbers)
      (all_named given (named_are_as_given m s) names_parameter branch_named par.branches)
      (λ j. same j
      ∙ ap (λ (o : Option Par). elim o [ None ↦ false | Some x ↦ list_any (names_parameter j) x.branches ]) is)
