-- What the code of a whole chain pushes.
use Rattle.std.proofs.Common.{◌≡◌, ℕ, ◌+◌, ◌≤◌, ℤ, Bool, true, false, ◌&&◌, ◌||◌, List, ◌++◌}
use Rattle.std.proofs.Common.{Option, Some, None, FitsSigned, refl, sym, ap, subst}
use Rattle.std.specs.Prelude.{unwrap_or, IfSome}
use Rattle.std.specs.Int.{w32}
use Rattle.std.proofs.lemmas.List.{append-nil}
use Rattle.word_arithmetic.proofs.BinaryLaws.{binary_gives_words}
use Rattle.occam_parser.specs.declared.tree.ChainOperator.{ChainOperator}
use Rattle.occam_parser.specs.Expressions.{Terms, Two, Then, Term}
use Rattle.scalar_ranges.specs.Bounds.{bound_of_term, exact_value}
use Rattle.scalar_ranges.specs.Entries.{Entry}
use Rattle.scalar_ranges.specs.Environments.{Environment, Meets}
use Rattle.scalar_ranges.specs.Fronts.{Front, count_of}
use Rattle.scalar_ranges.proofs.Parts.{both_are}
use Rattle.code_pieces.specs.Pieces.{Piece, word_after}
use Rattle.line_pieces.specs.Expressions.{Operand, beside, term_code, terms_code, covered, are_small, is_small_term}
use Rattle.line_pieces.specs.Expressions.{is_leaf_term, constant_or, first_two, joined, unless, is_known, added_by}
use Rattle.placed_code.proofs.OperandsKeep.{kept_of}
use Rattle.placed_code.proofs.FrontsCover.{covered_before, whole_or_uncovered}
use Rattle.meant_lines.specs.Carrying.{Ground}
use Rattle.meant_lines.specs.Pushing.{Pushed, Pushes, IsCounted}
use Rattle.meant_lines.specs.OperatorLaws.{joined_value}
use Rattle.meant_lines.specs.ChainLaws.{word_of_term, word_of_terms, TermPushes, TermsHold, IsFrontHere}
use Rattle.meant_lines.specs.ChainLaws.{FrontHolds, TermsPush}
use Rattle.meant_lines.proofs.Pushing.{constants_push}
use Rattle.meant_lines.proofs.Arithmetic.{fewer_kept}
use Rattle.meant_lines.proofs.Chains.{chains_compute, first_two_push, one_more_pushes}

-- what is joined of words is a word
joined_fits : (op : ChainOperator) (x y v : ℤ) → FitsSigned w32 x → FitsSigned w32 y → joined_value op x y ≡ Some v
    → FitsSigned w32 v
joined_fits op x y v x_fits y_fits is =
    let operation = chains_compute op x y v x_fits y_fits is in
    subst (λ (o : Option ℤ). IfSome o (FitsSigned w32)) operation.gives
    (binary_gives_words operation.operation x y x_fits y_fits)

-- ---- fronts

still_covered : (front : Option Front) (n : ℕ) (c : ℤ) → covered front (n + 1) ≡ Some c → covered front n ≡ Some c
still_covered None n c is = is
still_covered (Some front) n c is = covered_before front n c is

front_ends : (front : Option Front) (n : ℕ) (u : ℤ) → covered front (n + 1) ≡ None
    → ((f : Front) → front ≡ Some f → f.operands ≡ n → u ≡ f.value) → unwrap_or (covered front n) u ≡ u
front_ends None n u is same = refl
front_ends (Some f) n u is same =
    whole_or_uncovered (λ o. unwrap_or o u) f n is (λ whole. sym (same f refl whole))

same_value : (o : Option ℤ) (u c : ℤ) → o ≡ Some u → o ≡ Some c → u ≡ c
same_value o u c first second = cc

here_of : (env : Environment) (op : ChainOperator) (front : Option Front) (ts : Terms) → FrontHolds env op front ts
    → IsFrontHere env op front ts
here_of env op front (Two a b) is = is
here_of env op front (Then ts x) is = is.1

-- ---- chains

first_small : (small leaf : Bool) → (small && leaf) ≡ true → small ≡ true
first_small true leaf is = refl
first_small false leaf is = absurd (cc is)

module _ (g : Ground) (top t : ℕ) (es : List Entry) (env : Environment) (op : ChainOperator) (front : Option Front)
    (meets : Meets env es) (low : top ≤ t) (few : IsCounted t) where
  abbrev operand : Term → Operand
  operand x = beside es x (term_code g.homes es t x) (term_code g.homes es (word_after t 1) x)

  abbrev Gives : Terms → ℤ → Type 0
  Gives ts v =
      FitsSigned w32 v × Pushes g top es env (terms_code g.homes es t op front ts) t false (are_small es ts)
      (unwrap_or (covered front (count_of ts)) v)

  first_by : (o : Option ℤ) (a b : Term) (x y v : ℤ) → TermPushes g top es env t a x → TermPushes g top es env t b y
      → joined_value op x y ≡ Some v
      → Pushes g top es env (constant_or o (first_two t op (added_by op (exact_value (bound_of_term es b)))
      (operand a) (operand b))) t false (is_small_term es a && is_leaf_term es b) (unwrap_or o v)
  first_by (Some c) a b x y v first second gives all h carries =
      constants_push g t false (is_small_term es a && is_leaf_term es b) c h
  first_by None a b x y v first second gives all h carries =
      first_two_push g top t es env op (operand a) (operand b) (exact_value (bound_of_term es b)) x y v h meets low few
      first.fits second.fits first.pushes second.pushes second.known gives all carries

  more_by : (o : Option ℤ) (ts : Terms) (x : Term) (u y v : ℤ) → covered front (count_of ts + 1) ≡ o
      → FrontHolds env op front ts → word_of_terms env op ts ≡ Some u → Gives ts u → TermPushes g top es env t x y
      → joined_value op u y ≡ Some v
      → Pushes g top es env (terms_code g.homes es t op front ts ++ unless (is_known o)
      (joined t op (exact_value (bound_of_term es x)) (is_small_term es x) (term_code g.homes es (word_after t 1) x))) t
      false (are_small es ts && is_leaf_term es x) (unwrap_or o v)
  more_by (Some c) ts x u y v is holds word before second gives =
      subst (λ (code : List Piece). Pushes g top es env code t false (are_small es ts && is_leaf_term es x) c)
      (sym (append-nil (terms_code g.homes es t op front ts)))
      (λ all h carries.
      fewer_kept g (terms_code g.homes es t op front ts) t (are_small es ts && is_leaf_term es x) (are_small es ts) c h
      (first_small (are_small es ts) (is_leaf_term es x))
      (subst (λ (w : ℤ). Pushed g (terms_code g.homes es t op front ts) t false (are_small es ts) w h)
      (ap (λ (o : Option ℤ). unwrap_or o u) (still_covered front (count_of ts) c is)) (before.1 all h carries)))
  more_by None ts x u y v is holds word before second gives =
      let code : List Piece = terms_code g.homes es t op front ts in
      let value = front_ends front (count_of ts) u is
      (λ f same many. same_value (word_of_terms env op ts) u f.value word
      (here_of env op front ts holds f same many)) in
      let pushes : Pushes g top es env code t false (are_small es ts) u =
      subst (λ (w : ℤ). Pushes g top es env code t false (are_small es ts) w) value before.1 in
      (λ all h carries.
      fewer_kept g (code ++ joined t op (exact_value (bound_of_term es x)) (is_small_term es x)
      (term_code g.homes es (word_after t 1) x)) t (are_small es ts && is_leaf_term es x)
      ((are_small es ts || false) && is_leaf_term es x) v h (kept_of (are_small es ts) false (is_leaf_term es x))
      (one_more_pushes g top t es env op code (term_code g.homes es (word_after t 1) x) false (are_small es ts)
      (is_leaf_term es x) (is_small_term es x) (exact_value (bound_of_term es x)) u y v h meets low few before.0
      second.fits pushes second.pushes.second second.known gives all carries))

  chain_gives : (ts : Terms) (v : ℤ) → TermsHold g top es env t ts → FrontHolds env op front ts
      → word_of_terms env op ts ≡ Some v → Gives ts v
  chain_gives (Two a b) v hold front_holds is =
      let parts = both_are (word_of_term env a) (word_of_term env b) (joined_value op) v is in
      let first = hold.0 parts.0 parts.2 in
      let second = hold.1 parts.1 parts.3 in (
        joined_fits op parts.0 parts.1 v first.fits second.fits parts.4,
        first_by (covered front 2) a b parts.0 parts.1 v first second parts.4,
      )
  chain_gives (Then ts x) v hold front_holds is =
      let parts = both_are (word_of_terms env op ts) (word_of_term env x) (joined_value op) v is in
      let before = chain_gives ts parts.0 hold.0 front_holds.0 parts.2 in
      let second = hold.1 parts.1 parts.3 in (
        joined_fits op parts.0 parts.1 v before.0 second.fits parts.4,
        more_by (covered front (count_of ts + 1)) ts x parts.0 parts.1 v refl front_holds.0 parts.2 before second
            parts.4,
      )

pub terms_push : TermsPush
terms_push g top t es env op front ts v meets low few hold front_holds is =
    chain_gives g top t es env op front meets low few ts v hold front_holds is
