-- What is found of the parameters of a call is what they are passed.
use Rattle.std.proofs.Common.{◌≡◌, ◌∙◌, ◌/◌, refl, sym, ap, subst, ℕ, ◌+◌, ◌<◌, length, take, get_or, ◌++◌, List, []}
use Rattle.std.proofs.Common.{◌∷◌, map, Option, Some, if◌then◌else◌}
use Rattle.std.specs.List.{AllByRecursion}
use Rattle.std.proofs.lemmas.List.{take_more, map-append}
use Rattle.std.proofs.lemmas.Simd.{map-map}
use Rattle.module_format.specs.Rows.{Fact}
use Rattle.module_format.specs.declared.rows.Parameter.{Parameter}
use Rattle.module_format.specs.declared.fact.Region.{Region}
use Rattle.module_format.specs.declared.fact.Region.TheVariants as regions
use Rattle.module_format.specs.Regions.{is_frame}
use Rattle.states.specs.declared.known.WordFact.{WordFact}
use Rattle.states.specs.State.{State, plain}
use Rattle.states.specs.Spans.{together}
use Rattle.rulings.specs.Reach.{word_of_byte}
use Rattle.call_rules.specs.declared.lent.Lent.{Lent}
use Rattle.call_rules.specs.declared.passed.Passed.{Passed}
use Rattle.call_rules.specs.declared.passed.Summed.{Summed}
use Rattle.call_rules.specs.CallRules.{Calling, given, lent, lent_to, lent_words}
use Rattle.call_rules.specs.Callings.{passed_to, summed, first_lent, count_lent, IsPassedSo}

-- What is found in a state that is the call's is what the parameter is passed.
found_once : (c : Calling) (s : State) (p : Parameter) (fact : WordFact) (learnt : Fact) (o : Option Lent)
    (w : Summed) → s ≡ c.state → fact ≡ given (record c { state = s }) p → learnt ≡ plain fact
    → o ≡ lent_to p.kind fact → w ≡ summed s.frame o
    → record { parameter = p; fact = fact; plain = learnt; lent = o; words = w.all } ≡ passed_to c p
found_once c s p fact learnt o w s_is fact_is learnt_is o_is w_is =
    let known : fact ≡ given c p = fact_is ∙ ap (λ (t : State). given (record c { state = t }) p) s_is in
    let alike : learnt ≡ plain (given c p) = learnt_is ∙ ap plain known in
    let lends : o ≡ lent c p = o_is ∙ ap (lent_to p.kind) known in
    let asked : w.all ≡ (summed c.state.frame (lent c p)).all =
    ap (λ (x : Summed). x.all) w_is ∙ ap (λ (t : State). (summed t.frame o).all) s_is
    ∙ ap (λ (x : Option Lent). (summed c.state.frame x).all) lends in
    cc

-- One more parameter is found to be passed what it is.
pub found_more : (c : Calling) (s : State) (ps qs : List Parameter) (i : ℕ) (d : Parameter) (all more : List Passed)
    (fact : WordFact) (learnt : Fact) (o : Option Lent) (w : Summed) → s ≡ c.state → qs ≡ ps → i < length qs
    → fact ≡ given (record c { state = s }) (get_or qs i d) → learnt ≡ plain fact
    → o ≡ lent_to (get_or qs i d).kind fact → w ≡ summed s.frame o → all ≡ map (passed_to c) (take i ps)
    → more ≡ all ++ record { parameter = get_or qs i d; fact = fact; plain = learnt; lent = o; words = w.all } ∷ []
    → more ≡ map (passed_to c) (take (i + 1) ps)
found_more c s ps qs i d all more fact learnt o w s_is qs_is low fact_is learnt_is o_is w_is all_is more_is =
    let within : i < length ps = subst (λ (zs : List Parameter). i < length zs) qs_is low in
    let one = found_once c s (get_or qs i d) fact learnt o w s_is fact_is learnt_is o_is w_is
    ∙ ap (λ (zs : List Parameter). passed_to c (get_or zs i d)) qs_is in
    more_is
    ∙ ap (λ (xs : List Passed). xs
    ++ record { parameter = get_or qs i d; fact = fact; plain = learnt; lent = o; words = w.all } ∷ []) all_is
    ∙ ap (λ (x : Passed). map (passed_to c) (take i ps) ++ x ∷ []) one
    ∙ sym (ap (map (passed_to c)) (take_more ps i d within) ∙ map-append (passed_to c) (take i ps) (get_or ps i d ∷ []))

-- What was found of words in a state is so of the state that it is the same as.
pub summed_again : (s t : State) (o : Option Lent) (w : Summed) → s ≡ t → w ≡ summed s.frame o
    → w.all ≡ together t.frame w.first w.count
summed_again s t o w is told =
    ap (λ (x : Summed). x.all) told ∙ ap (λ (u : State). together u.frame (first_lent o) (count_lent o)) is
    ∙ sym (ap (λ (x : Summed). together t.frame x.first x.count) told)

-- Of words of the frame that are lent, all are asked together.
frame_asked : (c : Calling) (p : Parameter) (l : Lent) → lent c p ≡ Some l → l.region ≡ regions.Frame
    → (summed c.state.frame (lent c p)).all ≡ lent_words c l
frame_asked c p l is at_frame =
    ap (λ (o : Option Lent). (summed c.state.frame o).all) is
    ∙ ap (λ (r : Region). together c.state.frame (word_of_byte l.first) (if is_frame r then l.size / 4 else 0)) at_frame

-- What a parameter is passed is told of it.
passed_so : (c : Calling) (p : Parameter) → IsPassedSo c (passed_to c p)
passed_so c p = record { fact = refl; plain = refl; lent = refl; words = frame_asked c p }

-- What each parameter is lent is what is found to be lent.
pub lent_passed : (c : Calling) (all : List Passed) (given : List (Option Lent))
    → all ≡ map (passed_to c) c.callee.parameters → given ≡ map (λ (x : Passed). x.lent) all
    → given ≡ map (lent c) c.callee.parameters
lent_passed c all given all_is is =
    is ∙ ap (map (λ (x : Passed). x.lent)) all_is ∙ map-map (λ (x : Passed). x.lent) (passed_to c) c.callee.parameters

-- What each parameter is passed is told of each.
pub all_passed_so : (c : Calling) (ps : List Parameter) → AllByRecursion (IsPassedSo c) (map (passed_to c) ps)
all_passed_so c [] = tt
all_passed_so c (p ∷ ps) = (passed_so c p, all_passed_so c ps)
