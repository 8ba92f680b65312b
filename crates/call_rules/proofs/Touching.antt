-- What a call may change of its caller's frame.
use Rattle.std.proofs.Common.{◌≡◌, ℕ, ◌+◌, ◌/◌, ◌≤◌, ℤ, pos, negsuc, ◌+ℤ◌, Bool, true, false, cond, ◌&&◌, List, []}
use Rattle.std.proofs.Common.{◌∷◌, length, map, Option, Some, None, refl, sym, ap, ◌∙◌, subst, arith, is_some}
use Rattle.std.specs.Prelude.{slice_get, ◌||◌, int_le, IfSome, if◌then◌else◌}
use Rattle.std.specs.List.{list_all, AllByRecursion}
use Rattle.std.proofs.lemmas.Int.{ints}
use Rattle.std.proofs.lemmas.Bool.{and_parts, and_from}
use Rattle.module_format.specs.declared.rows.Parameter.{Parameter}
use Rattle.module_format.specs.declared.rows.ParameterKind.{ParameterKind}
use Rattle.module_format.specs.declared.rows.ParameterKind.TheVariants.{Value, ReadRegion, WrittenRegion, Channels}
use Rattle.module_format.specs.Rows.{Fact, ProcedureRow}
use Rattle.module_format.specs.declared.fact.Fact.TheVariants.{Unknown, Number}
use Rattle.module_format.specs.declared.fact.Region.{Region}
use Rattle.module_format.specs.declared.fact.Region.TheVariants as regions
use Rattle.module_format.specs.declared.stack.Stack.{Stack}
use Rattle.module_format.specs.Stack.{of_empty}
use Rattle.module_format.specs.Contents.{Contents, Procedure, procedure_of}
use Rattle.module_format.specs.Keeping.{Keeps}
use Rattle.module_format.specs.Regions.{is_frame}
use Rattle.module_format.specs.Order.{InOrder}
use Rattle.module_format.specs.Procedures.{KindKeeps, ParameterKeeps, behind_parameter, ProcedureKeeps}
use Rattle.certificate.specs.Rights as rights
use Rattle.states.specs.declared.known.WordFact.{WordFact}
use Rattle.states.specs.declared.known.Known.{Known}
use Rattle.states.specs.declared.known.Mode.{Mode}
use Rattle.states.specs.declared.span.Leaving.{Leaving}
use Rattle.states.specs.declared.span.Leaving.TheVariants.{Become}
use Rattle.states.specs.declared.rule.Rule.TheVariants as rules
use Rattle.states.specs.State.{State, Facts, Change, written, changed, unknown}
use Rattle.certificate.specs.Words.{all_words}
use Rattle.states.specs.Spans.{on_span, after_change}
use Rattle.states.specs.declared.state.State.{State as InMemory}
use Rattle.states.specs.Views.{BelongsTo, CanWriteSpan}
use Rattle.states.proofs.SpanFacts.{all-fail}
use Rattle.states.proofs.Procedures.{at-row}
use Rattle.states.proofs.OwnWords.{written-own}
use Rattle.call_rules.specs.declared.lent.Lent.{Lent}
use Rattle.rulings.specs.Reach.{word_of_byte, may_write_bytes, may_read_bytes}
use Rattle.call_rules.specs.CallRules as rule
use Rattle.call_rules.specs.CallRules.{Calling, given, lent, lent_to, lent_from, pointers_fit, may_lend, lent_end}
use Rattle.call_rules.specs.CallRules.{frame_size, with_all_lent, learns_word, passing, callee_word, frame_is_own}
use Rattle.call_rules.specs.CallRules.{is_off_callee, each_two, behind_call, callee_span, calls_procedure, passes_all}
use Rattle.call_rules.specs.CallRules.{spends, may_call, kinds_give_other_ends, words_fit}
use Rattle.rulings.specs.Pointers.{is_near}
use Rattle.rulings.specs.Rulings.{wants, Ruling, Site, alone, calls}
use Rattle.call_rules.specs.declared.calling.Touched.{Touched}
use Rattle.call_rules.specs.declared.passed.Passed.{Passed}
use Rattle.call_rules.specs.Callings.{with_each, OwnsWords, OwnsLent, Touches, admits, entered, brings_channels}
use Rattle.call_rules.specs.Callings.{are_passed_other_ends}
use Rattle.rulings.proofs.Reaching.{word_of_byte_low, word_of_byte_high, touched_passes}
use Rattle.call_rules.proofs.CallTests.{lend_parts, lent_fact}

-- ---- what is lent, parameter by parameter

pub each_lent : (c : Calling) (ps : List Parameter) (facts : Facts)
    → with_each (map (lent c) ps) facts ≡ with_all_lent c ps facts
each_lent c [] facts = refl
each_lent c (p ∷ ps) facts = each_lent c ps (rule.with_lent (lent c p) facts)

-- a region of the frame that may be written is own words
words_owned : (m : Contents) (context : ℕ) (first : ℤ) (size : ℕ) → 4 ≤ size
    → may_write_bytes m context regions.Frame first (first +ℤ pos size) ≡ true
    → OwnsWords m context (word_of_byte first) (size / 4)
unfolding may_write_bytes
words_owned m context first size some may = record {
  some = omega arith;
  each = λ k low high.
      let a = word_of_byte_low first in
      let b = word_of_byte_high first in
      written-own m context k (touched_passes (rights.may_write_word m context) first (first +ℤ pos size) k may
      (omega (arith, ints, a, b)) (omega (arith, ints, a, b)));
}

lent_owned : (c : Calling) (l : Lent) → 4 ≤ l.size → may_lend c l ≡ true → OwnsLent c.contents c.state.context (Some l)
lent_owned c l some may writes frame =
    words_owned c.contents c.state.context l.first l.size some
    (subst (λ (r : Region). may_write_bytes c.contents c.state.context r l.first (lent_end l) ≡ true) frame
    (sym (ap (λ (b : Bool). cond b (may_write_bytes c.contents c.state.context l.region l.first (lent_end l))
    (may_read_bytes c.contents c.state.context l.region l.first (lent_end l))) writes) ∙ (lend_parts c l may).0))

option_owned : (c : Calling) (size : ℕ) (lo hi : ℤ) (w : Bool) (fact : WordFact) (o : Option Lent) → 4 ≤ size
    → lent_from size lo hi w fact ≡ o
    → (elim o as (λ o. Bool) [ None ↦ false | Some l ↦ may_lend c l ]) ≡ true
    → OwnsLent c.contents c.state.context o
option_owned c size lo hi w fact None some is may = tt
option_owned c size lo hi w fact (Some l) some is may =
    let same = ap (λ (x : Lent). x.size) (lent_fact size lo hi w fact l is).1 in
    lent_owned c l (subst (λ (n : ℕ). 4 ≤ n) (sym same) some) may

kind_owned : (c : Calling) (kind : ParameterKind) (fact : WordFact) → KindKeeps kind
    → (elim kind as (λ kind. Bool) [
      | Value lo hi ↦ true
      | Channels count len ends ↦ true
      | _ ↦ elim (lent_to kind fact) [ None ↦ false | Some l ↦ may_lend c l ]
    ]) ≡ true
    → OwnsLent c.contents c.state.context (lent_to kind fact)
kind_owned c (Value lo hi) fact keeps may = tt
kind_owned c (Channels count len ends) fact keeps may = tt
kind_owned c (ReadRegion size lo hi) fact keeps may =
    option_owned c size lo hi false fact (lent_from size lo hi false fact) keeps.some refl may
kind_owned c (WrittenRegion size lo hi) fact keeps may =
    option_owned c size lo hi true fact (lent_from size lo hi true fact) keeps.some refl may

parameter_owned : (c : Calling) (word : ℕ) (kind : ParameterKind) → KindKeeps kind
    → pointers_fit c (record { word = word; kind = kind }) ≡ true
    → OwnsLent c.contents c.state.context (lent c (record { word = word; kind = kind }))
unfolding pointers_fit
parameter_owned c word (Value lo hi) keeps may = tt
parameter_owned c word (Channels count len ends) keeps may = tt
parameter_owned c word (ReadRegion size lo hi) keeps may =
    kind_owned c (ReadRegion size lo hi)
    (given c (record { word = word; kind = ReadRegion size lo hi })) keeps may
parameter_owned c word (WrittenRegion size lo hi) keeps may =
    kind_owned c (WrittenRegion size lo hi)
    (given c (record { word = word; kind = WrittenRegion size lo hi })) keeps
    may

-- where pointers fit, what is lent to be written of the frame are own words
pub all_owned : (c : Calling) (hi : ℤ) (low : ℕ) (ps : List Parameter)
    → InOrder (ParameterKeeps hi) behind_parameter low ps → list_all (pointers_fit c) ps ≡ true
    → AllByRecursion (OwnsLent c.contents c.state.context) (map (lent c) ps)
all_owned c hi low [] keeps may = tt
all_owned c hi low (p ∷ ps) keeps may =
    let both = and_parts _ _ may in (
      parameter_owned c p.word p.kind keeps.0.kind both.0,
      all_owned c hi p.word ps keeps.1 both.1,
    )

-- a context's own words can be written
pub owned_room : (m : Contents) (s : InMemory) (context : ℕ) (first : ℤ) (count : ℕ) → BelongsTo m s
    → OwnsWords m context first count → CanWriteSpan s first count
owned_room m s context first count belongs owns =
    record { each = λ k low high. belongs.room context k (owns.each k low high) }

-- the words of what was lent of the frame to be written can be written
pub lent_room : (m : Contents) (s : InMemory) (context : ℕ) (l : Lent) (o : Option Lent) (w : ℤ) (count : ℕ)
    → o ≡ Some l
    → l.is_written ≡ true → l.region ≡ regions.Frame → w ≡ word_of_byte l.first → count ≡ l.size / 4
    → BelongsTo m s → OwnsLent m context o → CanWriteSpan s w count
lent_room m s context l o w count o_is writes at_frame w_is count_is belongs owns =
    subst (λ (z : ℤ). CanWriteSpan s z count) (sym w_is)
    (subst (λ (n : ℕ). CanWriteSpan s (word_of_byte l.first) n) (sym count_is)
    (owned_room m s context (word_of_byte l.first) (l.size / 4) belongs
    (subst (λ (x : Option Lent). OwnsLent m context x) o_is owns writes at_frame)))

-- ---- the procedure's row

-- a row is valid
pub row_keeps : (m : Contents) → Keeps m → (i : ℕ) (p : Procedure) → slice_get m.procedures i ≡ Some p
    → (low : ℕ) × ProcedureKeeps (length m.code) low p
row_keeps m keeps i p is = at-row (length m.code) 0 m.procedures i p keeps.rows.procedures is

pub frame_some : (code low : ℕ) (p : Procedure) → ProcedureKeeps code low p
    → 1 ≤ frame_size p
frame_some code low p keeps =
    let a = keeps.lo_high in let b = keeps.hi_low in omega (arith, ints, a, b)

-- ---- passing

-- what passing leaves as it was
pub record SameRest (s t : State) : Type 0 where
  pub context : t.context ≡ s.context
  pub depth : t.depth ≡ s.depth
  pub mode : t.mode ≡ s.mode

passes_rest : (m : Contents) (e : ℤ) (fact : Fact) (s t : State) → SameRest s t → SameRest s (learns_word m e fact t)
unfolding learns_word written
passes_rest m e fact s t same = on_test (rights.may_write_word m t.context (t.depth +ℤ e))
  where
    on_test : (b : Bool) → SameRest s (cond b (written (t.depth +ℤ e) fact t) t)
    on_test true = record { context = same.context; depth = same.depth; mode = same.mode }
    on_test false = same

pub passing_rest : (m : Contents) (s : State) → SameRest s (passing m s)
passing_rest m s =
    passes_rest m (negsuc 3) _ s _ (passes_rest m (negsuc 2) _ s _ (passes_rest m (negsuc 1) _ s _
    (passes_rest m (negsuc 0) _ s s (record { context = refl; depth = refl; mode = refl }))))

-- ---- the callee's frame

-- whether each word of the callee's frame may be written
pub is_own : (c : Calling) (first : ℤ) (n : ℕ) (usable : Bool) → first ≡ callee_word c.state c.callee.lo
    → n ≡ frame_size c.callee → usable ≡ all_words (rights.may_write_word c.contents c.state.context) first n
    → usable ≡ frame_is_own c
unfolding frame_is_own
is_own c first n usable first_is n_is usable_is =
    usable_is
    ∙ (ap (λ (k : ℤ). all_words (rights.may_write_word c.contents c.state.context) k n) first_is
    ∙ ap (all_words (rights.may_write_word c.contents c.state.context) (callee_word c.state c.callee.lo)) n_is)

-- the word that is returned
pub handed_word : (usable : Option ℤ) (first w : ℤ) → usable ≡ Some first → IfSome usable (λ k. k ≡ w) → first ≡ w
handed_word None first w is h = absurd (cc)
handed_word (Some k) first w is h = let same : k ≡ first = cc in sym same ∙ h

pub not_own : (c : Calling) (w : ℤ) → w ≡ callee_word c.state c.callee.lo → 1 ≤ frame_size c.callee
    → rights.may_write_word c.contents c.state.context w ≡ false → false ≡ frame_is_own c
unfolding frame_is_own
not_own c w is some not_may =
    sym (all-fail (rights.may_write_word c.contents c.state.context) (callee_word c.state c.callee.lo) w 0
    (frame_size c.callee) (omega (arith, ints, is)) (omega arith) not_may)

pub off_yes : (c : Calling) (first : ℤ) (count : ℕ) (a b : ℤ) → a ≡ first +ℤ pos count
    → b ≡ callee_word c.state c.callee.lo
    → int_le a b ≡ true → int_le a b ≡ is_off_callee c first count
off_yes c first count a b a_is b_is low =
    low ∙ sym (ap (λ (t : Bool). t || int_le (callee_word c.state c.callee.hi) first)
    (sym (ap (λ (z : ℤ). int_le z b) a_is ∙ ap (int_le (first +ℤ pos count)) b_is) ∙ low))

pub off_no : (c : Calling) (first : ℤ) (count : ℕ) (a b d f : ℤ) → a ≡ first +ℤ pos count
    → b ≡ callee_word c.state c.callee.lo → int_le a b ≡ false → d ≡ callee_word c.state c.callee.hi → f ≡ first
    → int_le d f ≡ is_off_callee c first count
off_no c first count a b d f a_is b_is high d_is f_is =
    ap (λ (z : ℤ). int_le z f) d_is ∙ ap (int_le (callee_word c.state c.callee.hi)) f_is
    ∙ sym (ap (λ (t : Bool). t || int_le (callee_word c.state c.callee.hi) first)
    (sym (ap (λ (z : ℤ). int_le z b) a_is ∙ ap (int_le (first +ℤ pos count)) b_is) ∙ high))

-- ---- what may be lent

-- What is not near may not be lent.
pub far_lent : (c : Calling) (l : Lent) (near : Bool) → near ≡ is_near l.first → near ≡ false → false ≡ may_lend c l
unfolding may_lend
far_lent c l near near_is far =
    sym (ap (λ (b : Bool). b && rule.may_use c l && (if is_frame l.region then words_fit c l else true))
    (sym near_is ∙ far))

-- What is near is lent if it may be used so, and suits where it is of the frame.
near_lent : (c : Calling) (l : Lent) (near used : Bool) → near ≡ is_near l.first → near ≡ true
    → used ≡ rule.may_use c l → may_lend c l ≡ (used && (if is_frame l.region then words_fit c l else true))
unfolding may_lend
near_lent c l near used near_is is_near used_is =
    ap (λ (b : Bool). b && rule.may_use c l && (if is_frame l.region then words_fit c l else true))
    (sym near_is ∙ is_near)
    ∙ ap (λ (b : Bool). b && (if is_frame l.region then words_fit c l else true)) (sym used_is)

-- What may not be used so may not be lent.
pub barred_lent : (c : Calling) (l : Lent) (near used : Bool) → near ≡ is_near l.first → near ≡ true
    → used ≡ rule.may_use c l → used ≡ false → false ≡ may_lend c l
barred_lent c l near used near_is is_near used_is barred =
    sym (near_lent c l near used near_is is_near used_is
    ∙ ap (λ (b : Bool). b && (if is_frame l.region then words_fit c l else true)) barred)

-- What is no frame fails the test for it.
not_frame : (region : Region) → (region ≡ regions.Frame → ⊥) → is_frame region ≡ false
not_frame regions.Frame other = absurd (other refl)
not_frame regions.Constants other = refl
not_frame (regions.Parameter j) other = refl

-- What is not of the frame may be lent if it is near and may be used so.
pub other_lent : (c : Calling) (l : Lent) (near used : Bool) → near ≡ is_near l.first → near ≡ true
    → used ≡ rule.may_use c l → used ≡ true → (l.region ≡ regions.Frame → ⊥) → true ≡ may_lend c l
other_lent c l near used near_is is_near used_is may other =
    sym (near_lent c l near used near_is is_near used_is
    ∙ ap (λ (b : Bool). b && (if is_frame l.region then words_fit c l else true)) may
    ∙ ap (λ (b : Bool). if b then words_fit c l else true) (not_frame l.region other))

-- ---- each two parameters

-- The others still do as all did, if the first passes with each of them.
pub two_more : {A : Type 0} (test : A → A → Bool) (p : A) (rest others : List A) (whole : Bool)
    → rest ≡ p ∷ others → list_all (test p) others ≡ true → each_two test rest ≡ whole → each_two test others ≡ whole
two_more test p rest others whole is all h =
    sym (ap (each_two test) is ∙ ap (λ (b : Bool). b && each_two test others) all) ∙ h

-- Only a parameter that brings channels may be given an end that another is given.
gives_none : (kind : ParameterKind) (fact : WordFact) (other : ParameterKind) (other_fact : WordFact)
    → brings_channels kind ≡ false → kinds_give_other_ends kind fact other other_fact ≡ true
gives_none (Value lo hi) fact other other_fact none = refl
gives_none (ReadRegion size lo hi) fact other other_fact none = refl
gives_none (WrittenRegion size lo hi) fact other other_fact none = refl
gives_none (Channels count len ends) fact other other_fact none = absurd (cc)

-- The same of some others.
pub gives_none_of_each : (x : Passed) (ys : List Passed) → brings_channels x.parameter.kind ≡ false
    → list_all (are_passed_other_ends x) ys ≡ true
gives_none_of_each x [] none = refl
gives_none_of_each x (y ∷ ys) none =
    and_from (are_passed_other_ends x y) (list_all (are_passed_other_ends x) ys)
    (gives_none x.parameter.kind x.fact y.parameter.kind y.fact none)
    (gives_none_of_each x ys none)

-- ---- the code's steps

pub passes_may : (m : Contents) (s t : State) (e z w k : ℤ) (fact : Fact) (o : Option ℤ) → o ≡ Some k → w ≡ s.depth +ℤ e
    → is_some o ≡ rights.may_write_word m s.context w → z ≡ s.depth +ℤ e → t ≡ written z fact s
    → t ≡ learns_word m e fact s
unfolding learns_word
passes_may m s t e z w k fact o o_is w_is allowed z_is t_is =
    t_is ∙ ap (λ (y : ℤ). written y fact s) z_is
    ∙ sym (ap (λ (b : Bool). cond b (written (s.depth +ℤ e) fact s) s)
    (sym (ap (rights.may_write_word m s.context) w_is) ∙ sym allowed ∙ ap is_some o_is))

pub passes_not : (m : Contents) (s : State) (e w : ℤ) (fact : Fact) (o : Option ℤ) → o ≡ None → w ≡ s.depth +ℤ e
    → is_some o ≡ rights.may_write_word m s.context w → s ≡ learns_word m e fact s
unfolding learns_word
passes_not m s e w fact o o_is w_is allowed =
    sym (ap (λ (b : Bool). cond b (written (s.depth +ℤ e) fact s) s)
    (sym (ap (rights.may_write_word m s.context) w_is) ∙ sym allowed ∙ ap is_some o_is))

-- what was lent to be written is numbers
pub lent_told : (l : Lent) (o : Option Lent) (s t : State) (w : ℤ) (count : ℕ) (leaving : Leaving) → o ≡ Some l
    → l.is_written ≡ true → l.region ≡ regions.Frame → w ≡ word_of_byte l.first → count ≡ l.size / 4
    → leaving ≡ Become (Number l.lo l.hi) → t ≡ after_change (on_span w count leaving) s
    → t ≡ record s { stack = t.stack; frame = rule.with_lent o s.frame }
unfolding after_change
lent_told l o s t w count leaving o_is writes at_frame w_is count_is leaving_is is =
    is
    ∙ ap (λ (x : Stack Known). record s { stack = x; frame = changed (on_span w count leaving) s.frame })
    (sym (ap (λ (u : State). u.stack) is))
    ∙ ap (λ (f : Facts). record s { stack = t.stack; frame = f })
    (ap (λ (x : Leaving). changed (on_span w count x) s.frame) leaving_is
    ∙ ap (λ (z : ℤ). changed (on_span z count (Become (Number l.lo l.hi))) s.frame) w_is
    ∙ ap (λ (n : ℕ). changed (on_span (word_of_byte l.first) n (Become (Number l.lo l.hi))) s.frame) count_is
    ∙ sym
    (ap (λ (b : Bool). cond b (changed
    (on_span (word_of_byte l.first) (l.size / 4) (Become (Number l.lo l.hi))) s.frame)
    s.frame) (and_from _ _ writes (ap is_frame at_frame)))
    ∙ sym (ap (λ (x : Option Lent). rule.with_lent x s.frame) o_is))

pub after_context : (change : Change) (s t : State) → t ≡ after_change change s → t.context ≡ s.context
unfolding after_change
after_context change s t is = ap (λ (u : State). u.context) is

pub own_again : (m : Contents) (n k : ℕ) (xs ys : List (Option Lent)) → k ≡ n → ys ≡ xs
    → AllByRecursion (OwnsLent m n) xs → AllByRecursion (OwnsLent m k) ys
own_again m n k xs ys k_is ys_is owns =
    subst (λ (zs : List (Option Lent)). AllByRecursion (OwnsLent m k) zs) (sym ys_is)
    (subst (λ (i : ℕ). AllByRecursion (OwnsLent m i) xs) (sym k_is) owns)

pub returned_told : (s t u : State) (e : Stack Known) (first w : ℤ) (count : ℕ) (xs items : List (Option Lent))
    → t ≡ after_change (on_span w count (Become Unknown)) s
    → u ≡ record t { stack = u.stack; frame = with_each xs t.frame } → e ≡ of_empty unknown → w ≡ first → xs ≡ items
    → record u { stack = e }
    ≡ record s {
      stack = of_empty unknown;
      frame =
          with_each items (changed (on_span first count (Become Unknown)) s.frame);
    }
unfolding after_change
returned_told s t u e first w count xs items t_is u_is e_is w_is xs_is =
    ap (λ (x : State). record x { stack = e }) u_is
    ∙ ap (λ (x : State). record x { stack = e; frame = with_each xs x.frame }) t_is
    ∙ ap
    (λ (x : Stack Known).
    record s { stack = x; frame = with_each xs (changed (on_span w count (Become Unknown)) s.frame) })
    e_is
    ∙ ap (λ (z : ℤ). record s {
      stack = of_empty unknown;
      frame = with_each xs (changed (on_span z count (Become Unknown))
          s.frame);
    }) w_is
    ∙ ap (λ (zs : List (Option Lent)). record s {
      stack = of_empty unknown;
      frame = with_each zs (changed (on_span first count
          (Become Unknown)) s.frame);
    }) xs_is

pub behind_told : (c : Calling) (t : Touched) (u : State) → Touches c t
    → u ≡ record c.state {
      stack = of_empty unknown;
      frame = with_each t.lent.items (changed (on_span t.first t.count (Become Unknown)) c.state.frame);
    } → u ≡ behind_call c
unfolding behind_call
behind_told c t u touches is =
    is ∙ ap (λ (f : Facts). record c.state { stack = of_empty unknown; frame = f })
    (ap (λ (xs : List (Option Lent)). with_each xs (changed (on_span t.first t.count (Become Unknown)) c.state.frame))
    touches.lent
    ∙ ap (λ (z : ℤ). with_each (map (lent c) c.callee.parameters)
    (changed (on_span z t.count (Become Unknown)) c.state.frame))
    touches.first
    ∙ ap (λ (n : ℕ). with_each (map (lent c) c.callee.parameters) (changed (on_span (callee_word c.state c.callee.lo) n
    (Become Unknown)) c.state.frame)) touches.count
    ∙ each_lent c c.callee.parameters (changed (callee_span c) c.state.frame))

-- the call of a procedure, by the state in which its parameters are read
pub procedure_called : (site : Site) (to : ℕ) (s t : State) (row : ProcedureRow) (context : ℕ)
    → t ≡ passing site.contents s
    → calls_procedure site to s (entered context row)
    ≡ admits (record { contents = site.contents; state = t; callee = procedure_of row }) context
    (spends (site.length + row.number) (behind_call
    (record { contents = site.contents; state = t; callee = procedure_of row }))
    (calls to))
unfolding calls_procedure
procedure_called site to s t row context t_is =
    ap (λ (mode : Mode). passes_all c0 (alone mode (rest s.context))) (sym same.mode)
    ∙ ap (λ (n : ℕ). passes_all c0 (alone c0.state.mode (rest n))) (sym same.context)
    ∙ ap (λ (u : State). admits (by u) context (spends (site.length + row.number) (behind_call (by u)) (calls to)))
    (sym t_is)
  where
    by : State → Calling
    by u = record { contents = site.contents; state = u; callee = procedure_of row }

    c0 : Calling
    c0 = record { contents = site.contents; state = passing site.contents s; callee = procedure_of row }

    same : SameRest s (passing site.contents s)
    same = passing_rest site.contents s

    rest : ℕ → Ruling
    rest n = wants (may_call site.contents n context) rules.Call (wants (frame_is_own c0) rules.OwnWord
        (spends (site.length + row.number) (behind_call c0) (calls to)))
