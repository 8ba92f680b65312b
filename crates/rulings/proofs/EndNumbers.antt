-- Ends that contexts have are numbered as ends of rows are, and runs of them.
use Rattle.std.proofs.Common.{◌≡◌, ℕ, zero, suc, ◌+◌, ◌-◌, ◌≤◌, ◌<◌, ◌^◌, ℤ, pos, negsuc, ◌+ℤ◌, ◌≤ℤ◌, ◌<ℤ◌, FitsSigned}
use Rattle.std.proofs.Common.{Bool, if◌then◌else◌, true, false, cond, ◌&&◌, ◌||◌, not, inl, inr, List, [], ◌∷◌, length}
use Rattle.std.proofs.Common.{get_or, Option, Some, None, rules, refl, sym, ap, ◌∙◌, subst, arith}
use Rattle.std.specs.Int.{w32}
use Rattle.std.specs.Prelude.{int_le, nat_lt, slice_get, is_some, ◌==◌, bit_and, SomeIff}
use Rattle.std.specs.List.{list_any}
use Rattle.std.proofs.lemmas.Bool.{cases_Bool, cases_lt, and_parts, lt-ltb, ltb-true, and_from}
use Rattle.std.proofs.lemmas.Bool.Decides.{eqb_tells}
use Rattle.std.proofs.lemmas.Int.{ints, by_lt_z}
use Rattle.module_format.specs.declared.rows.Parameter.{Parameter}
use Rattle.module_format.specs.declared.rows.ParameterKind.{ParameterKind}
use Rattle.module_format.specs.declared.rows.ParameterKind.TheVariants.{Value, ReadRegion, WrittenRegion, Channels}
use Rattle.module_format.specs.declared.rows.ChannelRow.{ChannelRow}
use Rattle.module_format.specs.declared.rows.EndKind.{EndKind}
use Rattle.module_format.specs.declared.rows.EndKind.TheVariants as ends
use Rattle.module_format.specs.declared.rows.Direction.{Direction}
use Rattle.module_format.specs.declared.rows.Direction.TheVariants.{In, Out}
use Rattle.module_format.specs.declared.rows.EndRow.{EndRow}
use Rattle.module_format.specs.declared.rows.EndKey.{EndKey}
use Rattle.module_format.specs.Contents.{Contents, Procedure, Par, Branch}
use Rattle.module_format.specs.Contexts.{first_branch, context_at, parameters_at, own_parameters, owner, branch_count}
use Rattle.module_format.specs.Keeping.{Keeps}
use Rattle.module_format.specs.Order.{InOrder, least_word}
use Rattle.module_format.specs.Procedures.{KindKeeps, ParameterKeeps, behind_parameter}
use Rattle.module_format.specs.Pars.{kind_of, end_number_of, end_element_of, first_key, key_of, direction_number}
use Rattle.module_format.specs.Pars.{ChannelKeeps}
use Rattle.module_format.specs.Pars.{behind_channel, EndKeeps, behind_end, EndKindKeeps}
use Rattle.certificate.specs.Branches.{numbered_branch}
use Rattle.certificate.specs.Rights.{has_end, gives_link, gives_element, gives_parameter, is_same_end, listed_length}
use Rattle.certificate.specs.Rights.{length_around, channel_length}
use Rattle.certificate.proofs.RightLaws.{found_kept}
use Rattle.states.proofs.Procedures.{at-row}
use Rattle.rulings.specs.Channels.{message_length, IsNumbered}
use Rattle.rulings.proofs.Words.{same_word_by}

abbrev end : EndKind → Direction → EndRow
end kind direction = record { kind = kind; direction = direction }

-- each parameter is valid
pub parameter_keeps : (hi : ℤ) (low : ℕ) (ps : List Parameter) (j : ℕ) (q : Parameter)
    → InOrder (ParameterKeeps hi) behind_parameter low ps → slice_get ps j ≡ Some q
    → (before : ℕ) × ParameterKeeps hi before q
parameter_keeps hi low [] j q keeps h = absurd (cc)
parameter_keeps hi low (p ∷ ps) zero q keeps h =
    let same : p ≡ q = cc in (low, subst (λ (x : Parameter). ParameterKeeps hi low x) same keeps.0)
parameter_keeps hi low (p ∷ ps) (suc j) q keeps h = parameter_keeps hi p.word ps j q keeps.1 h

-- ---- ends that a row lists

-- an end with the kind, the number and the element of a listed one is numbered as one
numbered_by : (e k : EndKind) → EndKindKeeps k → (kind_of k == kind_of e) ≡ true
    → (int_le (end_number_of k) (end_number_of e) && int_le (end_number_of e) (end_number_of k)) ≡ true
    → (end_element_of k == end_element_of e) ≡ true → IsNumbered e
numbered_by (ends.FrameWord w) (ends.FrameWord v) keeps kind number element =
    subst (λ (z : ℤ). FitsSigned w32 z) (same_word_by v w number) keeps
numbered_by (ends.Parameter j a) (ends.Parameter i b) keeps kind number element = elim (eqb_tells b a) [
  | inl e ↦ let same = e.1 in let few = keeps.1 in omega (arith, same, few)
  | inr e ↦ let no' : false ≡ true = sym e.0 ∙ element in absurd (cc)
]
numbered_by (ends.Link l) (ends.Link k) keeps kind number element =
    let same = same_word_by (pos k) (pos l) number in omega (arith, ints, same, keeps)
numbered_by (ends.FrameWord w) (ends.Parameter i b) keeps kind number element = absurd (cc)
numbered_by (ends.FrameWord w) (ends.Link k) keeps kind number element = absurd (cc)
numbered_by (ends.Parameter j a) (ends.FrameWord v) keeps kind number element = absurd (cc)
numbered_by (ends.Parameter j a) (ends.Link k) keeps kind number element = absurd (cc)
numbered_by (ends.Link l) (ends.FrameWord v) keeps kind number element = absurd (cc)
numbered_by (ends.Link l) (ends.Parameter i b) keeps kind number element = absurd (cc)

same_end : (e : EndKind) (d : Direction) (other : EndRow) → EndKindKeeps other.kind
    → is_same_end (key_of other) (key_of (end e d)) ≡ true → IsNumbered e
same_end e d other keeps h =
    let three = (and_parts _ _ h).0 in
    let two = and_parts _ _ three in
    let one = and_parts _ _ two.0 in
    numbered_by e other.kind keeps one.0 one.1 two.1

listed : (e : EndKind) (d : Direction) (before : EndKey) (others : List EndRow)
    → InOrder EndKeeps behind_end before others
    → list_any (λ other. is_same_end (key_of other) (key_of (end e d))) others ≡ true → IsNumbered e
listed e d before [] keeps h = absurd (cc)
listed e d before (other ∷ others) keeps h = elim (cases_Bool (is_same_end (key_of other) (key_of (end e d)))) [
  | inl t ↦ same_end e d other keeps.0.kind t
  | inr f ↦ listed e d (key_of other) others keeps.1
      (sym (ap (λ (b : Bool). b || list_any (λ (x : EndRow). is_same_end (key_of x) (key_of (end e d))) others) f) ∙ h)
]

-- ---- links

none_above : (lengths : List ℕ) (link : ℕ) → length lengths ≤ link → get_or lengths link 0 ≡ 0
none_above [] link h = refl
none_above (x ∷ xs) zero h = absurd (omega arith)
none_above (x ∷ xs) (suc link) h = none_above xs link (omega arith)

link_below : (lengths : List ℕ) (link : ℕ) → length lengths ≡ 8 → nat_lt 0 (get_or lengths link 0) ≡ true → link < 8
link_below lengths link eight h = elim (cases_lt link 8) [
  | inl low ↦ low
  | inr high ↦
      let none = none_above lengths link (omega arith) in
      let no' : 0 < 0 = subst (λ (n : ℕ). 0 < n) none (ltb-true 0 (get_or lengths link 0) h) in
      absurd (omega arith)
]

of_links : (lengths : List ℕ) (e : EndKind) (d : Direction) → length lengths ≡ 8 → gives_link lengths e d ≡ true
    → IsNumbered e
of_links lengths (ends.FrameWord w) d eight h = absurd (cc)
of_links lengths (ends.Parameter j a) d eight h = absurd (cc)
of_links lengths (ends.Link l) In eight h =
    let low = link_below lengths l eight (and_parts (nat_lt 3 l) (nat_lt 0 (get_or lengths l 0)) h).1 in omega arith
of_links lengths (ends.Link l) Out eight h =
    let low = link_below lengths l eight (and_parts (nat_lt l 4) (nat_lt 0 (get_or lengths l 0)) h).1 in omega arith

-- ---- parameters

own_kind : (m : Contents) → Keeps m → (k j : ℕ) (p : Parameter) → slice_get (own_parameters m k) j ≡ Some p
    → KindKeeps p.kind
own_kind m keeps k j p h = elim (cases_Bool (k == 0)) [
  | inl t ↦
      let none : slice_get [] j ≡ Some p = sym (ap (λ (b : Bool). slice_get (cond b [] rest) j) t) ∙ h in
      no_item none
  | inr f ↦ on_row (slice_get m.procedures (k - 1)) refl (sym (ap (λ (b : Bool). slice_get (cond b [] rest) j) f) ∙ h)
]
  where
    rest : List Parameter
    rest = elim (slice_get m.procedures (k - 1)) [ None ↦ [] | Some q ↦ q.parameters ]

    no_item : slice_get [] j ≡ Some p → KindKeeps p.kind
    no_item none = absurd (cc)

    on_row : (o : Option Procedure) → slice_get m.procedures (k - 1) ≡ o
        → slice_get (elim o as (λ o. List Parameter) [ None ↦ [] | Some q ↦ q.parameters ]) j ≡ Some p
        → KindKeeps p.kind
    on_row None e g = no_item g
    on_row (Some q) e g =
        let row = at-row (length m.code) 0 m.procedures (k - 1) q keeps.rows.procedures e in
        (parameter_keeps q.hi 0 q.parameters j p row.1.parameters g).1.kind

-- the kind of each parameter of a context's procedure is valid
pub parameter_kind : (m : Contents) → Keeps m → (n j : ℕ) (p : Parameter) → slice_get (parameters_at m n) j ≡ Some p
    → KindKeeps p.kind
unfolding parameters_at
parameter_kind m keeps n j p h = on_test (nat_lt n (first_branch m + branch_count m.pars)) h
  where
    on_test : (b : Bool) → slice_get (cond b (own_parameters m (owner (first_branch m) m.pars n)) []) j ≡ Some p
        → KindKeeps p.kind
    on_test true g = own_kind m keeps (owner (first_branch m) m.pars n) j p g
    on_test false g = absurd (cc)

of_element : (m : Contents) (kind : ParameterKind) (a : ℕ) (d : Direction) → KindKeeps kind
    → gives_element kind a d ≡ true → a < 2 ^ 32
of_element m (Value lo hi) a d keeps h = absurd (cc)
of_element m (ReadRegion size lo hi) a d keeps h = absurd (cc)
of_element m (WrittenRegion size lo hi) a d keeps h = absurd (cc)
of_element m (Channels count len ends) a d keeps h =
    let low = ltb-true a count (and_parts _ _ h).0 in let few = keeps.count_fits in omega (arith, low, few)

of_parameters : (m : Contents) (n : ℕ) (e : EndKind) (d : Direction) → Keeps m
    → gives_parameter (parameters_at m n) e d ≡ true → IsNumbered e
of_parameters m n (ends.FrameWord w) d keeps h = absurd (cc)
of_parameters m n (ends.Link l) d keeps h = absurd (cc)
of_parameters m n (ends.Parameter (negsuc j) a) d keeps h = absurd (cc)
of_parameters m n (ends.Parameter (pos j) a) d keeps h = on (slice_get (parameters_at m n) j) refl h
  where
    on : (o : Option Parameter) → slice_get (parameters_at m n) j ≡ o
        → (elim o as (λ o. Bool) [ None ↦ false | Some p ↦ gives_element p.kind a d ]) ≡ true → a < 2 ^ 32
    on None e g = absurd (cc)
    on (Some p) e g = of_element m p.kind a d (parameter_kind m keeps n j p e) g

-- ---- ends

-- whether a context has an end, by its branch
abbrev tells_end : Contents → ℕ → EndRow → Option (Par × Branch) → Bool
tells_end m n e found = is_some (context_at m n) && elim found [
  | Some found ↦ list_any (λ other. is_same_end (key_of other) (key_of e)) found.1.ends
  | None ↦ if n == 0 then gives_link m.lengths e.kind e.direction else gives_parameter
      (parameters_at m n) e.kind e.direction
]

-- an end that a context has is numbered as one
pub end_numbered : (m : Contents) → Keeps m → (n : ℕ) (e : EndKind) (d : Direction) → has_end m n (end e d) ≡ true
    → IsNumbered e
end_numbered m keeps n e d h = on (numbered_branch m n) refl h
  where
    own : (b : Bool) → (cond b (gives_link m.lengths e d) (gives_parameter (parameters_at m n) e d)) ≡ true
        → IsNumbered e
    own true g = of_links m.lengths e d keeps.bounds.eight g
    own false g = of_parameters m n e d keeps g

    on : (found : Option (Par × Branch)) → numbered_branch m n ≡ found → tells_end m n (end e d) found ≡ true
        → IsNumbered e
    on None is g = own (n == 0) (and_parts (is_some (context_at m n)) (cond (n == 0) (gives_link m.lengths e d)
        (gives_parameter (parameters_at m n) e d)) g).1
    on (Some x) is g = listed e d first_key x.1.ends (found_kept m n x keeps is).0.ends
        (and_parts (is_some (context_at m n))
        (list_any (λ other. is_same_end (key_of other) (key_of (end e d))) x.1.ends) g).1

-- ---- ends of a procedure's own parameters

element_before : (kind : ParameterKind) (a b : ℕ) (d : Direction) → b ≤ a → gives_element kind a d ≡ true
    → gives_element kind b d ≡ true
element_before (Value lo hi) a b d low h = h
element_before (ReadRegion size lo hi) a b d low h = h
element_before (WrittenRegion size lo hi) a b d low h = h
element_before (Channels count len ends) a b d low h =
    let both = and_parts (nat_lt a count) (not (bit_and ends.0 (direction_number d) == 0)) h in
    let less = ltb-true a count both.0 in
    and_from _ _ (lt-ltb b count (omega arith)) both.1

parameter_before : (ps : List Parameter) (j : ℤ) (a b : ℕ) (d : Direction) → b ≤ a
    → gives_parameter ps (ends.Parameter j a) d ≡ true → gives_parameter ps (ends.Parameter j b) d ≡ true
parameter_before ps (negsuc j) a b d low h = h
parameter_before ps (pos j) a b d low h = on (slice_get ps j) h
  where
    on : (o : Option Parameter) → (elim o as (λ o. Bool) [ None ↦ false | Some p ↦ gives_element p.kind a d ]) ≡ true
        → (elim o as (λ o. Bool) [ None ↦ false | Some p ↦ gives_element p.kind b d ]) ≡ true
    on None g = g
    on (Some p) g = element_before p.kind a b d low g

-- a context that is no branch and has the end of an element has those before it
pub elements_before : (m : Contents) (n : ℕ) (j : ℤ) (element : ℕ) → numbered_branch m n ≡ None
    → (more i : ℕ) (d : Direction) → i ≤ more → has_end m n (end (ends.Parameter j (element + more)) d) ≡ true
    → has_end m n (end (ends.Parameter j (element + i)) d) ≡ true
elements_before m n j element none more i d low h =
    let at = ap (tells_end m n (end (ends.Parameter j (element + more)) d)) none in
    let here = ap (tells_end m n (end (ends.Parameter j (element + i)) d)) none in
    let both = and_parts (is_some (context_at m n)) (cond (n == 0) false
    (gives_parameter (parameters_at m n) (ends.Parameter j (element + more)) d)) (sym at ∙ h) in
    here ∙ and_from _ _ both.0 (on (n == 0) both.1)
  where
    on : (b : Bool) → (cond b false (gives_parameter (parameters_at m n) (ends.Parameter j (element + more)) d)) ≡ true
        → (cond b false (gives_parameter (parameters_at m n) (ends.Parameter j (element + i)) d)) ≡ true
    on true g = g
    on false g = parameter_before (parameters_at m n) j (element + more) (element + i) d (omega arith) g

-- ---- messages

not_far : (k w : ℤ) → pos 2147483647 <ℤ k → FitsSigned w32 w → (int_le w k && int_le k w) ≡ false
not_far k w high fits = grind (arith, ints)

far_listed : (k low : ℤ) (channels : List ChannelRow) → pos 2147483647 <ℤ k
    → InOrder ChannelKeeps behind_channel low channels → listed_length channels k ≡ None
far_listed k low [] high keeps = refl
far_listed k low (c ∷ cs) high keeps =
    rw (not_far k c.word high keeps.0.word_fits) (far_listed k (c.word +ℤ pos 1) cs high keeps.1)

far_around : (m : Contents) → Keeps m → (more n : ℕ) (k : ℤ) → pos 2147483647 <ℤ k → length_around more m n k ≡ None
far_around m keeps zero n k high = refl
far_around m keeps (suc more) n k high =
    on (numbered_branch m n) refl (λ (x : Par × Branch). far_around m keeps more x.0.context k high)
  where
    on : (found : Option (Par × Branch)) → numbered_branch m n ≡ found
        → ((x : Par × Branch) → length_around more m x.0.context k ≡ None)
        → (elim found as (λ found. Option ℕ) [
          | None ↦ None
          | Some x ↦ elim (listed_length x.0.channels k) [
            | Some len ↦ Some len
            | None ↦
                length_around more m x.0.context k
          ]
        ]) ≡ None
    on None is around = refl
    on (Some x) is around =
        ap (λ (o : Option ℕ). elim o as (λ o. Option ℕ) [
          | Some len ↦ Some len
          | None ↦
              length_around more m x.0.context k
        ])
        (far_listed k least_word x.0.channels high (found_kept m n x keeps is).1)
        ∙ around x

-- a word that is no word of 32 bits has no channel
pub far_channel : (m : Contents) → Keeps m → (n : ℕ) (k : ℤ) → pos 2147483647 <ℤ k → channel_length m n k ≡ None
far_channel m keeps n k high = far_around m keeps (length m.pars) n k high

-- channels of one parameter have messages of one length
pub one_length : (m : Contents) (n : ℕ) (j : ℤ) (a b : ℕ)
    → message_length m n (ends.Parameter j a) ≡ message_length m n (ends.Parameter j b)
one_length m n (pos j) a b = refl
one_length m n (negsuc j) a b = refl

-- where no end has the number of a channel, a context has none of it
pub not_numbered : (m : Contents) → Keeps m → (n : ℕ) (e : EndKind) (d : Direction) → (IsNumbered e → ⊥)
    → false ≡ has_end m n (end e d)
not_numbered m keeps n e d never = elim (cases_Bool (has_end m n (end e d))) [
  | inl t ↦ absurd (never (end_numbered m keeps n e d t))
  | inr f ↦ sym f
]

-- a number above the least word that is no word is above all words
above_words : (z : ℤ) → negsuc 2147483647 ≤ℤ z → (FitsSigned w32 z → ⊥) → pos 2147483647 <ℤ z
above_words z low never =
    by_lt_z (pos 2147483647) z (λ high. high) (λ less. absurd (never (search (rules, arith, ints))))

-- the same of a word `n` words further
pub above_by : (z w : ℤ) (n : ℕ) (o : Option ℤ) → z ≡ w +ℤ pos n → FitsSigned w32 w → o ≡ None
    → SomeIff o (FitsSigned w32 z) z → pos 2147483647 <ℤ (w +ℤ pos n)
above_by z w n (Some x) z_is fits none told = absurd (cc)
above_by z w n None z_is fits none told =
    above_words (w +ℤ pos n) (omega (arith, ints, fits))
    (λ h. told (subst (λ (y : ℤ). FitsSigned w32 y) (sym z_is) h))
